-- Plays whose calls are described, where their checks hold.
use Rattle.std.proofs.Common.{◌≡◌, ℕ, List, [], ◌∷◌, ◌++◌, map, length, refl, ap, ◌∙◌, append-nil}
use Rattle.sponge.specs.Play.{Rules, Play, done, observe, draw, sure, ◌>>=◌, each, read, Passes, Event, observed, trail}
use Rattle.sponge.specs.Deciding.{Every}
use Rattle.transcript.specs.Opening.{observe_all}
use Rattle.verification.specs.Described.{Described, bytes, word, some_bytes, Fits, repeated, Follows}
use Rattle.sumcheck.specs.Checks.{Check, ask_all}
use Rattle.verification.proofs.Showing.{Account, Shows, trail_onward, shows_done, shows_then, shows_last, shows_ask_all}

-- descriptions in turn
pub every_append : (ds cs : List Described) (es fs : List Event) → Every Fits ds es → Every Fits cs fs → Every Fits (ds ++ cs) (es ++ fs)
every_append [] cs [] fs h k = k
every_append [] cs (e ∷ es) fs h k = absurd h
every_append (d ∷ ds) cs [] fs h k = absurd h
every_append (d ∷ ds) cs (e ∷ es) fs h k = (h.0, every_append ds cs es fs h.1 k)

-- each call is as described
unfoldable pub described : Account Described
described = record { of = Every Fits; none = tt; both = every_append }

-- Where the checks of a play hold its calls are as described.
abbrev pub Makes : {R A : Type 0} → Play R A → List Described → Type 0
Makes p ds = Shows described p ds

-- .. and begin with some byte strings, each observed by one call.
pub record Opens {R A : Type 0} (p : Play R A) (pieces : List (List ℕ)) (ds : List Described) : Type 0 where
  pub fit : (m : Rules) (s : List ℕ) → Passes m s p → Follows (trail m s p) pieces ds

pub makes_observe : {R : Type 0} {bs : List ℕ} {n : ℕ} → length bs ≡ n → Makes (observe {R = R} bs) (bytes n ∷ [])
unfolding described
makes_observe e = record { fit = λ m s h. (e, tt) }

pub makes_some : {R : Type 0} {bs : List ℕ} → Makes (observe {R = R} bs) (some_bytes ∷ [])
unfolding described
makes_some = record { fit = λ m s h. (tt, tt) }

pub makes_draw : {R : Type 0} → Makes (draw {R = R}) (word ∷ [])
unfolding described
makes_draw = record { fit = λ m s h. (tt, tt) }

-- tests make no calls
makes_ask_all : {R : Type 0} (cs : List (Check R)) → Makes (ask_all cs) []
makes_ask_all cs = shows_ask_all cs

-- one play for each of a list, the same calls each time
pub makes_each : {R A B : Type 0} (f : A → Play R B) (ds : List Described) → ((x : A) → Makes (f x) ds) → (xs : List A) → Makes (each f xs) (repeated (length xs) ds)
unfolding each
makes_each f ds d [] = shows_done
makes_each f ds d (x ∷ xs) = shows_then (d x) (λ b. shows_last (makes_each f ds d xs) (λ bs. shows_done))

-- the byte strings are observed each by one call
trail_all : (m : Rules) (s : List ℕ) (pieces : List (List ℕ)) → trail m s (observe_all pieces) ≡ map observed pieces
unfolding observe_all
trail_all m s [] = refl
trail_all m s (bs ∷ rest) = ap (λ es. observed bs ∷ es) (trail_all m (m.after_observe s bs) rest)

-- a play that opens with byte strings
pub opens_first : {R A : Type 0} {pieces : List (List ℕ)} {f : Unit {0} → Play R A} {ds : List Described} → Makes (f tt) ds → Opens (sure (observe_all pieces) >>= f) pieces ds
unfolding described
opens_first {pieces = pieces} {f = f} d = record {
  fit = λ m s h.
      let t = (read m s (observe_all pieces)).list in
      record {
        later = trail m t (f tt);
        opened = trail_onward m s (sure (observe_all pieces)) f h.0 ∙ ap (λ es. es ++ trail m t (f tt)) (trail_all m s pieces);
        described_so = d.fit m t h.1;
      };
}

none_made : (es : List Event) → Every Fits [] es → es ≡ []
none_made [] h = refl
none_made (e ∷ es) h = absurd h

-- tests before it, and what they say
pub opens_after : {R A : Type 0} {pieces : List (List ℕ)} {f : Unit {0} → Play R A} {ds : List Described} (cs : List (Check R)) (P : Type 0)
    → ((m : Rules) (s : List ℕ) → Passes m s (ask_all cs) → P) → (P → Opens (f tt) pieces ds) → Opens (ask_all cs >>= f) pieces ds
unfolding described
opens_after {f = f} cs P says d = record {
  fit = λ m s h.
      let t = (read m s (ask_all cs)).list in
      let later = (d (says m s h.0)).fit m t h.1 in
      record {
        later = later.later;
        opened = trail_onward m s (ask_all cs) f h.0 ∙ ap (λ es. es ++ trail m t (f tt)) (none_made (trail m s (ask_all cs)) ((makes_ask_all cs).fit m s h.0)) ∙ later.opened;
        described_so = later.described_so;
      };
}

-- an answer after it
pub opens_last : {R A B : Type 0} {pieces : List (List ℕ)} {p : Play R A} {g : A → B} {ds : List Described} → Opens p pieces ds → Opens (p >>= λ a. done (g a)) pieces ds
opens_last {p = p} {g = g} d = record {
  fit = λ m s h.
      let k = d.fit m s h.0 in
      record {
        later = k.later;
        opened = trail_onward m s p (λ a. done (g a)) h.0 ∙ append-nil (trail m s p) ∙ k.opened;
        described_so = k.described_so;
      };
}
