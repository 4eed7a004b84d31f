-- What lists say of a play's calls, where its checks hold; and how that goes through the parts of a play.
use Rattle.std.proofs.Common.{◌≡◌, ℕ, List, [], ◌∷◌, ◌++◌, sym, ap, subst, append-nil}
use Rattle.std.specs.List.{flat_map}
use Rattle.sponge.specs.Play.{Rules, Play, done, check, under, ◌>>=◌, each, read, Passes, Event, onward, trail}
use Rattle.sponge.proofs.Passing.{passes_run}
use Rattle.sumcheck.specs.Checks.{Check, ask_all}

-- What a list says of calls: nothing says that there are none, and two lists in turn are said of calls in turn.
pub record Account (D : Type 0) : Type 1 where
  pub of : List D → List Event → Type 0
  pub none : of [] []
  pub both : (ds cs : List D) (es fs : List Event) → of ds es → of cs fs → of (ds ++ cs) (es ++ fs)

-- Where the checks of a play hold this is said of its calls.
pub record Shows {D R A : Type 0} (K : Account D) (p : Play R A) (ds : List D) : Type 0 where
  pub fit : (m : Rules) (s : List ℕ) → Passes m s p → K.of ds (trail m s p)

-- where the first play passes, its calls and then those of what comes next
pub trail_onward : {R A B : Type 0} (m : Rules) (s : List ℕ) (p : Play R A) (f : A → Play R B) → Passes m s p
    → trail m s (p >>= f) ≡ trail m s p ++ trail m (read m s p).list (f (read m s p).value)
trail_onward m s p f h = ap (λ c. trail m s p ++ onward c.answer (λ a. trail m c.list (f a))) (passes_run m s p h)

module _ {D : Type 0} {K : Account D} where
  -- an answer makes no calls
  pub shows_done : {R A : Type 0} {a : A} → Shows K (done {R = R} a) []
  shows_done = record { fit = λ m s h. K.none }

  -- one play and then another
  pub shows_then : {R A B : Type 0} {p : Play R A} {f : A → Play R B} {ds cs : List D} → Shows K p ds → ((a : A) → Shows K (f a) cs) → Shows K (p >>= f) (ds ++ cs)
  shows_then {p = p} {f = f} {ds = ds} {cs = cs} d c = record {
    fit = λ m s h.
        let t = (read m s p).list in
        let a = (read m s p).value in
        subst (K.of (ds ++ cs)) (sym (trail_onward m s p f h.0)) (K.both ds cs (trail m s p) (trail m t (f a)) (d.fit m s h.0) ((c a).fit m t h.1));
  }

  -- a play of which nothing is said, and then another
  pub shows_after : {R A B : Type 0} {p : Play R A} {f : A → Play R B} {cs : List D} → Shows K p [] → ((a : A) → Shows K (f a) cs) → Shows K (p >>= f) cs
  shows_after d c = shows_then d c

  pub shows_same : {R A : Type 0} {p : Play R A} {ds cs : List D} → ds ≡ cs → Shows K p ds → Shows K p cs
  shows_same {p = p} e d = subst (Shows K p) e d

  -- a play, and then one of which nothing is said
  pub shows_last : {R A B : Type 0} {p : Play R A} {f : A → Play R B} {ds : List D} → Shows K p ds → ((a : A) → Shows K (f a) []) → Shows K (p >>= f) ds
  shows_last {ds = ds} d c = shows_same (append-nil ds) (shows_then d c)

  pub shows_under : {Q R A : Type 0} {w : Q → R} {p : Play Q A} {ds : List D} → Shows K p ds → Shows K (under w p) ds
  shows_under d = record { fit = d.fit }

  pub shows_check : {R P : Type 0} {d : Dec P} {r : R} → Shows K (check P d r) []
  shows_check = record { fit = λ m s h. K.none }

  -- what the first play's checks say may be used of what follows, and of the play itself
  pub shows_given : {R A B : Type 0} {p : Play R A} {f : A → Play R B} {ds : List D} (P : Type 0)
      → ((m : Rules) (s : List ℕ) → Passes m s p → P) → (P → Shows K (p >>= f) ds) → Shows K (p >>= f) ds
  shows_given P says d = record { fit = λ m s h. (d (says m s h.0)).fit m s h }

  -- tests make no calls
  pub shows_ask_all : {R : Type 0} (cs : List (Check R)) → Shows K (ask_all cs) []
  shows_ask_all [] = shows_done
  shows_ask_all (c ∷ cs) = shows_after shows_check (λ a. shows_ask_all cs)

  -- one play for each of a list
  pub shows_each : {R A B : Type 0} (f : A → Play R B) (g : A → List D) → ((x : A) → Shows K (f x) (g x)) → (xs : List A) → Shows K (each f xs) (flat_map g xs)
  unfolding each
  shows_each f g d [] = shows_done
  shows_each f g d (x ∷ xs) = shows_then (d x) (λ b. shows_last (shows_each f g d xs) (λ bs. shows_done))

  -- .. of none of which anything is said
  pub shows_none : {R A B : Type 0} (f : A → Play R B) → ((x : A) → Shows K (f x) []) → (xs : List A) → Shows K (each f xs) []
  unfolding each
  shows_none f d [] = shows_done
  shows_none f d (x ∷ xs) = shows_after (d x) (λ b. shows_last (shows_none f d xs) (λ bs. shows_done))
