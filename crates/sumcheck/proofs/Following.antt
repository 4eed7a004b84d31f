-- A sumcheck, round by round: what has been read, and what is left to play.
use Rattle.std.proofs.Common.{◌≡◌, ℕ, ◌+◌, ◌<◌, ◌≤◌, true, false, Bool, cond, List, [], ◌∷◌, ◌++◌, length, map, take, drop, set, arith, ◌==◌, IsErrAnd, Ok, Err, Result, sym, refl, ap, ◌∙◌, subst, append-nil}
use Rattle.std.proofs.lemmas.List.{take_more_set, take-append-drop, take_at, length-take-le, drop-drop, drop-set-lt}
use Rattle.field.specs.Numbers.{Numbering}
use Rattle.field.specs.Extension.{Extension}
use Rattle.ring.specs.Ring.{Ops}
use Rattle.ring.specs.Polynomials.{value as at}
use Rattle.argument.specs.Sumcheck.{message, after}
use Rattle.sponge.specs.Play.{Rules, Play, done, ◌>>=◌, run, goes_on, read, each}
use Rattle.sponge.specs.Plays.{Plays, Leads}
use Rattle.sponge.proofs.Passing.{plays_read}
use Rattle.sponge.proofs.Leads.{leads_each, leads_each_on, leads_each_none, leads_refused, leads_done}
use Rattle.sumcheck.specs.declared.errors.SumcheckError.{SumcheckError}
use Rattle.sumcheck.specs.declared.errors.SumcheckError.TheVariants.{MessageCount, WitnessCount}
use Rattle.sumcheck.specs.Rounds.{Sent, Rounds, Given, Turn, steps, challenges_of, rounds_given, due, count_checks, turn, sumcheck}
use Rattle.sumcheck.specs.Verified.{Counted, Followed, Verified, refused_at}
use Rattle.sumcheck.proofs.Counting.{counts_hold, counts_refuse}

-- the claim after one step more
claim_on : {E : Type 0} (F : Ops E) (c : E) (ts : List (Turn E)) (t : Turn E) → after F c (steps (ts ++ (t ∷ []))) ≡ at F (message F t.step.h0 t.step.h2 (after F c (steps ts))) t.step.r
claim_on F c [] t = refl
claim_on F c (x ∷ ts) t = claim_on F (at F (message F x.step.h0 x.step.h2 c) x.step.r) ts t

-- the challenges with one more
challenges_on : {E : Type 0} (ts : List (Turn E)) (t : Turn E) → challenges_of (ts ++ (t ∷ [])) ≡ challenges_of ts ++ (t.step.r ∷ [])
challenges_on [] t = refl
challenges_on (x ∷ ts) t = ap (λ l. x.step.r ∷ l) (challenges_on ts t)

-- the challenges of rounds before others
challenges_before : {E : Type 0} (ts us : List (Turn E)) → challenges_of (ts ++ us) ≡ challenges_of ts ++ challenges_of us
challenges_before [] us = refl
challenges_before (x ∷ ts) us = ap (λ l. x.step.r ∷ l) (challenges_before ts us)

one_before : {A : Type 0} (xs : List A) (x : A) (ys : List A) → xs ++ (x ∷ ys) ≡ (xs ++ (x ∷ [])) ++ ys
one_before [] x ys = refl
one_before (z ∷ xs) x ys = ap (λ l. z ∷ l) (one_before xs x ys)

-- what is read of plays in turn, where the first answered
read_on : {A B : Type 0} (m : Rules) (t u : List ℕ) (g : A → Play SumcheckError B) (x : A) (xs : List A) (b : B) → Plays m t (g x) (Ok b) u → (read m t (each g (x ∷ xs))).value ≡ b ∷ (read m u (each g xs)).value
unfolding each
read_on m t u g x xs b h =
    let k = plays_read (g x) h in
    ap (λ c. c ∷ (read m (read m t (g x)).list (each g xs)).value) k.1 ∙ ap (λ v. b ∷ (read m v (each g xs)).value) k.2

-- The rounds that were read stand before those that are left: the claim has been followed through them, and their challenges fill the first places.
-- Where nothing is checked the same is read.
pub record Underway {E : Type 0} (F : Ops E) (m : Rules) (s : List ℕ) (p : Play SumcheckError (List (Turn E))) (g : Given E → Play SumcheckError (Turn E)) (left : List (Given E)) (t : List ℕ) (before claim : E) (filled : List E) : Type 0 where
  pub turns : List (Turn E)
  pub leads : Leads m s p t (each g left >>= λ ts. done (turns ++ ts))
  pub followed : claim ≡ after F before (steps turns)
  pub challenges : filled ≡ challenges_of turns
  pub reads : (read m s p).value ≡ turns ++ (read m t (each g left)).value

-- a play, and its answer handed on
handed_on : {R A : Type 0} (o : Result A R) (t : List ℕ) → goes_on o t (λ a u. record { answer = Ok a; list = u }) ≡ record { answer = o; list = t }
handed_on (Ok a) t = refl
handed_on (Err r) t = refl

whole : {R A : Type 0} (m : Rules) (s : List ℕ) (q : Play R A) → run m s (q >>= λ a. done a) ≡ run m s q
whole m s q = handed_on (run m s q).answer (run m s q).list

module _ {E : Type 0} (F : Ops E) (m : Rules) (s : List ℕ) (p : Play SumcheckError (List (Turn E))) (g : Given E → Play SumcheckError (Turn E)) (c : E) where
  -- nothing is read yet
  pub rounds_begin : (xs : List (Given E)) → run m s p ≡ run m s (each g xs) → (read m s p).value ≡ (read m s (each g xs)).value → Underway F m s p g xs s c c []
  rounds_begin xs e same = record {
    turns = [];
    leads = record { leads = e ∙ sym (whole m s (each g xs)) };
    followed = refl;
    challenges = refl;
    reads = same;
  }

  module _ {t : List ℕ} {claim : E} (places : List E) (i : ℕ) (x : Given E) (xs : List (Given E)) (so_far : Underway F m s p g (x ∷ xs) t c claim (take i places)) where
    -- one round more, whose challenge is written
    pub round_on : {u : List ℕ} (r next : E) → i < length places → Plays m t (g x) (Ok (record { step = record { h0 = x.message.h0; h2 = x.message.h2; r = r }; clear = true })) u
        → next ≡ at F (message F x.message.h0 x.message.h2 claim) r → Underway F m s p g xs u c next (take (i + 1) (set places i r))
    round_on r next room played is =
        let t : Turn E = record { step = record { h0 = x.message.h0; h2 = x.message.h2; r = r }; clear = true } in
        record {
          turns = so_far.turns ++ (t ∷ []);
          leads = leads_each_on g x xs done so_far.turns so_far.leads played;
          followed = is ∙ ap (λ d. at F (message F x.message.h0 x.message.h2 d) r) so_far.followed ∙ sym (claim_on F c so_far.turns t);
          challenges = take_more_set places i r room ∙ ap (λ l. l ++ (r ∷ [])) so_far.challenges ∙ sym (challenges_on so_far.turns t);
          reads = so_far.reads ∙ ap (λ l. so_far.turns ++ l) (read_on m _ _ g x xs t played) ∙ one_before so_far.turns t (read m _ (each g xs)).value;
        }

    -- a round that refuses
    pub round_refused : {u : List ℕ} (e : SumcheckError) → Plays m t (g x) (Err e) u → Plays m s p (Err e) u
    round_refused e refused = leads_refused (g x) (λ b. each g xs >>= λ bs. done (so_far.turns ++ (b ∷ bs))) (leads_each g x xs (λ bs. done (so_far.turns ++ bs)) so_far.leads) refused

  -- The first places hold the challenges that are read, and the others what they held.
  pub places_now : {t : List ℕ} {claim : E} (left : List (Given E)) (places old : List E) (i : ℕ) → Underway F m s p g left t c claim (take i places) → i ≤ length places → drop i places ≡ drop i old
      → places ≡ take i (challenges_of (read m s p).value) ++ drop i old
  places_now {t} left places old i so_far room kept =
      let later = challenges_of (read m t (each g left)).value in
      let drawn : challenges_of (read m s p).value ≡ take i places ++ later =
      ap challenges_of so_far.reads ∙ challenges_before so_far.turns (read m t (each g left)).value ∙ ap (λ l. l ++ later) (sym so_far.challenges) in
      let first : take i (challenges_of (read m s p).value) ≡ take i places = ap (take i) drawn ∙ take_at (take i places) later i (length-take-le i places room) in
      sym (take-append-drop i places) ∙ ap (λ l. l ++ drop i places) (sym first) ∙ ap (λ l. take i (challenges_of (read m s p).value) ++ l) kept

  -- none is left
  pub rounds_end : {t : List ℕ} {claim : E} (places : List E) → Underway F m s p g [] t c claim places → Followed F m s p t c claim places
  rounds_end {t} places done_all = record {
    turns = done_all.turns;
    plays = subst (λ ts. Plays m s p (Ok ts) t) (append-nil done_all.turns) (leads_done (done_all.turns ++ []) (leads_each_none g (λ ts. done (done_all.turns ++ ts)) done_all.leads));
    claim = done_all.followed;
    challenges = done_all.challenges;
  }

-- the counts, and then the rounds
module _ {F E : Type 0} (N : Numbering F) (X : Extension F E) (drawing : Play ⊥ F) (m : Rules) (s : List ℕ) (n : Rounds) (p : Sent F E) where
  abbrev given_rounds : List (Given E)
  given_rounds = rounds_given 0 p.messages (map N.number p.witnesses)

  -- where the counts are right only the rounds are left
  pub counts_passed : Counted (count_checks n p) (Ok tt) → run m s (sumcheck N X drawing n p) ≡ run m s (each (turn N X drawing n) given_rounds)
  unfolding sumcheck
  counts_passed h = counts_hold m s (each (turn N X drawing n) given_rounds) (count_checks n p) h

  pub counts_read : (read m s (sumcheck N X drawing n p)).value ≡ (read m s (each (turn N X drawing n) given_rounds)).value
  unfolding sumcheck
  counts_read = refl

  pub counts_refused : (e : SumcheckError) → Counted (count_checks n p) (Err e) → Plays m s (sumcheck N X drawing n p) (Err e) s
  unfolding sumcheck
  counts_refused e h = record { comes = counts_refuse m s (each (turn N X drawing n) given_rounds) (count_checks n p) e h }

-- where a count is wrong no round was played
pub none_played : {F E : Type 0} (n : Rounds) (p : Sent F E) (e : SumcheckError) → Counted (count_checks n p) (Err e) → refused_at e ≡ 0
none_played n p e h = go (length p.messages == n.turns) (length p.witnesses == due n) h
  where
    go : (a b : Bool) → cond a (cond b (◌≡◌ {A = Result Unit SumcheckError} (Err e) (Ok tt)) (◌≡◌ {A = Result Unit SumcheckError} (Err e) (Err (WitnessCount n.phase (due n) (length p.witnesses))))) (◌≡◌ {A = Result Unit SumcheckError} (Err e) (Err (MessageCount n.phase n.turns (length p.messages)))) → refused_at e ≡ 0
    go true true h = let w : ◌≡◌ {A = Result Unit SumcheckError} (Err e) (Ok tt) = h in cc
    go true false h = let same : e ≡ WitnessCount n.phase (due n) (length p.witnesses) = cc in ap refused_at same
    go false b h = let same : e ≡ MessageCount n.phase n.turns (length p.messages) = cc in ap refused_at same

-- a place that is not written, and those behind one that is
pub place_kept : {A : Type 0} (places old : List A) (i : ℕ) (r : A) → drop i places ≡ drop i old → drop (i + 1) (set places i r) ≡ drop (i + 1) old
place_kept places old i r e = drop-set-lt (i + 1) places i r (omega arith) ∙ sym (drop-drop 1 i places) ∙ ap (drop 1) e ∙ drop-drop 1 i old

-- what `?` hands on is the refusal, with its round
pub refusal_handed : {E : Type 0} (F : Ops E) (m : Rules) (s : List ℕ) (p : Play SumcheckError (List (Turn E))) (t : List ℕ) (c : E) (i : ℕ) (e : SumcheckError) (o : Result E SumcheckError) (old new : List E)
    → IsErrAnd o (λ r. r ≡ e) → Plays m s p (Err e) t → refused_at e ≡ i → new ≡ take i (challenges_of (read m s p).value) ++ drop i old → Verified F m s p t c o old new
refusal_handed F m s p t c i e (Ok d) old new h plays at_i stand = absurd h
refusal_handed F m s p t c i e (Err r) old new h plays at_i stand = (
  subst (λ r. Plays m s p (Err r) t) (sym h) plays,
  subst (λ k. new ≡ take k (challenges_of (read m s p).value) ++ drop k old) (sym (ap refused_at h ∙ at_i)) stand,
)
