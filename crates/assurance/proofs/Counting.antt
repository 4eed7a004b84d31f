-- The variables of the phases add up: each phase binds its own, and what it leaves the later ones bind.
use Rattle.std.proofs.Common.{◌≡◌, ℕ, suc, ◌+◌, ◌<◌, ◌≤◌, List, [], ◌∷◌, length, sym, ap, ◌∙◌, subst, arith, Option}
use Rattle.std.proofs.lemmas.List.{length-map}
use Rattle.argument.specs.Sumcheck.{before}
use Rattle.argument.specs.Reading.{Query, end, left}
use Rattle.sponge.specs.Deciding.{Every}
use Rattle.configuration.specs.Phases.{left as variables_left}
use Rattle.configuration.specs.Verdicts.{Phased}
use Rattle.configuration.proofs.Phased.{configurations_phased}
use Rattle.verification.specs.Proof.{RoundProof}
use Rattle.verification.specs.Setting.{Setting, RoundReading, items, last, folds, vars_after, log_positions}
use Rattle.sumcheck.specs.Rounds.{Turn, steps, challenges_of}
use Rattle.verification.specs.Verifying.{tail_of}
use Rattle.assurance.specs.Committed.{Fitted}

-- so many steps bind so many variables
pub before_count : {E : Type 0} (ts : List (Turn E)) (n : ℕ) → before (steps ts) n ≡ length ts + n
before_count [] n = omega arith
before_count (t ∷ ts) n = let e = before_count ts n in omega (arith, e)

-- a challenge for each step
pub draws_count : {E : Type 0} (ts : List (Turn E)) → length (challenges_of ts) ≡ length ts
draws_count ts = length-map (steps ts) (λ s. s.r) ∙ length-map ts (λ t. t.step)

module _ {F E C P : Type 0} (S : Setting F E C P) (T : Fitted S) where
  -- what holds of the phases of the stored schedule
  pub stored_phases : Phased S.numbers S.numbers.stored
  stored_phases = let c = configurations_phased S.numbers T.flawless in subst (Phased S.numbers) (sym c.2.stored_so) c.2

  -- every phase up to the last has its place in the schedule
  within_stored : (i : ℕ) → i ≤ last S → i < length S.numbers.stored
  within_stored i h = let e = stored_phases.rounds_so in omega (arith, e, h)

  -- what a phase binds and what it leaves: at first, next, and at last
  pub first_phase : folds S 0 + vars_after S 0 ≡ S.numbers.variables
  first_phase = let n = stored_phases.next_left 0 (within_stored 0 (omega arith)) in let f = stored_phases.first_left in omega (arith, n, f)

  pub next_phase : (i : ℕ) → suc i ≤ last S → folds S (suc i) + vars_after S (suc i) ≡ vars_after S i
  next_phase i h = let n = stored_phases.next_left (suc i) (within_stored (suc i) h) in omega (arith, n)

  pub last_phase_left : vars_after S (last S) ≡ S.numbers.final_rounds
  last_phase_left =
      let e : length S.numbers.stored ≡ suc (last S) = let c = stored_phases.rounds_so in omega (arith, c) in
      sym (stored_phases.last_left ∙ ap (variables_left S.numbers S.numbers.stored) e)

  -- the positions of a phase lie in the domain, and are enough for the variables that it leaves
  pub phase_fits : (i : ℕ) → i ≤ last S → (log_positions S i ≤ S.domain.capacity) × (vars_after S i ≤ log_positions S i)
  phase_fits i h =
      let w = within_stored i h in
      let d = stored_phases.fits i w in
      let l = T.large in
      let e = stored_phases.enough_positions i w in
      (omega (arith, d, l), omega (arith, e))

  -- what is left after the rounds that are still to come is what this phase leaves
  pub left_rounds : (i : ℕ) (c : Option C) (ps : List (RoundProof F E C P)) (l : List (RoundReading E)) (f : List E) (qs : List (Query E)) (us : List (Turn E))
      → i + length ps ≡ last S → Every (λ x a. length a.turns ≡ folds S (suc x.number)) (items i c ps) l → length us ≡ S.numbers.final_rounds
      → left (tail_of S (items i c ps) l (end f qs (steps us))) ≡ vars_after S i
  left_rounds i c [] [] f qs us n h e =
      let same : i ≡ last S = omega (arith, n) in
      before_count us 0 ∙ omega (arith, e, last_phase_left) ∙ ap (vars_after S) (sym same)
  left_rounds i c [] (a ∷ l) f qs us n h e = absurd h
  left_rounds i c (p ∷ ps) [] f qs us n h e = absurd h
  left_rounds i c (p ∷ ps) (a ∷ l) f qs us n h e =
      let later = left_rounds (suc i) p.commitment ps l f qs us (omega (arith, n)) h.1 e in
      ap (before (steps a.turns)) later ∙ before_count a.turns (vars_after S (suc i)) ∙ ap (λ k. k + vars_after S (suc i)) h.0 ∙ next_phase i (omega (arith, n))
