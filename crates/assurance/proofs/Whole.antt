-- Where a phase opens everything no tables are alike; and an accepted point has a coordinate for each variable.
use Rattle.std.proofs.Common.{◌≡◌, ℕ, suc, ◌+◌, ◌^◌, Some, Option, List, [], ◌∷◌, ◌++◌, map, length, drop, refl, ap, sym, ◌∙◌, arith}
use Rattle.std.specs.List.{flat_map}
use Rattle.std.proofs.lemmas.List.{length-map, length-append}
use Rattle.argument.proofs.Sound.{all_opened_never_alike}
use Rattle.sponge.specs.Play.{Rules, read}
use Rattle.sponge.specs.Deciding.{Every}
use Rattle.sumcheck.specs.Rounds.{challenges_of}
use Rattle.verification.specs.Proof.{RoundProof, Opening, round_at}
use Rattle.verification.specs.Setting.{Setting, Inputs, RoundReading, Reading, Item, items, last, folds, vars_after, point_at, given}
use Rattle.verification.specs.Verifying.{elements_of, queries_at, rows_opened, all_items, challenges, reading}
use Rattle.verification.specs.Decision.{Decision, AcceptsByDecision}
use Rattle.verification.specs.Shaped.{PhasePositions, RoundShaped, Shaped}
use Rattle.verification.proofs.Shaped.{shaped}
use Rattle.assurance.specs.Committed.{Fitted, positions_of}
use Rattle.assurance.specs.Whole.{NeverAlike, WholeNeverAlike, AcceptedPointLong}
use Rattle.assurance.proofs.Counting.{draws_count, first_phase, next_phase, last_phase_left}
use Rattle.assurance.proofs.Fitting.{turns_drawn}

module _ {F E C P : Type 0} (S : Setting F E C P) where
  -- the points of a phase's rows are those of its positions
  points_opened : (i : ℕ) (ps : List ℕ) (l : List E) → map (λ q. q.point) (queries_at S i ps l) ≡ map (point_at S i) ps
  points_opened i [] l = refl
  points_opened i (p ∷ ps) l = ap (λ qs. point_at S i p ∷ qs) (points_opened i ps (drop (2 ^ folds S i) l))

  -- so where all positions are opened no two tables are alike
  never_alike : (i : ℕ) (ps : List ℕ) (o : Opening F E P) → PhasePositions S i ps → NeverAlike S i ps o
  never_alike i ps o p none h k =
      all_opened_never_alike S.field h k (rows_opened S i ps o) (map (point_at S i) (positions_of S i)) (sym (points_opened i ps (elements_of S o.rows) ∙ ap (map (point_at S i)) (p.whole none)))

  -- round by round
  rounds_never_alike : (xs : List (Item F E C P)) (l : List (RoundReading E)) → Every (RoundShaped S) xs l → Every (λ x a. NeverAlike S x.number a.positions x.part.opening) xs l
  rounds_never_alike [] [] h = tt
  rounds_never_alike [] (a ∷ l) h = h
  rounds_never_alike (x ∷ xs) [] h = h
  rounds_never_alike (x ∷ xs) (a ∷ l) h = (never_alike x.number a.positions x.part.opening h.0.positions, rounds_never_alike xs l h.1)

  -- Of every reading: where a phase draws no positions no two tables are alike at what it opens.
  pub whole : (m : Rules) (s : List ℕ) (I : Inputs F E C P) → WholeNeverAlike S m s I
  whole m s I =
      let Q : Shaped S I (read m s (reading S I)).value = shaped S m s I in
      record {
        rounds = rounds_never_alike (all_items S I) (read m s (reading S I)).value.rounds Q.rounds;
        final = never_alike (last S) (read m s (reading S I)).value.positions (given S I).opening Q.positions;
      }

  module _ (T : Fitted S) where
    -- the challenges of the rounds from i on, and of the end, are as many as phase i leaves variables
    rounds_count : (i : ℕ) (c : Option C) (ps : List (RoundProof F E C P)) (l : List (RoundReading E)) → i + length ps ≡ last S → Every (λ x a. length a.turns ≡ folds S (suc x.number)) (items i c ps) l
        → length (flat_map (λ a. challenges_of a.turns) l) + S.numbers.final_rounds ≡ vars_after S i
    rounds_count i c [] [] n h = let e : S.numbers.final_rounds ≡ vars_after S i = sym (last_phase_left S T) ∙ ap (vars_after S) (omega (arith, n)) in omega (arith, e)
    rounds_count i c [] (a ∷ l) n h = absurd h
    rounds_count i c (p ∷ ps) [] n h = absurd h
    rounds_count i c (p ∷ ps) (a ∷ l) n h =
        let later : List E = flat_map (λ b. challenges_of b.turns) l in
        let joined : length (challenges_of a.turns ++ later) ≡ length (challenges_of a.turns) + length later = length-append (challenges_of a.turns) later in
        let here : length (challenges_of a.turns) ≡ folds S (suc i) = draws_count a.turns ∙ h.0 in
        let rest : length later + S.numbers.final_rounds ≡ vars_after S (suc i) = rounds_count (suc i) p.commitment ps l (omega (arith, n)) h.1 in
        let next : folds S (suc i) + vars_after S (suc i) ≡ vars_after S i = next_phase S T i (omega (arith, n)) in
        omega (arith, joined, here, rest, next)

    -- so all challenges of a decided reading are as many as there are variables
    challenges_count : (I : Inputs F E C P) (r : Reading E) → Shaped S I r → Decision S I r → length (challenges S I r) ≡ S.numbers.variables
    challenges_count I r Q d =
        let n : length (given S I).rounds ≡ last S = length-map I.proof.rounds (round_at I.proof) ∙ d.asked.rounds in
        let middle : List E = flat_map (λ a. challenges_of a.turns) r.rounds in
        let front : length (challenges_of r.initial) ≡ folds S 0 = draws_count r.initial ∙ Q.initial ∙ d.initial.messages in
        let back : length (challenges_of r.final) ≡ S.numbers.final_rounds = draws_count r.final ∙ Q.final ∙ d.final.messages in
        let between : length middle + S.numbers.final_rounds ≡ vars_after S 0 =
        rounds_count 0 (Some I.commitment) (given S I).rounds r.rounds (omega (arith, n)) (turns_drawn S (all_items S I) r.rounds Q.rounds d.rounds) in
        let outer : length (challenges S I r) ≡ length (challenges_of r.initial) + length (middle ++ challenges_of r.final) = length-append (challenges_of r.initial) (middle ++ challenges_of r.final) in
        let inner : length (middle ++ challenges_of r.final) ≡ length middle + length (challenges_of r.final) = length-append middle (challenges_of r.final) in
        let first : folds S 0 + vars_after S 0 ≡ S.numbers.variables = first_phase S T in
        omega (arith, outer, inner, front, back, between, first)

-- An accepted point has a coordinate for each variable. (Of verification: it accepts exactly by the decision.)
pub accepted_point_long : {F E C P : Type 0} (S : Setting F E C P) → AcceptsByDecision S → AcceptedPointLong S
accepted_point_long S accepts T m s I point ok =
    let d = ((accepts m s I).accepts point).0 ok in
    sym (ap length d.1) ∙ challenges_count S T I (read m s (reading S I)).value (shaped S m s I) d.0
