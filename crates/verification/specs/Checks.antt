-- All checks of a verification in their order, over what is read; and what follows from the first that fails. Assumes nothing.
use Rattle.std.specs.Prelude.{◌≡◌, ℕ, suc, ◌^◌, Bool, cond, List, [], ◌∷◌, ◌++◌, map, length, is_some, Ok, Err, Result, ◌==◌}
use Rattle.sponge.specs.Play.{Rules, run, read}
use Rattle.transcript.specs.Shape.{Sumcheck, shape, round_shape, difficulty}
use Rattle.sumcheck.specs.declared.errors.SumcheckError.{SumcheckError}
use Rattle.sumcheck.specs.declared.errors.SumcheckError.TheVariants.{Grind}
use Rattle.sumcheck.specs.Checks.{Check}
use Rattle.sumcheck.specs.Rounds.{Sent, Turn, count_checks}
use Rattle.errors.specs.declared.VerifierError.{VerifierError}
use Rattle.errors.specs.declared.VerifierError.TheVariants.{InvalidPowWitness, MissingFinalPoly, FinalPolyLengthMismatch, StirChallengeFailed, SumcheckFailed}
use Rattle.errors.specs.declared.VerifierError.TheVariants as refused
use Rattle.verification.specs.Setting.{Setting, Inputs, RoundReading, Reading, Item, last, given}
use Rattle.verification.specs.Verifying.{rounds_of, opening_checks, round_checks, prechecks, all_items, last_commitment, final_polynomial, final_sumcheck, rows_agree, carried_claim, expected_claim, challenges, reading, verifying}

-- The first check that fails refuses; where none fails there is an answer.
abbrev pub verdict : {R A : Type 0} → List (Check R) → A → Result A R
verdict [] a = Ok a
verdict (c ∷ cs) a = cond c.holds (verdict cs a) (Err c.refusal)

-- checks whose refusals go up in other words
abbrev pub lifted : {Q R : Type 0} → (Q → R) → List (Check Q) → List (Check R)
lifted up cs = map (λ c. record { holds = c.holds; refusal = up c.refusal }) cs

module _ {F E C P : Type 0} (S : Setting F E C P) where
  -- The grindings of a sumcheck, from a round on.
  abbrev pub turn_checks : (phase bits round : ℕ) → List (Turn E) → List (Check SumcheckError)
  turn_checks phase bits i [] = []
  turn_checks phase bits i (t ∷ ts) = record { holds = t.clear; refusal = Grind phase i bits } ∷ turn_checks phase bits (suc i) ts

  abbrev pub sumcheck_checks : ℕ → Sumcheck → Sent F E → List (Turn E) → List (Check (VerifierError E))
  sumcheck_checks phase n p ts = lifted refused.Sumcheck (count_checks (rounds_of S phase n) p ++ turn_checks phase n.difficulty 0 ts)

  -- The grinding before the queries of phase i.
  abbrev pub query_check : ℕ → Bool → Check (VerifierError E)
  query_check i clear = record { holds = clear; refusal = InvalidPowWitness i (difficulty S.numbers i) }

  abbrev pub checks_of_round : Item F E C P → RoundReading E → List (Check (VerifierError E))
  checks_of_round x a =
      round_checks S x
      ++ (query_check x.number a.clear
      ∷ (opening_checks S x.number x.opens a.positions x.part.opening
      ++ sumcheck_checks (suc x.number) (round_shape S.numbers x.number).sumcheck x.part.sumcheck a.turns))

  abbrev pub checks_of_rounds : List (Item F E C P) → List (RoundReading E) → List (Check (VerifierError E))
  checks_of_rounds [] l = []
  checks_of_rounds (x ∷ xs) [] = []
  checks_of_rounds (x ∷ xs) (a ∷ l) = checks_of_round x a ++ checks_of_rounds xs l

  module _ (I : Inputs F E C P) (r : Reading E) where
    abbrev pub final_checks : List (Check (VerifierError E))
    final_checks =
        let p = given S I in
        let values = length (final_polynomial S I) in
        let s = shape S.numbers I.opening_claims in
        record { holds = is_some p.polynomial; refusal = MissingFinalPoly }
        ∷ record { holds = values == 2 ^ S.numbers.final_rounds; refusal = FinalPolyLengthMismatch (2 ^ S.numbers.final_rounds) values }
        ∷ query_check (last S) r.clear
        ∷ (opening_checks S (last S) (last_commitment S I) r.positions p.opening
        ++ (record { holds = rows_agree S I r.initial r.rounds r.positions; refusal = StirChallengeFailed 0 }
        ∷ (sumcheck_checks (suc (last S)) s.final (final_sumcheck S I) r.final
        ++ (record { holds = S.equal (carried_claim S I r) (expected_claim S I r); refusal = SumcheckFailed S.numbers.final_rounds (expected_claim S I r) (carried_claim S I r) } ∷ []))))

    -- Before the sponge is touched; the initial sumcheck; the rounds; the final phase.
    abbrev pub checks : List (Check (VerifierError E))
    checks =
        prechecks S I
        ++ (sumcheck_checks 0 (shape S.numbers I.opening_claims).initial (given S I).initial r.initial
        ++ (checks_of_rounds (all_items S I) r.rounds ++ final_checks))

  -- The verification answers what the first failing check of its reading says.
  abbrev pub AnsweredByFirstFailing : Type 0
  AnsweredByFirstFailing =
      (m : Rules) (s : List ℕ) (I : Inputs F E C P)
      → let r = (read m s (reading S I)).value in (run m s (verifying S I)).answer ≡ verdict (checks I r) (challenges S I r)
