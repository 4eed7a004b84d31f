-- What is asked before the sponge is touched, part by part.
use Rattle.std.proofs.Common.{◌≡◌, ℕ, suc, ◌+◌, Bool, true, false, cond, ◌&&◌, List, [], ◌∷◌, ◌++◌, map, length, IsErrAnd, Some, Ok, Err, Option, Result, ◌==◌, T, sym, refl, ap, ◌∙◌, subst, arith}
use Rattle.std.specs.Prelude.{nat_le}
use Rattle.std.specs.List.{list_all}
use Rattle.std.proofs.lemmas.Bool.{eq-eqb}
use Rattle.sponge.specs.Play.{reworded}
use Rattle.configuration_view.specs.Shown.{buffers_of}
use Rattle.transcript.specs.Shape.{difficulty}
use Rattle.transcript.specs.declared.failure.TranscriptFailure.{TranscriptFailure}
use Rattle.proof.specs.declared.whir_proof.WhirRoundProof.{WhirRoundProof}
use Rattle.errors.specs.declared.VerifierError.{VerifierError}
use Rattle.errors.specs.declared.VerifierError.TheVariants.{NonCanonicalPowWitness}
use Rattle.errors.specs.Told.{of_transcript}
use Rattle.sumcheck.specs.Checks.{Check}
use Rattle.verification.specs.Proof.{round_at}
use Rattle.verification.specs.Setting.{Setting, Inputs, items, last}
use Rattle.verification.specs.Verifying.{zero_where_free, suffices, claim_placed, canonical_checks, prechecks}
use Rattle.verification.specs.Checks.{verdict, lifted}
use Rattle.verifier.specs.Witnesses.{witness_checks}

-- a verdict in other words
verdict_lifted : {Q R A : Type 0} (up : Q → R) (cs : List (Check Q)) (a : A) → verdict (lifted up cs) a ≡ reworded up (verdict cs a)
verdict_lifted up [] a = refl
verdict_lifted {Q} {R} {A} up (c ∷ cs) a = one c.holds (verdict_lifted up cs a)
  where
    one : (b : Bool) → verdict (lifted up cs) a ≡ reworded up (verdict cs a) → cond b (verdict (lifted up cs) a) (Err (up c.refusal)) ≡ reworded up (cond b (verdict cs a) (Err c.refusal))
    one true h = h
    one false h = refl

-- what follows four tests that hold, the first two of them asked at once
after_four : {X : Type 0} (a b d e : Bool) (v w x y z : X) → (a && b) ≡ true → d ≡ true → e ≡ true → cond a (cond b (cond d (cond e v w) x) y) z ≡ v
after_four true true true true v w x y z f g h = refl
after_four true true true false v w x y z f g h = absurd (subst T (sym h) tt)
after_four true true false e v w x y z f g h = absurd (subst T (sym g) tt)
after_four true false d e v w x y z f g h = absurd (subst T (sym f) tt)
after_four false b d e v w x y z f g h = absurd (subst T (sym f) tt)

module _ {F E C P : Type 0} (S : Setting F E C P) (I : Inputs F E C P) where
  -- the witnesses that are to be 0, as the code asks for them
  canonical_lifted : (i k : ℕ) (c : Option C) (rs : List (WhirRoundProof F)) → k ≡ i + length rs
      → canonical_checks S I (items i c (map (round_at I.proof) rs)) ++ (record { holds = zero_where_free (difficulty S.numbers k) (S.numbering.number I.proof.witness); refusal = NonCanonicalPowWitness k } ∷ [])
      ≡ lifted of_transcript (witness_checks S.numbering S.numbers i rs I.proof.witness)
  canonical_lifted i k c [] e =
      let same : k ≡ i = omega (arith, e) in
      let refusal : ℕ → VerifierError E = NonCanonicalPowWitness in
      ap (λ k. record { holds = zero_where_free (difficulty S.numbers k) (S.numbering.number I.proof.witness); refusal = refusal k } ∷ []) same
  canonical_lifted i k c (r ∷ rs) e =
      let first : Check (VerifierError E) = record { holds = zero_where_free (difficulty S.numbers i) (S.numbering.number r.pow_witness); refusal = NonCanonicalPowWitness i } in
      ap (λ cs. first ∷ cs)
      (canonical_lifted (suc i) k (round_at I.proof r).commitment rs (omega (arith, e)))

  -- Where the claims fit, the buffers suffice and the rounds are as many as they are to be, only the witnesses are left.
  pub witnesses_left : (nat_le (length I.claims) 1024 && list_all (claim_placed S.numbers.variables (length I.coordinates)) I.claims) ≡ true
      → suffices (buffers_of S.numbers) I.buffers ≡ true → length I.proof.rounds ≡ last S
      → ◌≡◌ {A = Result (Unit {0}) (VerifierError E)} (reworded of_transcript (verdict (witness_checks S.numbering S.numbers 0 I.proof.rounds I.proof.witness) tt)) (verdict (prechecks S I) tt)
  witnesses_left placed room count =
      let asked : List (Check TranscriptFailure) = witness_checks S.numbering S.numbers 0 I.proof.rounds I.proof.witness in
      sym
      (after_four (nat_le (length I.claims) 1024) (list_all (claim_placed S.numbers.variables (length I.coordinates)) I.claims) (suffices (buffers_of S.numbers) I.buffers)
      (length I.proof.rounds == last S) _ _ _ _ _ placed room (eq-eqb (length I.proof.rounds) (last S) count)
      ∙ ap (λ cs. verdict cs tt) (canonical_lifted 0 (last S) (Some I.commitment) I.proof.rounds (omega (arith, count)))
      ∙ verdict_lifted of_transcript asked tt)

-- what `?` hands on is the refusal in other words
pub refusal_handed : {E : Type 0} (e : TranscriptFailure) (v : Result (Unit {0}) TranscriptFailure) (o : Result (Unit {0}) (VerifierError E)) → IsErrAnd o (λ r. r ≡ of_transcript e)
    → Err e ≡ v → o ≡ reworded of_transcript v
refusal_handed e v (Ok u) h is = absurd h
refusal_handed e v (Err r) h is = ap Err h ∙ ap (reworded of_transcript) is
