-- How long the parts of a reading are where its counts are right, and that its claims have their laws.
use Rattle.std.proofs.Common.{◌≡◌, ℕ, suc, List, [], ◌∷◌, length, drop, Some, ◌∙◌, arith}
use Rattle.std.specs.List.{AllByRecursion}
use Rattle.std.proofs.ByRecursion.{All-map, All-weaker}
use Rattle.std.proofs.lemmas.List.{length-map, length-take-le, length-drop}
use Rattle.field.specs.Laws.{IsField}
use Rattle.multilinear.proofs.Univariate.{length_expand}
use Rattle.multilinear.specs.Univariate.{expand}
use Rattle.argument.specs.Sumcheck.{before}
use Rattle.argument.specs.Claims.{Claim, Extends, at_point}
use Rattle.argument.specs.Reading.{left}
use Rattle.argument.proofs.Weights.{at_point_extends, extends_at}
use Rattle.sponge.specs.Deciding.{Every}
use Rattle.transcript.specs.Shape.{shape}
use Rattle.proof.specs.declared.claims.Claim as claimed
use Rattle.verification.specs.Proof.{part, round_at}
use Rattle.verification.specs.Setting.{Setting, Inputs, RoundReading, Reading, Item, last, folds, vars_after, given, claims}
use Rattle.sumcheck.specs.Rounds.{steps}
use Rattle.verification.specs.Verifying.{samples_at, last_rows, final_polynomial, final_sumcheck, all_items, tail}
use Rattle.verification.specs.Decision.{ClaimPlaced, ClaimsFit, SumcheckRight, RoundRight}
use Rattle.assurance.specs.Committed.{Fitted}
use Rattle.verification.specs.Shaped.{RoundShaped, Shaped}
use Rattle.assurance.proofs.Counting.{before_count, first_phase, left_rounds}

module _ {F E C P : Type 0} (S : Setting F E C P) where
  -- each sumcheck of the rounds binds the variables of the next phase
  pub turns_drawn : (xs : List (Item F E C P)) (l : List (RoundReading E)) → Every (RoundShaped S) xs l → Every (RoundRight S) xs l
      → Every (λ x a. length a.turns ≡ folds S (suc x.number)) xs l
  turns_drawn [] [] s d = tt
  turns_drawn [] (a ∷ l) s d = d
  turns_drawn (x ∷ xs) [] s d = d
  turns_drawn (x ∷ xs) (a ∷ l) s d = (s.0.turns ∙ d.0.sumcheck.messages, turns_drawn xs l s.1 d.1)

  module _ (T : Fitted S) (I : Inputs F E C P) (r : Reading E) (Q : Shaped S I r) where
    -- what the first phase leaves is left after its sumcheck
    pub whole_left : length I.proof.rounds ≡ last S → Every (RoundRight S) (all_items S I) r.rounds → SumcheckRight (shape S.numbers I.opening_claims).final (final_sumcheck S I) r.final
        → left (tail S I r) ≡ vars_after S 0
    whole_left n d f =
        let e = length-map I.proof.rounds (round_at I.proof) in
        left_rounds S T 0 (Some I.commitment) (given S I).rounds r.rounds (final_polynomial S I) (last_rows S I r.positions) r.final (omega (arith, n, e))
        (turns_drawn (all_items S I) r.rounds Q.rounds d) (Q.final ∙ f.messages)

    -- and all variables are there before it
    pub whole_before : left (tail S I r) ≡ vars_after S 0 → SumcheckRight (shape S.numbers I.opening_claims).initial (given S I).initial r.initial
        → before (steps r.initial) (left (tail S I r)) ≡ S.numbers.variables
    whole_before e f =
        let long : length r.initial ≡ folds S 0 = Q.initial ∙ f.messages in
        before_count r.initial (left (tail S I r)) ∙ omega (arith, e, long, first_phase S T)

  module _ (K : IsField S.field) where
    -- the samples of a phase are claims about tables of the variables that it leaves
    pub samples_extend : (i : ℕ) (zs vs : List E) → AllByRecursion (Extends S.field (vars_after S i)) (samples_at S i zs vs)
    samples_extend i [] vs = tt
    samples_extend i (z ∷ zs) [] = tt
    samples_extend i (z ∷ zs) (v ∷ vs) =
        let p : List E = expand S.field z (vars_after S i) in
        (extends_at S.field K (length p) (vars_after S i) (at_point S.field p v) (length_expand S.field K z (vars_after S i)) (at_point_extends S.field K p v), samples_extend i zs vs)

    -- a claim whose point has n coordinates is one about tables of n variables
    claim_extends : (n : ℕ) (coordinates : List E) (q : claimed.Claim E) → ClaimPlaced n (length coordinates) q → Extends S.field n (at_point S.field (part coordinates q.point) q.value)
    claim_extends n coordinates q h =
        let p : List E = part coordinates q.point in
        let w = h.within in
        let d = length-drop q.point.start coordinates in
        let e : length p ≡ q.point.length = length-take-le q.point.length (drop q.point.start coordinates) (omega (arith, w, d)) in
        extends_at S.field K (length p) n (at_point S.field p q.value) (e ∙ h.long) (at_point_extends S.field K p q.value)

    -- so every claim that is asked is one about tables of all variables
    pub claims_extend : (I : Inputs F E C P) → ClaimsFit S I → AllByRecursion (Extends S.field S.numbers.variables) (claims S I)
    claims_extend I h =
        let n : ℕ = S.numbers.variables in
        let f : claimed.Claim E → Claim E = λ q. at_point S.field (part I.coordinates q.point) q.value in
        All-map (Extends S.field n) f I.claims (All-weaker (ClaimPlaced n (length I.coordinates)) (λ q. Extends S.field n (f q)) (claim_extends n I.coordinates) I.claims h.placed)
