-- No good proof is lost: the honest rule, from the tables. Assumes nothing.
use Rattle.std.specs.Prelude.{◌≡◌, ℕ, zero, suc, ◌^◌, true, List, [], ◌∷◌, ◌++◌, length, is_some, Ok}
use Rattle.std.specs.List.{AllByRecursion}
use Rattle.multilinear.specs.Tables.{view, folded}
use Rattle.argument.specs.Sumcheck.{TrueSteps}
use Rattle.argument.specs.Claims.{Claim, TrueOf, weight, joint}
use Rattle.argument.specs.Reading.{fresh}
use Rattle.commit.specs.Opening.{own_rows, own_paths}
use Rattle.sponge.specs.Play.{Rules, run, read}
use Rattle.transcript.specs.Shape.{shape, round_shape}
use Rattle.verification.specs.Proof.{of_base, of_extension, Opening}
use Rattle.verification.specs.Setting.{Setting, Inputs, RoundReading, Reading, Item, last, vars_after, given, claims}
use Rattle.sumcheck.specs.Rounds.{steps, challenges_of}
use Rattle.verification.specs.Verifying.{samples_at, rows_opened, all_items, final_polynomial, final_sumcheck, challenges, reading, verifying}
use Rattle.verification.specs.Decision.{SumcheckRight, Asked, Decision}
use Rattle.assurance.specs.Committed.{Fitted, base_rows, extension_rows, embedded, later_scheme, tables, OfLater}
use Rattle.assurance.specs.Accepted.{ClaimsTrue}

module _ {F E C P : Type 0} (S : Setting F E C P) (g : List F) (gs : ℕ → List E) (Of : C → List (List F) → Type 0) where
  -- An opening of phase i at positions has the table's own rows there, with the scheme's own paths.
  pub record OwnRows (ps : List ℕ) (o : Opening F E P) : Type 0 where
    pub count : o.count ≡ length ps
    pub rows : o.rows ≡ of_base (own_rows S.scheme (base_rows S g) ps)
    pub paths : o.paths ≡ own_paths S.scheme (base_rows S g) ps

  pub record OwnLaterRows (i : ℕ) (ps : List ℕ) (o : Opening F E P) : Type 0 where
    pub count : o.count ≡ length ps
    pub rows : o.rows ≡ of_extension (own_rows (later_scheme S) (extension_rows S (suc i) (gs i)) ps)
    pub paths : o.paths ≡ own_paths (later_scheme S) (extension_rows S (suc i) (gs i)) ps

  abbrev pub OwnOpening : ℕ → List ℕ → Opening F E P → Type 0
  OwnOpening zero ps o = OwnRows ps o
  OwnOpening (suc i) ps o = OwnLaterRows i ps o

  -- the fresh claims of a round, after the draws rs: those of its samples, then those of its rows
  abbrev pub fresh_claims : Item F E C P → RoundReading E → List E → List (Claim E)
  fresh_claims x a rs =
      fresh S.field S.order rs (rows_opened S x.number a.positions x.part.opening) (samples_at S x.number a.samples x.part.answers)

  -- A round, after the draws rs of its phase, under the carried weight W: the next table is this one folded at the draws; the round's
  -- commitment is of its rows, the answers are its values, the rows are this table's own, the messages are true.
  pub record HonestRound (x : Item F E C P) (a : RoundReading E) (rs : List E) (W : List E → E) : Type 0 where
    pub folds : gs x.number ≡ folded S.field S.order (vars_after S x.number) (tables S g gs x.number) rs
    pub commitment : OfLater S g gs Of x.number x.part.commitment
    pub answers : length x.part.answers ≡ (round_shape S.numbers x.number).samples
    pub samples : AllByRecursion (TrueOf S.field (gs x.number)) (samples_at S x.number a.samples x.part.answers)
    pub clear : a.clear ≡ true
    pub opening : OwnOpening x.number a.positions x.part.opening
    pub counts : SumcheckRight (round_shape S.numbers x.number).sumcheck x.part.sumcheck a.turns
    pub messages : TrueSteps S.field (steps a.turns) (vars_after S (suc x.number)) (joint S.field S.order W (fresh_claims x a rs) a.gamma) (view S.field S.order (gs x.number))

  module _ (I : Inputs F E C P) (r : Reading E) where
    -- The end, after the draws rs of the last phase: the final polynomial is the last table folded at them.
    pub record HonestEnd (rs : List E) (W : List E → E) : Type 0 where
      pub polynomial : is_some (given S I).polynomial ≡ true
      pub folds : final_polynomial S I ≡ folded S.field S.order (vars_after S (last S)) (tables S g gs (last S)) rs
      pub clear : r.clear ≡ true
      pub opening : OwnOpening (last S) r.positions (given S I).opening
      pub counts : SumcheckRight (shape S.numbers I.opening_claims).final (final_sumcheck S I) r.final
      pub messages : TrueSteps S.field (steps r.final) 0 W (view S.field S.order (final_polynomial S I))

    abbrev pub HonestRounds : List (Item F E C P) → List (RoundReading E) → List E → (List E → E) → Type 0
    HonestRounds [] [] rs W = HonestEnd rs W
    HonestRounds [] (a ∷ l) rs W = ⊥
    HonestRounds (x ∷ xs) [] rs W = ⊥
    HonestRounds (x ∷ xs) (a ∷ l) rs W =
        HonestRound x a rs W
        × HonestRounds xs l (challenges_of a.turns) (λ y. joint S.field S.order W (fresh_claims x a rs) a.gamma (challenges_of a.turns ++ y))

    -- An honest proof: the first commitment is of the rows of a table of n variables, of which every claim is true; everything is as
    -- asked for, and every message is the true one. What is not read is left free.
    pub record HonestProof : Type 0 where
      pub asked : Asked S I
      pub table : length g ≡ 2 ^ S.numbers.variables
      pub commitment : Of I.commitment (base_rows S g)
      pub claims_true : ClaimsTrue S g gs I
      pub counts : SumcheckRight (shape S.numbers I.opening_claims).initial (given S I).initial r.initial
      pub messages : TrueSteps S.field (steps r.initial) (vars_after S 0) (weight S.field S.order (claims S I) r.alpha) (view S.field S.order (embedded S g))
      pub rounds : HonestRounds (all_items S I) r.rounds (challenges_of r.initial) (λ y. weight S.field S.order (claims S I) r.alpha (challenges_of r.initial ++ y))

-- From every list: an honest proof is decided for and accepted, with the challenges of all sumchecks in order.
abbrev pub HonestAccepted : {F E C P : Type 0} → Setting F E C P → (C → List (List F) → Type 0) → Type 0
HonestAccepted {F} {E} {C} {P} S Of =
    Fitted S → (m : Rules) (s : List ℕ) (I : Inputs F E C P) (g : List F) (gs : ℕ → List E)
    → let r = (read m s (reading S I)).value in
    HonestProof S g gs Of I r → Decision S I r × ((run m s (verifying S I)).answer ≡ Ok (challenges S I r))
