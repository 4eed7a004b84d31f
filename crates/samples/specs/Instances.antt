-- Instances of the theorem: no premise is impossible, and each half says something.
use Rattle.std.specs.Prelude.{◌≡◌, ℕ, List, [], ◌∷◌, map}
use Rattle.field.specs.Residues.{ops_257}
use Rattle.argument.specs.Roots.{Root}
use Rattle.multilinear.specs.declared.order.VariableOrder.TheVariants.{Suffix}
use Rattle.multilinear.specs.Tables.{view, folded}
use Rattle.argument.specs.Sumcheck.{before, MessageRoot}
use Rattle.argument.specs.Claims.{batched, weight}
use Rattle.argument.specs.Accidents.{Alike, alpha, message, later, alike, claims_error}
use Rattle.argument.specs.Readings.{els, numbers}
use Rattle.commit.specs.Shelves.{HeldOn}
use Rattle.sponge.specs.Play.{read}
use Rattle.sponge.specs.Trial.{trial}
use Rattle.verification.specs.Setting.{Setting, Inputs, Reading, claims, point_at}
use Rattle.sumcheck.specs.Rounds.{steps, challenges_of}
use Rattle.errors.specs.declared.VerifierError.TheVariants.{MerkleProofInvalid}
use Rattle.errors.specs.declared.OpeningFault.TheVariants.{Base as BaseFault}
use Rattle.verification.specs.Verifying.{final_polynomial, last_rows, reading}
use Rattle.verification.specs.Decision.{Decision}
use Rattle.assurance.specs.Committed.{Fitted, positions_of, Committed}
use Rattle.assurance.specs.Accepted.{ClaimsTrue, AccidentShown}
use Rattle.assurance.specs.Honest.{HonestProof}
use Rattle.samples.specs.Elements.{Element}
use Rattle.samples.specs.Three.{three, three_table, three_folded, three_values, three_shelves, three_honest}
use Rattle.samples.specs.Two.{two, two_other, two_on, two_table, two_values, two_other_table, two_other_values, two_shelves, two_honest, two_false_claims, two_false_polynomial, two_false_message, two_wrong_row}
use Rattle.samples.specs.Runs.{accepted, refused, outcome}

-- what a commitment is of
abbrev pub Held : List Element → ℕ → List (List Element) → Type 0
Held values = HeldOn values two_shelves

-- what is read from a new sponge
abbrev pub reading_of : Setting Element Element ℕ (Unit {0}) → Inputs Element Element ℕ (Unit {0}) → Reading Element
reading_of S I = (read trial (0 ∷ []) (reading S I)).value

-- without a round there are no later tables: they are any
abbrev pub AnyTables : Type 0
AnyTables = ℕ → List Element

-- an honest proof of true claims is decided for and accepted
pub record HonestInstance : Type 0 where
  pub committed : (gs : AnyTables) → Committed two two_table gs (Held two_values) two_honest
  pub honest : (gs : AnyTables) → HonestProof two two_table gs (Held two_values) two_honest (reading_of two two_honest)
  pub decided : Decision two two_honest (reading_of two two_honest)
  pub answered : outcome two two_honest ≡ accepted (els (34 ∷ 138 ∷ [])) 17906508602623944821

-- A wrong yes: the commitment is of the rows of g, not every claim is true of it, the proof is accepted, and an accident is shown.
pub record WrongYes (values g : List Element) (I : Inputs Element Element ℕ (Unit {0})) : Type 0 where
  pub committed : (gs : AnyTables) → Committed (two_on values) g gs (Held values) I
  pub untrue : (gs : AnyTables) → ClaimsTrue (two_on values) g gs I → ⊥
  pub challenges : List Element
  pub left : ℕ
  pub answered : outcome (two_on values) I ≡ accepted challenges left
  pub shown : (gs : AnyTables) → AccidentShown (two_on values) g gs I (reading_of (two_on values) I)

-- by α: two claims are false, and their errors, 167 and 1, cancel at α = 90
pub record ByAlpha : Type 0 where
  pub yes : WrongYes two_values two_table two_false_claims
  pub errors : numbers (claims_error ops_257 two_table (claims two two_false_claims)) ≡ 167 ∷ 1 ∷ []
  pub challenge : (reading_of two two_false_claims).alpha.value ≡ 90
  pub root : Root ops_257 (claims_error ops_257 two_table (claims two two_false_claims)) (reading_of two two_false_claims).alpha
  pub shows : (gs : AnyTables) → yes.shown gs ≡ alpha root

-- by a message: one claim is false by 1, so the message is wrong by X, and the challenge is 0
pub record ByMessage : Type 0 where
  pub yes : WrongYes two_other_values two_other_table two_false_message
  pub challenge : numbers (challenges_of (reading_of two_other two_false_message).initial) ≡ 0 ∷ []
  pub root :
      let r = reading_of two_other two_false_message in
      let qs = claims two_other two_false_message in
      MessageRoot ops_257 (steps r.initial) (before (steps r.final) 0) (weight ops_257 Suffix qs r.alpha) (view ops_257 Suffix two_other_table) (batched ops_257 qs r.alpha)
  pub shows : (gs : AnyTables) → yes.shown gs ≡ message root

-- by rows: one claim is false, and another final polynomial than the folded table fits it and is like that at the positions opened
pub record ByRows : Type 0 where
  pub yes : WrongYes two_values two_table two_false_polynomial
  pub positions : (reading_of two two_false_polynomial).positions ≡ 0 ∷ 0 ∷ []
  pub polynomial : numbers (final_polynomial two two_false_polynomial) ≡ 84 ∷ 103 ∷ []
  pub table : numbers (folded ops_257 Suffix 1 two_table (challenges_of (reading_of two two_false_polynomial).initial)) ≡ 71 ∷ 116 ∷ []
  pub alikeness :
      let r = reading_of two two_false_polynomial in
      Alike ops_257 (final_polynomial two two_false_polynomial) (folded ops_257 Suffix (before (steps r.final) 0) two_table (challenges_of r.initial)) (last_rows two two_false_polynomial r.positions)
      (map (point_at two 0) (positions_of two 0))
  pub shows : (gs : AnyTables) → yes.shown gs ≡ later (alike alikeness)

-- a proof with another row is refused, though the claims are true and the commitment is of their table
pub record DamagedInstance : Type 0 where
  pub committed : (gs : AnyTables) → Committed two two_table gs (Held two_values) two_wrong_row
  pub true_claims : (gs : AnyTables) → ClaimsTrue two two_table gs two_wrong_row
  pub undecided : Decision two two_wrong_row (reading_of two two_wrong_row) → ⊥
  pub answered : outcome two two_wrong_row ≡ refused (MerkleProofInvalid 0 0 BaseFault) 15269604858839283572

-- the same with a round, where there is one later table
abbrev pub HeldLater : ℕ → List (List Element) → Type 0
HeldLater = HeldOn three_values three_shelves

pub record RoundInstance : Type 0 where
  pub committed : Committed three three_table three_folded HeldLater three_honest
  pub honest : HonestProof three three_table three_folded HeldLater three_honest (reading_of three three_honest)
  pub decided : Decision three three_honest (reading_of three three_honest)
  pub answered : outcome three three_honest ≡ accepted (els (166 ∷ 239 ∷ 33 ∷ [])) 15185022215624530423

pub record Instances : Type 0 where
  -- the numbers are those of a checked configuration, and the domain is large enough
  pub fitted : Fitted two
  -- no good proof is lost: without a round, and with one
  pub honest : HonestInstance
  pub with_round : RoundInstance
  -- a wrong yes shows its accident: each of the three that can be met without a round, and without a collision
  pub by_alpha : ByAlpha
  pub by_message : ByMessage
  pub by_rows : ByRows
  -- a wrong proof is refused
  pub damaged : DamagedInstance
