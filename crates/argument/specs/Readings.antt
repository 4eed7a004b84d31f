-- Sample readings of the definitions, over the numbers below 257.
use Rattle.std.specs.Prelude.{◌≡◌, ℕ, List, [], ◌∷◌, ◌++◌, map}
use Rattle.std.proofs.Common.{lit<}
use Rattle.ring.specs.Polynomials.{value as at}
use Rattle.field.specs.declared.residue.Residue.{Residue}
use Rattle.field.specs.Residues.{reduce, ops_257}
use Rattle.multilinear.specs.declared.order.VariableOrder.TheVariants.{Prefix, Suffix}
use Rattle.multilinear.specs.Tables.{eq, value, view, folded, row}
use Rattle.multilinear.specs.Univariate.{expand}
use Rattle.std.specs.List.{AllByRecursion}
use Rattle.argument.specs.Sumcheck.{Step, draws, message, true0, true2, TrueSteps}
use Rattle.argument.specs.Claims.{Claim, at_point, weight}
use Rattle.argument.specs.Reading.{Tail, end, Accepted}
use Rattle.argument.specs.Accidents.{Phase, onward, Behind}
use Rattle.argument.specs.Honest.{TrueClaim, Honest}

-- a number as an element, and elements as numbers
abbrev pub el : ℕ → Residue 257
el = reduce 257 (lit< tt)

abbrev pub els : List ℕ → List (Residue 257)
els = map el

abbrev pub numbers : List (Residue 257) → List ℕ
numbers = map (λ x. x.value)

abbrev pub step : ℕ → ℕ → ℕ → Step (Residue 257)
step h0 h2 r = record { h0 = el h0; h2 = el h2; r = el r }

-- one variable: the table (3, 5) and the claim 7 at the point 2
abbrev pub pair_table : List (Residue 257)
pair_table = els (3 ∷ 5 ∷ [])

abbrev pub pair_claim : List (Claim (Residue 257))
pair_claim = at_point ops_257 (els (2 ∷ [])) (el 7) ∷ []

-- three variables, two of them bound in the first phase; the claim 47 at the point (2, 3, 4)
abbrev pub eight : List (Residue 257)
eight = els (3 ∷ 5 ∷ 7 ∷ 11 ∷ 13 ∷ 17 ∷ 19 ∷ 23 ∷ [])

abbrev pub eight_claim : List (Claim (Residue 257))
eight_claim = at_point ops_257 (els (2 ∷ 3 ∷ 4 ∷ [])) (el 47) ∷ []

-- the first two steps, and what follows: the final polynomial, a row at the position of the point 10, the last step
abbrev pub suffix_steps : List (Step (Residue 257))
suffix_steps = step 116 0 5 ∷ step 206 194 6 ∷ []

abbrev pub suffix_tail : Tail (Residue 257)
suffix_tail = end (els (97 ∷ 69 ∷ [])) (record { point = els (10 ∷ []); opened = els (133 ∷ 175 ∷ 197 ∷ 241 ∷ []) } ∷ []) (step 211 37 7 ∷ [])

-- behind its commitment: the table, two positions, and nothing digested
abbrev pub eight_phase : ℕ → Phase (Residue 257)
eight_phase i = record { table = eight; positions = map (λ v. expand ops_257 v 1) (els (10 ∷ 11 ∷ [])); checked = []; committed = [] }

pub record Readings : Type 0 where
  -- the claim is true; its message is 254, 6; after the challenge 4 the claim is 121, the final polynomial 11 and the weight 11
  pub claim : (value ops_257 pair_table (els (2 ∷ []))).value ≡ 7
  pub first : (true0 ops_257 0 (weight ops_257 Prefix pair_claim (el 1)) (view ops_257 Prefix pair_table)).value ≡ 254
  pub last : (true2 ops_257 0 (weight ops_257 Prefix pair_claim (el 1)) (view ops_257 Prefix pair_table)).value ≡ 6
  pub after : (at ops_257 (message ops_257 (el 254) (el 6) (el 7)) (el 4)).value ≡ 121
  pub final : numbers (folded ops_257 Prefix 0 pair_table (els (4 ∷ []))) ≡ 11 ∷ []
  pub weighs : (eq ops_257 (els (2 ∷ [])) (els (4 ∷ []))).value ≡ 11
  pub accepted : Accepted ops_257 Prefix pair_claim (el 1) (step 254 6 4 ∷ []) (end (els (11 ∷ [])) [] [])
  -- Suffix binds the last variable first: the draws 0, 1 leave the values at (x, 1, 0); Prefix those at (0, 1, x)
  pub suffix : numbers (folded ops_257 Suffix 1 eight (els (0 ∷ 1 ∷ []))) ≡ 7 ∷ 19 ∷ []
  pub prefix : numbers (folded ops_257 Prefix 1 eight (els (0 ∷ 1 ∷ []))) ≡ 7 ∷ 11 ∷ []
  -- the row at the position of the point 3, for the two variables bound first
  pub suffix_row : numbers (row ops_257 Suffix 2 eight (els (3 ∷ []))) ≡ 42 ∷ 56 ∷ 64 ∷ 80 ∷ []
  pub prefix_row : numbers (row ops_257 Prefix 2 eight (els (3 ∷ []))) ≡ 18 ∷ 40 ∷ 64 ∷ 88 ∷ []
  -- a whole run under Suffix, which under Prefix is not accepted
  pub suffix_accepted : Accepted ops_257 Suffix eight_claim (el 1) suffix_steps suffix_tail
  pub prefix_refused : Accepted ops_257 Prefix eight_claim (el 1) suffix_steps suffix_tail → ⊥
  -- that run meets what the two halves of the theorem ask
  pub suffix_claims : AllByRecursion (TrueClaim ops_257 Suffix 3 eight) eight_claim
  pub suffix_messages : TrueSteps ops_257 suffix_steps 1 (weight ops_257 Suffix eight_claim (el 1)) (view ops_257 Suffix eight)
  pub suffix_honest : Honest ops_257 Suffix eight (draws suffix_steps) (λ i. eight) (λ x. weight ops_257 Suffix eight_claim (el 1) (draws suffix_steps ++ x)) suffix_tail
  pub suffix_behind : Behind ops_257 (λ l. l) Suffix (eight_phase 0) (draws suffix_steps) (onward eight_phase) suffix_tail
  pub expanded : numbers (expand ops_257 (el 2) 3) ≡ 16 ∷ 4 ∷ 2 ∷ []
