-- Verifications of two variables under Suffix, without a round.
use Rattle.std.specs.Prelude.{ℕ, false, List, [], ◌∷◌, Some, None}
use Rattle.parameters.specs.Schedule.{per_round}
use Rattle.field.specs.Residues.{ops_257, numbering_257}
use Rattle.field.specs.Extension.{itself}
use Rattle.multilinear.specs.declared.order.VariableOrder.TheVariants.{Suffix}
use Rattle.argument.specs.Readings.{el, els}
use Rattle.domain.specs.Subgroup.{subgroup}
use Rattle.commit.specs.declared.shelf.Shelf.{Shelf}
use Rattle.commit.specs.Shelves.{kept}
use Rattle.verification.specs.Drawing.{by_word}
use Rattle.configuration.specs.Numbers.{Numbers}
use Rattle.configuration_view.specs.Shown.{buffers_of}
use Rattle.verification.specs.Proof.{FlatProof}
use Rattle.proof.specs.declared.whir_proof.RowKind.TheVariants.{Base}
use Rattle.verification.specs.Setting.{Setting, Inputs, setting}
use Rattle.samples.specs.Elements.{Element, same_element, place, sumcheck_places}

-- The only phase folds one variable, and opens two of four rows. A bit is ground in the first sumcheck, and one before the queries.
abbrev pub two_numbers : Numbers
two_numbers = record {
  variables = 2;
  capacity = 8;
  id = [];
  strata = false;
  first_rate = 1;
  listed_rates = [];
  strategy = per_round (1 ∷ []);
  soundness = 0;
  level = 0;
  budget = 0;
  stored = 1 ∷ [];
  rounds = [];
  commitment_samples = 0;
  first_difficulty = 1;
  terminal = record { num_queries = 2; pow_bits = 1 };
  final_rounds = 1;
  final_difficulty = 0;
}

abbrev pub two_table : List Element
two_table = els (3 ∷ 5 ∷ 7 ∷ 48 ∷ [])

-- the table's rows on a shelf
abbrev pub two_values : List Element
two_values = els (10 ∷ 53 ∷ 148 ∷ 8 ∷ 253 ∷ 214 ∷ 115 ∷ 2 ∷ [])

-- another table, and its rows
abbrev pub two_other_table : List Element
two_other_table = els (3 ∷ 5 ∷ 1 ∷ 135 ∷ [])

abbrev pub two_other_values : List Element
two_other_values = els (4 ∷ 140 ∷ 244 ∷ 158 ∷ 2 ∷ 127 ∷ 19 ∷ 109 ∷ [])

abbrev pub two_shelves : List Shelf
two_shelves = record { start = 0; height = 4; width = 2 } ∷ []

-- over the subgroup domain, by the rows on the shelf
abbrev pub two_on : List Element → Setting Element Element ℕ (Unit {0})
two_on values =
    setting two_numbers Suffix ops_257 ops_257 same_element numbering_257 (itself ops_257) (by_word numbering_257) (subgroup ops_257 numbering_257 8)
    (kept numbering_257 values two_shelves)

abbrev pub two : Setting Element Element ℕ (Unit {0})
two = two_on two_values

abbrev pub two_other : Setting Element Element ℕ (Unit {0})
two_other = two_on two_other_values

-- an honest proof of two claims, at the points (2, 3) and (4, 5)
abbrev pub two_proof : FlatProof Element Element ℕ (Unit {0})
two_proof = record {
  base = els (1 ∷ 253 ∷ 214 ∷ 115 ∷ 2 ∷ []);
  extension = els (77 ∷ 137 ∷ 250 ∷ 66 ∷ 71 ∷ 116 ∷ []);
  commitments = [];
  nodes = [];
  initial_answers = place 0 0;
  initial = sumcheck_places (place 0 1) (place 0 1);
  rounds = [];
  polynomial = Some (place 4 2);
  witness = el 1;
  opening = record { kind = Base; count = 2; rows = place 1 4; paths = place 0 0 };
  final = Some (sumcheck_places (place 2 1) (place 0 0));
}

-- a proof of claims of these values
abbrev pub two_given : FlatProof Element Element ℕ (Unit {0}) → (first second : ℕ) → Inputs Element Element ℕ (Unit {0})
two_given proof first second = record {
  proof = proof;
  commitment = 0;
  opening_claims = 2;
  coordinates = els (2 ∷ 3 ∷ 4 ∷ 5 ∷ []);
  claims = record { point = place 0 2; value = el first } ∷ record { point = place 2 2; value = el second } ∷ [];
  buffers = buffers_of two_numbers;
}

-- the honest proof and true claims
abbrev pub two_honest : Inputs Element Element ℕ (Unit {0})
two_honest = two_given two_proof 251 38

-- the honest proof, and claims of which one is false, or both are
abbrev pub two_false_claim : Inputs Element Element ℕ (Unit {0})
two_false_claim = two_given two_proof 252 38

abbrev pub two_false_claims : Inputs Element Element ℕ (Unit {0})
two_false_claims = two_given two_proof 161 39

-- damaged proofs: another row, no polynomial, no message, another witness in the sumcheck or before the queries, a round too many; and a
-- proof written for another final polynomial
abbrev pub two_wrong_row : Inputs Element Element ℕ (Unit {0})
two_wrong_row = two_given (record two_proof { base = els (1 ∷ 253 ∷ 215 ∷ 115 ∷ 2 ∷ []) }) 251 38

abbrev pub two_no_polynomial : Inputs Element Element ℕ (Unit {0})
two_no_polynomial = two_given (record two_proof { polynomial = None }) 251 38

abbrev pub two_no_message : Inputs Element Element ℕ (Unit {0})
two_no_message = two_given (record two_proof { initial = sumcheck_places (place 0 0) (place 0 1) }) 251 38

abbrev pub two_other_witness : Inputs Element Element ℕ (Unit {0})
two_other_witness = two_given (record two_proof { base = els (6 ∷ 253 ∷ 214 ∷ 115 ∷ 2 ∷ []) }) 251 38

abbrev pub two_other_query_witness : Inputs Element Element ℕ (Unit {0})
two_other_query_witness = two_given (record two_proof { witness = el 6 }) 251 38

abbrev pub two_extra_round : Inputs Element Element ℕ (Unit {0})
two_extra_round =
    two_given
    (record two_proof {
      rounds = record { commitment = None; ood_answers = place 0 0; pow_witness = el 0; openings = two_proof.opening; sumcheck = sumcheck_places (place 0 0) (place 0 0) } ∷ [];
    }) 251 38

abbrev pub two_other_polynomial : Inputs Element Element ℕ (Unit {0})
two_other_polynomial =
    two_given
    (record two_proof {
      base = els (1 ∷ 115 ∷ 2 ∷ 148 ∷ 8 ∷ []);
      extension = els (77 ∷ 137 ∷ 250 ∷ 66 ∷ 163 ∷ 116 ∷ []);
      witness = el 3;
    }) 251 38

-- a false claim, with another final polynomial that has the same row at the only position that is opened, twice
abbrev pub two_false_polynomial : Inputs Element Element ℕ (Unit {0})
two_false_polynomial =
    two_given (record two_proof { base = els (1 ∷ 10 ∷ 53 ∷ 10 ∷ 53 ∷ []); extension = els (77 ∷ 137 ∷ 227 ∷ 45 ∷ 84 ∷ 103 ∷ []) }) 194 38

-- of the other table: an honest proof, and claims of which the first is false
abbrev pub two_false_message : Inputs Element Element ℕ (Unit {0})
two_false_message =
    two_given
    (record two_proof { base = els (0 ∷ 19 ∷ 109 ∷ 19 ∷ 109 ∷ []); extension = els (3 ∷ 155 ∷ 162 ∷ 169 ∷ 3 ∷ 1 ∷ []); witness = el 0 }) 27 75
