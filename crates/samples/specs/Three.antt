-- Verifications of three variables under Suffix, with a round.
use Rattle.std.specs.Prelude.{ℕ, false, List, [], ◌∷◌, Some}
use Rattle.parameters.specs.Schedule.{per_round}
use Rattle.field.specs.Residues.{ops_257, numbering_257}
use Rattle.field.specs.Extension.{itself}
use Rattle.multilinear.specs.declared.order.VariableOrder.TheVariants.{Suffix}
use Rattle.argument.specs.Readings.{el, els}
use Rattle.domain.specs.Subgroup.{subgroup}
use Rattle.commit.specs.declared.shelf.Shelf.{Shelf}
use Rattle.commit.specs.Shelves.{kept}
use Rattle.verification.specs.Drawing.{by_word}
use Rattle.configuration.specs.Numbers.{Numbers}
use Rattle.configuration_view.specs.Shown.{buffers_of}
use Rattle.verification.specs.Proof.{FlatProof}
use Rattle.proof.specs.declared.whir_proof.RowKind.TheVariants.{Base, Extension}
use Rattle.verification.specs.Setting.{Setting, Inputs, setting}
use Rattle.samples.specs.Elements.{Element, same_element, place, sumcheck_places}

-- Each of the two phases folds a variable, and opens two of four rows; a round has a sample. (No strategy plans a round for so few
-- variables, so these are not the numbers of a checked configuration; all else is as it is there.)
abbrev pub three_numbers : Numbers
three_numbers = record {
  variables = 3;
  capacity = 8;
  id = [];
  strata = false;
  first_rate = 0;
  listed_rates = 1 ∷ [];
  strategy = per_round (1 ∷ 1 ∷ []);
  soundness = 0;
  level = 0;
  budget = 0;
  stored = 1 ∷ 1 ∷ [];
  rounds =
      record { pow_bits = 0; folding_pow_bits = 0; num_queries = 2; ood_samples = 1; num_variables = 2; folding_factor = 1; log_inv_rate = 1; domain_size = 8; log_folded_domain_size = 2 } ∷ [];
  commitment_samples = 0;
  first_difficulty = 0;
  terminal = record { num_queries = 2; pow_bits = 0 };
  final_rounds = 1;
  final_difficulty = 0;
}

-- the table; and the same folded at the first challenge, 166
abbrev pub three_table : List Element
three_table = els (3 ∷ 5 ∷ 7 ∷ 11 ∷ 13 ∷ 17 ∷ 19 ∷ 23 ∷ [])

abbrev pub three_folded : ℕ → List Element
three_folded i = els (78 ∷ 157 ∷ 163 ∷ 169 ∷ [])

-- a shelf has the table's rows, the next one those of the folded table
abbrev pub three_values : List Element
three_values = els (42 ∷ 56 ∷ 182 ∷ 180 ∷ 247 ∷ 245 ∷ 55 ∷ 53 ∷ 241 ∷ 69 ∷ 40 ∷ 23 ∷ 172 ∷ 245 ∷ 116 ∷ 34 ∷ [])

abbrev pub three_shelves : List Shelf
three_shelves = record { start = 0; height = 4; width = 2 } ∷ record { start = 8; height = 4; width = 2 } ∷ []

abbrev pub three : Setting Element Element ℕ (Unit {0})
three =
    setting three_numbers Suffix ops_257 ops_257 same_element numbering_257 (itself ops_257) (by_word numbering_257) (subgroup ops_257 numbering_257 8)
    (kept numbering_257 three_values three_shelves)

-- an honest proof of two claims, at the points (2, 3, 4) and (5, 6, 7)
abbrev pub three_proof : FlatProof Element Element ℕ (Unit {0})
three_proof = record {
  base = els (247 ∷ 245 ∷ 42 ∷ 56 ∷ []);
  extension = els (156 ∷ 231 ∷ 251 ∷ 81 ∷ 40 ∷ 241 ∷ 69 ∷ 40 ∷ 23 ∷ 126 ∷ 206 ∷ 198 ∷ 55 ∷ []);
  commitments = 1 ∷ [];
  nodes = [];
  initial_answers = place 0 0;
  initial = sumcheck_places (place 0 1) (place 0 0);
  rounds =
      record {
        commitment = Some 0;
        ood_answers = place 2 1;
        pow_witness = el 0;
        openings = record { kind = Base; count = 2; rows = place 0 4; paths = place 0 0 };
        sumcheck = sumcheck_places (place 3 1) (place 0 0);
      } ∷ [];
  polynomial = Some (place 11 2);
  witness = el 0;
  opening = record { kind = Extension; count = 2; rows = place 5 4; paths = place 0 0 };
  final = Some (sumcheck_places (place 9 1) (place 0 0));
}

-- a proof of claims of these values
abbrev pub three_given : FlatProof Element Element ℕ (Unit {0}) → (first second : ℕ) → Inputs Element Element ℕ (Unit {0})
three_given proof first second = record {
  proof = proof;
  commitment = 0;
  opening_claims = 2;
  coordinates = els (2 ∷ 3 ∷ 4 ∷ 5 ∷ 6 ∷ 7 ∷ []);
  claims = record { point = place 0 3; value = el first } ∷ record { point = place 3 3; value = el second } ∷ [];
  buffers = buffers_of three_numbers;
}

-- the honest proof of true claims, and of claims of which one is false
abbrev pub three_honest : Inputs Element Element ℕ (Unit {0})
three_honest = three_given three_proof 47 142

abbrev pub three_false_claim : Inputs Element Element ℕ (Unit {0})
three_false_claim = three_given three_proof 48 142
