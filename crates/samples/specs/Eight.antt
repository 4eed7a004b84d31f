-- Verifications of eight variables under Prefix, with a round.
use Rattle.std.specs.Prelude.{ℕ, ◌+◌, ◌*◌, ◌^◌, false, List, [], ◌∷◌, ◌++◌, replicate, Some, None}
use Rattle.std.specs.List.{flat_map}
use Rattle.parameters.specs.Schedule.{per_round}
use Rattle.field.specs.Residues.{ops_257, numbering_257}
use Rattle.field.specs.Extension.{itself}
use Rattle.multilinear.specs.Univariate.{pow}
use Rattle.multilinear.specs.declared.order.VariableOrder.TheVariants.{Prefix}
use Rattle.argument.specs.Readings.{el, els}
use Rattle.domain.specs.Subgroup.{generator, subgroup}
use Rattle.commit.specs.Shelves.{kept}
use Rattle.sponge.specs.Play.{counted}
use Rattle.verification.specs.Drawing.{by_word}
use Rattle.configuration.specs.Numbers.{Numbers}
use Rattle.configuration_view.specs.Shown.{buffers_of}
use Rattle.proof.specs.declared.whir_proof.WhirRoundProof.{WhirRoundProof}
use Rattle.verification.specs.Proof.{FlatProof}
use Rattle.proof.specs.declared.whir_proof.RowKind.TheVariants.{Base, Extension}
use Rattle.verification.specs.Setting.{Setting, Inputs, setting}
use Rattle.samples.specs.Elements.{Element, same_element, place, sumcheck_places}

-- The two phases fold a variable each, and open two rows each, of 128 and of 64; a round has one sample; six variables are left.
abbrev pub eight_numbers : Numbers
eight_numbers = record {
  variables = 8;
  capacity = 8;
  id = [];
  strata = false;
  first_rate = 0;
  listed_rates = [];
  strategy = per_round (1 ∷ 1 ∷ []);
  soundness = 0;
  level = 0;
  budget = 0;
  stored = 1 ∷ 1 ∷ [];
  rounds =
      record { pow_bits = 0; folding_pow_bits = 0; num_queries = 2; ood_samples = 1; num_variables = 7; folding_factor = 1; log_inv_rate = 0; domain_size = 256; log_folded_domain_size = 7 } ∷ [];
  commitment_samples = 0;
  first_difficulty = 0;
  terminal = record { num_queries = 2; pow_bits = 0 };
  final_rounds = 6;
  final_difficulty = 0;
}

-- at each position of a log size, of which v is the element, the row of a + b·v and c + d·v
abbrev pub rows_on : (log a b c d : ℕ) → List Element
rows_on log a b c d =
    flat_map (λ i. let v = (pow ops_257 (generator ops_257 numbering_257 8 log) i).value in els ((a + b * v) ∷ (c + d * v) ∷ [])) (counted 0 (2 ^ log))

-- the table: 3 and 5 at the first two corners, 7 and 11 at the first two of those whose first coordinate is 1, and 0 elsewhere
abbrev pub eight_table : List Element
eight_table = els (3 ∷ 5 ∷ []) ++ (replicate 126 (el 0) ++ (els (7 ∷ 11 ∷ []) ++ replicate 126 (el 0)))

-- a shelf has its rows, and the next one those of the table folded at 50, which is 203 and 48 at the first two corners and 0 elsewhere
abbrev pub eight : Setting Element Element ℕ (Unit {0})
eight =
    setting eight_numbers Prefix ops_257 ops_257 same_element numbering_257 (itself ops_257) (by_word numbering_257) (subgroup ops_257 numbering_257 8)
    (kept numbering_257 (rows_on 7 3 5 7 11 ++ rows_on 6 203 48 0 0) (record { start = 0; height = 128; width = 2 } ∷ record { start = 256; height = 64; width = 2 } ∷ []))

-- a round, with the second shelf and the places of its answer, its rows and its message
abbrev pub eight_round : WhirRoundProof Element
eight_round = record {
  commitment = Some 0;
  ood_answers = place 2 1;
  pow_witness = el 0;
  openings = record { kind = Base; count = 2; rows = place 0 4; paths = place 0 0 };
  sumcheck = sumcheck_places (place 3 1) (place 0 0);
}

-- an honest proof of a claim at the point (2, 3, .. 9)
abbrev pub eight_proof : FlatProof Element Element ℕ (Unit {0})
eight_proof = record {
  base = els (154 ∷ 185 ∷ 46 ∷ 153 ∷ []);
  extension =
      els (44 ∷ 82 ∷ 88 ∷ 124 ∷ 36 ∷ 113 ∷ 0 ∷ 200 ∷ 0 ∷ 114 ∷ 48 ∷ 39 ∷ 229 ∷ 113 ∷ 237 ∷ 14 ∷ 10 ∷ 117 ∷ 243 ∷ 211 ∷ 174 ∷ 111 ∷ 244 ∷ []) ++ replicate 62 (el 0);
  commitments = 1 ∷ [];
  nodes = [];
  initial_answers = place 0 0;
  initial = sumcheck_places (place 0 1) (place 0 0);
  rounds = eight_round ∷ [];
  polynomial = Some (place 21 64);
  witness = el 0;
  opening = record { kind = Extension; count = 2; rows = place 5 4; paths = place 0 0 };
  final = Some (sumcheck_places (place 9 6) (place 0 0));
}

-- a proof of a claim of this value
abbrev pub eight_given : FlatProof Element Element ℕ (Unit {0}) → (claimed : ℕ) → Inputs Element Element ℕ (Unit {0})
eight_given proof claimed = record {
  proof = proof;
  commitment = 0;
  opening_claims = 1;
  coordinates = els (2 ∷ 3 ∷ 4 ∷ 5 ∷ 6 ∷ 7 ∷ 8 ∷ 9 ∷ []);
  claims = record { point = place 0 8; value = el claimed } ∷ [];
  buffers = buffers_of eight_numbers;
}

-- the honest proof of the true claim, and of a false one
abbrev pub eight_honest : Inputs Element Element ℕ (Unit {0})
eight_honest = eight_given eight_proof 182

abbrev pub eight_false_claim : Inputs Element Element ℕ (Unit {0})
eight_false_claim = eight_given eight_proof 183

-- no commitment in the round; a row too many there; another last row; and a proof written for another answer to the sample
abbrev pub eight_no_commitment : Inputs Element Element ℕ (Unit {0})
eight_no_commitment = eight_given (record eight_proof { rounds = record eight_round { commitment = None } ∷ [] }) 182

abbrev pub eight_more_rows : Inputs Element Element ℕ (Unit {0})
eight_more_rows = eight_given (record eight_proof { rounds = record eight_round { openings = record eight_round.openings { count = 3 } } ∷ [] }) 182

abbrev pub eight_wrong_row : Inputs Element Element ℕ (Unit {0})
eight_wrong_row =
    eight_given
    (record eight_proof {
      extension =
          els (44 ∷ 82 ∷ 88 ∷ 124 ∷ 36 ∷ 113 ∷ 1 ∷ 200 ∷ 0 ∷ 114 ∷ 48 ∷ 39 ∷ 229 ∷ 113 ∷ 237 ∷ 14 ∷ 10 ∷ 117 ∷ 243 ∷ 211 ∷ 174 ∷ 111 ∷ 244 ∷ []) ++ replicate 62 (el 0);
    }) 182

abbrev pub eight_other_answer : Inputs Element Element ℕ (Unit {0})
eight_other_answer =
    eight_given
    (record eight_proof {
      base = els (180 ∷ 88 ∷ 80 ∷ 125 ∷ []);
      extension =
          els (44 ∷ 82 ∷ 231 ∷ 180 ∷ 210 ∷ 236 ∷ 0 ∷ 91 ∷ 0 ∷ 205 ∷ 68 ∷ 127 ∷ 51 ∷ 103 ∷ 140 ∷ 219 ∷ 87 ∷ 229 ∷ 134 ∷ 57 ∷ 188 ∷ 196 ∷ 197 ∷ []) ++ replicate 62 (el 0);
    }) 182
