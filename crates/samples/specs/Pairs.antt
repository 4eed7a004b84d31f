-- Verifications of two variables over pairs, under Prefix, on a listed domain whose positions are drawn by strata.
use Rattle.std.specs.Prelude.{ℕ, Bool, true, ◌&&◌, List, [], ◌∷◌, codes, Some}
use Rattle.parameters.specs.Schedule.{per_round}
use Rattle.field.specs.declared.pair.Pair.{Pair}
use Rattle.field.specs.Residues.{ops_257, numbering_257}
use Rattle.field.specs.Extension.{itself, doubled}
use Rattle.field.specs.Tower.{pair, pair_ops}
use Rattle.multilinear.specs.declared.order.VariableOrder.TheVariants.{Prefix}
use Rattle.argument.specs.Readings.{el, els}
use Rattle.domain.specs.Listed.{listed}
use Rattle.commit.specs.Shelves.{kept}
use Rattle.verification.specs.Drawing.{by_word}
use Rattle.configuration.specs.Numbers.{Numbers}
use Rattle.configuration_view.specs.Shown.{buffers_of}
use Rattle.verification.specs.Proof.{FlatProof}
use Rattle.proof.specs.declared.whir_proof.RowKind.TheVariants.{Base, Extension}
use Rattle.verification.specs.Setting.{Setting, Inputs, setting}
use Rattle.samples.specs.Elements.{Element, same_element, place, sumcheck_places}

-- neighbours of a list as pairs
abbrev pub pairs : List ℕ → List (Pair Element)
pairs [] = []
pairs (a ∷ []) = []
pairs (a ∷ b ∷ l) = pair (el a) (el b) ∷ pairs l

abbrev pub same_pair : Pair Element → Pair Element → Bool
same_pair x y = same_element x.a y.a && same_element x.b y.b

-- The only phase folds one variable, and opens three of four rows.
abbrev pub pair_numbers : Numbers
pair_numbers = record {
  variables = 2;
  capacity = 3;
  id = codes "list";
  strata = true;
  first_rate = 1;
  listed_rates = [];
  strategy = per_round (1 ∷ []);
  soundness = 0;
  level = 0;
  budget = 0;
  stored = 1 ∷ [];
  rounds = [];
  commitment_samples = 0;
  first_difficulty = 0;
  terminal = record { num_queries = 3; pow_bits = 0 };
  final_rounds = 1;
  final_difficulty = 0;
}

-- the rows of the table (3, 5, 7, 11) on a shelf
abbrev pub over_pairs : Setting Element (Pair Element) ℕ (Unit {0})
over_pairs =
    setting pair_numbers Prefix ops_257 (pair_ops ops_257) same_pair numbering_257 (doubled ops_257 (itself ops_257)) (by_word numbering_257)
    (listed ops_257 3 (els (2 ∷ 3 ∷ 5 ∷ 7 ∷ 11 ∷ 13 ∷ 17 ∷ 19 ∷ [])))
    (kept numbering_257 (els (13 ∷ 29 ∷ 18 ∷ 40 ∷ 28 ∷ 62 ∷ 38 ∷ 84 ∷ [])) (record { start = 0; height = 4; width = 2 } ∷ []))

-- an honest proof of a claim at the point ((2, 3), (4, 5))
abbrev pub pair_proof : FlatProof Element (Pair Element) ℕ (Unit {0})
pair_proof = record {
  base = els (18 ∷ 40 ∷ 28 ∷ 62 ∷ 18 ∷ 40 ∷ []);
  extension = pairs (156 ∷ 214 ∷ 216 ∷ 102 ∷ 220 ∷ 201 ∷ 166 ∷ 31 ∷ 174 ∷ 256 ∷ 133 ∷ 127 ∷ 18 ∷ 0 ∷ 40 ∷ 0 ∷ 28 ∷ 0 ∷ 62 ∷ 0 ∷ 18 ∷ 0 ∷ 40 ∷ 0 ∷ []);
  commitments = [];
  nodes = [];
  initial_answers = place 0 0;
  initial = sumcheck_places (place 0 1) (place 0 0);
  rounds = [];
  polynomial = Some (place 4 2);
  witness = el 0;
  opening = record { kind = Base; count = 3; rows = place 0 6; paths = place 0 0 };
  final = Some (sumcheck_places (place 2 1) (place 0 0));
}

-- a proof of a claim of this value
abbrev pub pair_given : FlatProof Element (Pair Element) ℕ (Unit {0}) → (a b : ℕ) → Inputs Element (Pair Element) ℕ (Unit {0})
pair_given proof a b = record {
  proof = proof;
  commitment = 0;
  opening_claims = 1;
  coordinates = pairs (2 ∷ 3 ∷ 4 ∷ 5 ∷ []);
  claims = record { point = place 0 2; value = pair (el a) (el b) } ∷ [];
  buffers = buffers_of pair_numbers;
}

-- the honest proof of the true claim, and of a false one; and the same rows as rows of pairs
abbrev pub pair_honest : Inputs Element (Pair Element) ℕ (Unit {0})
pair_honest = pair_given pair_proof 125 66

abbrev pub pair_false_claim : Inputs Element (Pair Element) ℕ (Unit {0})
pair_false_claim = pair_given pair_proof 125 67

abbrev pub pair_other_kind : Inputs Element (Pair Element) ℕ (Unit {0})
pair_other_kind = pair_given (record pair_proof { opening = record { kind = Extension; count = 3; rows = place 6 6; paths = place 0 0 } }) 125 66
