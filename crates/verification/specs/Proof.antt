-- A proof and claims as they are handed over, flat lists with places; and what stands at the places. Assumes nothing.
use Rattle.std.specs.Prelude.{ℕ, ◌*◌, List, map, take, drop, slice_get, option_map, option_and_then, Option}
use Rattle.proof.specs.declared.Place.{Place}
use Rattle.proof.specs.declared.whir_proof.SumcheckData.{SumcheckData}
use Rattle.proof.specs.declared.whir_proof.RowKind.{RowKind}
use Rattle.proof.specs.declared.whir_proof.RowKind.TheVariants.{Base, Extension}
use Rattle.proof.specs.declared.whir_proof.QueryOpenings.{QueryOpenings}
use Rattle.proof.specs.declared.whir_proof.WhirRoundProof.{WhirRoundProof}
use Rattle.sumcheck.specs.Rounds.{Sent, messages_of}

-- What stands at a place, of so many items of a size; past the list's end that is less, or nothing.
abbrev pub part_of : {X : Type 0} → ℕ → List X → Place → List X
part_of size l p = take (p.length * size) (drop p.start l)

abbrev pub part : {X : Type 0} → List X → Place → List X
part l p = take p.length (drop p.start l)

-- A proof over the base F and the extension E, with commitments C and path nodes P: its lists, and the places of its parts. A part that is
-- missing is not one that is empty. The answers to the commitment's own out-of-domain samples are held, and not read.
pub record FlatProof (F E C P : Type 0) : Type 0 where
  pub base : List F
  pub extension : List E
  pub commitments : List C
  pub nodes : List P
  pub initial_answers : Place
  pub initial : SumcheckData
  pub rounds : List (WhirRoundProof F)
  pub polynomial : Option Place
  pub witness : F
  pub opening : QueryOpenings
  pub final : Option SumcheckData

-- The same, with what stands at the places. Rows stand one after another.
pub data Rows (F E : Type 0) : Type 0 where
  of_base : List F → Rows F E
  of_extension : List E → Rows F E

pub record Opening (F E P : Type 0) : Type 0 where
  pub count : ℕ
  pub rows : Rows F E
  pub paths : List P

pub record RoundProof (F E C P : Type 0) : Type 0 where
  pub commitment : Option C
  pub answers : List E
  pub witness : F
  pub opening : Opening F E P
  pub sumcheck : Sent F E

pub record Proof (F E C P : Type 0) : Type 0 where
  pub initial : Sent F E
  pub rounds : List (RoundProof F E C P)
  pub polynomial : Option (List E)
  pub witness : F
  pub opening : Opening F E P
  pub final : Option (Sent F E)

module _ {F E C P : Type 0} (p : FlatProof F E C P) where
  -- messages are pairs
  abbrev pub sumcheck_at : SumcheckData → Sent F E
  sumcheck_at s = record { messages = messages_of (part_of 2 p.extension s.polynomial_evaluations); witnesses = part p.base s.pow_witnesses }

  abbrev pub rows_at : RowKind → Place → Rows F E
  rows_at Base q = of_base (part p.base q)
  rows_at Extension q = of_extension (part p.extension q)

  abbrev pub opening_at : QueryOpenings → Opening F E P
  opening_at o = record { count = o.count; rows = rows_at o.kind o.rows; paths = part p.nodes o.paths }

  abbrev pub round_at : WhirRoundProof F → RoundProof F E C P
  round_at r = record {
    commitment = option_and_then (slice_get p.commitments) r.commitment;
    answers = part p.extension r.ood_answers;
    witness = r.pow_witness;
    opening = opening_at r.openings;
    sumcheck = sumcheck_at r.sumcheck;
  }

  abbrev pub proof_of : Proof F E C P
  proof_of = record {
    initial = sumcheck_at p.initial;
    rounds = map round_at p.rounds;
    polynomial = option_map (part p.extension) p.polynomial;
    witness = p.witness;
    opening = opening_at p.opening;
    final = option_map sumcheck_at p.final;
  }
