-- When the parts of a proof stand within its lists. Assumes nothing.
use Rattle.std.specs.Prelude.{◌≡◌, ℕ, ◌+◌, ◌*◌, Bool, true, false, ◌&&◌, length, Some, None, Ok, Err, Option, Result, nat_le, nat_lt}
use Rattle.std.specs.List.{list_all}
use Rattle.proof.specs.declared.Limit.{Limit}
use Rattle.proof.specs.declared.Place.{Place}
use Rattle.proof.specs.declared.whir_proof.SumcheckData.{SumcheckData}
use Rattle.proof.specs.declared.whir_proof.RowKind.{RowKind}
use Rattle.proof.specs.declared.whir_proof.RowKind.TheVariants.{Base, Extension}
use Rattle.proof.specs.declared.whir_proof.QueryOpenings.{QueryOpenings}
use Rattle.proof.specs.declared.whir_proof.WhirRoundProof.{WhirRoundProof}
use Rattle.proof.specs.declared.whir_proof.ProofLists.{ProofLists}
use Rattle.proof.specs.declared.whir_proof.ProofParts.{ProofParts}
use Rattle.proof.specs.declared.whir_proof.WhirProof.{WhirProof}

-- So many items of a size, from the start on, end within a list of that many elements.
abbrev pub fits : (size elements : ℕ) → Place → Bool
fits size elements p = nat_le (p.start + p.length * size) elements

-- What is absent passes no list.
abbrev pub if_there : {X : Type 0} → (X → Bool) → Option X → Bool
if_there test None = true
if_there test (Some x) = test x

-- messages are pairs
abbrev pub sumcheck_within : (base extension : ℕ) → SumcheckData → Bool
sumcheck_within base extension s = fits 2 extension s.polynomial_evaluations && fits 1 base s.pow_witnesses

-- how many elements the list has that rows of a kind stand in
abbrev pub elements_for : (base extension : ℕ) → RowKind → ℕ
elements_for base extension Base = base
elements_for base extension Extension = extension

abbrev pub openings_within : (base extension nodes : ℕ) → QueryOpenings → Bool
openings_within base extension nodes o = fits 1 (elements_for base extension o.kind) o.rows && fits 1 nodes o.paths

module _ {F E C N : Type 0} (l : ProofLists F E C N) where
  abbrev pub round_within : WhirRoundProof F → Bool
  round_within r =
      let base = length l.base.now in
      let extension = length l.extension.now in
      if_there (λ c. nat_lt c (length l.commitments.now)) r.commitment
      && (fits 1 extension r.ood_answers && (openings_within base extension (length l.nodes.now) r.openings && sumcheck_within base extension r.sumcheck))

  -- The parts up to the last round stand within their lists; those of the final phase do; every part does.
  abbrev pub rounds_within : ProofParts F → Bool
  rounds_within p =
      let base = length l.base.now in
      let extension = length l.extension.now in
      fits 1 extension p.initial_ood_answers && (sumcheck_within base extension p.initial_sumcheck && list_all round_within p.rounds.now)

  abbrev pub final_within : ProofParts F → Bool
  final_within p =
      let base = length l.base.now in
      let extension = length l.extension.now in
      if_there (fits 1 extension) p.final_poly
      && (openings_within base extension (length l.nodes.now) p.final_openings && if_there (sumcheck_within base extension) p.final_sumcheck)

  abbrev pub within : ProofParts F → Bool
  within p = rounds_within p && final_within p

  -- A proof is made exactly of parts that stand within their lists, and has these lists and parts.
  abbrev pub Made : ProofParts F → Result (WhirProof F E C N) Limit → Type 0
  Made p (Ok q) = (within p ≡ true) × (q.lists ≡ l) × (q.parts ≡ p)
  Made p (Err e) = within p ≡ false
