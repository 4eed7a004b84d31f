-- The listed domain: a list of distinct elements, of which a log size uses the first.
use Rattle.std.specs.Prelude.{◌≡◌, ℕ, ◌^◌, ◌≤◌, Bool, true, false, List, length, codes, slice_index_or}
use Rattle.ring.specs.Ring.{Ops}
use Rattle.ring.specs.Polynomials.{Distinct}
use Rattle.multilinear.specs.Univariate.{expand}
use Rattle.configuration.specs.declared.whir_parameters.SecurityAssumption.{SecurityAssumption}
use Rattle.configuration.specs.declared.whir_parameters.SecurityAssumption.TheVariants.{UniqueDecoding, JohnsonBound, CapacityBound}
use Rattle.domain.specs.declared.query.WhirQueryPoint.TheVariants.{Multilinear}
use Rattle.domain.specs.Domains.{Domain}

-- the lists that a domain can be made of: 2^c distinct elements, c at most 12
pub record Listable {A : Type 0} (c : ℕ) (l : List A) : Type 0 where
  pub small : c ≤ 12
  pub size : length l ≡ 2 ^ c
  pub distinct : Distinct l

abbrev pub proven : SecurityAssumption → Bool
proven UniqueDecoding = true
proven JohnsonBound = true
proven CapacityBound = false

-- id `list`, strata, no CapacityBound; an index stands for that element of the list
abbrev pub listed : {A : Type 0} → Ops A → ℕ → List A → Domain A
listed F c l = record {
  capacity = c;
  id = codes "list";
  strata = true;
  supports = proven;
  point = λ log m index. expand F (slice_index_or l index F.zero) m;
  answer = λ log m index. Multilinear;
}
