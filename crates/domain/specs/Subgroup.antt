-- The subgroup domain: index by index the powers of an element whose order is the size.
use Rattle.std.specs.Prelude.{◌≡◌, ℕ, ◌-◌, ◌^◌, ◌<◌, ◌≤◌, true, false, []}
use Rattle.ring.specs.Ring.{Ops}
use Rattle.field.specs.Numbers.{Numbering}
use Rattle.multilinear.specs.Univariate.{pow, expand}
use Rattle.domain.specs.declared.query.WhirQueryPoint.TheVariants.{Univariate}
use Rattle.domain.specs.Domains.{Domain}

module _ {A : Type 0} (F : Ops A) (n : Numbering A) (c : ℕ) where
  -- 3 has order 2^c: its power 2^c is one, and its power 2^(c−1) is not
  pub record TwoAdic : Type 0 where
    pub positive : 0 < c
    pub small : c ≤ 16
    pub whole : pow F (n.residue 3) (2 ^ c) ≡ F.one
    pub half : pow F (n.residue 3) (2 ^ (c - 1)) ≡ F.one → ⊥

  -- the generator of a log size, 3^(2^(c−log))
  abbrev pub generator : ℕ → A
  generator log = pow F (n.residue 3) (2 ^ (c - log))

  -- no id, no strata, every soundness; an index stands for that power of the generator
  abbrev pub subgroup : Domain A
  subgroup = record {
    capacity = c;
    id = [];
    strata = false;
    supports = λ _. true;
    point = λ log m index. expand F (pow F (generator log) index) m;
    answer = λ log m index. Univariate (pow F (generator log) index);
  }
