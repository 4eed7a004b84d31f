-- Both domains keep their distance in every extension. Assumes nothing.
use Rattle.std.proofs.Common.{◌≡◌, ℕ, ◌^◌, ◌<◌, ◌≤◌, List, length, get_or, refl, arith, pow_mono}
use mathlib.Core.Logic.{∥∥₁_elim}
use native.Mathlib.Bridge.{le_prop}
use Rattle.ring.specs.Ring.{Ops, IsRing}
use Rattle.ring.specs.Polynomials.{Distinct}
use Rattle.field.specs.Laws.{IsField}
use Rattle.field.specs.Numbers.{Numbering}
use Rattle.field.specs.Extension.{Extension, Extends}
use Rattle.multilinear.specs.Univariate.{pow}
use Rattle.domain.specs.Domains.{Distance, Lawful}
use Rattle.domain.specs.Subgroup.{TwoAdic, generator, subgroup}
use Rattle.domain.specs.Listed.{listed}
use Rattle.domain.specs.Powers.{length_expand}
use Rattle.domain.proofs.Orders.{generator_apart}
use Rattle.domain.proofs.Lists.{places_apart}
use Rattle.domain.proofs.Distance.{agree_rarely, settled_from}

module _ {A B : Type 0} (F : Ops A) (L : IsRing F) (G : Ops B) (K : IsField G) (x : Extension A B) (H : Extends F G x) where
  module _ (n : Numbering A) (c : ℕ) (two : TwoAdic F n c) where
    subgroup_distance : Distance G x.embed (subgroup F n c)
    subgroup_distance log m fits few = agree_rarely F G K x H (pow F (generator F n c log)) log (generator_apart F L n c two log fits) m

    pub subgroup_lawful : Lawful F G x.embed (subgroup F n c)
    subgroup_lawful = record {
      sized = λ log m index. length_expand F L (pow F (generator F n c log) index) m;
      stands = λ log m index. refl;
      distance = subgroup_distance;
      settled = settled_from G K x.embed (subgroup F n c) subgroup_distance;
    }

  module _ (c : ℕ) (l : List A) (size : length l ≡ 2 ^ c) where
    -- the first 2^log places hold different elements
    first_apart : (log : ℕ) → log ≤ c → Distinct l → (i j : ℕ) → i < 2 ^ log → j < 2 ^ log → get_or l i F.zero ≡ get_or l j F.zero → i ≡ j
    first_apart log fits u i j hi hj e =
        let w : 2 ^ log ≤ 2 ^ c = pow_mono fits in
        places_apart l F.zero u i j (omega arith) (omega arith) e

    listed_distance : ∥ Distinct l ∥₁ → Distance G x.embed (listed F c l)
    listed_distance distinct log m fits few g h lg lh ne is u agree =
        ∥∥₁_elim distinct le_prop (λ p. agree_rarely F G K x H (λ i. get_or l i F.zero) log (first_apart log fits p) m g h lg lh ne is u agree)

    pub listed_lawful : ∥ Distinct l ∥₁ → Lawful F G x.embed (listed F c l)
    listed_lawful distinct = record {
      sized = λ log m index. length_expand F L (get_or l index F.zero) m;
      stands = λ log m index. tt;
      distance = listed_distance distinct;
      settled = settled_from G K x.embed (listed F c l) (listed_distance distinct);
    }
