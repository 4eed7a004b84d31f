-- The factor of a weight, by the weight's name, and a table under a weight.
use Rattle.std.specs.Prelude.{List, length}
use Rattle.ring.specs.Ring.{Ops}
use Rattle.multilinear.specs.declared.weight.Weight.{Weight}
use Rattle.multilinear.specs.declared.weight.Weight.TheVariants.{Eq, Select}
use Rattle.multilinear.specs.Tables.{product, eq_factor, select_factor, dot, tabulate}

abbrev pub factor_of : {E : Type 0} → Ops E → Weight → E → E → E
factor_of F Eq = eq_factor F
factor_of F Select = select_factor F

-- the sum over the corners x of a product of factors of p and x times g(x): the value at p for eq, the value at p's position for select
unfoldable pub weighted : {E : Type 0} → Ops E → (E → E → E) → List E → List E → E
weighted F f g p = dot F (tabulate F (length p) (product F f p)) g
