-- What is shown of the two base fields, and of the towers over any field. Assumes nothing.
use Rattle.std.specs.Prelude.{◌≡◌}
use Rattle.std.proofs.Common.{lit<}
use Rattle.ring.specs.Ring.{Ops}
use Rattle.field.specs.Laws.{IsField}
use Rattle.field.specs.Tower.{pair, pair_ops}
use Rattle.field.specs.Numbers.{Numbers}
use Rattle.field.specs.Residues.{reduce, ops_257, ops_65537, numbering_257, numbering_65537}
use Rattle.field.specs.Extension.{Extends, itself, doubled}

-- the numbers below 257 and those below 65,537, with s = 3 and i = 16 and 256, are fields
pub record BaseFields : Type 0 where
  pub below_257 : IsField ops_257
  pub below_65537 : IsField ops_65537
  pub numbers_257 : Numbers ops_257 numbering_257
  pub numbers_65537 : Numbers ops_65537 numbering_65537

-- over any field one, two and three tower steps are fields, and extend it with 2, 4 and 8 coefficients
pub record Towers {A : Type 0} (o : Ops A) : Type 0 where
  pub one_step : IsField (pair_ops o)
  pub two_steps : IsField (pair_ops (pair_ops o))
  pub three_steps : IsField (pair_ops (pair_ops (pair_ops o)))
  pub degree_1 : Extends o o (itself o)
  pub degree_2 : Extends o (pair_ops o) (doubled o (itself o))
  pub degree_4 : Extends o (pair_ops (pair_ops o)) (doubled (pair_ops o) (doubled o (itself o)))
  pub degree_8 : Extends o (pair_ops (pair_ops (pair_ops o))) (doubled (pair_ops (pair_ops o)) (doubled (pair_ops o) (doubled o (itself o))))

-- over 257, (1, 1)² = (4, 2)
abbrev pub SquareOfOneOne : Type 0
SquareOfOneOne = let r = reduce 257 (lit< tt) in (pair_ops ops_257).mul (pair (r 1) (r 1)) (pair (r 1) (r 1)) ≡ pair (r 4) (r 2)
