-- One, two and three tower steps over any field. Assumes nothing.
use Rattle.std.proofs.Common.{refl, inl, inr, lit<}
use Rattle.ring.specs.Ring.{Ops}
use Rattle.field.specs.Laws.{IsField}
use Rattle.field.specs.Theorems.{Towers}
use Rattle.field.specs.Extension.{Extends, Sized, itself, doubled}
use Rattle.field.specs.Tower.{pair_ops}
use Rattle.field.specs.Pairs.{pair_field}
use Rattle.field.specs.Extensions.{itself_extends, doubled_extends}

-- each of the four degrees is one of the degrees that there are
pub sized_1 : Sized 1
sized_1 = inl refl

pub sized_2 : Sized 2
sized_2 = inr (inl refl)

pub sized_4 : Sized 4
sized_4 = inr (inr (inl refl))

pub sized_8 : Sized 8
sized_8 = inr (inr (inr refl))

module _ {A : Type 0} {o : Ops A} (F : IsField o) where
  pub over_itself : Extends o o (itself o)
  over_itself = itself_extends

  pub one_step : Extends o (pair_ops o) (doubled o (itself o))
  one_step = doubled_extends F.ring over_itself (lit< tt)

  pub two_steps : Extends o (pair_ops (pair_ops o)) (doubled (pair_ops o) (doubled o (itself o)))
  two_steps = doubled_extends (pair_field F).ring one_step (lit< tt)

  pub three_steps : Extends o (pair_ops (pair_ops (pair_ops o))) (doubled (pair_ops (pair_ops o)) (doubled (pair_ops o) (doubled o (itself o))))
  three_steps = doubled_extends (pair_field (pair_field F)).ring two_steps (lit< tt)

  pub towers : Towers o
  towers = record {
    one_step = pair_field F;
    two_steps = pair_field (pair_field F);
    three_steps = pair_field (pair_field (pair_field F));
    degree_1 = over_itself;
    degree_2 = one_step;
    degree_4 = two_steps;
    degree_8 = three_steps;
  }
