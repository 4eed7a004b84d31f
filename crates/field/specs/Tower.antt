-- The tower step: pairs (a, b), meaning a + b u with u² = s. Its own s is u, and i is kept. Assumes nothing.
use Rattle.ring.specs.Ring.{Ops}
use Rattle.field.specs.declared.pair.Pair.{Pair}

abbrev pub pair : {A : Type 0} → A → A → Pair A
pair a b = record { a = a; b = b }

abbrev pub pair_ops : {A : Type 0} → Ops A → Ops (Pair A)
pair_ops o = record {
  zero = pair o.zero o.zero;
  one = pair o.one o.zero;
  add = λ x y. pair (o.add x.a y.a) (o.add x.b y.b);
  sub = λ x y. pair (o.sub x.a y.a) (o.sub x.b y.b);
  mul = λ x y.
      pair (o.add (o.mul x.a y.a) (o.mul o.s (o.mul x.b y.b))) (o.add (o.mul x.a y.b) (o.mul x.b y.a));
  s = pair o.zero o.one;
  i = pair o.i o.zero;
}
