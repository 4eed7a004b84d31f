use Rattle.std.proofs.Common.{◌≡◌, ℕ, ◌≤◌, List, [], ◌∷◌, ◌++◌, length, take, sym, ap, ◌∙◌, subst, append_assoc, append-nil, arith}
use Rattle.std.proofs.lemmas.List.{take_all}
use Rattle.field.specs.Extension.{Extension}
use Rattle.commit.specs.Spread.{spread}
use Rattle.commit.specs.SpreadLaws.{spread_append}
use Rattle.commit.proofs.view.SpreadingSink.put.Goals as goal

-- one element more
all : {X Y : Type 0} (x : Extension X Y) (xs : List X) (ys : List Y) (y : Y) (j : ℕ) → length (x.coefficients y) ≤ j → (xs ++ spread x ys) ++ take j (x.coefficients y) ≡ xs ++ spread x (ys ++ (y ∷ []))
all x xs ys y j h =
    append_assoc xs (spread x ys) (take j (x.coefficients y))
    ∙ ap (λ l. xs ++ l) (ap (λ l. spread x ys ++ l) (take_all j (x.coefficients y) h ∙ sym (append-nil (x.coefficients y))) ∙ sym (spread_append x ys (y ∷ [])))

pub returns : goal.returns
returns g c = λ s ys h k xs e.
    let x = g.E.ExtensionField.extension in
    let n = g.met.E.ExtensionField.extends.count c.args.element in
    let le : length (x.coefficients c.args.element) ≤ c.loop-j.j = omega (arith, c.loop-j-test.false, c.degree-j-end.ensures) in
    subst (λ (l : List g.row.F.Denot). g.K.Sink.fed k l c.loop-j.self.sink) (all x xs ys c.args.element c.loop-j.j le)
    (c.loop-j.invariant k _ (h k xs e))
