use Rattle.std.proofs.Common.{ℕ, ◌^◌, ◌∙◌, map, length, sym, refl}
use Rattle.verifier.specs.Rows.{rows_of, elements}
use Rattle.verifier.proofs.Agreeing.{left_begins, row_agrees, row_differs, none_left}
use Rattle.verifier.proofs.weights.rows_agree.Goals as goal

pub loop-row-init : goal.loop-row-init
loop-row-init g c =
    let a = c.args in
    let X = g.E.ExtensionField.extension in
    let point = λ (p : ℕ). map X.embed ((g.D.WhirDomain.meaning a.domain.now).point a.shape.log a.shape.vars p) in
    record {
      agree = left_begins g.E.Field.ops g.E.PartialEq.eq point a.polynomial.now (2 ^ length a.point.now) a.point.now (elements X (rows_of a.opened.now.rows)) a.positions.now a.opened.now.count;
      long = refl;
    }

pub returns-then-ne-clause-agree : goal.returns-then-ne-clause-agree
returns-then-ne-clause-agree g c =
    let a = c.args in
    let X = g.E.ExtensionField.extension in
    let point = λ (p : ℕ). map X.embed ((g.D.WhirDomain.meaning a.domain.now).point a.shape.log a.shape.vars p) in
    row_differs g.E.Field.ops g.E.PartialEq.eq point a.polynomial.now (2 ^ length a.point.now) a.point.now (elements X (rows_of a.opened.now.rows)) a.positions.now a.opened.now.count c.loop-row.row
    c.row_value-claimed.result c.value.result c.loop-row-test.true c.requires.each c.row_value-claimed.ensures.value c.value.ensures (sym c.if-ne.true ∙ c.ne.ensures)
    ∙ c.loop-row.invariant.agree

pub loop-row-preserved : goal.loop-row-preserved
loop-row-preserved g c =
    let a = c.args in
    let X = g.E.ExtensionField.extension in
    let point = λ (p : ℕ). map X.embed ((g.D.WhirDomain.meaning a.domain.now).point a.shape.log a.shape.vars p) in
    record {
      agree = row_agrees g.E.Field.ops g.E.PartialEq.eq point a.polynomial.now (2 ^ length a.point.now) a.point.now (elements X (rows_of a.opened.now.rows)) a.positions.now a.opened.now.count c.loop-row.row
          c.row_value-claimed.result c.value.result c.loop-row-test.true c.requires.each c.row_value-claimed.ensures.value c.value.ensures (sym c.if-ne.false ∙ c.ne.ensures)
          ∙ c.loop-row.invariant.agree;
      long = c.row_value-claimed.ensures.long ∙ c.loop-row.invariant.long;
    }

pub returns-clause-agree : goal.returns-clause-agree
returns-clause-agree g c =
    let a = c.args in
    let X = g.E.ExtensionField.extension in
    let point = λ (p : ℕ). map X.embed ((g.D.WhirDomain.meaning a.domain.now).point a.shape.log a.shape.vars p) in
    none_left g.E.Field.ops g.E.PartialEq.eq point a.polynomial.now (2 ^ length a.point.now) a.point.now (elements X (rows_of a.opened.now.rows)) a.positions.now a.opened.now.count c.loop-row.row c.loop-row-test.false
    ∙ c.loop-row.invariant.agree
