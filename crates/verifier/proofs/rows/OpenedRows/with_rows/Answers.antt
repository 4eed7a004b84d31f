use Rattle.std.proofs.Common.{◌^◌, length, sym, refl, ap, ◌∙◌, arith}
use Rattle.verifier.specs.Powers.{with_all}
use Rattle.verifier.specs.Rows.{rows_of, elements}
use Rattle.verifier.proofs.RowValues.{rest_begins, rows_next, rows_end, row_there}
use Rattle.verifier.proofs.rows.OpenedRows.with_rows.Goals as goal

pub loop-row-init : goal.loop-row-init
loop-row-init g c = record {
  values = ap (with_all g.E.Field.ops c.args.powers) (rest_begins g.E.Field.ops (2 ^ length c.args.point.now) c.args.point.now (elements g.E.ExtensionField.extension (rows_of c.args.self.now)) c.args.count);
  long = refl;
}

pub loop-row-preserved : goal.loop-row-preserved
loop-row-preserved g c = record {
  values = rows_next g.E.Field.ops (2 ^ length c.args.point.now) c.args.point.now (elements g.E.ExtensionField.extension (rows_of c.args.self.now)) c.loop-row.powers c.with-powers.result c.args.count c.loop-row.row
      c.row_value.result c.loop-row-test.true c.row_value.ensures.value c.with-powers.ensures
      ∙ c.loop-row.invariant.values;
  long = c.row_value.ensures.long ∙ c.loop-row.invariant.long;
}

pub row_value-requires : goal.row_value-requires
row_value-requires g c = record {
  room = omega (arith, c.requires.room, c.loop-row.invariant.long);
  there = row_there c.args.count (2 ^ length c.args.point.now) c.loop-row.row (elements g.E.ExtensionField.extension (rows_of c.args.self.now)) c.requires.there c.loop-row-test.true;
}

pub returns : goal.returns
returns g c = record {
  values = sym (rows_end g.E.Field.ops (2 ^ length c.args.point.now) c.args.point.now (elements g.E.ExtensionField.extension (rows_of c.args.self.now)) c.loop-row.powers c.args.count c.loop-row.row c.loop-row-test.false)
      ∙ c.loop-row.invariant.values;
  long = c.loop-row.invariant.long;
}
