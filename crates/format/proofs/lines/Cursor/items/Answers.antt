use Rattle.std.proofs.Common.{vec_items}
use Rattle.format.proofs.Lists.{leads_breaks}
use Rattle.format.proofs.lines.Cursor.items.Goals as goal

pub returns-in_err-item : goal.returns-in_err-item
returns-in_err-item g c =
    leads_breaks g.T.Item.item c.args.count c.args.self.now.rest.now c.loop-index.index (vec_items c.loop-index.items) c.loop-index.self.rest.now
    c.loop-index.invariant c.loop-index-test.true c.in_err-item.ensures c.from_residual.ensures.1
