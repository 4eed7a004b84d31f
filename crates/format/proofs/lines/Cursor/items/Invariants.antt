use Rattle.std.proofs.Common.{vec_items}
use Rattle.format.proofs.Lists.{Leads}
use Rattle.format.proofs.lines.Cursor.items.Given as goal

abbrev pub invariant-loop-index : goal.invariant-loop-index
invariant-loop-index g l = Leads g.T.Item.item l.count l.initial.self.rest.now l.index (vec_items l.items) l.self.rest.now
