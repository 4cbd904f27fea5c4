use Rattle.std.proofs.Common.{take, sym, ◌∙◌}
use Rattle.orders.specs.FlatTables.{flat_due}
use Rattle.orders.proofs.flat.FlatOrderOrder.due.Goals as goal

pub returns : goal.returns
returns c = let o = c.args.self.now in c.any_due.ensures ∙ sym (flat_due (take o.count o.entries))
