use Rattle.orders.specs.FlatTables.{gap_closed}
use Rattle.orders.proofs.flat.close_gap.Goals as goal

pub returns : goal.returns
returns c = gap_closed c.args.entries.now c.rotate_left.new.self c.args.count c.args.at c.requires.0 c.requires.1 c.rotate_left.ensures.after
