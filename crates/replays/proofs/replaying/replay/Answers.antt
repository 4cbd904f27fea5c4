use Rattle.std.proofs.Common.{List, subst}
use Rattle.traces.specs.declared.rows.Row.{Row}
use Rattle.cache.specs.Whole.{state_of, making}
use Rattle.replays.specs.Replayed.{Replays}
use Rattle.replays.proofs.replaying.replay.Goals as goal

pub returns : goal.returns
returns g c =
    subst (λ (rs : List Row). Replays (making g.D.Directory g.O.Order c.args.directory c.args.order c.args.mark c.args.chunk) c.args.slab.now rs c.report_rows-outcome.result
    (state_of c.report_rows-outcome.new.cache) c.report_rows-outcome.new.slab)
    c.rows.ensures.value (c.report_rows-outcome.ensures _ c.new-cache.ensures.made)
