use Rattle.std.proofs.Common.{subst}
use Rattle.traces.specs.Cut.{cut}
use Rattle.traces.specs.Layout.{First, Titles}
use Rattle.traces.proofs.reader.head.Goals as goal

pub returns : goal.returns
returns c =
    ((_, _, subst (λ bs. First Titles (cut bs) (cut c.title_line.new.lines.rest.now)) c.new-lines.ensures.all c.in_ok-title_line.ensures.0, c.in_ok-header.ensures.0, c.in_ok-order.ensures.0), c.in_ok-order.ensures.1)
