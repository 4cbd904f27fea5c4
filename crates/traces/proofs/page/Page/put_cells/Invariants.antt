use Rattle.std.proofs.Common.{take}
use Rattle.traces.specs.Pages.{Wrote}
use Rattle.traces.specs.Tables.{spaced_text}
use Rattle.traces.proofs.page.Page.put_cells.Given as goal

abbrev pub invariant-loop-cell : goal.invariant-loop-cell
invariant-loop-cell l = Wrote (spaced_text (take l.cell-index l.rest)) l.initial.self l.self
