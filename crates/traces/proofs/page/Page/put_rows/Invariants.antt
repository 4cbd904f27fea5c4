use Rattle.std.proofs.Common.{take}
use Rattle.traces.specs.Pages.{Wrote}
use Rattle.traces.specs.Tables.{lines_text}
use Rattle.traces.proofs.page.Page.put_rows.Given as goal

abbrev pub invariant-loop-row : goal.invariant-loop-row
invariant-loop-row g l = Wrote (lines_text g.R.TableRow.cells_of (take l.row-index l.rows)) l.initial.self l.self
