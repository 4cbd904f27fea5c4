use Rattle.std.proofs.Common.{◌≡◌, ◌*◌, ◌≤◌, length, take}
use Rattle.traces.specs.Tables.{lines_text}
use Rattle.traces.proofs.text.rows_len.Given as goal

abbrev pub invariant-loop-row : goal.invariant-loop-row
invariant-loop-row g l = (l.total ≡ length (lines_text g.R.TableRow.cells_of (take l.row-index l.rows))) × (l.total ≤ 132 * l.row-index)
