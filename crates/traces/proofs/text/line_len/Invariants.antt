use Rattle.std.proofs.Common.{◌≡◌, ◌*◌, ◌≤◌, length, take}
use Rattle.traces.specs.Tables.{spaced_text}
use Rattle.traces.proofs.text.line_len.Given as goal

abbrev pub invariant-loop-cell : goal.invariant-loop-cell
invariant-loop-cell l = (l.total ≡ length (spaced_text (take l.cell-index l.cells))) × (l.total ≤ 66 * l.cell-index)
