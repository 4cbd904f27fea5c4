use Rattle.directories.specs.Tables.{Wiped}
use Rattle.directories.proofs.cells.clear.Given as goal

abbrev pub invariant-loop-slot : goal.invariant-loop-slot
invariant-loop-slot g l = Wiped l.size l.slot l.cell-items
