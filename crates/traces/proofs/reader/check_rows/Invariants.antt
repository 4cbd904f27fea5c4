use Rattle.std.proofs.Common.{◌≡◌, List}
use Rattle.traces.specs.declared.rows.Row.{Row}
use Rattle.traces.specs.Cut.{cut}
use Rattle.traces.proofs.Reading.{Sofar}
use Rattle.traces.proofs.reader.check_rows.Given as goal

abbrev pub invariant-loop-row : goal.invariant-loop-row
invariant-loop-row l =
    (goal.iterator-loop-row).can_next l.row-iterator
    × (goal.iterator-loop-row).is_finite l.row-iterator
    × (l.row-iterator.order ≡ l.fn.rows.order)
    × ((rows : List Row) × Sofar l.fn.rows.order (cut l.fn.rows.lines.rest.now) rows l.row-iterator.lines.number (cut l.row-iterator.lines.rest.now))
