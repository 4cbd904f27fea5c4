use Rattle.std.proofs.Common.{◌≡◌, vec_items}
use Rattle.traces.specs.Cut.{cut}
use Rattle.traces.proofs.Reading.{Sofar}
use Rattle.traces.proofs.reader.keep_rows.Given as goal

abbrev pub invariant-loop-row : goal.invariant-loop-row
invariant-loop-row l =
    (goal.iterator-loop-row).can_next l.row-iterator
    × (goal.iterator-loop-row).is_finite l.row-iterator
    × (l.row-iterator.order ≡ l.fn.rows.order)
    × Sofar l.fn.rows.order (cut l.fn.rows.lines.rest.now) (vec_items l.kept) l.row-iterator.lines.number (cut l.row-iterator.lines.rest.now)
