use Rattle.std.proofs.Common.{◌≡◌, ◌+◌, ◌*◌, ◌≤◌, [], length, vec_items, vec_len, vec_capacity}
use Rattle.forecasts.specs.Table.{rows_from}
use Rattle.forecasts.proofs.table.read_lines.Given as goal

abbrev pub invariant-loop-end : goal.invariant-loop-end
invariant-loop-end l =
    (rows_from [] [] l.text ≡ rows_from (vec_items l.rows) [] l.rest)
    × (4 * vec_len l.rows + length l.rest ≤ length l.text)
    × (vec_capacity l.rows ≡ vec_capacity l.initial.rows)

abbrev pub decreases-loop-end : goal.decreases-loop-end
decreases-loop-end l = length l.rest
