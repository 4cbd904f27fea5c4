-- What a trace holds.
use Rattle.std.specs.Prelude.{ℕ, List, vec_items}
use Rattle.traces.specs.declared.rows.Row.{Row}
use Rattle.traces.specs.declared.trace.Trace.{Trace}

abbrev pub slots_in : Trace → ℕ
slots_in t = t.header.slots

abbrev pub rows_in : Trace → List Row
rows_in t = vec_items t.rows
