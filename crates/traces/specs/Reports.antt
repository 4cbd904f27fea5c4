-- What is printed: a report, or a fault.
use Rattle.std.specs.Prelude.{◌≡◌, ℕ, ◌<◌, List, [], ◌∷◌, ◌++◌, map, length, vec_items, codes}
use Rattle.traces.specs.declared.faults.Fault.{Fault}
use Rattle.traces.specs.declared.outcomes.Counts.{Counts}
use Rattle.traces.specs.declared.outcomes.Eviction.{Eviction}
use Rattle.traces.specs.declared.report.Report.{Report}
use Rattle.traces.specs.declared.text.Cell.{Cell}
use Rattle.traces.specs.declared.text.Cell.TheVariants.{Decimal, Hexadecimal, Name}
use Rattle.traces.specs.Faults.{number_of, layer_of, room_fault}
use Rattle.traces.specs.Tables.{numeral_of, layer_name, table_text, placed}

-- the counts of a run
abbrev pub count_names : List (List ℕ)
count_names = codes "slots" ∷ codes "rows" ∷ codes "hits" ∷ codes "evictions" ∷ codes "paid" ∷ []

abbrev pub count_values : ℕ → Counts → List (List ℕ)
count_values slots n = numeral_of 10 slots ∷ numeral_of 10 n.rows ∷ numeral_of 10 n.hits ∷ numeral_of 10 n.evictions ∷ numeral_of 10 n.paid ∷ []

-- the same as cells
abbrev pub counts_cells : ℕ → Counts → List Cell
counts_cells slots n = Decimal slots ∷ Decimal n.rows ∷ Decimal n.hits ∷ Decimal n.evictions ∷ Decimal n.paid ∷ []

-- a row that made a region leave, and its key
abbrev pub eviction_names : List (List ℕ)
eviction_names = codes "row" ∷ codes "evicted" ∷ []

abbrev pub eviction_values : Eviction → List (List ℕ)
eviction_values e = numeral_of 10 e.row ∷ numeral_of 16 e.key.number ∷ []

-- the same as cells
abbrev pub eviction_cells : Eviction → List Cell
eviction_cells e = Decimal e.row ∷ Hexadecimal e.key.number ∷ []

-- the two tables of a report
unfoldable pub run_text : ℕ → Counts → List Eviction → List ℕ
run_text slots n left = table_text count_names (count_values slots n ∷ []) ++ table_text eviction_names (map eviction_values left)

abbrev pub report_text : Report → List ℕ
report_text r = run_text r.slots r.counts (vec_items r.evicted)

-- the table of a fault
abbrev pub fault_names : List (List ℕ)
fault_names = codes "fault" ∷ codes "line" ∷ codes "column" ∷ codes "layer" ∷ []

abbrev pub fault_values : Fault → List (List ℕ)
fault_values f = numeral_of 10 (number_of f.kind) ∷ numeral_of 10 f.line ∷ numeral_of 10 f.column ∷ layer_name (layer_of f.kind) ∷ []

-- the same as cells
abbrev pub fault_cells : Fault → List Cell
fault_cells f = Decimal (number_of f.kind) ∷ Decimal f.line ∷ Decimal f.column ∷ Name (layer_of f.kind) ∷ []

unfoldable pub fault_text : Fault → List ℕ
fault_text f = table_text fault_names (fault_values f ∷ [])

-- a text is written at the front of a buffer, which else is as it was
pub record Printed (written before after : List ℕ) (n : ℕ) : Type 0 where
  pub count : n ≡ length written
  pub bytes : after ≡ placed 0 written before

-- there is too little room, and nothing is written
pub record Cramped (written before after : List ℕ) (f : Fault) : Type 0 where
  pub room : length before < length written
  pub told : f ≡ room_fault
  pub same : after ≡ before
