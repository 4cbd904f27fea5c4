-- Faults: the number and the layer of each kind, which of two comes first, and what each layer's own fault tells.
use Rattle.std.specs.Prelude.{◌≡◌, ℕ, ◌<◌, ◌≤◌, ◌⊎◌}
use Rattle.promises.specs.declared.answers.Refusal.{Refusal}
use Rattle.promises.specs.Numbers.{number_of as refusal_number}
use Rattle.traces.specs.declared.faults.Fault.{Fault}
use Rattle.traces.specs.declared.faults.FaultKind.{FaultKind}
use Rattle.traces.specs.declared.faults.FaultKind.TheVariants.{Line, Names, Shape, Value, Rows, Cache, Room}
use Rattle.traces.specs.declared.faults.Layer.{Layer}
use Rattle.traces.specs.declared.faults.Layer.TheVariants.{Values, Report, Lines as InLines, Table as InTable, Cache as InCache}
use Rattle.traces.specs.declared.faults.LinesFault.{LinesFault}
use Rattle.traces.specs.declared.faults.TableFault.{TableFault}
use Rattle.traces.specs.declared.faults.TableFault.TheVariants.{Lines, Names as BadNames, Shape as BadShape, Rows as ManyRows}
use Rattle.traces.specs.declared.faults.ValuesFault.{ValuesFault}
use Rattle.traces.specs.declared.faults.ValuesFault.TheVariants.{Table, Value as BadValue}

-- the number by which a kind of fault is told
abbrev pub number_of : FaultKind → ℕ
number_of Line = 9
number_of Names = 10
number_of Shape = 11
number_of Value = 12
number_of Rows = 13
number_of (Cache r) = refusal_number r
number_of Room = 14

-- the layer that finds a kind of fault
abbrev pub layer_of : FaultKind → Layer
layer_of Line = InLines
layer_of Names = InTable
layer_of Shape = InTable
layer_of Value = Values
layer_of Rows = InTable
layer_of (Cache r) = InCache
layer_of Room = Report

-- the place of a kind among those that one line may have: the lower is told
abbrev pub precedence : FaultKind → ℕ
precedence Line = 0
precedence Names = 1
precedence Shape = 2
precedence Value = 3
precedence Rows = 4
precedence (Cache r) = 5
precedence Room = 6

abbrev pub fault_of : FaultKind → ℕ → ℕ → Fault
fault_of k l c = record { kind = k; line = l; column = c }

-- a fault of a whole line stands at its first byte, one of a value at the value's first byte, and want of room nowhere
abbrev pub line_fault : ℕ → Fault
line_fault n = fault_of Line n 1

abbrev pub names_fault : ℕ → Fault
names_fault n = fault_of Names n 1

abbrev pub shape_fault : ℕ → Fault
shape_fault n = fault_of Shape n 1

abbrev pub value_fault : ℕ → ℕ → Fault
value_fault n c = fault_of Value n c

abbrev pub rows_fault : ℕ → Fault
rows_fault n = fault_of Rows n 1

-- a row that the cache refuses
abbrev pub cache_fault : ℕ → Refusal → Fault
cache_fault n r = fault_of (Cache r) n 1

abbrev pub room_fault : Fault
room_fault = fault_of Room 0 0

-- the earliest line, then the kind of lowest precedence, then the leftmost
abbrev pub Before : Fault → Fault → Type 0
Before f g =
    (f.line < g.line)
    ⊎ ((f.line ≡ g.line) × ((precedence f.kind < precedence g.kind) ⊎ ((precedence f.kind ≡ precedence g.kind) × (f.column ≤ g.column))))

-- the least of the faults that P tells
abbrev pub Least : (Fault → Type 0) → Fault → Type 0
Least P f = P f × ((g : Fault) → P g → Before f g)

-- what the faults of the layers tell
abbrev pub of_lines : LinesFault → Fault
of_lines e = line_fault e.line

abbrev pub of_table : TableFault → Fault
of_table (Lines e) = of_lines e
of_table (BadNames n) = names_fault n
of_table (BadShape n) = shape_fault n
of_table (ManyRows n) = rows_fault n

abbrev pub of_values : ValuesFault → Fault
of_values (Table e) = of_table e
of_values (BadValue n c) = value_fault n c
