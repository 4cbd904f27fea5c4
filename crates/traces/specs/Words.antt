-- The layout of a trace as bytes, in words, and the laws of the reader and the writer.
use Rattle.std.specs.Prelude.{◌≡◌, ℕ, ◌<◌, ◌≤◌, ◌⊎◌, List, [], ◌∷◌, ◌++◌, length, take, Some}
use Rattle.std.specs.List.{flat_map}
use Rattle.traces.specs.declared.values.Column.TheVariants.{Slots}
use Rattle.traces.specs.declared.table.ColumnOrder.{ColumnOrder}
use Rattle.traces.specs.declared.table.ColumnOrder.TheVariants.{KeyCost, CostKey}
use Rattle.traces.specs.declared.faults.Fault.{Fault}
use Rattle.traces.specs.declared.faults.TraceError.{TraceError}
use Rattle.traces.specs.declared.faults.TraceError.TheVariants.{Found, Memory}
use Rattle.traces.specs.declared.rows.Row.{Row}
use Rattle.traces.specs.Faults.{room_fault, Least}
use Rattle.traces.specs.Forms.{reading}
use Rattle.traces.specs.Layout.{title, names_of, first_of, second_of, Faulty, Keeps}
use Rattle.traces.specs.Tables.{placed}
use Rattle.traces.specs.Rendering.{Unfit, Fit, trace_text}

-- the two values of a row, as text
pub record Pair : Type 0 where
  pub fore : List ℕ
  pub aft : List ℕ

-- the line of a row: two values with one space between
abbrev pub pair_text : Pair → List ℕ
pair_text t = t.fore ++ (32 ∷ (t.aft ++ (10 ∷ [])))

-- the values of a row, in the order of the names
abbrev pub first_in : ColumnOrder → Row → ℕ
first_in KeyCost r = r.key.number
first_in CostKey r = r.cost

abbrev pub second_in : ColumnOrder → Row → ℕ
second_in KeyCost r = r.cost
second_in CostKey r = r.key.number

-- texts read as the rows
abbrev pub AreRows : ColumnOrder → List Pair → List Row → Type 0
AreRows o [] [] = Unit {0}
AreRows o [] (r ∷ rs) = ⊥
AreRows o (t ∷ ts) [] = ⊥
AreRows o (t ∷ ts) (r ∷ rs) =
    ((reading (first_of o) t.fore ≡ Some (first_in o r)) × (reading (second_of o) t.aft ≡ Some (second_in o r))) × AreRows o ts rs

-- a text says a trace: the line `slots`, a line with one value, the line of names, and at most 2048 lines of rows
pub record Says (bs : List ℕ) (slots : ℕ) (rows : List Row) : Type 0 where
  pub order : ColumnOrder
  pub digits : List ℕ
  pub texts : List Pair
  pub is : bs ≡ title ++ (10 ∷ (digits ++ (10 ∷ (names_of order ++ (10 ∷ flat_map pair_text texts)))))
  pub slots_are : reading Slots digits ≡ Some slots
  pub rows_are : AreRows order texts rows
  pub few : length rows ≤ 2048

-- a text says some trace
abbrev pub Said : List ℕ → Type 0
Said bs = (slots : ℕ) × (rows : List Row) × Says bs slots rows

-- why a text is not read: its least fault, or want of memory for a trace that it does say
abbrev pub ReadFails : List ℕ → TraceError → Type 0
ReadFails bs (Found f) = Least (Faulty bs) f
ReadFails bs Memory = Said bs

-- what is said so is what is kept line by line
abbrev pub SaidIsKept : Type 0
SaidIsKept = (bs : List ℕ) (slots : ℕ) (rows : List Row) → Says bs slots rows → Keeps bs slots rows

abbrev pub KeptIsSaid : Type 0
KeptIsSaid = (bs : List ℕ) (slots : ℕ) (rows : List Row) → Keeps bs slots rows → Says bs slots rows

-- what says a trace has no fault
abbrev pub SaidIsSound : Type 0
SaidIsSound = (bs : List ℕ) (slots : ℕ) (rows : List Row) → Says bs slots rows → (f : Fault) → Faulty bs f → ⊥

-- a text says one trace at most
abbrev pub SaidOnce : Type 0
SaidOnce = (bs : List ℕ) (s t : ℕ) (rows others : List Row) → Says bs s rows → Says bs t others → (s ≡ t) × (rows ≡ others)

-- a text says a trace, or has a least fault
abbrev pub SaidOrFaulty : Type 0
SaidOrFaulty = (bs : List ℕ) → Said bs ⊎ ((f : Fault) × Least (Faulty bs) f)

-- what is written reads back as the same slots and rows
abbrev pub ReadsBack : Type 0
ReadsBack = (slots : ℕ) (rows : List Row) → Fit slots rows → Says (trace_text slots rows) slots rows

-- a trace is written at the front of a buffer, which else is as it was, and reads back
pub record Written (slots : ℕ) (rows : List Row) (before after : List ℕ) (n : ℕ) : Type 0 where
  pub fit : Fit slots rows
  pub count : n ≡ length (trace_text slots rows)
  pub bytes : after ≡ placed 0 (trace_text slots rows) before
  pub back : Says (take n after) slots rows

-- nothing is written: the least that is unfit, or else that there is too little room
abbrev pub Declined : ℕ → List Row → List ℕ → List ℕ → Fault → Type 0
Declined slots rows before after f = (Least (Unfit slots rows) f ⊎ (Fit slots rows × (length before < length (trace_text slots rows)) × (f ≡ room_fault))) × (after ≡ before)
