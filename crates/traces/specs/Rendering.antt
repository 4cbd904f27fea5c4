-- What the writer writes, and what it may write.
use Rattle.std.specs.Prelude.{◌≡◌, ℕ, ◌+◌, ◌^◌, ◌<◌, ◌≤◌, List, [], ◌∷◌, ◌++◌, map, length, codes, slice_index_or}
use Rattle.traces.specs.declared.faults.Fault.{Fault}
use Rattle.std.specs.List.{flat_map}
use Rattle.traces.specs.declared.text.Cell.{Cell}
use Rattle.traces.specs.declared.text.Cell.TheVariants.{Decimal, Hexadecimal}
use Rattle.traces.specs.Tables.{numeral_of, line_text, table_text}
use Rattle.traces.specs.declared.table.ColumnOrder.TheVariants.{KeyCost}
use Rattle.traces.specs.declared.rows.Row.{Row}
use Rattle.traces.specs.Faults.{value_fault, rows_fault}
use Rattle.traces.specs.Layout.{title, names_of, row_of}

-- a row's cells, and its line
abbrev pub row_cells : Row → List Cell
row_cells r = Hexadecimal r.key.number ∷ Decimal r.cost ∷ []

abbrev pub row_values : Row → List (List ℕ)
row_values r = numeral_of 16 r.key.number ∷ numeral_of 10 r.cost ∷ []

unfoldable pub row_text : Row → List ℕ
row_text r = line_text (row_values r)

abbrev pub rows_text : List Row → List ℕ
rows_text rows = flat_map row_text rows

-- the first three lines
unfoldable pub head_text : ℕ → List ℕ
head_text slots = title ++ (10 ∷ (numeral_of 10 slots ++ (10 ∷ (names_of KeyCost ++ (10 ∷ [])))))

-- a trace: the table of the slots, and the table of the rows
unfoldable pub trace_text : ℕ → List Row → List ℕ
trace_text slots rows = table_text (codes "slots" ∷ []) ((numeral_of 10 slots ∷ []) ∷ []) ++ table_text (codes "key" ∷ codes "cost" ∷ []) (map row_values rows)

-- the key and the cost of row k
abbrev pub key_at : List Row → ℕ → ℕ
key_at rows k = (slice_index_or rows k (row_of 0 0)).key.number

abbrev pub cost_at : List Row → ℕ → ℕ
cost_at rows k = (slice_index_or rows k (row_of 0 0)).cost

-- what may be wrong with what is to be written, at the place where it would stand
pub data Unfit (slots : ℕ) (rows : List Row) (f : Fault) : Type 0 where
  many_slots : f ≡ value_fault 2 1 → 1024 < slots → Unfit slots rows f
  no_cost : (k : ℕ) → f ≡ value_fault (k + 4) (length (numeral_of 16 (key_at rows k)) + 2) → k < length rows → cost_at rows k < 1 → Unfit slots rows f
  high_cost : (k : ℕ) → f ≡ value_fault (k + 4) (length (numeral_of 16 (key_at rows k)) + 2) → k < length rows → 65280 < cost_at rows k → Unfit slots rows f
  past_rows : (k : ℕ) → f ≡ rows_fault (k + 4) → k < length rows → 2048 ≤ k → Unfit slots rows f

-- each row has a key of 32 bits and a cost within 1 to 65280
abbrev pub InRange : List Row → Type 0
InRange rows = (k : ℕ) → k < length rows → (key_at rows k < 2 ^ 32) × (1 ≤ cost_at rows k) × (cost_at rows k ≤ 65280)

-- the slots and rows that can be written
pub record Fit (slots : ℕ) (rows : List Row) : Type 0 where
  pub slots_most : slots ≤ 1024
  pub rows_most : length rows ≤ 2048
  pub key_most : (k : ℕ) → k < length rows → key_at rows k < 2 ^ 32
  pub cost_least : (k : ℕ) → k < length rows → 1 ≤ cost_at rows k
  pub cost_most : (k : ℕ) → k < length rows → cost_at rows k ≤ 65280
