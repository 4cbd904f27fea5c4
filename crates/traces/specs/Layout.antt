-- The layout of a trace: what each line is to be, and what may be wrong with it.
use Rattle.std.specs.Prelude.{◌≡◌, ℕ, suc, ◌+◌, ◌<◌, ◌≤◌, true, cond, ◌⊎◌, List, [], ◌∷◌, length, take, drop, codes, Some, None, Ok, Err, Option, Result, ◌≢◌}
use Rattle.std.specs.Str.Parse.{digits_value}
use Rattle.std.specs.Str.{bytes_eq}
use Rattle.traces.specs.declared.values.Column.{Column}
use Rattle.traces.specs.declared.values.Column.TheVariants.{Slots, Key, Cost}
use Rattle.traces.specs.declared.table.ColumnOrder.{ColumnOrder}
use Rattle.traces.specs.declared.table.ColumnOrder.TheVariants.{KeyCost, CostKey}
use Rattle.traces.specs.declared.faults.Fault.{Fault}
use Rattle.traces.specs.declared.faults.TraceError.{TraceError}
use Rattle.traces.specs.declared.faults.ValuesFault.{ValuesFault}
use Rattle.traces.specs.declared.faults.TraceError.TheVariants.{Found, Memory}
use Rattle.traces.specs.declared.rows.Row.{Row}
use Rattle.traces.specs.Faults.{line_fault, names_fault, shape_fault, value_fault, rows_fault, Least, of_values}
use Rattle.traces.specs.Cut.{Line, line_of, Sound, upto, cut}
use Rattle.traces.specs.Forms.{Fits, radix_of}

abbrev pub row_of : ℕ → ℕ → Row
row_of k c = record { key = record { number = k }; cost = c }

-- the names of the tables
abbrev pub title : List ℕ
title = codes "slots"

abbrev pub names_of : ColumnOrder → List ℕ
names_of KeyCost = codes "key cost"
names_of CostKey = codes "cost key"

abbrev pub first_of : ColumnOrder → Column
first_of KeyCost = Key
first_of CostKey = Cost

abbrev pub second_of : ColumnOrder → Column
second_of KeyCost = Cost
second_of CostKey = Key

abbrev pub row_by : ColumnOrder → ℕ → ℕ → Row
row_by KeyCost a b = row_of a b
row_by CostKey a b = row_of b a

-- one value: not empty, and with no space
abbrev pub One : List ℕ → Type 0
One b = (0 < length b) × (upto 32 b ≡ length b)

-- what stands before the first space, and after it
abbrev pub left : List ℕ → List ℕ
left b = take (upto 32 b) b

abbrev pub right : List ℕ → List ℕ
right b = drop (suc (upto 32 b)) b

-- two values with one space between
abbrev pub Two : List ℕ → Type 0
Two b = One (left b) × One (right b)

-- a and c are the two values of b
abbrev pub Parts : List ℕ → List ℕ → List ℕ → Type 0
Parts b a c = Two b × (a ≡ left b) × (c ≡ right b) × (length a ≤ length b)

-- what may be wrong with line n, where rows are in the order o
pub data Ails (o : ColumnOrder) (n : ℕ) (l : Line) (f : Fault) : Type 0 where
  unsound : f ≡ line_fault n → (Sound l → ⊥) → Ails o n l f
  untitled : f ≡ names_fault n → n ≡ 1 → (l.body ≢ title) → Ails o n l f
  unnamed : f ≡ names_fault n → n ≡ 3 → ((p : ColumnOrder) → l.body ≢ names_of p) → Ails o n l f
  not_one : f ≡ shape_fault n → n ≡ 2 → (One l.body → ⊥) → Ails o n l f
  not_two : f ≡ shape_fault n → 3 < n → (Two l.body → ⊥) → Ails o n l f
  bad_slots : f ≡ value_fault n 1 → n ≡ 2 → (Fits Slots l.body → ⊥) → Ails o n l f
  bad_first : f ≡ value_fault n 1 → 3 < n → (Fits (first_of o) (left l.body) → ⊥) → Ails o n l f
  bad_second : f ≡ value_fault n (length (left l.body) + 2) → 3 < n → (Fits (second_of o) (right l.body) → ⊥) → Ails o n l f
  past : f ≡ rows_fault n → 2051 < n → Ails o n l f

-- the faults of the lines from n on: those of each line, and each of the first three that is missing
abbrev pub Wrong : ColumnOrder → ℕ → List Line → Fault → Type 0
Wrong o n [] f = (n ≤ f.line) × (f.line ≤ 3) × (f ≡ line_fault f.line)
Wrong o n (l ∷ ls) f = Ails o n l f ⊎ Wrong o (n + 1) ls f

-- line n is a row
pub record Holds (o : ColumnOrder) (n : ℕ) (l : Line) (r : Row) : Type 0 where
  pub sound : Sound l
  pub two : Two l.body
  pub fits_first : Fits (first_of o) (left l.body)
  pub fits_second : Fits (second_of o) (right l.body)
  pub is : r ≡ row_by o (digits_value (radix_of (first_of o)) (left l.body)) (digits_value (radix_of (second_of o)) (right l.body))
  pub room : n ≤ 2051

-- the first of the lines is a row, and those after it are left
abbrev pub Next : ColumnOrder → ℕ → List Line → List Line → Row → Type 0
Next o n ls after r = (l : Line) × (ls ≡ l ∷ after) × Holds o n l r

-- the lines from n on are the rows
abbrev pub Rows : ColumnOrder → ℕ → List Line → List Row → Type 0
Rows o n [] [] = Unit {0}
Rows o n [] (r ∷ rs) = ⊥
Rows o n (l ∷ ls) [] = ⊥
Rows o n (l ∷ ls) (r ∷ rs) = Holds o n l r × Rows o (n + 1) ls rs

-- the first three lines
pub record Titles (l : Line) : Type 0 where
  pub sound : Sound l
  pub is : l.body ≡ title

pub record GivesSlots (l : Line) (slots : ℕ) : Type 0 where
  pub sound : Sound l
  pub one : One l.body
  pub fits : Fits Slots l.body
  pub is : slots ≡ digits_value 10 l.body

pub record Names (l : Line) (o : ColumnOrder) : Type 0 where
  pub sound : Sound l
  pub is : l.body ≡ names_of o

-- the order that line 3 gives; where it gives none, that line is at fault, and which is taken does not matter
abbrev pub order_named : List ℕ → ColumnOrder
order_named b = cond (bytes_eq b (names_of CostKey)) CostKey KeyCost

abbrev pub order_among : List Line → ColumnOrder
order_among [] = KeyCost
order_among (a ∷ []) = KeyCost
order_among (a ∷ b ∷ []) = KeyCost
order_among (a ∷ b ∷ c ∷ ls) = order_named c.body

-- the faults of a text
abbrev pub Faulty : List ℕ → Fault → Type 0
Faulty bs f = Wrong (order_among (cut bs)) 1 (cut bs) f

-- what a text keeps, line by line
pub record Keeps (bs : List ℕ) (slots : ℕ) (rows : List Row) : Type 0 where
  pub order : ColumnOrder
  pub one : Line
  pub two : Line
  pub three : Line
  pub rest : List Line
  pub lines : cut bs ≡ one ∷ two ∷ three ∷ rest
  pub titles : Titles one
  pub counts : GivesSlots two slots
  pub names : Names three order
  pub holds : Rows order 4 rest rows

-- the first of the lines, and those after it
abbrev pub First : (Line → Type 0) → List Line → List Line → Type 0
First P ls after = (l : Line) × (ls ≡ l ∷ after) × P l

-- the least fault of a text whose first line is line n
abbrev pub LeastFrom : ColumnOrder → ℕ → List ℕ → Fault → Type 0
LeastFrom o n bs f = Least (Wrong o n (cut bs)) f

-- the same of one of the first three lines, which does not depend on the order of the names
abbrev pub LeastAny : ℕ → List ℕ → Fault → Type 0
LeastAny n bs f = (o : ColumnOrder) → LeastFrom o n bs f

-- the first line of bs is as P says, and the rest comes after it
abbrev pub Leads : (Line → Type 0) → List ℕ → List ℕ → Type 0
Leads P bs rest = First P (cut bs) (cut rest)

-- the first line of bs is the row r, and the shorter rest comes after it
abbrev pub LeadsRow : ColumnOrder → ℕ → List ℕ → List ℕ → Row → Type 0
LeadsRow o n bs rest r = Next o n (cut bs) (cut rest) r × (length rest < length bs)

-- some rows are those of the lines from line 4 on
abbrev pub SomeRows : ColumnOrder → List ℕ → Type 0
SomeRows o bs = (rows : List Row) × Rows o 4 (cut bs) rows

-- a whole line is the row r, or f is its least fault
abbrev pub IsRow : ColumnOrder → ℕ → List ℕ → Row → Type 0
IsRow o n body r = Holds o n (line_of body true) r

abbrev pub LeastIn : ColumnOrder → ℕ → List ℕ → Fault → Type 0
LeastIn o n body f = Least (Ails o n (line_of body true)) f

-- the first three lines are in order, and give the slots and the order of the names; those after them are left
abbrev pub Heads : List ℕ → ℕ → ColumnOrder → List Line → Type 0
Heads bs slots o rest = (two : List Line) × (three : List Line) × First Titles (cut bs) two × First (λ l. GivesSlots l slots) two three × First (λ l. Names l o) three rest

-- P of the fault, if it is one and not want of memory
abbrev pub IfFound : TraceError → (Fault → Type 0) → Type 0
IfFound (Found f) P = P f
IfFound Memory P = Unit {0}

-- What reading one more row gives, from the lines of bs, of which the first is line n, to those of rest, of which the first is line m: none
-- where no line is left, and else the row that the first line is, or the least fault.
abbrev pub GivesRow : ColumnOrder → ℕ → List ℕ → ℕ → List ℕ → Option (Result Row ValuesFault) → Type 0
GivesRow o n bs m rest None = length bs ≡ 0
GivesRow o n bs m rest (Some (Ok r)) = LeadsRow o n bs rest r × (m ≡ n + 1)
GivesRow o n bs m rest (Some (Err e)) = LeastFrom o n bs (of_values e)
