-- The table of slots and costs: the line `slot cost`, then a slot, a space and a cost on each line, and LF at the end of each.
use Rattle.std.specs.Prelude.{◌≡◌, ℕ, ◌+◌, ◌-◌, ◌*◌, ◌<◌, min, Bool, cond, ◌&&◌, List, [], ◌∷◌, ◌++◌, length, take, drop, Some, None, Ok, Err, codes, Option, Result, ◌==◌, ◌≢◌, nat_le, nat_lt, slice_index}
use Rattle.std.specs.Option.{option_map}
use Rattle.std.specs.List.{list_any}
use Rattle.std.specs.Char.{is_ascii_digit}
use Rattle.std.specs.Str.{bytes_eq}
use Rattle.forecasts.specs.declared.table.Row.{Row}
use Rattle.forecasts.specs.declared.fault.Reason.{Reason}
use Rattle.forecasts.specs.declared.fault.Reason.TheVariants.{Names, Values, Slot, Twice, Cost, Unended}
use Rattle.forecasts.specs.declared.fault.LineFault.{LineFault}
use Rattle.forecasts.specs.declared.fault.ForecastError.{ForecastError}
use Rattle.forecasts.specs.declared.fault.ForecastError.TheVariants.{Fault, Memory}

abbrev pub row : ℕ → ℕ → Row
row s c = record { slot = s; cost = c }

-- ---- a line

-- The value of decimal digits behind a value of n; absent if some byte is none of '0' to '9'.
abbrev pub digits_from : ℕ → List ℕ → Option ℕ
digits_from n [] = Some n
digits_from n (b ∷ bs) = cond (is_ascii_digit b) (digits_from (10 * n + (b - 48)) bs) None

-- A decimal value: one digit or more.
abbrev pub decimal_value : List ℕ → Option ℕ
decimal_value [] = None
decimal_value (b ∷ bs) = digits_from 0 (b ∷ bs)

-- The bytes before the first space, and those behind it.
abbrev pub halves : List ℕ → Option (List ℕ × List ℕ)
halves [] = None
halves (b ∷ bs) = cond (b == 32) (Some ([], bs)) (option_map (λ (h : List ℕ × List ℕ). (b ∷ h.0, h.1)) (halves bs))

-- The first place of a byte, if it stands anywhere.
abbrev pub FirstPlace : ℕ → List ℕ → Option ℕ → Type 0
FirstPlace b bs None = (k : ℕ) → k < length bs → slice_index bs k ≢ b
FirstPlace b bs (Some i) = (i < length bs) × (slice_index bs i ≡ b) × ((k : ℕ) → k < i → slice_index bs k ≢ b)

abbrev pub both : Option ℕ → Option ℕ → Option Row
both None c = None
both (Some s) None = None
both (Some s) (Some c) = Some (row s c)

-- The two values of a line.
abbrev pub two_values : Option (List ℕ × List ℕ) → Option Row
two_values None = None
two_values (Some h) = both (decimal_value h.0) (decimal_value h.1)

-- Whether some row has the slot.
abbrev pub listed : ℕ → List Row → Bool
listed s rows = list_any (λ (r : Row). r.slot == s) rows

-- A value as the code holds it: 100,000 stands for all that are greater, and no slot or cost is as great.
abbrev pub capped : ℕ → ℕ
capped n = min n 100000

abbrev pub capped_row : Row → Row
capped_row r = row (capped r.slot) (capped r.cost)

-- A line's row, or the first reason why it has none.
abbrev pub judged : List Row → Option Row → Result Row Reason
judged rows None = Err Values
judged rows (Some r) =
    cond (nat_lt r.slot 1024)
    (cond (listed r.slot rows) (Err Twice)
    (cond (nat_lt 0 r.cost && nat_le r.cost 65280) (Ok r) (Err Cost)))
    (Err Slot)

-- The row of a line, given the rows before it.
abbrev pub row_of : List Row → List ℕ → Result Row Reason
row_of rows line = judged rows (two_values (halves line))

-- ---- the text

-- The line that is refused, and why.
abbrev pub refusal : {X : Type 0} → ℕ → Reason → Result X LineFault
refusal n why = Err (record { line = n; reason = why })

-- What a line leads to: on with its row, or its refusal.
abbrev pub led : {X : Type 0} → ℕ → Result Row Reason → (Row → Result X LineFault) → Result X LineFault
led n (Ok r) next = next r
led n (Err why) next = refusal n why

-- The rows of the text, given those of the lines before it and the first bytes of its first line. The line behind n rows is n + 2.
abbrev pub rows_from : List Row → List ℕ → List ℕ → Result (List Row) LineFault
rows_from rows line [] = cond (length line == 0) (Ok rows) (refusal (length rows + 2) Unended)
rows_from rows line (b ∷ bs) =
    cond (b == 10)
    (led (length rows + 2) (row_of rows line) (λ r. rows_from (rows ++ r ∷ []) [] bs))
    (rows_from rows (line ++ b ∷ []) bs)

-- The first line.
abbrev pub names : List ℕ
names = codes "slot cost" ++ 10 ∷ []

-- The rows of a table, or its first fault.
abbrev pub reading : List ℕ → Result (List Row) LineFault
reading text = cond (bytes_eq (take 10 text) names) (rows_from [] [] (drop 10 text)) (refusal 1 Names)

-- The error is the first fault; want of memory is none of the text's.
abbrev pub Blames : List ℕ → ForecastError → Type 0
Blames text (Fault f) = reading text ≡ Err f
Blames text Memory = Unit {0}
