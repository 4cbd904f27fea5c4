-- Tables as text: a line of names, and then a line of values for each row.
use Rattle.std.specs.Prelude.{ℕ, ◌+◌, cond, List, [], ◌∷◌, ◌++◌, map, length, take, drop, codes, ◌==◌, nat_lt}
use Rattle.std.specs.List.{flat_map}
use Rattle.std.specs.Int.Digits.{digits_of}
use Rattle.traces.specs.declared.faults.Layer.{Layer}
use Rattle.traces.specs.declared.faults.Layer.TheVariants.{Lines, Table, Values, Cache, Report}
use Rattle.traces.specs.declared.text.Cell.{Cell}
use Rattle.traces.specs.declared.text.Cell.TheVariants.{Decimal, Hexadecimal, Name}

-- the byte that writes a digit: 0 to 9, then A to F
abbrev pub glyph_of : ℕ → ℕ
glyph_of d = cond (nat_lt d 10) (48 + d) (55 + d)

-- a number with no leading zeros
unfoldable pub numeral_of : ℕ → ℕ → List ℕ
numeral_of b n = cond (n == 0) (48 ∷ []) (map glyph_of (digits_of b n))

abbrev pub layer_name : Layer → List ℕ
layer_name Lines = codes "lines"
layer_name Table = codes "table"
layer_name Values = codes "values"
layer_name Cache = codes "cache"
layer_name Report = codes "report"

-- a value of a table
abbrev pub cell_text : Cell → List ℕ
cell_text (Decimal n) = numeral_of 10 n
cell_text (Hexadecimal n) = numeral_of 16 n
cell_text (Name l) = layer_name l

-- values with one space between, and LF
abbrev pub values_text : List ℕ → List (List ℕ) → List ℕ
values_text v [] = v ++ (10 ∷ [])
values_text v (w ∷ ws) = v ++ (32 ∷ values_text w ws)

abbrev pub line_text : List (List ℕ) → List ℕ
line_text [] = 10 ∷ []
line_text (v ∷ vs) = values_text v vs

-- a line of cells
abbrev pub cells_text : List Cell → List ℕ
cells_text cs = line_text (map cell_text cs)

-- each cell after a space
abbrev pub spaced : Cell → List ℕ
spaced c = 32 ∷ cell_text c

abbrev pub spaced_text : List Cell → List ℕ
spaced_text cs = flat_map spaced cs

-- cells with one space between
abbrev pub joined_text : List Cell → List ℕ
joined_text [] = []
joined_text (c ∷ cs) = cell_text c ++ spaced_text cs

-- a line for each row, by the cells of a row
abbrev pub lines_text : {R : Type 0} → (R → List Cell) → List R → List ℕ
lines_text cells rows = flat_map (λ r. cells_text (cells r)) rows

-- the names, and then each row
abbrev pub table_text : List (List ℕ) → List (List (List ℕ)) → List ℕ
table_text names rows = line_text names ++ flat_map line_text rows

-- xs stands in out from place k on, and all else is as it was
abbrev pub placed : ℕ → List ℕ → List ℕ → List ℕ
placed k xs out = take k out ++ (xs ++ drop (k + length xs) out)
