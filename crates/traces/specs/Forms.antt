-- The forms of values, and what a text of a column reads as.
use Rattle.std.specs.Prelude.{◌≡◌, ℕ, ◌-◌, ◌^◌, ◌<◌, ◌≤◌, Bool, true, cond, ◌&&◌, List, [], ◌∷◌, length, Some, None, Option, nat_le, nat_lt}
use Rattle.std.specs.Char.{digit_value}
use Rattle.std.specs.Str.Parse.{digits_value}
use Rattle.std.specs.List.{AllByRecursion}
use Rattle.traces.specs.declared.values.Column.{Column}
use Rattle.traces.specs.declared.values.Column.TheVariants.{Slots, Key, Cost}

-- the hexadecimal digit that a byte writes: 0 to 9, A to F, and no other
abbrev pub worth : ℕ → Option ℕ
worth b = cond (nat_le 48 b && nat_le b 57) (Some (b - 48)) (cond (nat_le 65 b && nat_le b 70) (Some (b - 55)) None)

-- a byte that writes a digit of the base, and no small letter
abbrev pub Digit : ℕ → ℕ → Type 0
Digit base b = (digit_value b < base) × (b < 97)

abbrev pub is_digit : ℕ → ℕ → Bool
is_digit base b = nat_lt (digit_value b) base && nat_lt b 97

abbrev pub all_digits : ℕ → List ℕ → Bool
all_digits base [] = true
all_digits base (b ∷ bs) = is_digit base b && all_digits base bs

-- the base, the most digits, and the range of each column
abbrev pub radix_of : Column → ℕ
radix_of Slots = 10
radix_of Key = 16
radix_of Cost = 10

abbrev pub most_of : Column → ℕ
most_of Slots = 4
most_of Key = 8
most_of Cost = 5

abbrev pub low_of : Column → ℕ
low_of Slots = 0
low_of Key = 0
low_of Cost = 1

abbrev pub high_of : Column → ℕ
high_of Slots = 1024
high_of Key = 2 ^ 32 - 1
high_of Cost = 65280

-- a text is in form and in range for a column
abbrev pub in_form : Column → List ℕ → Bool
in_form c t = nat_lt 0 (length t) && (nat_le (length t) (most_of c) && all_digits (radix_of c) t)

abbrev pub in_range : Column → ℕ → Bool
in_range c n = nat_le (low_of c) n && nat_le n (high_of c)

-- the number that a text of a column means: none, where it is out of form or out of range
unfoldable pub reading : Column → List ℕ → Option ℕ
reading c t = cond (in_form c t && in_range c (digits_value (radix_of c) t)) (Some (digits_value (radix_of c) t)) None

-- the same, as a fact: text is a value of that column
pub record Fits (column : Column) (text : List ℕ) : Type 0 where
  pub some : 0 < length text
  pub short : length text ≤ most_of column
  pub digits : AllByRecursion (Digit (radix_of column)) text
  pub least : low_of column ≤ digits_value (radix_of column) text
  pub greatest : digits_value (radix_of column) text ≤ high_of column

-- n is the number that a text of digits writes
abbrev pub Writes : ℕ → List ℕ → ℕ → Type 0
Writes base text n = AllByRecursion (Digit base) text × (n ≡ digits_value base text)

-- n is the value of that column that a text is
abbrev pub IsValue : Column → List ℕ → ℕ → Type 0
IsValue column text n = Fits column text × (n ≡ digits_value (radix_of column) text)
