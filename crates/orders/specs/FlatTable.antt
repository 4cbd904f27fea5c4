-- The flat order: a list of entries in the order of their placing.
use Rattle.std.specs.Prelude.{◌≡◌, ℕ, ◌<◌, ◌≤◌, Bool, false, ◌&&◌, List, [], length, Some, None, Option, nat_le, nat_lt, slice_index_or}
use Rattle.std.specs.List.{AllByRecursion}
use Rattle.orders.specs.declared.Entry.{Entry}
use Rattle.orders.specs.Meaning.{OrderMeaning, Apart, waits}
use Rattle.orders.specs.Flat.{entry}
use Rattle.orders.specs.Wheels.{merged}

-- Each entry joins those placed before it, behind all of its credit or less.
abbrev pub flat_order : List Entry → OrderMeaning
flat_order entries = record { size = 1024; span = 65280; waiting = merged [] entries }

-- Whether slot and credit are within their limits.
abbrev pub permitted : ℕ → ℕ → Bool
permitted s c = nat_lt s 1024 && (nat_lt 0 c && nat_le c 65280)

-- No slot stands twice, and every slot and credit is within its limit.
pub record Neat (xs : List Entry) : Type 0 where
  pub apart : Apart xs
  pub slots : AllByRecursion (λ (y : Entry). y.slot < 1024) xs
  pub credits : AllByRecursion (λ (y : Entry). y.credit ≤ 65280) xs

abbrev pub entry_at : List Entry → ℕ → Entry
entry_at xs i = slice_index_or xs i (entry 0 0)

-- The answer of a search for a slot: a place where it stands, or absent exactly if it does not wait.
abbrev pub Found : List Entry → ℕ → Option ℕ → Type 0
Found xs s None = waits s xs ≡ false
Found xs s (Some i) = (i < length xs) × ((entry_at xs i).slot ≡ s)

-- The first of the entries that have the least credit.
pub record FirstLeast (xs : List Entry) (i : ℕ) : Type 0 where
  pub inside : i < length xs
  pub before : (k : ℕ) → k < i → (entry_at xs i).credit < (entry_at xs k).credit
  pub least : (k : ℕ) → k < length xs → (entry_at xs i).credit ≤ (entry_at xs k).credit
