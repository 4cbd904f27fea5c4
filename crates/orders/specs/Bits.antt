-- Marks of 256 queues, as bits in words of 64.
use Rattle.std.specs.Prelude.{◌≡◌, ℕ, ◌/◌, ◌%◌, ◌^◌, ◌<◌, ◌≤◌, Bool, true, false, not, ◌&&◌, ◌||◌, List, ◌==◌, slice_index}

-- Digit j of a number in base 2.
unfoldable pub digit : ℕ → ℕ → ℕ
digit n j = n / 2 ^ j % 2

-- Bit q of a row of words.
abbrev pub marked : List ℕ → ℕ → Bool
marked ws q = digit (slice_index ws (q / 64)) (q % 64) == 1

abbrev pub NoneMarked : List ℕ → (p q : ℕ) → Type 0
NoneMarked ws p q = (k : ℕ) → p ≤ k → k < q → marked ws k ≡ false

-- Queue q is the first that is marked from queue p on.
abbrev pub FirstMarked : List ℕ → (p q : ℕ) → Type 0
FirstMarked ws p q = (p ≤ q) × (q < 256) × (marked ws q ≡ true) × NoneMarked ws p q

-- Queue q is marked too, and no other mark changes.
abbrev pub MarksToo : (before after : List ℕ) (q : ℕ) → Type 0
MarksToo before after q = (k : ℕ) → k < 256 → marked after k ≡ (k == q || marked before k)

-- Queue q is not marked any more, and no other mark changes.
abbrev pub Unmarks : (before after : List ℕ) (q : ℕ) → Type 0
Unmarks before after q = (k : ℕ) → k < 256 → marked after k ≡ (not (k == q) && marked before k)
