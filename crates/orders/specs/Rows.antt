-- What happens to a row of 256 queues, each given as the list of its slots, the oldest first.
use Rattle.std.specs.Prelude.{◌≡◌, ℕ, ◌+◌, ◌%◌, ◌<◌, ◌≤◌, cond, List, [], ◌∷◌, ◌++◌, drop, ◌==◌, ◌≢◌}
use Rattle.orders.specs.Rings.{queue, at, sans}
use Rattle.orders.specs.Flat.{turned}

-- No queue holds a slot.
abbrev pub Bare : (ℕ → List ℕ) → Type 0
Bare qs = (k : ℕ) → k < 256 → qs k ≡ []

-- No queue from p on, and before q, holds a slot.
abbrev pub BareBetween : (ℕ → List ℕ) → ℕ → ℕ → Type 0
BareBetween qs p q = (k : ℕ) → p ≤ k → k < q → qs k ≡ []

-- The slot joins queue q at its back, and no other queue changes.
abbrev pub Joins : (before after : ℕ → List ℕ) (q slot : ℕ) → Type 0
Joins before after q slot = (k : ℕ) → k < 256 → after k ≡ cond (k == q) (before k ++ slot ∷ []) (before k)

-- The slot goes from wherever it stands, and nothing else changes.
abbrev pub Loses : (before after : ℕ → List ℕ) (slot : ℕ) → Type 0
Loses before after slot = (k : ℕ) → k < 256 → after k ≡ sans slot (before k)

-- Queue q is the first from queue p on that holds a slot: the slot at its front leaves, and no other queue changes.
pub record Leaves (before after : ℕ → List ℕ) (p q slot : ℕ) : Type 0 where
  pub onward : p ≤ q
  pub within : q < 256
  pub passed : BareBetween before p q
  pub front : before q ≡ slot ∷ after q
  pub others : (k : ℕ) → k < 256 → (k ≢ q) → after k ≡ before k

-- Queue q of a table of successors begins with the slot that its anchor names.
abbrev pub Filled : List ℕ → ℕ → Type 0
Filled next q = queue next q ≡ at next (1024 + q) ∷ drop 1 (queue next q)

-- Queue q is the first from queue p on that holds a slot.
abbrev pub FirstFilled : List ℕ → ℕ → ℕ → Type 0
FirstFilled next p q = (p ≤ q) × (q < 256) × Filled next q × BareBetween (queue next) p q

-- The same around the wheel: queue p + d is the first.
abbrev pub FirstAround : List ℕ → ℕ → ℕ → Type 0
FirstAround next p d = (d < 256) × Filled next ((p + d) % 256) × ((j : ℕ) → j < d → turned next p j ≡ [])
