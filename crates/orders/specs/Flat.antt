-- Who waits in a row of queues, where queue f c holds the slots of credit c.
use Rattle.std.specs.Prelude.{ℕ, zero, suc, ◌+◌, ◌%◌, List, [], ◌∷◌, ◌++◌}
use Rattle.orders.specs.declared.Entry.{Entry}
use Rattle.orders.specs.Meaning.{OrderMeaning}
use Rattle.orders.specs.Rings.{queue}

-- The slot with that credit.
abbrev pub entry : ℕ → ℕ → Entry
entry s c = record { slot = s; credit = c }

-- Slots of one credit.
abbrev pub tagged : ℕ → List ℕ → List Entry
tagged c [] = []
tagged c (x ∷ xs) = entry x c ∷ tagged c xs

-- The entries of n credits from c on.
unfoldable pub flat : (ℕ → List ℕ) → ℕ → ℕ → List Entry
flat f c zero = []
flat f c (suc n) = tagged c (f c) ++ flat f (suc c) n

-- The queues from the hand on, around the wheel.
abbrev pub turned : List ℕ → ℕ → ℕ → List ℕ
turned next p c = queue next ((p + c) % 256)

-- What a bottom wheel with the hand at p means.
abbrev pub bottom : List ℕ → ℕ → OrderMeaning
bottom next p = record { size = 1024; span = 255; waiting = flat (turned next p) 0 256 }
