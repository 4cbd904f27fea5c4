-- The meaning of an order: its size, its span, and who waits.
use Rattle.std.specs.Prelude.{◌≡◌, ℕ, ◌-◌, ◌<◌, ◌≤◌, Bool, false, cond, not, ◌&&◌, ◌||◌, List, [], ◌∷◌, Some, None, Option, ◌==◌, nat_le, nat_lt}
use Rattle.std.specs.List.{AllByRecursion}
use Rattle.orders.specs.declared.Entry.{Entry}
use Rattle.orders.specs.declared.Expelled.{Expelled}

-- Entries stand in the order in which they leave: least credit first, the oldest placing first among equals.
pub record OrderMeaning : Type 0 where
  pub size : ℕ
  pub span : ℕ
  pub waiting : List Entry

-- An entry joins behind all of its credit or less.
abbrev pub joined : Entry → List Entry → List Entry
joined e [] = e ∷ []
joined e (x ∷ xs) = cond (nat_lt e.credit x.credit) (e ∷ x ∷ xs) (x ∷ joined e xs)

-- Whether the slot waits.
abbrev pub waits : ℕ → List Entry → Bool
waits s [] = false
waits s (x ∷ xs) = x.slot == s || waits s xs

-- All but the slot.
abbrev pub without : ℕ → List Entry → List Entry
without s [] = []
without s (x ∷ xs) = cond (x.slot == s) (without s xs) (x ∷ without s xs)

-- Every credit falls.
abbrev pub fallen : ℕ → List Entry → List Entry
fallen by [] = []
fallen by (x ∷ xs) = record { slot = x.slot; credit = x.credit - by } ∷ fallen by xs

-- An order with other entries.
abbrev pub holding : OrderMeaning → List Entry → OrderMeaning
holding m es = record { size = m.size; span = m.span; waiting = es }

-- Place: taken exactly if the slot is below the size and does not wait yet, and the credit is at least 1 and at most the span.
abbrev pub takes : OrderMeaning → ℕ → ℕ → Bool
takes m s c = nat_lt s m.size && (not (waits s m.waiting) && (nat_lt 0 c && nat_le c m.span))

abbrev pub placed : OrderMeaning → ℕ → ℕ → OrderMeaning
placed m s c = cond (takes m s c) (holding m (joined (record { slot = s; credit = c }) m.waiting)) m

-- Withdraw: the slot goes, and nothing else moves.
abbrev pub withdrawn : OrderMeaning → ℕ → OrderMeaning
withdrawn m s = holding m (without s m.waiting)

-- Expel: the first leaves, and every remaining credit falls by its credit.
abbrev pub leaver : List Entry → Option Expelled
leaver [] = None
leaver (x ∷ xs) = Some (record { slot = x.slot; credit = x.credit })

abbrev pub rest : List Entry → List Entry
rest [] = []
rest (x ∷ xs) = fallen x.credit xs

abbrev pub expelled : OrderMeaning → OrderMeaning
expelled m = holding m (rest m.waiting)

-- Due: some slot has credit 0.
abbrev pub some_due : List Entry → Bool
some_due [] = false
some_due (x ∷ xs) = x.credit == 0 || some_due xs

-- Empty.
abbrev pub emptied : OrderMeaning → OrderMeaning
emptied m = holding m []

-- The least credit first.
abbrev pub Sorted : List Entry → Type 0
Sorted [] = Unit {0}
Sorted (x ∷ xs) = AllByRecursion (λ (y : Entry). x.credit ≤ y.credit) xs × Sorted xs

-- No slot twice.
abbrev pub Apart : List Entry → Type 0
Apart [] = Unit {0}
Apart (x ∷ xs) = (waits x.slot xs ≡ false) × Apart xs

-- The laws of an order.
pub record Lawful (m : OrderMeaning) : Type 0 where
  pub sorted : Sorted m.waiting
  pub apart : Apart m.waiting
  pub slots : AllByRecursion (λ (y : Entry). y.slot < m.size) m.waiting
  pub credits : AllByRecursion (λ (y : Entry). y.credit ≤ m.span) m.waiting
