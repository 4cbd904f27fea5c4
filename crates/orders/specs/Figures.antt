-- Worked figures of a pile and of its wheels, as theorems about the definitions.
use Rattle.std.specs.Prelude.{◌≡◌, ℕ, zero, suc, ◌<◌, true, false, List, [], ◌∷◌, Some, None, Option}
use Rattle.orders.specs.declared.Expelled.{Expelled}
use Rattle.orders.specs.Meaning.{OrderMeaning, takes, placed, leaver, expelled}
use Rattle.orders.specs.Turns.{own_queue, below_with, goes_to, bottom_queue}

-- What the next n calls of expel answer.
abbrev pub answers : ℕ → OrderMeaning → List (Option Expelled)
answers zero m = []
answers (suc n) m = leaver m.waiting ∷ answers n (expelled m)

abbrev pub left : ℕ → ℕ → Option Expelled
left slot credit = Some (record { slot = slot; credit = credit })

-- A pile in which nothing waits.
abbrev pub empty_pile : OrderMeaning
empty_pile = record { size = 1024; span = 65280; waiting = [] }

-- The credits 255, 256 and 65,280, placed in this order at the slots 1, 2 and 3.
abbrev pub three_credits : OrderMeaning
three_credits = placed (placed (placed empty_pile 1 255) 2 256) 3 65280

-- Slots 5 and 3, placed in this order with credit 10.
abbrev pub two_alike : OrderMeaning
two_alike = placed (placed empty_pile 5 10) 3 10

-- Each is computed from the definitions of the calls' meaning and of where a placing goes.
pub record Figures : Type 0 where
  -- 255, 256 and 65,280 leave with 255, then 1, then 65,024.
  pub three_leave : answers 4 three_credits ≡ left 1 255 ∷ left 2 1 ∷ left 3 65024 ∷ None ∷ []
  -- On a fresh pile 255 is the last queue of the upper wheel; the other two go below, into its queues 1 and 255.
  pub goes_255 : goes_to 0 255 ≡ own_queue 255
  pub goes_256 : goes_to 0 256 ≡ below_with 1 0
  pub goes_65280 : goes_to 0 65280 ≡ below_with 255 0
  pub below_1 : bottom_queue 0 1 ≡ 1
  pub below_255 : bottom_queue 0 255 ≡ 255
  -- A pile takes the credit 65,280, and declines 0 and 65,281.
  pub takes_65280 : (slot : ℕ) → slot < 1024 → takes empty_pile slot 65280 ≡ true
  pub declines_0 : (slot : ℕ) → takes empty_pile slot 0 ≡ false
  pub declines_65281 : (slot : ℕ) → takes empty_pile slot 65281 ≡ false
  -- Among equals the oldest placing leaves first, and the other is due.
  pub two_leave : answers 3 two_alike ≡ left 5 10 ∷ left 3 0 ∷ None ∷ []
  -- At hand 200 the credit 200 goes below with 1, and queue 144 is remembered.
  pub goes_200 : goes_to 200 200 ≡ below_with 1 144
