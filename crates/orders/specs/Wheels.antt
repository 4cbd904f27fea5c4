-- A wheel over another order.
use Rattle.std.specs.Prelude.{◌≡◌, ℕ, ◌+◌, ◌-◌, ◌*◌, ◌<◌, ◌≤◌, min, true, false, List, [], ◌∷◌, length, None, Option}
use Rattle.std.specs.List.{AllByRecursion}
use Rattle.std.specs.Option.{is_some}
use Rattle.orders.specs.declared.Entry.{Entry}
use Rattle.orders.specs.Meaning.{OrderMeaning, Lawful, joined, waits, some_due}
use Rattle.orders.specs.Rings.{queue, named, number}
use Rattle.orders.specs.Flat.{entry, flat}

-- What an entry below means to the wheel, with the hand at p and the remembered queues in `later`.
abbrev pub lifted : ℕ → List (Option ℕ) → Entry → Entry
lifted p later e = entry e.slot (256 * e.credit + number (named later e.slot) - p)

-- The same of a list of entries.
abbrev pub lift : ℕ → List (Option ℕ) → List Entry → List Entry
lift p later [] = []
lift p later (e ∷ es) = lifted p later e ∷ lift p later es

-- One after the other, each behind all of its credit or less.
abbrev pub merged : List Entry → List Entry → List Entry
merged acc [] = acc
merged acc (e ∷ es) = merged (joined e acc) es

-- The entries of the wheel's own queues: queue p + c has the slots of credit c.
abbrev pub own : List ℕ → ℕ → List Entry
own next p = flat (λ c. queue next (p + c)) 0 (256 - p)

-- The lesser of 1,024 and the size below.
abbrev pub wheel_size : OrderMeaning → ℕ
wheel_size m = min 1024 m.size

-- 256 times the lesser of 16,777,215 and the span below.
abbrev pub wheel_span : OrderMeaning → ℕ
wheel_span m = 256 * min 16777215 m.span

-- What a wheel means: its own entries, and then those below, each behind all of its credit or less.
abbrev pub wheel : List ℕ → ℕ → List (Option ℕ) → OrderMeaning → OrderMeaning
wheel next p later m = record {
  size = wheel_size m;
  span = wheel_span m;
  waiting = merged (own next p) (lift p later m.waiting);
}

-- Every credit is at least c.
abbrev pub Over : ℕ → List Entry → Type 0
Over c xs = AllByRecursion (λ (y : Entry). c ≤ y.credit) xs

-- How the wheel's own queues, what it remembers and the order below hang together: the queues before the hand are empty, a queue is
-- remembered of exactly the slots that wait below, one of the 256, and those stand in no queue of the wheel's own.
pub record Linked (next : List ℕ) (home later : List (Option ℕ)) (p : ℕ) (m : OrderMeaning) : Type 0 where
  pub lawful : Lawful (wheel next p later m)
  pub hand_in : p < 256
  pub later_long : length later ≡ 1024
  pub later_in : (x : ℕ) → x < 1024 → number (named later x) < 256
  pub spent : (k : ℕ) → k < p → queue next k ≡ []
  pub below_in : (x : ℕ) → x < 1024 → waits x m.waiting ≡ is_some (named later x)
  pub below_low : (x : ℕ) → 1024 ≤ x → waits x m.waiting ≡ false
  pub parted : (x : ℕ) → x < 1024 → is_some (named home x) ≡ true → named later x ≡ None

-- Between calls, moreover, the order below has no slot due: a migration moves all of them.
pub record Sound (next : List ℕ) (home later : List (Option ℕ)) (p : ℕ) (m : OrderMeaning) : Type 0 where
  pub linked : Linked next home later p m
  pub ripe : some_due m.waiting ≡ false
