-- What the wheels do with their queues, their hand, what they remember, and the order below.
use Rattle.std.specs.Prelude.{◌≡◌, ℕ, ◌+◌, ◌*◌, ◌/◌, ◌%◌, Bool, true, cond, ◌⊎◌, List, [], Some, None, MatchBool, Option, MatchOption, nat_lt, slice_set}
use Rattle.orders.specs.declared.Entry.{Entry}
use Rattle.orders.specs.declared.Expelled.{Expelled}
use Rattle.orders.specs.declared.Order.{Ghosts}
use Rattle.orders.specs.declared.bottom.BottomWheel.{BottomWheel}
use Rattle.orders.specs.declared.wheel.Wheel.{Wheel}
use Rattle.orders.specs.Meaning.{takes, placed, withdrawn, leaver, expelled}
use Rattle.orders.specs.Rings.{queue, nexts}
use Rattle.orders.specs.Rows.{Bare, BareBetween, Joins, Loses, Leaves}
use Rattle.orders.specs.Flat.{turned}
use Rattle.orders.specs.Kinds.{wheels}
use Rattle.orders.specs.Moved.{row, least, migrated, MovedUp}

-- ---- the bottom wheel

-- The queue that a credit goes to.
abbrev pub bottom_queue : (hand credit : ℕ) → ℕ
bottom_queue hand credit = (hand + credit) % 256

-- Its queues.
abbrev pub bottom_row : BottomWheel → ℕ → List ℕ
bottom_row w = queue (nexts w.queues.nodes)

-- An accepted slot joins that queue, and the hand stays.
abbrev pub BottomPlace : Bool → (slot credit : ℕ) → BottomWheel → BottomWheel → Type 0
BottomPlace r slot credit w v =
    MatchBool r (Joins (bottom_row w) (bottom_row v) (bottom_queue w.hand credit) slot × (v.hand ≡ w.hand)) (v ≡ w)

-- The slot goes from its queue, no other slot moves, and the hand stays.
abbrev pub BottomWithdraw : Bool → (slot : ℕ) → BottomWheel → BottomWheel → Type 0
BottomWithdraw r slot w v = MatchBool r (Loses (bottom_row w) (bottom_row v) slot × (v.hand ≡ w.hand)) (v ≡ w)

-- The hand goes to the first filled queue from where it is, around the wheel, as far as the credit says, and the slot at its front leaves.
abbrev pub BottomExpel : Option Expelled → BottomWheel → BottomWheel → Type 0
BottomExpel r w v = MatchOption r (v ≡ w) (λ (e : Expelled).
    (v.hand ≡ bottom_queue w.hand e.credit) × Leaves (turned (nexts w.queues.nodes) w.hand) (turned (nexts v.queues.nodes) w.hand) 0 e.credit e.slot)

-- ---- where a wheel's placing goes

pub data Destination : Type 0 where
  own_queue : (queue : ℕ) → Destination
  below_with : (credit remembered : ℕ) → Destination

-- A reach below 256 is a queue of the wheel's own; from there on the slot goes below, and the rest of the reach is remembered.
abbrev pub goes_to : (hand credit : ℕ) → Destination
goes_to hand credit =
    cond (nat_lt (hand + credit) 256) (own_queue (hand + credit)) (below_with ((hand + credit) / 256) ((hand + credit) % 256))

module _ (O : Type 0) (g : Ghosts O) where
  -- The slot joins queue q of the wheel's own, and nothing else changes.
  pub record PlacedOwn (q slot : ℕ) (w v : Wheel O g) : Type 0 where
    pub joins : Joins (row w.own) (row v.own) q slot
    pub hand : v.own.hand ≡ w.own.hand
    pub later : v.own.later ≡ w.own.later
    pub below : v.below ≡ w.below

  -- A slot of the wheel's own goes, and nothing else changes.
  pub record WithdrawnOwn (slot : ℕ) (w v : Wheel O g) : Type 0 where
    pub loses : Loses (row w.own) (row v.own) slot
    pub hand : v.own.hand ≡ w.own.hand
    pub later : v.own.later ≡ w.own.later
    pub below : v.below ≡ w.below

  -- The hand goes to the first filled queue from where it is, the slot at its front leaves, and nothing else changes.
  pub record ExpelledOwn (e : Expelled) (w v : Wheel O g) : Type 0 where
    pub leaves : Leaves (row w.own) (row v.own) w.own.hand v.own.hand e.slot
    pub far : w.own.hand + e.credit ≡ v.own.hand
    pub later : v.own.later ≡ w.own.later
    pub below : v.below ≡ w.below

  -- Who waits below.
  abbrev pub waiting_below : Wheel O g → List Entry
  waiting_below w = (g.meaning w.below).waiting

  -- The order below takes the slot with that credit, its queue is remembered, and nothing else changes.
  pub record PlacedBelow (credit remembered slot : ℕ) (w v : Wheel O g) : Type 0 where
    pub taken : takes (g.meaning w.below) slot credit ≡ true
    pub below : g.meaning v.below ≡ placed (g.meaning w.below) slot credit
    pub later : v.own.later ≡ slice_set w.own.later slot (Some remembered)
    pub hand : v.own.hand ≡ w.own.hand
    pub queues : v.own.queues ≡ w.own.queues

  -- The slot is placed at its destination.
  abbrev pub PlacedAt : Destination → ℕ → Wheel O g → Wheel O g → Type 0
  PlacedAt (own_queue q) slot w v = PlacedOwn q slot w v
  PlacedAt (below_with c q) slot w v = PlacedBelow c q slot w v

  -- Place: an accepted slot goes where its credit says; a declined call changes nothing.
  abbrev pub WheelPlace : Bool → (slot credit : ℕ) → Wheel O g → Wheel O g → Type 0
  WheelPlace r slot credit w v = MatchBool r (PlacedAt (goes_to w.own.hand credit) slot w v) (v ≡ w)

  -- A slot goes from below, its queue is forgotten, and nothing else changes.
  pub record WithdrawnBelow (slot : ℕ) (w v : Wheel O g) : Type 0 where
    pub below : g.meaning v.below ≡ withdrawn (g.meaning w.below) slot
    pub later : v.own.later ≡ slice_set w.own.later slot None
    pub hand : v.own.hand ≡ w.own.hand
    pub queues : v.own.queues ≡ w.own.queues

  -- Withdraw.
  abbrev pub WheelWithdraw : Bool → (slot : ℕ) → Wheel O g → Wheel O g → Type 0
  WheelWithdraw r slot w v = MatchBool r (WithdrawnOwn slot w v ⊎ WithdrawnBelow slot w v) (v ≡ w)

  -- The first of the wheel's own slots leaves, or there is none from the hand on.
  pub record Pops (e : Expelled) (w v : Wheel O g) : Type 0 where
    pub answer : Some e ≡ leaver ((wheels O g).meaning w).waiting
    pub after : (wheels O g).meaning v ≡ expelled ((wheels O g).meaning w)
    pub own : ExpelledOwn e w v

  abbrev pub WheelPop : Option Expelled → Wheel O g → Wheel O g → Type 0
  WheelPop r w v = MatchOption r ((v ≡ w) × BareBetween (row w.own) w.own.hand 256) (λ (e : Expelled). Pops e w v)

  -- The own queues hold none: after a migration the hand goes from 0 to the first filled queue, and the slot at its front leaves.
  pub record ExpelledBelow (e : Expelled) (w v : Wheel O g) : Type 0 where
    pub bare : Bare (row w.own)
    pub leaves : Leaves (migrated w.own (g.meaning w.below)) (row v.own) 0 v.own.hand e.slot
    pub far : w.own.hand + e.credit ≡ 256 * least (waiting_below w) + v.own.hand
    pub moved_up : MovedUp w.own v.own (g.meaning w.below) (g.meaning v.below)

  -- Nothing waits, and nothing moves.
  pub record ExpelledNone (w v : Wheel O g) : Type 0 where
    pub bare : Bare (row w.own)
    pub none : waiting_below w ≡ []
    pub own : v.own ≡ w.own
    pub below : g.meaning v.below ≡ g.meaning w.below

  -- Expel.
  abbrev pub WheelExpel : Option Expelled → Wheel O g → Wheel O g → Type 0
  WheelExpel r w v = MatchOption r (ExpelledNone w v) (λ (e : Expelled). ExpelledOwn e w v ⊎ ExpelledBelow e w v)
