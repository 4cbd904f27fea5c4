-- The private steps of a wheel: a slot of its own leaves, a slot comes up, all that are due below come up.
use Rattle.std.specs.Prelude.{◌≡◌, ℕ, ◌-◌, ◌*◌, ◌<◌, ◌≤◌, [], None, Option, MatchOption, length, slice_set}
use Rattle.orders.specs.declared.own.OwnPart.{OwnPart}
use Rattle.orders.specs.Meaning.{OrderMeaning, holding, fallen}
use Rattle.orders.specs.Rings.{named, number, nexts}
use Rattle.orders.specs.Rows.{Bare, Joins}
use Rattle.orders.specs.Wheels.{Over, Sound, wheel}
use Rattle.orders.specs.Moved.{row, least, Migrated}

-- What a wheel means, from its own part and what the order below means.
abbrev pub means : OwnPart → OrderMeaning → OrderMeaning
means w m = wheel (nexts w.queues.nodes) w.hand w.later m

-- The two hang together.
abbrev pub SoundWith : OwnPart → OrderMeaning → Type 0
SoundWith w m = Sound (nexts w.queues.nodes) w.queues.home w.later w.hand m

-- Nothing stands in a queue, nothing is remembered, and the hand is at 0.
pub record FreshPart (w : OwnPart) : Type 0 where
  pub bare : Bare (row w)
  pub hand : w.hand ≡ 0
  pub later_long : length w.later ≡ 1024
  pub forgets : (x : ℕ) → x < 1024 → named w.later x ≡ None

-- The slot joins its remembered queue, which is forgotten, and nothing else changes.
pub record Raised (slot : ℕ) (w v : OwnPart) : Type 0 where
  pub queues : Joins (row w) (row v) (number (named w.later slot)) slot
  pub homes : v.queues.home ≡ slice_set w.queues.home slot (named w.later slot)
  pub later : v.later ≡ slice_set w.later slot None
  pub hand : v.hand ≡ w.hand

-- Every credit is at least d, and falls by d.
pub record Falls (d : ℕ) (before after : OrderMeaning) : Type 0 where
  pub falls : after ≡ holding before (fallen d before.waiting)
  pub over : Over d before.waiting

-- The hand makes `turns` whole turns, less what it stood at.
pub record Migrates (turns : ℕ) (w v : OwnPart) (m n : OrderMeaning) : Type 0 where
  pub falls : Falls (256 * turns - w.hand) (means w m) (means v n)
  pub enough : w.hand ≤ 256 * turns
  pub least_is : turns ≡ least m.waiting
  pub some : Bare (row v) → ⊥
  pub migrated : Migrated w v m n

-- Nothing waits at all, and nothing moves.
pub record MigratesNone (w v : OwnPart) (m n : OrderMeaning) : Type 0 where
  pub nothing : (means w m).waiting ≡ []
  pub none : m.waiting ≡ []
  pub own : v ≡ w
  pub below : n ≡ m

abbrev pub Migrate : Option ℕ → (w v : OwnPart) (m n : OrderMeaning) → Type 0
Migrate r w v m n = MatchOption r (MigratesNone w v m n) (λ turns. Migrates turns w v m n)
