-- What a migration moves.
use Rattle.std.specs.Prelude.{◌≡◌, ℕ, ◌-◌, ◌<◌, cond, List, [], ◌∷◌, None, Option, ◌==◌, slice_set}
use Rattle.orders.specs.declared.Entry.{Entry}
use Rattle.orders.specs.declared.own.OwnPart.{OwnPart}
use Rattle.orders.specs.Meaning.{OrderMeaning, holding}
use Rattle.orders.specs.Rings.{queue, named, names, nexts}
use Rattle.orders.specs.Flat.{entry}

-- The wheel's own queues.
abbrev pub row : OwnPart → ℕ → List ℕ
row w = queue (nexts w.queues.nodes)

-- The slots of credit c, in the order in which they wait.
abbrev pub of_credit : ℕ → List Entry → List ℕ
of_credit c [] = []
of_credit c (e ∷ es) = cond (e.credit == c) (e.slot ∷ of_credit c es) (of_credit c es)

-- The entries of other credits, which fall by c.
abbrev pub past_credit : ℕ → List Entry → List Entry
past_credit c [] = []
past_credit c (e ∷ es) = cond (e.credit == c) (past_credit c es) (entry e.slot (e.credit - c) ∷ past_credit c es)

-- The credit of the first.
abbrev pub least : List Entry → ℕ
least [] = 0
least (e ∷ es) = e.credit

-- Of these slots, those whose remembered queue is q.
abbrev pub bound_for : (later : List (Option ℕ)) → ℕ → List ℕ → List ℕ
bound_for later q [] = []
bound_for later q (s ∷ ss) = cond (names (named later s) q) (s ∷ bound_for later q ss) (bound_for later q ss)

-- Nothing is remembered of these slots any more.
abbrev pub forgotten : (later : List (Option ℕ)) → List ℕ → List (Option ℕ)
forgotten later [] = later
forgotten later (s ∷ ss) = forgotten (slice_set later s None) ss

-- Who moves up: all that have the least credit below.
abbrev pub moved : List Entry → List ℕ
moved ws = of_credit (least ws) ws

-- Who stays below, when the order below has expelled them.
abbrev pub stays : List Entry → List Entry
stays ws = past_credit (least ws) ws

-- The wheel's queues after a migration into bare ones: each slot in its remembered queue, in the order in which they came.
abbrev pub migrated : OwnPart → OrderMeaning → ℕ → List ℕ
migrated w m q = bound_for w.later q (moved m.waiting)

-- What a migration leaves below, and of what is remembered.
pub record MovedUp (w v : OwnPart) (m n : OrderMeaning) : Type 0 where
  pub later : v.later ≡ forgotten w.later (moved m.waiting)
  pub below : n ≡ holding m (stays m.waiting)

-- A migration: the queues after it, and the hand, which restarts from 0.
pub record Migrated (w v : OwnPart) (m n : OrderMeaning) : Type 0 where
  pub hand : v.hand ≡ 0
  pub queues : (q : ℕ) → q < 256 → row v q ≡ migrated w m q
  pub moved_up : MovedUp w v m n
