-- GreedyDual in its own words: keys, costs, ranks and an inflation value that never wraps; no slots, no credits, no wheels.
use Rattle.std.specs.Prelude.{ℕ, ◌+◌, Bool, true, false, cond, List, [], ◌∷◌, ◌++◌, length, is_some, Some, None, Ok, Err, Option, ◌==◌, nat_le}
use Rattle.promises.specs.declared.answers.Kept.TheVariants.{Refreshed, Taken, TakenEvicting}
use Rattle.promises.specs.Events.{Event, gets, keeps, leases, writes, gives_back, drops, tells, lent}

-- a held region: it has a rank while it waits, and none while it is out on lease
pub record Region (K : Type 0) : Type 0 where
  pub key : K
  pub cost : ℕ
  pub rank : Option ℕ

-- the inflation value L, and the held regions, the least recently touched first
pub record Dual (K : Type 0) : Type 0 where
  pub inflation : ℕ
  pub regions : List (Region K)

-- what is asked of GreedyDual, without any answer
pub data Use (K : Type 0) : Type 0 where
  look : (key : K) → Use K
  keep : (key : K) (cost : ℕ) → Use K
  lend : (key : K) → Use K
  take_back : (key : K) → Use K
  forget : (key : K) → Use K

-- whether the key was held, what is charged, and which key leaves
pub record Outcome (K : Type 0) : Type 0 where
  pub hit : Bool
  pub charge : ℕ
  pub victim : Option K

-- nothing is found, charged or evicted
abbrev pub quiet : {K : Type 0} → Outcome K
quiet = record { hit = false; charge = 0; victim = None }

module _ {K : Type 0} (same : K → K → Bool) where
  -- the region of a key
  abbrev pub region_of : K → List (Region K) → Option (Region K)
  region_of k [] = None
  region_of k (r ∷ rs) = cond (same r.key k) (Some r) (region_of k rs)

  abbrev pub others : K → List (Region K) → List (Region K)
  others k [] = []
  others k (r ∷ rs) = cond (same r.key k) (others k rs) (r ∷ others k rs)

  -- of two, the earlier in the list unless the later has a lower rank; a region that is out has no rank and does not compete
  abbrev pub lower : Region K → Option ℕ → Option (Region K) → Option (Region K)
  lower r None best = best
  lower r (Some n) None = Some r
  lower r (Some n) (Some q) = elim q.rank [ None ↦ Some r | Some m ↦ cond (nat_le n m) (Some r) (Some q) ]

  -- of those waiting the least rank, the least recently touched among equals
  abbrev pub least : List (Region K) → Option (Region K)
  least [] = None
  least (r ∷ rs) = lower r r.rank (least rs)

  -- a touch: the rank becomes L + cost, and the region the newest
  abbrev pub touch : Dual K → K → ℕ → Dual K
  touch g k c = record { inflation = g.inflation; regions = others k g.regions ++ (record { key = k; cost = c; rank = Some (g.inflation + c) } ∷ []) }

  -- the region of least rank leaves, and L becomes that rank
  abbrev pub leave : Dual K → Option (Region K) → Dual K
  leave g None = g
  leave g (Some r) = record { inflation = elim r.rank [ None ↦ g.inflation | Some n ↦ n ]; regions = others r.key g.regions }

  -- room for a new key: where n regions are held, one leaves
  abbrev pub room : ℕ → Dual K → Dual K
  room n g = cond (length g.regions == n) (leave g (least g.regions)) g

  -- a region that is lent keeps its cost and loses its rank
  abbrev pub unranked : K → List (Region K) → List (Region K)
  unranked k [] = []
  unranked k (r ∷ rs) = cond (same r.key k) (record { key = r.key; cost = r.cost; rank = None } ∷ rs) (r ∷ unranked k rs)

  -- what each use leaves; a region that is touched keeps the key that it was entered with
  abbrev pub looked : Dual K → Option (Region K) → Dual K
  looked g None = g
  looked g (Some r) = cond (is_some r.rank) (touch g r.key r.cost) g

  abbrev pub kept : ℕ → Dual K → K → ℕ → Option (Region K) → Dual K
  kept n g k c None = touch (room n g) k c
  kept n g k c (Some r) = touch g r.key c

  abbrev pub taken_back : Dual K → Option (Region K) → Dual K
  taken_back g None = g
  taken_back g (Some r) = touch g r.key r.cost

  abbrev pub after : ℕ → Dual K → Use K → Dual K
  after n g (look k) = looked g (region_of k g.regions)
  after n g (keep k c) = kept n g k c (region_of k g.regions)
  after n g (lend k) = record { inflation = g.inflation; regions = unranked k g.regions }
  after n g (take_back k) = taken_back g (region_of k g.regions)
  after n g (forget k) = record { inflation = g.inflation; regions = others k g.regions }

  -- what each use comes to
  abbrev pub key_of : Option (Region K) → Option K
  key_of None = None
  key_of (Some r) = Some r.key

  abbrev pub victim_of : ℕ → Dual K → Option K
  victim_of n g = cond (length g.regions == n) (key_of (least g.regions)) None

  abbrev pub kept_outcome : ℕ → Dual K → ℕ → Option (Region K) → Outcome K
  kept_outcome n g c None = record { hit = false; charge = c; victim = victim_of n g }
  kept_outcome n g c (Some r) = record { hit = true; charge = 0; victim = None }

  abbrev pub outcome : ℕ → Dual K → Use K → Outcome K
  outcome n g (look k) = record { hit = is_some (region_of k g.regions); charge = 0; victim = None }
  outcome n g (keep k c) = kept_outcome n g c (region_of k g.regions)
  outcome n g (lend k) = quiet
  outcome n g (take_back k) = quiet
  outcome n g (forget k) = quiet

  -- The use that an event makes of GreedyDual, by what was asked and that it was accepted; a give-back names its region by who is out.
  abbrev pub given_back : Option K → Option (Use K)
  given_back None = None
  given_back (Some k) = Some (take_back k)

  abbrev pub use_of : List (Event K) → Event K → Option (Use K)
  use_of before (gets k slab (Err e)) = None
  use_of before (gets k slab (Ok o)) = Some (look k)
  use_of before (keeps k c v slab (Err e) later) = None
  use_of before (keeps k c v slab (Ok a) later) = Some (keep k c)
  use_of before (leases k (Err e)) = None
  use_of before (leases k (Ok t)) = Some (lend k)
  use_of before (writes t v slab a later) = None
  use_of before (gives_back t (Err e)) = None
  use_of before (gives_back t (Ok u)) = given_back (lent before t)
  use_of before (drops k (Err e)) = None
  use_of before (drops k (Ok u)) = Some (forget k)
  use_of before (tells k p) = None

  abbrev pub after_use : ℕ → Dual K → Option (Use K) → Dual K
  after_use n g None = g
  after_use n g (Some u) = after n g u

  abbrev pub outcome_of_use : ℕ → Dual K → Option (Use K) → Outcome K
  outcome_of_use n g None = quiet
  outcome_of_use n g (Some u) = outcome n g u

  -- GreedyDual with n slots after the events
  abbrev pub dual : ℕ → List (Event K) → Dual K
  dual n [] = record { inflation = 0; regions = [] }
  dual n (e ∷ es) = after_use n (dual n es) (use_of es e)

-- what an event's answer says: whether its key was held, what it charges, and which key left
abbrev pub answered : {K : Type 0} → Event K → Outcome K
answered (gets k slab (Err e)) = quiet
answered (gets k slab (Ok o)) = record { hit = is_some o; charge = 0; victim = None }
answered (keeps k c v slab (Err e) later) = quiet
answered (keeps k c v slab (Ok Refreshed) later) = record { hit = true; charge = 0; victim = None }
answered (keeps k c v slab (Ok Taken) later) = record { hit = false; charge = c; victim = None }
answered (keeps k c v slab (Ok (TakenEvicting e)) later) = record { hit = false; charge = c; victim = Some e.key }
answered (leases k a) = quiet
answered (writes t v slab a later) = quiet
answered (gives_back t a) = quiet
answered (drops k a) = quiet
answered (tells k p) = quiet
