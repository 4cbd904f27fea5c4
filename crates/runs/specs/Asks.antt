-- What is asked of a cache, the call that is made for it, and what is told of that call.
use Rattle.std.specs.Prelude.{◌≡◌, ℕ, zero, suc, Bool, List, [], ◌∷◌, ◌++◌, length, Some, None, Ok, Err, vec_items, Option, Result, Vec}
use Rattle.std.specs.Borrow.{Bor}
use Rattle.std.specs.List.{remove}
use Rattle.std.specs.declared.alloc.Global.{Global}
use Rattle.keys.specs.declared.Key.{Ghosts as OfKey}
use Rattle.orders.specs.declared.Order.{Ghosts as OfOrder}
use Rattle.directories.specs.declared.directory.Directory.{Ghosts as OfDirectory}
use Rattle.promises.specs.declared.answers.Refusal.{Refusal}
use Rattle.promises.specs.declared.answers.Kept.{Kept}
use Rattle.promises.specs.declared.answers.Evicted.{Evicted}
use Rattle.promises.specs.declared.answers.Presence.{Presence}
use Rattle.promises.specs.State.{State}
use Rattle.promises.specs.Events.{Event, Part, gets, keeps, leases, writes, gives_back, drops, tells}
use Rattle.promises.specs.Steps.{Step}
use Rattle.cache.specs.Leases.{ticket_of, ticketed}
use Rattle.cache.specs.Whole.{state_of}
use Rattle.cache.specs.declared.cache.Cache.{Cache}
use Rattle.cache.specs.declared.lease.Lease.{Lease}
use Rattle.runs.specs.declared.asks.Ask.{Ask}
use Rattle.runs.specs.declared.asks.Ask.TheVariants.{State as AskState, Get as AskGet, Keep as AskKeep, Lease as AskLease, Write as AskWrite, GiveBack as AskGive, Drop as AskDrop}
use Rattle.runs.specs.declared.asks.Happening.{Happening}
use Rattle.runs.specs.declared.asks.Happening.TheVariants.{State as SaidState, Get as SaidGet, Keep as SaidKeep, Lease as SaidLease, Write as SaidWrite, GiveBack as SaidGive, Drop as SaidDrop, Idle}

-- What a run has in hand: the leases, the oldest first, and the bytes of the slab.
pub record Hand : Type 0 where
  pub leases : List Lease
  pub slab : List ℕ

abbrev pub hand : List Lease → List ℕ → Hand
hand ls slab = record { leases = ls; slab = slab }

abbrev pub in_hand : Vec Lease Global → List ℕ → Hand
in_hand ls slab = hand (vec_items ls) slab

-- the lease at a place
abbrev pub nth : List Lease → ℕ → Option Lease
nth [] n = None
nth (l ∷ ls) zero = Some l
nth (l ∷ ls) (suc n) = nth ls n

-- the lease that an accepted lease adds
abbrev pub gained : Result Lease Refusal → List Lease
gained (Ok l) = l ∷ []
gained (Err e) = []

-- the lease that a declined give-back hands back
abbrev pub handed_back : Lease → Result (Unit {0}) Refusal → List Lease
handed_back l (Ok u) = []
handed_back l (Err e) = l ∷ []

-- a write under a lease, and no call where there is none
abbrev pub MakesWrite : {K : Type 0} → Hand → Option Lease → List ℕ → Option (Event K) → Hand → Type 0
MakesWrite h None v c g = (c ≡ None) × (g ≡ h)
MakesWrite h (Some l) v c g = (r : Result (Unit {0}) Refusal) × (c ≡ Some (writes (ticket_of l) v h.slab r g.slab)) × (g.leases ≡ h.leases)

-- a give-back of the lease at a place, and no call where there is none
abbrev pub MakesGive : {K : Type 0} → Hand → ℕ → Option Lease → Option (Event K) → Hand → Type 0
MakesGive h n None c g = (c ≡ None) × (g ≡ h)
MakesGive h n (Some l) c g = (r : Result (Unit {0}) Refusal) × (c ≡ Some (gives_back (ticket_of l) r)) × (g ≡ hand (remove h.leases n ++ handed_back l r) h.slab)

-- With h in hand the ask makes this call, or none, and g is in hand after it: the call is given what was asked, the lease at the place
-- that was named and the slab as it is.
abbrev pub Makes : {K : Type 0} → Hand → Ask K → Option (Event K) → Hand → Type 0
Makes h (AskState k) c g = (p : Presence) × (c ≡ Some (tells k p)) × (g ≡ h)
Makes h (AskGet k) c g = (r : Result (Option Part) Refusal) × (c ≡ Some (gets k h.slab r)) × (g ≡ h)
Makes {K} h (AskKeep k n v) c g = (r : Result (Kept (Evicted K)) Refusal) × (c ≡ Some (keeps k n (vec_items v) h.slab r g.slab)) × (g.leases ≡ h.leases)
Makes h (AskLease k) c g = (r : Result Lease Refusal) × (c ≡ Some (leases k (ticketed r))) × (g ≡ hand (h.leases ++ gained r) h.slab)
Makes h (AskWrite n v) c g = MakesWrite h (nth h.leases n) (vec_items v) c g
Makes h (AskGive n) c g = MakesGive h n (nth h.leases n) c g
Makes h (AskDrop k) c g = (r : Result (Unit {0}) Refusal) × (c ≡ Some (drops k r)) × (g ≡ h)

-- what is told of the value that a get finds: its length
abbrev pub lengths : Result (Option Part) Refusal → Result (Option ℕ) Refusal
lengths (Err e) = Err e
lengths (Ok None) = Ok None
lengths (Ok (Some p)) = Ok (Some (length p.bytes))

-- the same of what the call answers
abbrev pub found_lengths : Result (Option (Bor (List ℕ))) Refusal → Result (Option ℕ) Refusal
found_lengths (Err e) = Err e
found_lengths (Ok None) = Ok None
found_lengths (Ok (Some p)) = Ok (Some (length p.now))

-- what is told of a call
abbrev pub said : {K : Type 0} → Event K → Happening K
said (gets k slab r) = SaidGet k (lengths r)
said (keeps k c v slab r after) = SaidKeep k c r
said (leases k r) = SaidLease k r
said (writes t v slab r after) = SaidWrite t r
said (gives_back t r) = SaidGive t r
said (drops k r) = SaidDrop k r
said (tells k p) = SaidState k p

abbrev pub shown : {K : Type 0} → Option (Event K) → Happening K
shown None = Idle
shown (Some e) = said e

-- the state that a call leaves
abbrev pub Leads : {K : Type 0} → (K → K → Bool) → State K → Option (Event K) → State K → Type 0
Leads same s None t = t ≡ s
Leads same s (Some e) t = Step same s e t

-- An ask at the state s with h in hand is done, x is told of it, and t and g are left.
pub record Does {K : Type 0} (same : K → K → Bool) (s : State K) (h : Hand) (a : Ask K) (x : Happening K) (t : State K) (g : Hand) : Type 0 where
  pub call : Option (Event K)
  pub makes : Makes h a call g
  pub leads : Leads same s call t
  pub told : x ≡ shown call

-- the same of the states that two caches stand for
abbrev pub Answered : {K D O : Type 0} {k : OfKey K} {d : OfDirectory D K} {o : OfOrder O} → Cache K D O k d o → Hand → Ask K → Happening K → Cache K D O k d o → Hand → Type 0
Answered {k = k} c h a x c' g = Does k.sameness (state_of c) h a x (state_of c') g
