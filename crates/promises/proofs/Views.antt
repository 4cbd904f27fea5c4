-- A cache slot by slot: what a line of calls does to the slots, with no order and no table.
use Rattle.std.proofs.Common.{◌≡◌, ℕ, ◌-◌, ◌<◌, ◌≤◌, Bool, true, false, List, [], ◌∷◌}
use Rattle.promises.specs.Rivals.{has}
use Rattle.promises.specs.declared.records.Ticket.{Ticket}
use Rattle.promises.specs.Events.{Event, Effect, nothing, hit, refreshed, took, took_evicting, lent_out, rewrote, came_back, removed, effect}

-- what a slot holds
pub data Place (K : Type 0) : Type 0 where
  free : Place K
  waits : (key : K) (cost credit : ℕ) → Place K
  lies_out : (key : K) (cost : ℕ) → Place K

-- a region that is out counts with its full cost
abbrev pub credit : {K : Type 0} → Place K → ℕ
credit free = 0
credit (waits k c r) = r
credit (lies_out k c) = c

abbrev pub price : {K : Type 0} → Place K → ℕ
price free = 0
price (waits k c r) = c
price (lies_out k c) = c

abbrev pub holds : {K : Type 0} → (K → K → Bool) → K → Place K → Bool
holds same k free = false
holds same k (waits l c r) = same l k
holds same k (lies_out l c) = same l k

abbrev pub waits? : {K : Type 0} → Place K → Bool
waits? free = false
waits? (waits l c r) = true
waits? (lies_out l c) = false

abbrev pub out? : {K : Type 0} → Place K → Bool
out? free = false
out? (waits l c r) = false
out? (lies_out l c) = true

-- whether a list of keys has the slot's key
abbrev pub kept : {K : Type 0} → (K → K → Bool) → List K → Place K → Bool
kept same rs free = false
kept same rs (waits l c r) = has same rs l
kept same rs (lies_out l c) = has same rs l

abbrev pub lower : {K : Type 0} → ℕ → Place K → Place K
lower d free = free
lower d (waits k c r) = waits k c (r - d)
lower d (lies_out k c) = lies_out k c

abbrev pub View : Type 0 → Type 0
View K = ℕ → Place K

abbrev pub Alike : {K : Type 0} → View K → View K → Type 0
Alike v w = (i : ℕ) → w i ≡ v i

-- w is v with the slot i changed to p
pub record Only {K : Type 0} (i : ℕ) (p : Place K) (v w : View K) : Type 0 where
  pub here : w i ≡ p
  pub others : (j : ℕ) → (j ≡ i → ⊥) → w j ≡ v j

-- the region at the slot i, of least credit d and key e, leaves, and every other waiting credit falls by d
pub record Expels {K : Type 0} (n i d : ℕ) (e : K) (v w : View K) : Type 0 where
  pub within : i < n
  pub cost : ℕ
  pub was : v i ≡ waits e cost d
  pub least : (j : ℕ) (k : K) (c r : ℕ) → v j ≡ waits k c r → d ≤ r
  pub gone : w i ≡ free
  pub others : (j : ℕ) → (j ≡ i → ⊥) → w j ≡ lower d (v j)

pub record Enters {K : Type 0} (n i : ℕ) (k : K) (c : ℕ) (v w : View K) : Type 0 where
  pub within : i < n
  pub unused : v i ≡ free
  pub positive : 1 ≤ c
  pub entered : Only i (waits k c c) v w

pub data Idle {K : Type 0} : Effect K → Type 0 where
  idle_nothing : Idle nothing
  idle_rewrote : (t : Ticket) (b : List ℕ) → Idle (rewrote t b)

abbrev pub Unheld : {K : Type 0} → (K → K → Bool) → K → View K → Type 0
Unheld same k v = (i : ℕ) → holds same k (v i) ≡ false

abbrev pub Full : {K : Type 0} → ℕ → View K → Type 0
Full n v = (i : ℕ) → i < n → v i ≡ free → ⊥

-- one call over n slots, of the cache with this mark, by what it did
pub data Moves {K : Type 0} (same : K → K → Bool) (n mark : ℕ) (v w : View K) : Effect K → Type 0 where
  rests : {e : Effect K} → Idle e → Alike v w → Moves same n mark v w e
  sees : {k l : K} (i c : ℕ) → v i ≡ lies_out l c → same l k ≡ true → Alike v w → Moves same n mark v w (hit k)
  touches : {k l : K} (i c r : ℕ) → i < n → v i ≡ waits l c r → same l k ≡ true → Only i (waits l c c) v w → Moves same n mark v w (hit k)
  refreshes : {k l : K} {b : List ℕ} {d : ℕ} (i c r : ℕ) → i < n → v i ≡ waits l c r → same l k ≡ true → 1 ≤ d → Only i (waits l d d) v w → Moves same n mark v w (refreshed k d b)
  takes : {k : K} {b : List ℕ} {d : ℕ} (i : ℕ) → Unheld same k v → Enters n i k d v w → Moves same n mark v w (took k d b)
  evicts : {k e : K} {b : List ℕ} {d : ℕ} (i j least : ℕ) (u : View K) → Unheld same k v → Full n v → Expels n i least e v u → Enters n j k d u w → Moves same n mark v w (took_evicting k d b e)
  lends : {k l : K} {t : Ticket} (c r : ℕ) → t.mark ≡ mark → t.slot < n → v t.slot ≡ waits l c r → same l k ≡ true → Only t.slot (lies_out l c) v w → Moves same n mark v w (lent_out k t)
  takes_back : {k : K} {t : Ticket} (c : ℕ) → t.mark ≡ mark → t.slot < n → v t.slot ≡ lies_out k c → Only t.slot (waits k c c) v w → Moves same n mark v w (came_back t)
  removes : {k l : K} (i c r : ℕ) → i < n → v i ≡ waits l c r → same l k ≡ true → Only i free v w → Moves same n mark v w (removed k)

-- the views that a line of events may lead to, the newest event first
abbrev pub Leads : {K : Type 0} → (K → K → Bool) → ℕ → ℕ → List (Event K) → View K → Type 0
Leads same n mark [] v = (i : ℕ) → v i ≡ free
Leads {K} same n mark (e ∷ es) w = (v : View K) × Leads same n mark es v × Moves same n mark v w (effect e)
