-- Events: each call of a cache with what it was given and what it answered; for a call that sees the slab, the slab's bytes before and after.
use Rattle.std.specs.Prelude.{ℕ, ◌+◌, Bool, cond, ◌&&◌, List, [], ◌∷◌, Some, None, Ok, Err, Option, Result, ◌==◌}
use Rattle.promises.specs.declared.answers.Refusal.{Refusal}
use Rattle.promises.specs.declared.answers.Kept.{Kept}
use Rattle.promises.specs.declared.answers.Kept.TheVariants.{Refreshed, Taken, TakenEvicting}
use Rattle.promises.specs.declared.answers.Evicted.{Evicted}
use Rattle.promises.specs.declared.answers.Presence.{Presence}
use Rattle.promises.specs.declared.records.Ticket.{Ticket}

-- a part of the slab: where it begins, and its bytes
pub record Part : Type 0 where
  pub from : ℕ
  pub bytes : List ℕ

pub data Event (K : Type 0) : Type 0 where
  gets : (key : K) (slab : List ℕ) (answer : Result (Option Part) Refusal) → Event K
  keeps : (key : K) (cost : ℕ) (value slab : List ℕ) (answer : Result (Kept (Evicted K)) Refusal) (after : List ℕ) → Event K
  leases : (key : K) (answer : Result Ticket Refusal) → Event K
  writes : (ticket : Ticket) (value slab : List ℕ) (answer : Result (Unit {0}) Refusal) (after : List ℕ) → Event K
  gives_back : (ticket : Ticket) (answer : Result (Unit {0}) Refusal) → Event K
  drops : (key : K) (answer : Result (Unit {0}) Refusal) → Event K
  tells : (key : K) (answer : Presence) → Event K

-- What an accepted call did. A refused call, a get that misses and a state do nothing.
pub data Effect (K : Type 0) : Type 0 where
  nothing : Effect K
  hit : (key : K) → Effect K
  refreshed : (key : K) (cost : ℕ) (value : List ℕ) → Effect K
  took : (key : K) (cost : ℕ) (value : List ℕ) → Effect K
  took_evicting : (key : K) (cost : ℕ) (value : List ℕ) (left : K) → Effect K
  lent_out : (key : K) (ticket : Ticket) → Effect K
  rewrote : (ticket : Ticket) (value : List ℕ) → Effect K
  came_back : (ticket : Ticket) → Effect K
  removed : (key : K) → Effect K

abbrev pub effect : {K : Type 0} → Event K → Effect K
effect (gets k slab (Err e)) = nothing
effect (gets k slab (Ok None)) = nothing
effect (gets k slab (Ok (Some p))) = hit k
effect (keeps k c v slab (Err e) after) = nothing
effect (keeps k c v slab (Ok Refreshed) after) = refreshed k c v
effect (keeps k c v slab (Ok Taken) after) = took k c v
effect (keeps k c v slab (Ok (TakenEvicting e)) after) = took_evicting k c v e.key
effect (leases k (Err e)) = nothing
effect (leases k (Ok t)) = lent_out k t
effect (writes t v slab (Err e) after) = nothing
effect (writes t v slab (Ok u) after) = rewrote t v
effect (gives_back t (Err e)) = nothing
effect (gives_back t (Ok u)) = came_back t
effect (drops k (Err e)) = nothing
effect (drops k (Ok u)) = removed k
effect (tells k p) = nothing

-- the key that is requested: an accepted keep or lease, or a get that finds its key
abbrev pub request_of : {K : Type 0} → Effect K → Option K
request_of nothing = None
request_of (hit k) = Some k
request_of (refreshed k c v) = Some k
request_of (took k c v) = Some k
request_of (took_evicting k c v l) = Some k
request_of (lent_out k t) = Some k
request_of (rewrote t v) = None
request_of (came_back t) = None
request_of (removed k) = None

-- the key that an accepted drop removes
abbrev pub removal_of : {K : Type 0} → Effect K → Option K
removal_of nothing = None
removal_of (hit k) = None
removal_of (refreshed k c v) = None
removal_of (took k c v) = None
removal_of (took_evicting k c v l) = None
removal_of (lent_out k t) = None
removal_of (rewrote t v) = None
removal_of (came_back t) = None
removal_of (removed k) = Some k

-- the key that is evicted
abbrev pub eviction_of : {K : Type 0} → Effect K → Option K
eviction_of nothing = None
eviction_of (hit k) = None
eviction_of (refreshed k c v) = None
eviction_of (took k c v) = None
eviction_of (took_evicting k c v l) = Some l
eviction_of (lent_out k t) = None
eviction_of (rewrote t v) = None
eviction_of (came_back t) = None
eviction_of (removed k) = None

-- what is charged: the cost of a keep whose key was not held
abbrev pub charge_of : {K : Type 0} → Effect K → ℕ
charge_of nothing = 0
charge_of (hit k) = 0
charge_of (refreshed k c v) = 0
charge_of (took k c v) = c
charge_of (took_evicting k c v l) = c
charge_of (lent_out k t) = 0
charge_of (rewrote t v) = 0
charge_of (came_back t) = 0
charge_of (removed k) = 0

-- a key, with a cost that an accepted call gives it
pub record Price (K : Type 0) : Type 0 where
  pub key : K
  pub cost : ℕ

abbrev pub price_of : {K : Type 0} → Effect K → Option (Price K)
price_of nothing = None
price_of (hit k) = None
price_of (refreshed k c v) = Some (record { key = k; cost = c })
price_of (took k c v) = Some (record { key = k; cost = c })
price_of (took_evicting k c v l) = Some (record { key = k; cost = c })
price_of (lent_out k t) = None
price_of (rewrote t v) = None
price_of (came_back t) = None
price_of (removed k) = None

-- Lists of events have the newest first. A promise about each event speaks of it and of those before it.
abbrev pub Each : {K : Type 0} → (Event K → List (Event K) → Type 0) → List (Event K) → Type 0
Each P [] = Unit {0}
Each P (e ∷ before) = P e before × Each P before

-- our paid cost
abbrev pub paid : {K : Type 0} → List (Event K) → ℕ
paid [] = 0
paid (e ∷ es) = charge_of (effect e) + paid es

abbrev pub one_if : {K : Type 0} → Option K → ℕ
one_if None = 0
one_if (Some k) = 1

-- how many evictions were answered
abbrev pub evictions : {K : Type 0} → List (Event K) → ℕ
evictions [] = 0
evictions (e ∷ es) = one_if (eviction_of (effect e)) + evictions es

abbrev pub same_ticket : Ticket → Ticket → Bool
same_ticket a b = a.mark == b.mark && a.slot == b.slot

-- the key that is out under a ticket, given who was out under it before: from an accepted lease until the accepted give-back
abbrev pub lent_after : {K : Type 0} → Effect K → Ticket → Option K → Option K
lent_after nothing t o = o
lent_after (hit k) t o = o
lent_after (refreshed k c v) t o = o
lent_after (took k c v) t o = o
lent_after (took_evicting k c v l) t o = o
lent_after (lent_out k u) t o = cond (same_ticket u t) (Some k) o
lent_after (rewrote u v) t o = o
lent_after (came_back u) t o = cond (same_ticket u t) None o
lent_after (removed k) t o = o

abbrev pub lent : {K : Type 0} → List (Event K) → Ticket → Option K
lent [] t = None
lent (e ∷ es) t = lent_after (effect e) t (lent es t)

-- how often a ticket was lent out, and how often it came back
abbrev pub lends_one : {K : Type 0} → Effect K → Ticket → ℕ
lends_one nothing t = 0
lends_one (hit k) t = 0
lends_one (refreshed k c v) t = 0
lends_one (took k c v) t = 0
lends_one (took_evicting k c v l) t = 0
lends_one (lent_out k u) t = cond (same_ticket u t) 1 0
lends_one (rewrote u v) t = 0
lends_one (came_back u) t = 0
lends_one (removed k) t = 0

abbrev pub returns_one : {K : Type 0} → Effect K → Ticket → ℕ
returns_one nothing t = 0
returns_one (hit k) t = 0
returns_one (refreshed k c v) t = 0
returns_one (took k c v) t = 0
returns_one (took_evicting k c v l) t = 0
returns_one (lent_out k u) t = 0
returns_one (rewrote u v) t = 0
returns_one (came_back u) t = cond (same_ticket u t) 1 0
returns_one (removed k) t = 0

abbrev pub lendings : {K : Type 0} → List (Event K) → Ticket → ℕ
lendings [] t = 0
lendings (e ∷ es) t = lends_one (effect e) t + lendings es t

abbrev pub returns : {K : Type 0} → List (Event K) → Ticket → ℕ
returns [] t = 0
returns (e ∷ es) t = returns_one (effect e) t + returns es t
