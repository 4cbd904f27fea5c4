-- What the events so far tell of a key: the cost and the value that it was last given, whether it is out, what a touch costs, and the
-- slab that the last call with a slab left. All of it is read off calls and answers.
use Rattle.std.specs.Prelude.{◌≡◌, ℕ, ◌*◌, Bool, true, false, cond, ◌||◌, List, [], ◌∷◌, take, drop, Some, None, Option}
use Rattle.promises.specs.declared.records.Ticket.{Ticket}
use Rattle.promises.specs.Events.{Event, gets, keeps, leases, writes, gives_back, drops, tells, Effect, nothing, hit, refreshed, took, took_evicting, lent_out, rewrote, came_back, removed, effect, price_of, Price, lent, same_ticket}

module _ {K : Type 0} (same : K → K → Bool) where
  -- a price that an accepted call gives is the key's
  abbrev pub Priced : (K → ℕ) → Option (Price K) → Type 0
  Priced cost None = Unit {0}
  Priced cost (Some p) = p.cost ≡ cost p.key

  abbrev pub same_as : K → Option K → Bool
  same_as k None = false
  same_as k (Some l) = same l k

  -- the cost that the last accepted keep gave the key
  abbrev pub cost_given : K → Option (Price K) → ℕ → ℕ
  cost_given k None c = c
  cost_given k (Some p) c = cond (same p.key k) p.cost c

  abbrev pub last_cost : List (Event K) → K → ℕ
  last_cost [] k = 0
  last_cost (e ∷ es) k = cost_given k (price_of (effect e)) (last_cost es k)

  -- whether the key is out, given who was: from its accepted lease until the accepted give-back of that mark and slot
  abbrev pub out_after : Effect K → List (Event K) → K → Bool → Bool
  out_after nothing es k o = o
  out_after (hit l) es k o = o
  out_after (refreshed l c v) es k o = o
  out_after (took l c v) es k o = o
  out_after (took_evicting l c v x) es k o = o
  out_after (lent_out l t) es k o = same l k || o
  out_after (rewrote t v) es k o = o
  out_after (came_back t) es k o = cond (same_as k (lent es t)) false o
  out_after (removed l) es k o = o

  abbrev pub is_out : List (Event K) → K → Bool
  is_out [] k = false
  is_out (e ∷ es) k = out_after (effect e) es k (is_out es k)

  -- the cost at which an event touches the region of the key, if it does: a get that finds it waiting, an accepted keep, its give-back
  abbrev pub if_same : Bool → ℕ → Option ℕ
  if_same true c = Some c
  if_same false c = None

  abbrev pub touch_by : Effect K → List (Event K) → K → Option ℕ
  touch_by nothing es k = None
  touch_by (hit l) es k = cond (is_out es k) None (if_same (same l k) (last_cost es k))
  touch_by (refreshed l c v) es k = if_same (same l k) c
  touch_by (took l c v) es k = if_same (same l k) c
  touch_by (took_evicting l c v x) es k = if_same (same l k) c
  touch_by (lent_out l t) es k = None
  touch_by (rewrote t v) es k = None
  touch_by (came_back t) es k = if_same (same_as k (lent es t)) (last_cost es k)
  touch_by (removed l) es k = None

  -- the value that was last accepted for a key: by a keep, or by a write under the ticket it is out on
  abbrev pub value_after : Effect K → List (Event K) → K → List ℕ → List ℕ
  value_after nothing es k old = old
  value_after (hit l) es k old = old
  value_after (refreshed l c v) es k old = cond (same l k) v old
  value_after (took l c v) es k old = cond (same l k) v old
  value_after (took_evicting l c v x) es k old = cond (same l k) v old
  value_after (lent_out l t) es k old = old
  value_after (rewrote t v) es k old = cond (same_as k (lent es t)) v old
  value_after (came_back t) es k old = old
  value_after (removed l) es k old = old

  abbrev pub last_value : List (Event K) → K → List ℕ
  last_value [] k = []
  last_value (e ∷ es) k = value_after (effect e) es k (last_value es k)

-- the bytes of the slab as a call was given it, and as it left it
abbrev pub slab_in : {K : Type 0} → Event K → Option (List ℕ)
slab_in (gets k slab a) = Some slab
slab_in (keeps k c v slab a after) = Some slab
slab_in (leases k a) = None
slab_in (writes t v slab a after) = Some slab
slab_in (gives_back t a) = None
slab_in (drops k a) = None
slab_in (tells k p) = None

abbrev pub slab_out : {K : Type 0} → Event K → Option (List ℕ)
slab_out (gets k slab a) = Some slab
slab_out (keeps k c v slab a after) = Some after
slab_out (leases k a) = None
slab_out (writes t v slab a after) = Some after
slab_out (gives_back t a) = None
slab_out (drops k a) = None
slab_out (tells k p) = None

abbrev pub or_else : Option (List ℕ) → Option (List ℕ) → Option (List ℕ)
or_else (Some x) o = Some x
or_else None o = o

-- the slab that the last call with a slab left
abbrev pub slab_left : {K : Type 0} → List (Event K) → Option (List ℕ)
slab_left [] = None
slab_left (e ∷ es) = or_else (slab_out e) (slab_left es)

-- an accepted write under this ticket
abbrev pub writes_under : {K : Type 0} → Ticket → Effect K → Bool
writes_under t nothing = false
writes_under t (hit l) = false
writes_under t (refreshed l c v) = false
writes_under t (took l c v) = false
writes_under t (took_evicting l c v x) = false
writes_under t (lent_out l u) = false
writes_under t (rewrote u v) = same_ticket u t
writes_under t (came_back u) = false
writes_under t (removed l) = false

-- the bytes that a slot owns, of a chunk size
abbrev pub owned : ℕ → ℕ → List ℕ → List ℕ
owned chunk i slab = take chunk (drop (i * chunk) slab)
