-- A whole run: what a list of asks calls, what is told of it, and what is promised of it.
use Rattle.std.specs.Prelude.{◌≡◌, ℕ, ◌+◌, Bool, false, ◌&&◌, List, [], ◌∷◌, ◌++◌, map, length, replicate, Some, None, Ok, Err, vec_items, vec_len, vec_capacity, Option, Result, Vec, nat_le}
use Rattle.std.specs.declared.alloc.Global.{Global}
use Rattle.keys.specs.declared.Key.{Ghosts as OfKey}
use Rattle.orders.specs.declared.Order.{Ghosts as OfOrder}
use Rattle.directories.specs.declared.directory.Directory.{Ghosts as OfDirectory}
use Rattle.promises.specs.declared.records.Table.{Table}
use Rattle.promises.specs.declared.records.Ticket.{Ticket}
use Rattle.promises.specs.State.{State, known}
use Rattle.promises.specs.Events.{Event, Each, lent}
use Rattle.promises.specs.Lines.{Line, chunk_size}
use Rattle.promises.specs.History.{slab_left}
use Rattle.promises.specs.Promises.{Promised, Dutiful, BytesKept, AnswersValue}
use Rattle.cache.specs.Leases.{ticket_of}
use Rattle.cache.specs.Whole.{state_of, making}
use Rattle.cache.specs.declared.cache.Cache.{Cache}
use Rattle.cache.specs.declared.lease.Lease.{Lease}
use Rattle.runs.specs.declared.asks.Ask.{Ask}
use Rattle.runs.specs.declared.asks.Ask.TheVariants.{GiveBack as AskGive}
use Rattle.runs.specs.declared.asks.Happening.{Happening}
use Rattle.runs.specs.declared.whole.NoRoom.{NoRoom}
use Rattle.runs.specs.declared.whole.Finished.{Finished}
use Rattle.runs.specs.Asks.{Hand, Makes, Leads, shown}

-- one call for each ask, or none, each with what the one before left in hand
abbrev pub Asked : {K : Type 0} → Hand → List (Ask K) → List (Option (Event K)) → Hand → Type 0
Asked h [] [] g = g ≡ h
Asked h [] (c ∷ cs) g = ⊥
Asked h (a ∷ asks) [] g = ⊥
Asked h (a ∷ asks) (c ∷ cs) g = (i : Hand) × Makes h a c i × Asked i asks cs g

-- the calls lead from one state to another
abbrev pub Passes : {K : Type 0} → (K → K → Bool) → State K → List (Option (Event K)) → State K → Type 0
Passes same s [] t = t ≡ s
Passes {K} same s (c ∷ cs) t = (m : State K) × Leads same s c m × Passes same m cs t

-- the events of a list of calls, the newest first, on top of the events before
abbrev pub noted : {K : Type 0} → List (Option (Event K)) → List (Event K) → List (Event K)
noted [] es = es
noted (None ∷ cs) es = noted cs es
noted (Some e ∷ cs) es = noted cs (e ∷ es)

-- From the state s with h in hand all asks are done, one after another. What was told grows from x to y, and t and g are left.
pub record Goes {K : Type 0} (same : K → K → Bool) (x : List (Happening K)) (s : State K) (h : Hand) (asks : List (Ask K)) (y : List (Happening K)) (t : State K) (g : Hand) : Type 0 where
  pub calls : List (Option (Event K))
  pub asked : Asked h asks calls g
  pub passes : Passes same s calls t
  pub told : y ≡ x ++ map shown calls

-- the same of the states that two caches stand for
abbrev pub Served : {K D O : Type 0} {k : OfKey K} {d : OfDirectory D K} {o : OfOrder O} → List (Happening K) → Cache K D O k d o → Hand → List (Ask K) → List (Happening K) → Cache K D O k d o → Hand → Type 0
Served {k = k} x c h asks y c' g = Goes k.sameness x (state_of c) h asks y (state_of c') g

-- each lease in hand is tried once: the first is given back, and a declined one goes to the end
abbrev pub tries : {K : Type 0} → List Lease → List (Ask K)
tries ls = replicate (length ls) (AskGive 0)

-- leases that the cache does not know
abbrev pub Unknown : Table → List Lease → Type 0
Unknown t [] = Unit {0}
Unknown t (l ∷ ls) = (known t (ticket_of l) ≡ false) × Unknown t ls

-- the slab as the last call left it, and as it was where no call saw it
abbrev pub slab_now : List ℕ → Option (List ℕ) → List ℕ
slab_now slab None = slab
slab_now slab (Some left) = left

-- Room for one more lease for each ask, and for what is told of each ask and of each lease that is tried at the end.
abbrev pub roomy : {K : Type 0} → ℕ → Vec Lease Global → Vec (Happening K) Global → Bool
roomy n ls told = nat_le (vec_len ls + n) (vec_capacity ls) && nat_le (vec_len told + (n + (vec_len ls + n))) (vec_capacity told)

-- What there is before or after a run: the parts of a cache, what is in hand, and what was told.
pub record Scene (K D O : Type 0) : Type 0 where
  pub directory : D
  pub order : O
  pub hand : Hand
  pub told : List (Happening K)

abbrev pub scene : {K D O : Type 0} → D → O → Hand → List (Happening K) → Scene K D O
scene x y h told = record { directory = x; order = y; hand = h; told = told }

-- A whole run of asks over a cache that is made of the parts before it. All that is asked was done, one call after another, and then each
-- lease in hand was tried. The events of those calls are a line that keeps the whole promise, and nothing of this cache stays out.
pub record Ran {K D O : Type 0} (same : K → K → Bool) (d : OfDirectory D K) (o : OfOrder O) (mark chunk : ℕ) (asks : List (Ask K)) (before after : Scene K D O) : Type 0 where
  -- the call of each ask, and of each lease that was tried at the end
  pub calls : List (Option (Event K))
  pub backs : List (Option (Event K))
  pub middle : Hand
  pub asked : Asked before.hand asks calls middle
  pub tried : Asked middle (tries middle.leases) backs after.hand
  pub told : after.told ≡ before.told ++ (map shown calls ++ map shown backs)
  -- the events, the newest first, and the state at the end
  pub events : List (Event K)
  pub of_calls : events ≡ noted backs (noted calls [])
  pub last : State K
  pub line : Line same (making d o before.directory before.order mark chunk) events last
  pub promised : Promised same (making d o before.directory before.order mark chunk) events last
  -- each call was given the slab that the one before left, so the promises about bytes hold outright
  pub dutiful : Dutiful same events
  pub bytes_kept : BytesKept same (chunk_size chunk) events
  pub last_value_answered : Each (AnswersValue same) events
  pub slab_after : after.hand.slab ≡ slab_now before.hand.slab (slab_left events)
  -- nothing is out, and no lease that comes back is of this cache
  pub none_out : (t : Ticket) → lent events t ≡ None
  pub unknown : Unknown last.table after.hand.leases
  -- a host that hands in no lease gets none back: each lease that it had was of this cache, and was given back
  pub none_left : before.hand.leases ≡ [] → after.hand.leases ≡ []
  -- the parts that come back stand for the last state
  pub directory_after : d.meaning after.directory ≡ last.directory
  pub order_after : o.meaning after.order ≡ last.order

-- With room the asks were run; without it nothing was called, and all is as before.
abbrev pub Ended : {K D O : Type 0} → (K → K → Bool) → OfDirectory D K → OfOrder O → ℕ → ℕ → List (Ask K) → Scene K D O → Result (D × O) (NoRoom D O) → Hand → List (Happening K) → Type 0
Ended same d o mark chunk asks before (Ok p) h told = Ran same d o mark chunk asks before (scene p.0 p.1 h told)
Ended same d o mark chunk asks before (Err n) h told = scene n.directory n.order h told ≡ before

-- The same where the run makes its own list of what it tells.
abbrev pub Finishes : {K D O : Type 0} → (K → K → Bool) → OfDirectory D K → OfOrder O → ℕ → ℕ → List (Ask K) → Scene K D O → Result (Finished K D O) (NoRoom D O) → Hand → Type 0
Finishes same d o mark chunk asks before (Ok f) h = Ran same d o mark chunk asks before (scene f.directory f.order h (vec_items f.happenings))
Finishes same d o mark chunk asks before (Err n) h = scene n.directory n.order h [] ≡ before
