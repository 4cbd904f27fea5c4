-- The step of a call: exactly what it answers and leaves. The first test of its list that is true refuses it, and a refusal changes nothing.
use Rattle.std.specs.Prelude.{◌≡◌, ℕ, zero, suc, ◌+◌, ◌*◌, ◌<◌, Bool, true, false, cond, not, ◌&&◌, ◌||◌, List, [], ◌∷◌, ◌++◌, length, take, drop, is_some, Some, None, Ok, Err, Option, ◌==◌, nat_lt}
use Rattle.orders.specs.declared.Expelled.{Expelled}
use Rattle.orders.specs.Meaning.{placed, withdrawn, expelled, leaver}
use Rattle.directories.specs.Meaning.{key_at, pairs, entered, freed}
use Rattle.promises.specs.declared.answers.Refusal.{Refusal}
use Rattle.promises.specs.declared.answers.Refusal.TheVariants.{BadCost, LongValue, ShortSlab, UnknownLease, NotHeld, OnLease, NotAdmitted, AllOut}
use Rattle.promises.specs.declared.answers.Kept.TheVariants.{Refreshed, Taken, TakenEvicting}
use Rattle.promises.specs.declared.answers.Presence.{Presence}
use Rattle.promises.specs.declared.answers.Presence.TheVariants.{Absent, Waiting, Out}
use Rattle.promises.specs.declared.records.Lending.{Lending}
use Rattle.promises.specs.declared.records.Lending.TheVariants.{Idle, Lent}
use Rattle.promises.specs.declared.records.Record.{Record}
use Rattle.promises.specs.declared.records.Table.{Table}
use Rattle.promises.specs.declared.records.Ticket.{Ticket}
use Rattle.promises.specs.State.{State, slots, held_slot, record_at, with_record, out_at, known}
use Rattle.promises.specs.Events.{Event, Part, gets, keeps, leases, writes, gives_back, drops, tells}

-- Refusals.

-- the first refusal whose test is true
abbrev pub first_of : List (Bool × Refusal) → Option Refusal
first_of [] = None
first_of (c ∷ cs) = cond c.0 (Some c.1) (first_of cs)

abbrev pub bad_cost : {K : Type 0} → State K → ℕ → Bool
bad_cost s c = c == 0 || nat_lt s.order.span c

-- by the value's length
abbrev pub long_value : {K : Type 0} → State K → ℕ → Bool
long_value s n = nat_lt s.table.chunk n

-- by the slab's length
abbrev pub short_slab : {K : Type 0} → State K → ℕ → Bool
short_slab s n = nat_lt n (slots s * s.table.chunk)

abbrev pub out_slot : Table → Option ℕ → Bool
out_slot t None = false
out_slot t (Some i) = out_at t i

-- the first n slots are all out
abbrev pub every_out : Table → ℕ → Bool
every_out t zero = true
every_out t (suc i) = out_at t i && every_out t i

-- N regions are held
abbrev pub full : {K : Type 0} → State K → Bool
full s = pairs s.directory.keys == slots s

abbrev pub no_room : {K : Type 0} → (K → K → Bool) → State K → K → Bool
no_room same s k = not (is_some (held_slot same s k)) && every_out s.table (slots s)

abbrev pub get_fault : {K : Type 0} → State K → ℕ → Option Refusal
get_fault s slab = first_of ((short_slab s slab, ShortSlab) ∷ [])

-- by the lengths of the value and the slab
abbrev pub keep_fault : {K : Type 0} → (K → K → Bool) → State K → K → ℕ → ℕ → ℕ → Option Refusal
keep_fault same s k c value slab = first_of (
    (bad_cost s c, BadCost) ∷ (long_value s value, LongValue) ∷ (short_slab s slab, ShortSlab)
    ∷ (out_slot s.table (held_slot same s k), OnLease) ∷ (not (s.directory.admitted k), NotAdmitted) ∷ (no_room same s k, AllOut) ∷ [])

abbrev pub write_fault : {K : Type 0} → State K → Ticket → ℕ → ℕ → Option Refusal
write_fault s t value slab = first_of ((long_value s value, LongValue) ∷ (short_slab s slab, ShortSlab) ∷ (not (known s.table t), UnknownLease) ∷ [])

abbrev pub give_back_fault : {K : Type 0} → State K → Ticket → Option Refusal
give_back_fault s t = first_of ((not (known s.table t), UnknownLease) ∷ [])

-- of lease and drop
abbrev pub absence_fault : {K : Type 0} → (K → K → Bool) → State K → K → Option Refusal
absence_fault same s k = first_of ((not (is_some (held_slot same s k)), NotHeld) ∷ (out_slot s.table (held_slot same s k), OnLease) ∷ [])

-- What is left.

-- a touch: a waiting slot becomes the newest, with its cost for its credit
abbrev pub touched : {K : Type 0} → State K → ℕ → State K
touched s i = cond (out_at s.table i) s (record { directory = s.directory; order = placed (withdrawn s.order i) i (record_at s.table i).cost; table = s.table })

-- a slot is placed with a new cost and a value of n bytes
abbrev pub settled : {K : Type 0} → State K → ℕ → ℕ → ℕ → State K
settled s i c n = record { directory = s.directory; order = placed s.order i c; table = with_record s.table i (record { cost = c; len = n; lending = Idle }) }

abbrev pub withdrew : {K : Type 0} → State K → ℕ → State K
withdrew s i = record { directory = s.directory; order = withdrawn s.order i; table = s.table }

abbrev pub with_key : {K : Type 0} → State K → ℕ → K → State K
with_key s i k = record { directory = entered s.directory i k; order = s.order; table = s.table }

-- the region at a slot leaves; the order is as an expel leaves it
abbrev pub evicted : {K : Type 0} → State K → ℕ → State K
evicted s i = record { directory = freed s.directory (Some i); order = expelled s.order; table = s.table }

abbrev pub with_lending : Record → Lending → Record
with_lending r l = record { cost = r.cost; len = r.len; lending = l }

abbrev pub lent_slot : {K : Type 0} → State K → ℕ → State K
lent_slot s i = record { directory = s.directory; order = withdrawn s.order i; table = with_record s.table i (with_lending (record_at s.table i) Lent) }

abbrev pub rewritten : {K : Type 0} → State K → ℕ → ℕ → State K
rewritten s i n = record { directory = s.directory; order = s.order; table = with_record s.table i (record { cost = (record_at s.table i).cost; len = n; lending = (record_at s.table i).lending }) }

abbrev pub returned : {K : Type 0} → State K → ℕ → State K
returned s i = record { directory = s.directory; order = placed s.order i (record_at s.table i).cost; table = with_record s.table i (with_lending (record_at s.table i) Idle) }

abbrev pub dropped : {K : Type 0} → State K → ℕ → State K
dropped s i = record { directory = freed s.directory (Some i); order = withdrawn s.order i; table = s.table }

-- the bytes of a slab with a value written from a place on
abbrev pub written : List ℕ → ℕ → List ℕ → List ℕ
written slab from value = take from slab ++ (value ++ drop (from + length value) slab)

-- where the slot i begins
abbrev pub start : {K : Type 0} → State K → ℕ → ℕ
start s i = i * s.table.chunk

-- What is answered.

-- the part of a slab that holds the value at a slot
abbrev pub part_at : {K : Type 0} → State K → List ℕ → ℕ → Part
part_at s slab i = record { from = start s i; bytes = take (record_at s.table i).len (drop (start s i) slab) }

abbrev pub ticket_for : Table → ℕ → Ticket
ticket_for t i = record { mark = t.mark; slot = i }

abbrev pub presence : Table → Option ℕ → Presence
presence t None = Absent
presence t (Some i) = cond (out_at t i) Out Waiting

-- a get finds its key
pub record Finds {K : Type 0} (same : K → K → Bool) (s : State K) (k : K) (slab : List ℕ) (p : Part) (t : State K) : Type 0 where
  pub slot : ℕ
  pub held : held_slot same s k ≡ Some slot
  pub part : p ≡ part_at s slab slot
  pub after : t ≡ touched s slot

-- a held key is refreshed at its slot
pub record Refreshes {K : Type 0} (same : K → K → Bool) (s : State K) (k : K) (c : ℕ) (value slab : List ℕ) (t : State K) (slab' : List ℕ) : Type 0 where
  pub slot : ℕ
  pub held : held_slot same s k ≡ Some slot
  pub after : t ≡ settled (withdrew s slot) slot c (length value)
  pub bytes : slab' ≡ written slab (start s slot) value

-- a new key is taken at an unused slot: which one is free
pub record Takes {K : Type 0} (s : State K) (k : K) (c : ℕ) (value slab : List ℕ) (t : State K) (slab' : List ℕ) : Type 0 where
  pub slot : ℕ
  pub below : slot < slots s
  pub unused : key_at s.directory slot ≡ None
  pub after : t ≡ settled (with_key s slot k) slot c (length value)
  pub bytes : slab' ≡ written slab (start s slot) value

-- the first of the order leaves with its key
pub record Evicts {K : Type 0} (s : State K) (left : K) (u : State K) : Type 0 where
  pub first : Expelled
  pub least : leaver s.order.waiting ≡ Some first
  pub key : key_at s.directory first.slot ≡ Some left
  pub after : u ≡ evicted s first.slot

-- a waiting region is lent
pub record Lends {K : Type 0} (same : K → K → Bool) (s : State K) (k : K) (ticket : Ticket) (t : State K) : Type 0 where
  pub slot : ℕ
  pub held : held_slot same s k ≡ Some slot
  pub names : ticket ≡ ticket_for s.table slot
  pub after : t ≡ lent_slot s slot

-- a waiting region is dropped
pub record Removes {K : Type 0} (same : K → K → Bool) (s : State K) (k : K) (t : State K) : Type 0 where
  pub slot : ℕ
  pub held : held_slot same s k ≡ Some slot
  pub after : t ≡ dropped s slot

-- one call: the state before, the event, and the state after
abbrev pub Step : {K : Type 0} → (K → K → Bool) → State K → Event K → State K → Type 0
Step same s (gets k slab (Err e)) t = (get_fault s (length slab) ≡ Some e) × (t ≡ s)
Step same s (gets k slab (Ok None)) t = (get_fault s (length slab) ≡ None) × (held_slot same s k ≡ None) × (t ≡ s)
Step same s (gets k slab (Ok (Some p))) t = (get_fault s (length slab) ≡ None) × Finds same s k slab p t
Step same s (keeps k c v slab (Err e) after) t = (keep_fault same s k c (length v) (length slab) ≡ Some e) × (t ≡ s) × (after ≡ slab)
Step same s (keeps k c v slab (Ok Refreshed) after) t = (keep_fault same s k c (length v) (length slab) ≡ None) × Refreshes same s k c v slab t after
Step same s (keeps k c v slab (Ok Taken) after) t =
    (keep_fault same s k c (length v) (length slab) ≡ None) × (held_slot same s k ≡ None) × (full s ≡ false) × Takes s k c v slab t after
Step {K} same s (keeps k c v slab (Ok (TakenEvicting e)) after) t =
    (keep_fault same s k c (length v) (length slab) ≡ None) × (held_slot same s k ≡ None) × (full s ≡ true) × ((u : State K) × Evicts s e.key u × Takes u k c v slab t after)
Step same s (leases k (Err e)) t = (absence_fault same s k ≡ Some e) × (t ≡ s)
Step same s (leases k (Ok ticket)) t = (absence_fault same s k ≡ None) × Lends same s k ticket t
Step same s (writes ticket v slab (Err e) after) t = (write_fault s ticket (length v) (length slab) ≡ Some e) × (t ≡ s) × (after ≡ slab)
Step same s (writes ticket v slab (Ok u) after) t =
    (write_fault s ticket (length v) (length slab) ≡ None) × (t ≡ rewritten s ticket.slot (length v)) × (after ≡ written slab (start s ticket.slot) v)
Step same s (gives_back ticket (Err e)) t = (give_back_fault s ticket ≡ Some e) × (t ≡ s)
Step same s (gives_back ticket (Ok u)) t = (give_back_fault s ticket ≡ None) × (t ≡ returned s ticket.slot)
Step same s (drops k (Err e)) t = (absence_fault same s k ≡ Some e) × (t ≡ s)
Step same s (drops k (Ok u)) t = (absence_fault same s k ≡ None) × Removes same s k t
Step same s (tells k p) t = (p ≡ presence s.table (held_slot same s k)) × (t ≡ s)
