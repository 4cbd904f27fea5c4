-- The state of a cache as values: who is where, who waits, and what is remembered of each slot. It has no bytes, which are the host's.
use Rattle.std.specs.Prelude.{◌≡◌, ℕ, ◌≤◌, Bool, true, false, ◌&&◌, ◌||◌, length, is_some, Option, ◌==◌, ◌≢◌, slice_index_or, slice_set}
use Rattle.orders.specs.Meaning.{OrderMeaning, Lawful, waits}
use Rattle.directories.specs.Meaning.{DirectoryMeaning, Distinct, size, key_at, find}
use Rattle.promises.specs.declared.records.Lending.{Lending}
use Rattle.promises.specs.declared.records.Lending.TheVariants.{Idle, Lent}
use Rattle.promises.specs.declared.records.Record.{Record}
use Rattle.promises.specs.declared.records.Table.{Table}
use Rattle.promises.specs.declared.records.Ticket.{Ticket}

pub record State (K : Type 0) : Type 0 where
  pub directory : DirectoryMeaning K
  pub order : OrderMeaning
  pub table : Table

-- N, the number of slots
abbrev pub slots : {K : Type 0} → State K → ℕ
slots s = size s.directory

-- the slot at which a key is held, waiting or out
abbrev pub held_slot : {K : Type 0} → (K → K → Bool) → State K → K → Option ℕ
held_slot same s k = find same s.directory k

-- what is remembered of a slot that no region ever had
abbrev pub blank : Record
blank = record { cost = 0; len = 0; lending = Idle }

abbrev pub record_at : Table → ℕ → Record
record_at t i = slice_index_or t.records i blank

abbrev pub with_record : Table → ℕ → Record → Table
with_record t i r = record { mark = t.mark; chunk = t.chunk; records = slice_set t.records i r }

abbrev pub is_out : Lending → Bool
is_out Idle = false
is_out Lent = true

abbrev pub out_at : Table → ℕ → Bool
out_at t i = is_out (record_at t i).lending

-- the ticket is of this cache, and its slot is out
abbrev pub known : Table → Ticket → Bool
known t k = k.mark == t.mark && out_at t k.slot

-- What holds of a slot of a sound state: it has a key exactly if it waits or is out, and never both.
pub record SoundSlot (held waiting : Bool) (r : Record) (chunk span : ℕ) : Type 0 where
  pub either : held ≡ (waiting || is_out r.lending)
  pub never_both : waiting ≡ true → is_out r.lending ≢ true
  pub cost_low : held ≡ true → 1 ≤ r.cost
  pub cost_high : held ≡ true → r.cost ≤ span
  pub short : r.len ≤ chunk

-- What holds of a state between calls: the directory, the order and the table agree.
pub record Sound {K : Type 0} (same : K → K → Bool) (s : State K) : Type 0 where
  pub few : slots s ≤ 1024
  pub fits : slots s ≤ s.order.size
  pub recorded : length s.table.records ≡ 1024
  pub chunk_low : 1 ≤ s.table.chunk
  pub chunk_high : s.table.chunk ≤ 4096
  pub lawful : Lawful s.order
  pub distinct : Distinct same s.directory
  pub each : (i : ℕ) → SoundSlot (is_some (key_at s.directory i)) (waits i s.order.waiting) (record_at s.table i) s.table.chunk s.order.span
