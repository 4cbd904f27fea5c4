-- What a lease shows, and the answers of the calls that make and end one.
use Rattle.std.specs.Prelude.{◌≡◌, true, Ok, Err, Result}
use Rattle.promises.specs.declared.answers.Refusal.{Refusal}
use Rattle.promises.specs.declared.records.Table.{Table}
use Rattle.promises.specs.declared.records.Ticket.{Ticket}
use Rattle.promises.specs.State.{known}
use Rattle.cache.specs.declared.declined.Declined.{Declined}
use Rattle.cache.specs.declared.lease.Lease.{Lease}

abbrev pub ticket_of : Lease → Ticket
ticket_of l = l.ticket

-- the answer of a lease, by its ticket
abbrev pub ticketed : Result Lease Refusal → Result Ticket Refusal
ticketed (Ok l) = Ok (ticket_of l)
ticketed (Err e) = Err e

-- a lease that was made is known to the cache that made it
abbrev pub Known : Table → Result Lease Refusal → Type 0
Known t (Ok l) = known t (ticket_of l) ≡ true
Known t (Err e) = Unit {0}

-- the answer of a call that may hand its token back, by the refusal
abbrev pub refused_by : {T : Type 0} → Result (Unit {0}) (Declined T) → Result (Unit {0}) Refusal
refused_by (Ok u) = Ok u
refused_by (Err d) = Err d.refusal

-- a declined call hands back the token that it was given
abbrev pub HandsBack : {T : Type 0} → T → Result (Unit {0}) (Declined T) → Type 0
HandsBack x (Ok u) = Unit {0}
HandsBack x (Err d) = d.token ≡ x
