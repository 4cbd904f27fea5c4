-- Loans: what worker code does between a lease and its give-back.
use Rattle.std.specs.Prelude.{◌≡◌, ℕ, Bool, List, Ok, Err, Result}
use Rattle.promises.specs.declared.answers.Refusal.{Refusal}
use Rattle.promises.specs.declared.records.Ticket.{Ticket}
use Rattle.promises.specs.State.{State, known}
use Rattle.promises.specs.Events.{leases, writes, gives_back}
use Rattle.promises.specs.Steps.{Step}

-- exactly those leases are out after that were out before (a relation of two states, so that no field of a value can hold it)
pub record KeepsLeases {K : Type 0} (s u : State K) : Type 0 where
  pub kept : (t : Ticket) → known u.table t ≡ known s.table t

-- A region is leased, written and given back: where the lease is refused, that is the answer and nothing changes; else the write's answer is.
pub data Rewrites {K : Type 0} (same : K → K → Bool) (s : State K) (k : K) (v slab : List ℕ) : Result (Unit {0}) Refusal → State K → List ℕ → Type 0 where
  turned_away : (e : Refusal) (u : State K) → Step same s (leases k (Err e)) u → Rewrites same s k v slab (Err e) u slab
  served : (t : Ticket) (a b u : State K) (r : Result (Unit {0}) Refusal) (after : List ℕ)
      → Step same s (leases k (Ok t)) a → Step same a (writes t v slab r after) b → Step same b (gives_back t (Ok tt)) u
      → Rewrites same s k v slab r u after
