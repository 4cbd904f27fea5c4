-- Lending, writing and taking back.
use Rattle.std.proofs.Common.{◌≡◌, ℕ, Bool, true, not, Some, None, Ok, sym, refl, ◌∙◌}
use Rattle.std.proofs.lemmas.Bool.{not_from_true, cond-false}
use Rattle.keys.specs.Sameness.{SameLaws}
use Rattle.orders.specs.Meaning.{OrderMeaning, placed, withdrawn}
use Rattle.promises.specs.declared.answers.Refusal.TheVariants.{UnknownLease}
use Rattle.promises.specs.declared.records.Lending.TheVariants.{Idle, Lent}
use Rattle.promises.specs.declared.records.Ticket.{Ticket}
use Rattle.promises.specs.State.{State, Sound, record_at, with_record, known}
use Rattle.promises.specs.Events.{leases, gives_back}
use Rattle.promises.specs.Steps.{with_lending, ticket_for}
use Rattle.cache.specs.Holding.{FindsWaiting}
use Rattle.cache.proofs.States.{parts_same, Done, done}

module _ {K : Type 0} {home : K → ℕ} (same : K → K → Bool) (L : SameLaws same home) (s : State K) (S : Sound same s) where
  pub lease_done : (k : K) (i : ℕ) (o : OrderMeaning) → FindsWaiting same s k (Ok i) → o ≡ withdrawn s.order i
      → Done same L s S (leases k (Ok (ticket_for s.table i))) (record { directory = s.directory; order = o; table = with_record s.table i (with_lending (record_at s.table i) Lent) })
  lease_done k i o w h = done same L s S (leases k (Ok (ticket_for s.table i))) _ (w.0, record { slot = i; held = w.1; names = refl; after = parts_same refl h refl })

  pub give_done : (t : Ticket) (b : Bool) (o : OrderMeaning) → b ≡ known s.table t → b ≡ true → o ≡ placed s.order t.slot (record_at s.table t.slot).cost
      → Done same L s S (gives_back t (Ok tt)) (record { directory = s.directory; order = o; table = with_record s.table t.slot (with_lending (record_at s.table t.slot) Idle) })
  give_done t b o p q h =
      done same L s S (gives_back t (Ok tt)) _ (cond-false (not (known s.table t)) (Some UnknownLease) None (not_from_true (known s.table t) (sym p ∙ q)), parts_same refl h refl)
