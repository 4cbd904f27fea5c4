-- What a row's calls leave as it was: the size, the span, the chunk size, who is admitted, and that no slot is out.
use Rattle.std.proofs.Common.{◌≡◌, ℕ, zero, suc, false, eqb, List, [], ◌∷◌, get_or, set, replicate, Some, None, sym, refl, ◌∙◌, subst, arith, length-set}
use Rattle.std.proofs.lemmas.Bool.{cond-false, and_left, ne_eqb}
use Rattle.keys.specs.declared.region.RegionNumber.{RegionNumber}
use Rattle.promises.specs.declared.records.Lending.TheVariants.{Idle}
use Rattle.promises.specs.declared.records.Record.{Record}
use Rattle.promises.specs.declared.records.Table.{Table}
use Rattle.promises.specs.State.{State, blank, record_at, is_out, out_at}
use Rattle.promises.specs.Steps.{every_out, touched, settled, with_key, evicted}
use Rattle.promises.specs.Lines.{Making, made}
use Rattle.orders.specs.Meaning.{withdrawn}
use Rattle.promises.proofs.Waits.{placed_span}
use Rattle.replays.specs.Standing.{Steady}

-- records of which none is out, and one of them is replaced
idle_set : (rs : List Record) (i : ℕ) (r : Record) → is_out r.lending ≡ false → ((j : ℕ) → is_out (get_or rs j blank).lending ≡ false) → (j : ℕ) → is_out (get_or (set rs i r) j blank).lending ≡ false
idle_set [] i r h all j = refl
idle_set (x ∷ rs) zero r h all zero = h
idle_set (x ∷ rs) zero r h all (suc j) = all (suc j)
idle_set (x ∷ rs) (suc i) r h all zero = all zero
idle_set (x ∷ rs) (suc i) r h all (suc j) = idle_set rs i r h (λ k. all (suc k)) j

idle_blank : (n j : ℕ) → is_out (get_or (replicate n blank) j blank).lending ≡ false
idle_blank zero j = refl
idle_blank (suc n) zero = refl
idle_blank (suc n) (suc j) = idle_blank n j

-- where none is out, all are out only of no slot
pub all_out : (t : Table) (n : ℕ) → ((i : ℕ) → out_at t i ≡ false) → every_out t n ≡ eqb n 0
all_out t zero idle = refl
all_out t (suc i) idle = and_left (out_at t i) (every_out t i) (idle i) ∙ sym (ne_eqb (suc i) 0 (λ e. omega (arith, e)))

module _ (m : Making RegionNumber) where
  pub steady_made : Steady m (made m)
  steady_made = record { slots_are = refl; span_is = refl; chunk_is = refl; admits = refl; idle = idle_blank 1024 }

  pub steady_at : (s t : State RegionNumber) → t ≡ s → Steady m s → Steady m t
  steady_at s t e h = subst (λ (x : State RegionNumber). Steady m x) (sym e) h

  pub steady_touched : (s : State RegionNumber) (i : ℕ) → Steady m s → Steady m (touched s i)
  steady_touched s i h = steady_at _ (touched s i) (cond-false (out_at s.table i) _ _ (h.idle i)) (record {
    slots_are = h.slots_are;
    span_is = placed_span (withdrawn s.order i) i (record_at s.table i).cost ∙ h.span_is;
    chunk_is = h.chunk_is;
    admits = h.admits;
    idle = h.idle;
  })

  pub steady_taken : (s : State RegionNumber) (i : ℕ) (k : RegionNumber) (c n : ℕ) → Steady m s → Steady m (settled (with_key s i k) i c n)
  steady_taken s i k c n h = record {
    slots_are = length-set s.directory.keys i (Some k) ∙ h.slots_are;
    span_is = placed_span s.order i c ∙ h.span_is;
    chunk_is = h.chunk_is;
    admits = h.admits;
    idle = idle_set s.table.records i (record { cost = c; len = n; lending = Idle }) refl h.idle;
  }

  pub steady_evicted : (s : State RegionNumber) (i : ℕ) → Steady m s → Steady m (evicted s i)
  steady_evicted s i h = record {
    slots_are = length-set s.directory.keys i None ∙ h.slots_are;
    span_is = h.span_is;
    chunk_is = h.chunk_is;
    admits = h.admits;
    idle = h.idle;
  }
