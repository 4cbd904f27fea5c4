-- What a replay owes, from what the rows answered.
use Rattle.std.proofs.Common.{◌≡◌, ℕ, ◌≤◌, min, List, [], length, Ok, Err, vec_items, Result, sym, refl, ap, subst, arith}
use Rattle.keys.specs.declared.region.RegionNumber.{RegionNumber}
use Rattle.promises.specs.State.{State, slots}
use Rattle.promises.specs.Lines.{Making, made}
use Rattle.traces.specs.declared.faults.RowFault.{RowFault}
use Rattle.traces.specs.declared.faults.TraceError.{TraceError}
use Rattle.traces.specs.declared.faults.TraceError.TheVariants.{Found, Memory}
use Rattle.traces.specs.declared.report.Report.{Report}
use Rattle.traces.specs.declared.rows.Row.{Row}
use Rattle.traces.specs.Faults.{cache_fault}
use Rattle.replays.specs.Replayed.{Replays}
use Rattle.replays.specs.Standing.{Went}

module _ (m : Making RegionNumber) (slab : List ℕ) (rows : List Row) (s : State RegionNumber) where
  replays_at : (x y : Result Report TraceError) (later : List ℕ) → y ≡ x → Replays m slab rows x s later → Replays m slab rows y s later
  replays_at x y later e h = subst (λ (z : Result Report TraceError). Replays m slab rows z s later) (sym e) h

  pub no_memory : (x : Result Report TraceError) → x ≡ Err Memory → s ≡ made m → Replays m slab rows x s slab
  no_memory x p e = replays_at (Err Memory) x slab p (record { answers = tt; worked = record { events = []; line = e; dual_is = refl; deeds_are = refl }; same_slab = refl })

  pub refuses : (x : Result Report TraceError) (r : Report) (f : RowFault) (later : List ℕ) → x ≡ Err (Found (cache_fault f.line f.refusal))
      → Went m (length slab) rows s r.counts (vec_items r.evicted) (Err f) × (later ≡ slab) → Replays m slab rows x s later
  refuses x r f later p (w, q) = replays_at (Err (Found (cache_fault f.line f.refusal))) x later p (record { answers = w.0; worked = w.1; same_slab = q })

  pub reports : (b : State RegionNumber) (r : Report) (n k : ℕ) (later : List ℕ) → b ≡ made m → slots b ≤ 1024 → n ≡ slots b → k ≡ min n 1024 → r.slots ≡ k
      → Went m (length slab) rows s r.counts (vec_items r.evicted) (Ok tt) × (later ≡ slab) → Replays m slab rows (Ok r) s later
  reports b r n k later e few i j q (w, z) =
      let a : slots b ≡ slots (made m) = ap slots e in
      record {
        answers = (w.fine, record { slots_are = omega arith; tallied = w.tallied });
        worked = w.stands.worked;
        same_slab = z;
      }
