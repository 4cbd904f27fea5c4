-- All the rows, one after another.
use Rattle.std.proofs.Common.{◌≡◌, ℕ, suc, ◌+◌, ◌<◌, ◌≤◌, Bool, true, false, cond, List, [], ◌∷◌, ◌++◌, length, get_or, take, drop, Some, None, Ok, Err, Option, sym, refl, ap, ◌∙◌, subst, arith, take-append-drop, length-take, drop-cons}
use Rattle.std.proofs.lemmas.List.{take_more, take_all}
use Rattle.std.proofs.lemmas.Bool.{and_from, lt-ltb, le-leb, cond-true}
use Rattle.keys.specs.Regions.{same_number}
use Rattle.keys.specs.declared.region.RegionNumber.{RegionNumber}
use Rattle.promises.specs.declared.answers.Refusal.{Refusal}
use Rattle.promises.specs.State.{State, slots}
use Rattle.promises.specs.Lines.{Making, made}
use Rattle.promises.specs.GreedyDual.{Dual, Region, outcome, kept_outcome, region_of}
use Rattle.traces.specs.declared.outcomes.Counts.{Counts}
use Rattle.traces.specs.declared.outcomes.Eviction.{Eviction}
use Rattle.traces.specs.declared.outcomes.Outcome.{Outcome}
use Rattle.traces.specs.declared.outcomes.Outcome.TheVariants.{Hit, Taken, Evicting}
use Rattle.traces.specs.declared.rows.Row.{Row}
use Rattle.traces.specs.Faults.{cache_fault}
use Rattle.traces.specs.Outcomes.{no_counts, cost_in, counted, leaving, has_room, takes_row, Tallied}
use Rattle.traces.proofs.Tallies.{tallied_none, tallied_more, tally_rows}
use Rattle.replays.specs.Replay.{empty, use_for, is_held, row_after, row_outcome, noted, paying, outcomes, first_fault, accepted}
use Rattle.replays.specs.Standing.{Worked, Stands, Goes, Sofar, dual_at}
use Rattle.replays.proofs.Rows.{outcomes_more, fine_more, fault_at, accepted_at}
use Rattle.replays.proofs.Steady.{steady_made, steady_at}

-- ---- what a row costs

paying_cost : (c : ℕ) (v : Option RegionNumber) → cost_in (paying c v) ≤ c
paying_cost c None = omega arith
paying_cost c (Some k) = omega arith

noted_cost : (b : Bool) (c : ℕ) (v : Option RegionNumber) → cost_in (cond b Hit (paying c v)) ≤ c
noted_cost true c v = omega arith
noted_cost false c v = paying_cost c v

kept_charge : (n : ℕ) (g : Dual RegionNumber) (c : ℕ) (o : Option (Region RegionNumber)) → (kept_outcome same_number n g c o).charge ≤ c
kept_charge n g c None = omega arith
kept_charge n g c (Some x) = omega arith

row_charge : (n : ℕ) (g : Dual RegionNumber) (r : Row) (b : Bool) → (outcome same_number n g (use_for b r)).charge ≤ r.cost
row_charge n g r true = omega arith
row_charge n g r false = kept_charge n g r.cost (region_of same_number r.key g.regions)

row_cost : (n : ℕ) (g : Dual RegionNumber) (r : Row) → cost_in (noted (row_outcome n g r)) ≤ r.cost
row_cost n g r =
    let o = row_outcome n g r in
    let a : cost_in (noted (row_outcome n g r)) ≤ (row_outcome n g r).charge = noted_cost (row_outcome n g r).hit (row_outcome n g r).charge (row_outcome n g r).victim in
    let b : (row_outcome n g r).charge ≤ r.cost = row_charge n g r (is_held g r) in
    omega arith

room_for : (len cap : ℕ) (o : Outcome) → len < cap → has_room len cap o ≡ true
room_for len cap Hit h = refl
room_for len cap (Taken c) h = refl
room_for len cap (Evicting c k) h = lt-ltb len cap h

-- ---- the loop

module _ (m : Making RegionNumber) (slab : ℕ) (rows : List Row) where
  pub begins : (s : State RegionNumber) (counts : Counts) (left : List Eviction) → s ≡ made m → counts ≡ no_counts → left ≡ [] → Sofar m slab (take 0 rows) s counts left
  begins s counts left e p q = record {
    stands = record { worked = record { events = []; line = e; dual_is = refl; deeds_are = refl }; steady = steady_at m (made m) s e (steady_made m) };
    fine = refl;
    tallied = tallied_none counts left p q;
  }

  counts_rows : (i : ℕ) (s : State RegionNumber) (counts : Counts) (left : List Eviction) → i < length rows → Sofar m slab (take i rows) s counts left → counts.rows ≡ i
  counts_rows i s counts left b h =
      ap (λ (c : Counts). c.rows) h.tallied.counts_are ∙ tally_rows no_counts (outcomes (slots (made m)) empty (take i rows))
      ∙ omega (arith, outcomes_length (slots (made m)) empty (take i rows), length-take i rows)
    where
      outcomes_length : (n : ℕ) (g : Dual RegionNumber) (rs : List Row) → length (outcomes n g rs) ≡ length rs
      outcomes_length n g [] = refl
      outcomes_length n g (r ∷ rs) = ap suc (outcomes_length n (row_after n g r) rs)

  -- the report takes the next row
  takes_next : (i : ℕ) (r : Row) (s t : State RegionNumber) (counts : Counts) (left : List Eviction) (len cap : ℕ) (o : Outcome) → i < length rows → length rows ≤ 2048 → length rows ≤ cap → r.cost ≤ 65280
      → len ≡ length left → counts.evictions ≡ length left → counts.hits + counts.evictions ≤ counts.rows
      → Sofar m slab (take i rows) s counts left → Goes m slab (take i rows) r t (Ok o) → takes_row counts.rows len cap o ≡ true
  takes_next i r s t counts left len cap o b few room c l e k h go =
      let n = counts_rows i s counts left b h in
      let z : cost_in o ≤ 65280 = subst (λ (x : Outcome). cost_in x ≤ 65280) (sym go.1) (omega (arith, row_cost (slots (made m)) (dual_at m (take i rows)) r)) in
      and_from _ _ (lt-ltb counts.rows 2048 (omega arith)) (and_from _ _ (le-leb (cost_in o) 65280 z) (room_for len cap o (omega arith)))

  goes_next : (i : ℕ) (d : Row) (s t : State RegionNumber) (counts more : Counts) (left later : List Eviction) (o : Outcome) → i < length rows
      → Sofar m slab (take i rows) s counts left → Goes m slab (take i rows) (get_or rows i d) t (Ok o) → more ≡ counted counts o → later ≡ left ++ leaving (counts.rows + 1) o
      → Sofar m slab (take (i + 1) rows) t more later
  goes_next i d s t counts more left later o b h (f, p, st) x y =
      subst (λ (rs : List Row). Sofar m slab rs t more later) (sym (take_more rows i d b)) (record {
        stands = st;
        fine = fine_more m slab empty 4 (take i rows) (get_or rows i d) h.fine f;
        tallied = subst (λ (os : List Outcome). Tallied os more later) (ap (λ (z : Outcome). outcomes (slots (made m)) empty (take i rows) ++ (z ∷ [])) p ∙ sym (outcomes_more (slots (made m)) empty (take i rows) (get_or rows i d)))
            (tallied_more (outcomes (slots (made m)) empty (take i rows)) o counts more left later h.tallied x y);
      })

  stops : (i : ℕ) (d : Row) (s t : State RegionNumber) (counts : Counts) (left : List Eviction) (e : Refusal) → i < length rows
      → Sofar m slab (take i rows) s counts left → Goes m slab (take i rows) (get_or rows i d) t (Err e)
      → (first_fault m slab empty 4 rows ≡ Some (cache_fault (i + 4) e)) × Worked m (accepted m slab empty rows) t
  stops i d s t counts left e b h (f, st) =
      let q : take i rows ++ (get_or rows i d ∷ drop (suc i) rows) ≡ rows = ap (λ (ys : List Row). take i rows ++ ys) (sym (drop-cons rows i d b)) ∙ take-append-drop i rows in (
        ap (first_fault m slab empty 4) (sym q) ∙ fault_at m slab empty 4 (take i rows) (get_or rows i d) (drop (suc i) rows) e h.fine f ∙ ap (λ (l : ℕ). Some (cache_fault l e)) (omega (arith, length-take i rows)),
        subst (λ (rs : List Row). Worked m rs t) (sym (ap (accepted m slab empty) (sym q) ∙ accepted_at m slab empty 4 (take i rows) (get_or rows i d) (drop (suc i) rows) e h.fine f)) st.worked,
      )

  pub ends : (i : ℕ) (s : State RegionNumber) (counts : Counts) (left : List Eviction) → length rows ≤ i → Sofar m slab (take i rows) s counts left → Sofar m slab rows s counts left
  ends i s counts left b h = subst (λ (rs : List Row). Sofar m slab rs s counts left) (take_all i rows b) h

-- The same over the slab's bytes, which no row changes.
module _ (m : Making RegionNumber) (bytes : List ℕ) (rows : List Row) (i : ℕ) (d : Row) (s t : State RegionNumber) (counts : Counts) (left : List Eviction) (mid end : List ℕ) where
  pub row_taken : (more : Counts) (later : List Eviction) (o : Outcome) (len cap most : ℕ) (b : Bool) → i < length rows → length rows ≤ 2048 → length rows ≤ most → cap ≡ most → (get_or rows i d).cost ≤ 65280
      → len ≡ length left → counts.evictions ≡ length left → counts.hits + counts.evictions ≤ counts.rows
      → Sofar m (length bytes) (take i rows) s counts left × (mid ≡ bytes) → (Stands m (take i rows) s → Goes m (length mid) (take i rows) (get_or rows i d) t (Ok o) × (end ≡ mid))
      → b ≡ takes_row counts.rows len cap o → more ≡ cond b (counted counts o) counts → later ≡ cond b (left ++ leaving (counts.rows + 1) o) left
      → Sofar m (length bytes) (take (i + 1) rows) t more later × (end ≡ bytes)
  row_taken more later o len cap most b lt few room same cost l e k (h, q) go a x y =
      let w = go h.stands in
      let z : Goes m (length bytes) (take i rows) (get_or rows i d) t (Ok o) = subst (λ (bs : List ℕ). Goes m (length bs) (take i rows) (get_or rows i d) t (Ok o)) q w.0 in
      let yes : b ≡ true = a ∙ takes_next m (length bytes) rows i (get_or rows i d) s t counts left len cap o lt few (omega arith) cost l e k h z in
      (goes_next m (length bytes) rows i d s t counts more left later o lt h z (x ∙ cond-true b _ _ yes) (y ∙ cond-true b _ _ yes), w.1 ∙ q)

  pub row_refused : (e : Refusal) → i < length rows → Sofar m (length bytes) (take i rows) s counts left × (mid ≡ bytes)
      → (Stands m (take i rows) s → Goes m (length mid) (take i rows) (get_or rows i d) t (Err e) × (end ≡ mid))
      → ((first_fault m (length bytes) empty 4 rows ≡ Some (cache_fault (i + 4) e)) × Worked m (accepted m (length bytes) empty rows) t) × (end ≡ bytes)
  row_refused e lt (h, q) go =
      let w = go h.stands in
      (stops m (length bytes) rows i d s t counts left e lt h (subst (λ (bs : List ℕ). Goes m (length bs) (take i rows) (get_or rows i d) t (Err e)) q w.0), w.1 ∙ q)
