-- The view of a state, slot by slot, and that each step is a move of it.
use Rattle.std.proofs.Common.{◌≡◌, ℕ, ◌<◌, ◌≤◌, Bool, true, false, cond, eqb, List, length, get_or, set, is_some, Some, None, Ok, Err, Option, sym, refl, ap, ◌∙◌, subst, subst₂, ⊎_elim, arith}
use Rattle.std.proofs.lemmas.List.{length-set, get_or-set_same, get_or-set_other}
use Rattle.std.proofs.lemmas.Bool.{cases_eq, cases_Bool, both_ways, eqb-true, cond-true, cond-false, and_parts, or_from}
use Rattle.orders.specs.declared.Expelled.{Expelled}
use Rattle.orders.specs.Meaning.{leaver}
use Rattle.orders.specs.Meaning as order
use Rattle.directories.specs.Meaning.{key_at, pairs}
use Rattle.directories.specs.Meaning as directory
use Rattle.promises.specs.declared.answers.Kept.TheVariants.{Refreshed, Taken, TakenEvicting}
use Rattle.promises.specs.declared.records.Lending.TheVariants.{Idle, Lent}
use Rattle.promises.specs.declared.records.Record.{Record}
use Rattle.promises.specs.declared.records.Ticket.{Ticket}
use Rattle.promises.specs.State.{State, Sound, slots, held_slot, record_at, is_out, out_at}
use Rattle.promises.specs.Events.{Event, gets, keeps, leases, writes, gives_back, drops, tells, Effect, hit, refreshed, took, took_evicting, lent_out, rewrote, came_back, removed, effect}
use Rattle.promises.specs.Steps.{Step, Takes, Evicts, keep_fault, write_fault, give_back_fault, absence_fault, out_slot, ticket_for, touched, settled, withdrew, with_key, evicted, with_lending, lent_slot, rewritten, returned, dropped, full}
use Rattle.promises.proofs.Optional.{some_of}
use Rattle.promises.proofs.Views.{Place, free, waits, lies_out, holds, lower, View, Only, Expels, Enters, Unheld, Full, Idle as IdleEffect, idle_nothing, idle_rewrote, Moves, rests, sees, touches, refreshes, takes, evicts, lends, takes_back, removes}
use Rattle.promises.proofs.Credits.{credit_at, less, waiting_credit, withdrawn_here, withdrawn_other, placed_here, placed_other, replaced_here, replaced_other, leaver_credit, rest_at, leaver_least}
use Rattle.promises.proofs.Seeks.{slot_in_holds, absent, held_below, key_freed, key_freed_other, key_entered, full_held}
use Rattle.promises.proofs.Waits.{leaver_waits}
use Rattle.promises.proofs.Sounds.{accepted, write_known, give_known, known_out, absence_idle, out_held, out_not_waiting, waiting_not_out, unheld_idle, sound_evicted}

abbrev waiting_place : {K : Type 0} → K → ℕ → Option ℕ → Place K
waiting_place k c None = free
waiting_place k c (Some r) = waits k c r

abbrev pub place_of : {K : Type 0} → Option K → Record → Option ℕ → Place K
place_of None g c = free
place_of (Some k) g c = cond (is_out g.lending) (lies_out k g.cost) (waiting_place k g.cost c)

abbrev pub view : {K : Type 0} → State K → View K
view s i = place_of (key_at s.directory i) (record_at s.table i) (credit_at s.order.waiting i)

-- t is s with what the slot i has changed
pub record Changes {K : Type 0} (i : ℕ) (k : Option K) (g : Record) (c : Option ℕ) (s t : State K) : Type 0 where
  pub key_here : key_at t.directory i ≡ k
  pub record_here : record_at t.table i ≡ g
  pub credit_here : credit_at t.order.waiting i ≡ c
  pub key_others : (j : ℕ) → (j ≡ i → ⊥) → key_at t.directory j ≡ key_at s.directory j
  pub record_others : (j : ℕ) → (j ≡ i → ⊥) → record_at t.table j ≡ record_at s.table j
  pub credit_others : (j : ℕ) → (j ≡ i → ⊥) → credit_at t.order.waiting j ≡ credit_at s.order.waiting j

pub changes_view : {K : Type 0} {i : ℕ} {k : Option K} {g : Record} {c : Option ℕ} {s t : State K} → Changes i k g c s t → Only i (place_of k g c) (view s) (view t)
changes_view ch = record {
  here = let a = ch.key_here in let b = ch.record_here in let d = ch.credit_here in cc;
  others = λ j ne. let a = ch.key_others j ne in let b = ch.record_others j ne in let d = ch.credit_others j ne in cc;
}

some_key : {K : Type 0} (same : K → K → Bool) (k : K) (o : Option K) → directory.holds same k o ≡ true → (a : K) × (o ≡ Some a) × (same a k ≡ true)
some_key same k None e = absurd (both_ways false refl e)
some_key same k (Some a) e = (a, refl, e)

-- What the view shows of a slot.
module _ {K : Type 0} (s : State K) (i : ℕ) where
  pub view_free : key_at s.directory i ≡ None → view s i ≡ free
  view_free e = cc

  pub view_out : (k : K) → key_at s.directory i ≡ Some k → out_at s.table i ≡ true → view s i ≡ lies_out k (record_at s.table i).cost
  view_out k e l = cc

  pub view_waits : (k : K) (r : ℕ) → key_at s.directory i ≡ Some k → out_at s.table i ≡ false → credit_at s.order.waiting i ≡ Some r → view s i ≡ waits k (record_at s.table i).cost r
  view_waits k r e l c = cc

place_less : {K : Type 0} (k : Option K) (g : Record) (c : Option ℕ) (d : ℕ) → place_of k g (less d c) ≡ lower d (place_of k g c)
place_less None g c d = refl
place_less (Some k) g c d = go (is_out g.lending) c
  where
    go : (t : Bool) (c : Option ℕ) → cond t (lies_out k g.cost) (waiting_place k g.cost (less d c)) ≡ lower d (cond t (lies_out k g.cost) (waiting_place k g.cost c))
    go true c = refl
    go false None = refl
    go false (Some r) = refl

-- what a place that waits says of its slot
place_waits : {K : Type 0} (o : Option K) (g : Record) (c : Option ℕ) (k : K) (p r : ℕ) → place_of o g c ≡ waits k p r → c ≡ Some r
place_waits None g c k p r e = let z : ◌≡◌ {A = ℕ} 0 1 = cc in absurd (omega arith)
place_waits (Some l) g c k p r e = go (is_out g.lending) c e
  where
    go : (t : Bool) (c : Option ℕ) → cond t (lies_out l g.cost) (waiting_place l g.cost c) ≡ waits k p r → c ≡ Some r
    go true c e = let z : ◌≡◌ {A = ℕ} 0 1 = cc in absurd (omega arith)
    go false None e = let z : ◌≡◌ {A = ℕ} 0 1 = cc in absurd (omega arith)
    go false (Some q) e = cc

-- a slot with a key that is not out
place_waiting : {K : Type 0} (o : Option K) (g : Record) (k : K) (r : ℕ) → o ≡ Some k → is_out g.lending ≡ false → place_of o g (Some r) ≡ waits k g.cost r
place_waiting o g k r e l = cc

only_place : {K : Type 0} {i : ℕ} {p q : Place K} {v w : View K} → p ≡ q → Only i p v w → Only i q v w
only_place {i = i} {v = v} {w = w} e o = subst (λ x. Only i x v w) e o

unheld_place : {K : Type 0} (same : K → K → Bool) (k : K) (o : Option K) (g : Record) (c : Option ℕ) → directory.holds same k o ≡ false → holds same k (place_of o g c) ≡ false
unheld_place same k None g c h = refl
unheld_place same k (Some l) g c h = go (is_out g.lending) c
  where
    go : (t : Bool) (c : Option ℕ) → holds same k (cond t (lies_out l g.cost) (waiting_place l g.cost c)) ≡ false
    go true c = h
    go false None = refl
    go false (Some r) = h

module _ {K : Type 0} (same : K → K → Bool) (s : State K) (so : Sound same s) where
  -- a slot that has a key and is not out has a credit
  pub waiting_slot : (i : ℕ) (k : K) → key_at s.directory i ≡ Some k → out_at s.table i ≡ false → (r : ℕ) × (credit_at s.order.waiting i ≡ Some r)
  waiting_slot i k e l = waiting_credit s.order.waiting i (⊎_elim (λ t. t) (λ t. absurd (both_ways (is_some (key_at s.directory i)) ((so.each i).either ∙ or_from _ _ t l) (ap is_some e))) (cases_Bool (order.waits i s.order.waiting)))

  pub found_key : (k : K) (i : ℕ) → held_slot same s k ≡ Some i → (a : K) × (key_at s.directory i ≡ Some a) × (same a k ≡ true)
  found_key k i h = some_key same k (key_at s.directory i) (slot_in_holds same k s.directory.keys i h)

  pub in_slots : (i : ℕ) (k : K) → key_at s.directory i ≡ Some k → i < slots s
  in_slots i k e = held_below same s.directory i (ap is_some e)

  unheld_view : (k : K) → held_slot same s k ≡ None → Unheld same k (view s)
  unheld_view k h i = unheld_place same k (key_at s.directory i) (record_at s.table i) (credit_at s.order.waiting i) (absent same k s.directory.keys i h)

  full_view : full s ≡ true → Full (slots s) (view s)
  full_view h i l e =
      let x = some_of (key_at s.directory i) (full_held s.directory.keys i (eqb-true (pairs s.directory.keys) (slots s) h) l) in
      ⊎_elim
      (λ t. let a = view_out s i x.0 x.1 t in let z : ◌≡◌ {A = ℕ} 0 1 = cc in omega arith)
      (λ t. let r = waiting_slot i x.0 x.1 t in let a = view_waits s i x.0 r.0 x.1 t r.1 in let z : ◌≡◌ {A = ℕ} 0 1 = cc in omega arith)
      (cases_Bool (out_at s.table i))

  module _ (i : ℕ) (inside : i < slots s) where
    in_table : i < length s.table.records
    in_table = omega (arith, so.few, so.recorded)

    in_order : i < s.order.size
    in_order = omega (arith, so.fits)

    -- the table with another record at the slot
    new_record : (g : Record) → get_or (set s.table.records i g) i (record { cost = 0; len = 0; lending = Idle }) ≡ g
    new_record g = get_or-set_same s.table.records i g _ in_table

    touched_changes : 1 ≤ (record_at s.table i).cost → (record_at s.table i).cost ≤ s.order.span
        → Changes i (key_at s.directory i) (record_at s.table i) (Some (record_at s.table i).cost) s (record { directory = s.directory; order = order.placed (order.withdrawn s.order i) i (record_at s.table i).cost; table = s.table })
    touched_changes low high = record {
      key_here = refl;
      record_here = refl;
      credit_here = replaced_here s.order i _ in_order low high;
      key_others = λ j ne. refl;
      record_others = λ j ne. refl;
      credit_others = λ j ne. replaced_other s.order i _ in_order low high j ne;
    }

    renewed_changes : (c n : ℕ) → 1 ≤ c → c ≤ s.order.span → Changes i (key_at s.directory i) (record { cost = c; len = n; lending = Idle }) (Some c) s (settled (withdrew s i) i c n)
    renewed_changes c n low high = record {
      key_here = refl;
      record_here = new_record _;
      credit_here = replaced_here s.order i c in_order low high;
      key_others = λ j ne. refl;
      record_others = λ j ne. get_or-set_other s.table.records i j _ _ ne;
      credit_others = λ j ne. replaced_other s.order i c in_order low high j ne;
    }

    entered_changes : (k : K) (c n : ℕ) → order.waits i s.order.waiting ≡ false → 1 ≤ c → c ≤ s.order.span → Changes i (Some k) (record { cost = c; len = n; lending = Idle }) (Some c) s (settled (with_key s i k) i c n)
    entered_changes k c n idle low high = record {
      key_here = key_entered same s.directory i k inside;
      record_here = new_record _;
      credit_here = placed_here s.order i c in_order idle low high;
      key_others = λ j ne. get_or-set_other s.directory.keys i j _ _ ne;
      record_others = λ j ne. get_or-set_other s.table.records i j _ _ ne;
      credit_others = λ j ne. placed_other s.order i c in_order idle low high j ne;
    }

    lent_changes : Changes i (key_at s.directory i) (with_lending (record_at s.table i) Lent) None s (lent_slot s i)
    lent_changes = record {
      key_here = refl;
      record_here = new_record _;
      credit_here = withdrawn_here s.order i;
      key_others = λ j ne. refl;
      record_others = λ j ne. get_or-set_other s.table.records i j _ _ ne;
      credit_others = λ j ne. withdrawn_other s.order i j ne;
    }

    rewritten_changes : (n : ℕ) → Changes i (key_at s.directory i) (record { cost = (record_at s.table i).cost; len = n; lending = (record_at s.table i).lending }) (credit_at s.order.waiting i) s (rewritten s i n)
    rewritten_changes n = record {
      key_here = refl;
      record_here = new_record _;
      credit_here = refl;
      key_others = λ j ne. refl;
      record_others = λ j ne. get_or-set_other s.table.records i j _ _ ne;
      credit_others = λ j ne. refl;
    }

    returned_changes : order.waits i s.order.waiting ≡ false → 1 ≤ (record_at s.table i).cost → (record_at s.table i).cost ≤ s.order.span
        → Changes i (key_at s.directory i) (with_lending (record_at s.table i) Idle) (Some (record_at s.table i).cost) s (returned s i)
    returned_changes idle low high = record {
      key_here = refl;
      record_here = new_record _;
      credit_here = placed_here s.order i _ in_order idle low high;
      key_others = λ j ne. refl;
      record_others = λ j ne. get_or-set_other s.table.records i j _ _ ne;
      credit_others = λ j ne. placed_other s.order i _ in_order idle low high j ne;
    }

    dropped_changes : Changes i None (record_at s.table i) None s (dropped s i)
    dropped_changes = record {
      key_here = key_freed same s.directory i;
      record_here = refl;
      credit_here = withdrawn_here s.order i;
      key_others = λ j ne. key_freed_other same s.directory i j ne;
      record_others = λ j ne. refl;
      credit_others = λ j ne. withdrawn_other s.order i j ne;
    }

  -- the first of the order leaves
  expelled_view : (f : Expelled) (x : K) → leaver s.order.waiting ≡ Some f → key_at s.directory f.slot ≡ Some x → Expels (slots s) f.slot f.credit x (view s) (view (evicted s f.slot))
  expelled_view f x first key = record {
    within = in_slots f.slot x key;
    cost = (record_at s.table f.slot).cost;
    was = view_waits s f.slot x f.credit key (waiting_not_out same s f.slot so (leaver_waits s.order.waiting f first)) (leaver_credit s.order.waiting f first);
    least = λ j k c r h. leaver_least s.order.waiting f so.lawful.sorted first j r (place_waits (key_at s.directory j) (record_at s.table j) (credit_at s.order.waiting j) k c r h);
    gone = view_free (evicted s f.slot) f.slot (key_freed same s.directory f.slot);
    others = λ j ne.
        let a = key_freed_other same s.directory f.slot j ne in
        let b = rest_at s.order.waiting f j first ne in
        let d = place_less (key_at s.directory j) (record_at s.table j) (credit_at s.order.waiting j) f.credit in
        cc;
  }

-- what a step leaves
pub record Follows {K : Type 0} (same : K → K → Bool) (s : State K) (e : Effect K) (t : State K) : Type 0 where
  pub moves : Moves same (slots s) s.table.mark (view s) (view t) e
  pub same_size : slots t ≡ slots s
  pub same_mark : t.table.mark ≡ s.table.mark

module _ {K : Type 0} (same : K → K → Bool) (s : State K) (so : Sound same s) where
  rests_put : {e : Effect K} (t : State K) → IdleEffect e → t ≡ s → Follows same s e t
  rests_put {e = e} t i q = subst (λ x. Follows same s e x) (sym q) (record { moves = rests i (λ j. refl); same_size = refl; same_mark = refl })

  -- a key that is found
  finds_put : (t : State K) (k : K) (i : ℕ) → held_slot same s k ≡ Some i → t ≡ touched s i → Follows same s (hit k) t
  finds_put t k i h q = let x = found_key same s so k i h in ⊎_elim
      (λ o. subst (λ y. Follows same s (hit k) y) (sym (q ∙ cond-true (out_at s.table i) s _ o)) (record {
        moves = sees i (record_at s.table i).cost (view_out s i x.0 x.1 o) x.2 (λ j. refl);
        same_size = refl;
        same_mark = refl;
      }))
      (λ o. let r = waiting_slot same s so i x.0 x.1 o in
      let l = in_slots same s so i x.0 x.1 in
      let ch = touched_changes same s so i l ((so.each i).cost_low (ap is_some x.1)) ((so.each i).cost_high (ap is_some x.1)) in
      subst (λ y. Follows same s (hit k) y) (sym (q ∙ cond-false (out_at s.table i) s _ o)) (record {
        moves = touches i (record_at s.table i).cost r.0 l (view_waits s i x.0 r.0 x.1 o r.1) x.2 (only_place (place_waiting (key_at s.directory i) (record_at s.table i) x.0 (record_at s.table i).cost x.1 o) (changes_view ch));
        same_size = refl;
        same_mark = refl;
      }))
      (cases_Bool (out_at s.table i))

  refreshes_put : (t : State K) (k : K) (c : ℕ) (v : List ℕ) (m i : ℕ) → keep_fault same s k c (length v) m ≡ None → held_slot same s k ≡ Some i → t ≡ settled (withdrew s i) i c (length v) → Follows same s (refreshed k c v) t
  refreshes_put t k c v m i ok h q =
      let x = found_key same s so k i h in
      let a = accepted same s k c (length v) m ok in
      let o : out_at s.table i ≡ false = ap (out_slot s.table) (sym h) ∙ a.idle in
      let r = waiting_slot same s so i x.0 x.1 o in
      let l = in_slots same s so i x.0 x.1 in
      let ch = renewed_changes same s so i l c (length v) a.cost_low a.cost_high in
      subst (λ y. Follows same s (refreshed k c v) y) (sym q) (record {
        moves = refreshes i (record_at s.table i).cost r.0 l (view_waits s i x.0 r.0 x.1 o r.1) x.2 a.cost_low (only_place (ap (λ y. place_of y (record { cost = c; len = length v; lending = Idle }) (Some c)) x.1) (changes_view ch));
        same_size = refl;
        same_mark = refl;
      })

  -- a new key at an unused slot
  pub enters_view : {t : State K} {k : K} {c : ℕ} {v slab slab' : List ℕ} (tk : Takes s k c v slab t slab') → 1 ≤ c → c ≤ s.order.span → Enters (slots s) tk.slot k c (view s) (view t)
  enters_view {k = k} {c = c} {v = v} tk low high =
      let ch = entered_changes same s so tk.slot tk.below k c (length v) (unheld_idle same s tk.slot so tk.unused).0 low high in
      subst (λ y. Enters (slots s) tk.slot k c (view s) (view y)) (sym tk.after) (record { within = tk.below; unused = view_free s tk.slot tk.unused; positive = low; entered = changes_view ch })

  takes_put : {t : State K} {k : K} {c : ℕ} {v slab slab' : List ℕ} → keep_fault same s k c (length v) (length slab) ≡ None → held_slot same s k ≡ None → Takes s k c v slab t slab' → Follows same s (took k c v) t
  takes_put {k = k} {c = c} {v = v} {slab = slab} ok un tk =
      let a = accepted same s k c (length v) (length slab) ok in
      record {
        moves = takes tk.slot (unheld_view same s so k un) (enters_view tk a.cost_low a.cost_high);
        same_size = ap slots tk.after ∙ length-set s.directory.keys tk.slot _;
        same_mark = ap (λ (y : State K). y.table.mark) tk.after;
      }

  lends_put : (t : State K) (k : K) (ticket : Ticket) (i : ℕ) → absence_fault same s k ≡ None → held_slot same s k ≡ Some i → ticket ≡ ticket_for s.table i → t ≡ lent_slot s i → Follows same s (lent_out k ticket) t
  lends_put t k ticket i ok h n q =
      let x = found_key same s so k i h in
      let o = absence_idle same s k i ok h in
      let r = waiting_slot same s so i x.0 x.1 o in
      let l = in_slots same s so i x.0 x.1 in
      subst₂ (λ n y. Follows same s (lent_out k n) y) (sym n) (sym q) (record {
        moves = lends (record_at s.table i).cost r.0 refl l (view_waits s i x.0 r.0 x.1 o r.1) x.2 (only_place (ap (λ y. place_of y (with_lending (record_at s.table i) Lent) None) x.1) (changes_view (lent_changes same s so i l)));
        same_size = refl;
        same_mark = refl;
      })

  rewrites_put : (t : State K) (ticket : Ticket) (v : List ℕ) (m : ℕ) → write_fault s ticket (length v) m ≡ None → t ≡ rewritten s ticket.slot (length v) → Follows same s (rewrote ticket v) t
  rewrites_put t ticket v m ok q =
      let o = known_out s.table ticket (write_known s ticket (length v) m ok) in
      let l = held_below same s.directory ticket.slot (out_held same s ticket.slot so o) in
      let on = changes_view (rewritten_changes same s so ticket.slot l (length v)) in
      subst (λ y. Follows same s (rewrote ticket v) y) (sym q) (record {
        moves = rests (idle_rewrote ticket v) (λ j. ⊎_elim (λ e. subst (λ y. view (rewritten s ticket.slot (length v)) y ≡ view s y) (sym e) (on.here ∙ alike_place (key_at s.directory ticket.slot) (record_at s.table ticket.slot) (length v) (credit_at s.order.waiting ticket.slot))) (λ ne. on.others j ne) (cases_eq j ticket.slot));
        same_size = refl;
        same_mark = refl;
      })
    where
      -- the length of the value does not show
      alike_place : (k : Option K) (g : Record) (n : ℕ) (c : Option ℕ) → place_of k (record { cost = g.cost; len = n; lending = g.lending }) c ≡ place_of k g c
      alike_place None g n c = refl
      alike_place (Some k) g n c = refl

  returns_put : (t : State K) (ticket : Ticket) → give_back_fault s ticket ≡ None → t ≡ returned s ticket.slot → Follows same s (came_back ticket) t
  returns_put t ticket ok q =
      let kn = give_known s ticket ok in
      let o = known_out s.table ticket kn in
      let mk = eqb-true ticket.mark s.table.mark (and_parts (eqb ticket.mark s.table.mark) (out_at s.table ticket.slot) kn).0 in
      let h = out_held same s ticket.slot so o in
      let x = some_of (key_at s.directory ticket.slot) h in
      let l = held_below same s.directory ticket.slot h in
      let ch = returned_changes same s so ticket.slot l (out_not_waiting same s ticket.slot so o) ((so.each ticket.slot).cost_low h) ((so.each ticket.slot).cost_high h) in
      subst (λ y. Follows same s (came_back ticket) y) (sym q) (record {
        moves = takes_back (record_at s.table ticket.slot).cost mk l (view_out s ticket.slot x.0 x.1 o) (only_place (ap (λ y. place_of y (with_lending (record_at s.table ticket.slot) Idle) (Some (record_at s.table ticket.slot).cost)) x.1) (changes_view ch));
        same_size = refl;
        same_mark = refl;
      })

  removes_put : (t : State K) (k : K) (i : ℕ) → absence_fault same s k ≡ None → held_slot same s k ≡ Some i → t ≡ dropped s i → Follows same s (removed k) t
  removes_put t k i ok h q =
      let x = found_key same s so k i h in
      let o = absence_idle same s k i ok h in
      let r = waiting_slot same s so i x.0 x.1 o in
      let l = in_slots same s so i x.0 x.1 in
      subst (λ y. Follows same s (removed k) y) (sym q) (record {
        moves = removes i (record_at s.table i).cost r.0 l (view_waits s i x.0 r.0 x.1 o r.1) x.2 (changes_view (dropped_changes same s so i l));
        same_size = length-set s.directory.keys i None;
        same_mark = refl;
      })

module _ {K : Type 0} (same : K → K → Bool) (s : State K) (so : Sound same s) where
  evicts_put : {t : State K} {k left : K} {c : ℕ} {v slab slab' : List ℕ} (u : State K) → keep_fault same s k c (length v) (length slab) ≡ None → held_slot same s k ≡ None → full s ≡ true → Evicts s left u → Takes u k c v slab t slab' → Follows same s (took_evicting k c v left) t
  evicts_put {t = t} {k = k} {left = left} {c = c} {v = v} {slab = slab} {slab' = slab'} u ok un fu ev tk =
      let a = accepted same s k c (length v) (length slab) ok in
      let tk' : Takes (evicted s ev.first.slot) k c v slab t slab' = subst (λ y. Takes y k c v slab t slab') ev.after tk in
      let n : slots (evicted s ev.first.slot) ≡ slots s = length-set s.directory.keys ev.first.slot None in
      let en = enters_view same (evicted s ev.first.slot) (sound_evicted same s ev.first so ev.least) tk' a.cost_low a.cost_high in
      record {
        moves = evicts ev.first.slot tk'.slot ev.first.credit (view (evicted s ev.first.slot)) (unheld_view same s so k un) (full_view same s so fu)
            (expelled_view same s so ev.first left ev.least ev.key)
            (subst (λ m. Enters m tk'.slot k c (view (evicted s ev.first.slot)) (view t)) n en);
        same_size = ap slots tk'.after ∙ length-set (evicted s ev.first.slot).directory.keys tk'.slot _ ∙ n;
        same_mark = ap (λ (y : State K). y.table.mark) tk'.after;
      }

-- each step is a move
pub step_follows : {K : Type 0} (same : K → K → Bool) (s t : State K) (e : Event K) → Sound same s → Step same s e t → Follows same s (effect e) t
step_follows same s t (gets k slab (Err e)) so st = rests_put same s so t idle_nothing st.1
step_follows same s t (gets k slab (Ok None)) so st = rests_put same s so t idle_nothing st.2
step_follows same s t (gets k slab (Ok (Some p))) so st = finds_put same s so t k st.1.slot st.1.held st.1.after
step_follows same s t (keeps k c v slab (Err e) later) so st = rests_put same s so t idle_nothing st.1
step_follows same s t (keeps k c v slab (Ok Refreshed) later) so st = refreshes_put same s so t k c v (length slab) st.1.slot st.0 st.1.held st.1.after
step_follows same s t (keeps k c v slab (Ok Taken) later) so st = takes_put same s so st.0 st.1 st.3
step_follows same s t (keeps k c v slab (Ok (TakenEvicting e)) later) so (ok, un, fu, (u, ev, tk)) = evicts_put same s so u ok un fu ev tk
step_follows same s t (leases k (Err e)) so st = rests_put same s so t idle_nothing st.1
step_follows same s t (leases k (Ok ticket)) so st = lends_put same s so t k ticket st.1.slot st.0 st.1.held st.1.names st.1.after
step_follows same s t (writes ticket v slab (Err e) later) so st = rests_put same s so t idle_nothing st.1
step_follows same s t (writes ticket v slab (Ok u) later) so st = rewrites_put same s so t ticket v (length slab) st.0 st.1
step_follows same s t (gives_back ticket (Err e)) so st = rests_put same s so t idle_nothing st.1
step_follows same s t (gives_back ticket (Ok u)) so st = returns_put same s so t ticket st.0 st.1
step_follows same s t (drops k (Err e)) so st = rests_put same s so t idle_nothing st.1
step_follows same s t (drops k (Ok u)) so st = removes_put same s so t k st.1.slot st.0 st.1.held st.1.after
step_follows same s t (tells k p) so st = rests_put same s so t idle_nothing st.1
