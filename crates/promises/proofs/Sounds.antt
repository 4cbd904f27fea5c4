-- Every step keeps a cache sound, and a made cache is sound.
use Rattle.std.proofs.Common.{◌≡◌, ℕ, zero, suc, ◌*◌, ◌<◌, ◌≤◌, min, Bool, true, false, cond, not, ◌||◌, eqb, ltb, List, [], ◌∷◌, length, get_or, replicate, is_some, Some, None, Ok, Err, Option, sym, refl, ap, ◌∙◌, subst, ⊎_elim, arith, length-set, get_or-set_other, get_or-set_same}
use lib.ListN.{length-replicate}
use Rattle.std.proofs.lemmas.Bool.{cases_eq, cases_Bool, both_ways, and_parts, or_parts, or_left, or_right, eq-eqb, ne_eqb, eqb-false, ltb-false, not-false}
use Rattle.std.proofs.lemmas.List.{get_or_past}
use Rattle.keys.specs.Sameness.{SameLaws}
use Rattle.orders.specs.declared.Expelled.{Expelled}
use Rattle.orders.specs.Meaning.{OrderMeaning, Lawful, waits, takes, placed, withdrawn, leaver}
use Rattle.directories.specs.Meaning.{DirectoryMeaning, Distinct, key_at}
use Rattle.promises.specs.declared.answers.Refusal.{Refusal}
use Rattle.promises.specs.declared.answers.Refusal.TheVariants.{BadCost, LongValue, ShortSlab, UnknownLease, NotHeld, OnLease, NotAdmitted}
use Rattle.promises.specs.declared.answers.Kept.TheVariants.{Refreshed, Taken, TakenEvicting}
use Rattle.promises.specs.declared.records.Lending.TheVariants.{Idle, Lent}
use Rattle.promises.specs.declared.records.Record.{Record}
use Rattle.promises.specs.declared.records.Table.{Table}
use Rattle.promises.specs.declared.records.Ticket.{Ticket}
use Rattle.promises.specs.State.{State, Sound, SoundSlot, slots, held_slot, blank, record_at, with_record, is_out, out_at, known}
use Rattle.promises.specs.Events.{Event, gets, keeps, leases, writes, gives_back, drops, tells}
use Rattle.promises.specs.Steps.{Step, Takes, bad_cost, long_value, short_slab, out_slot, keep_fault, write_fault, give_back_fault, absence_fault, touched, settled, withdrew, with_key, evicted, with_lending, lent_slot, rewritten, returned, dropped}
use Rattle.promises.specs.Lines.{Making, made, Line}
use Rattle.promises.proofs.Waits.{waits_gone, waits_other, leaver_waits, leaver_gone, leaver_others, can_place, placed_size, placed_span, placed_waits, lawful_placed, lawful_withdrawn, lawful_expelled}
use Rattle.promises.proofs.Seeks.{found_held, held_below, key_freed, key_freed_other, key_entered, distinct_freed, distinct_entered, absent_freed}

-- ---- what the tests say

pub clear : (b : Bool) (e : Refusal) (x : Option Refusal) → cond b (Some e) x ≡ None → (b ≡ false) × (x ≡ None)
clear true e x h = let z : ◌≡◌ {A = ℕ} 0 1 = cc in absurd (omega arith)
clear false e x h = (refl, h)

-- what is known of a keep that is not refused
pub record Accepted {K : Type 0} (same : K → K → Bool) (s : State K) (k : K) (c n m : ℕ) : Type 0 where
  pub cost_low : 1 ≤ c
  pub cost_high : c ≤ s.order.span
  pub short : n ≤ s.table.chunk
  pub room : slots s * s.table.chunk ≤ m
  pub idle : out_slot s.table (held_slot same s k) ≡ false
  pub admits : s.directory.admitted k ≡ true

-- the tests of a keep but the last
abbrev pub early_fault : {K : Type 0} → (K → K → Bool) → State K → K → ℕ → ℕ → ℕ → Option Refusal → Option Refusal
early_fault same s k c n m last =
    cond (bad_cost s c) (Some BadCost) (cond (long_value s n) (Some LongValue) (cond (short_slab s m) (Some ShortSlab)
    (cond (out_slot s.table (held_slot same s k)) (Some OnLease) (cond (not (s.directory.admitted k)) (Some NotAdmitted) last))))

pub accepted_early : {K : Type 0} (same : K → K → Bool) (s : State K) (k : K) (c n m : ℕ) (last : Option Refusal) → early_fault same s k c n m last ≡ None → Accepted same s k c n m
accepted_early same s k c n m last e =
    let a = clear _ _ _ e in
    let b = clear _ _ _ a.1 in
    let d = clear _ _ _ b.1 in
    let f = clear _ _ _ d.1 in
    let h = clear _ _ _ f.1 in
    let p = or_parts (eqb c 0) (ltb s.order.span c) a.0 in
    let q : c ≡ 0 → ⊥ = eqb-false c 0 p.0 in
    record {
      cost_low = ⊎_elim (λ x. absurd (q x)) (λ x. omega arith) (cases_eq c 0);
      cost_high = ltb-false s.order.span c p.1;
      short = ltb-false s.table.chunk n b.0;
      room = ltb-false m (slots s * s.table.chunk) d.0;
      idle = f.0;
      admits = not-false (s.directory.admitted k) h.0;
    }

pub accepted : {K : Type 0} (same : K → K → Bool) (s : State K) (k : K) (c n m : ℕ) → keep_fault same s k c n m ≡ None → Accepted same s k c n m
accepted same s k c n m e = accepted_early same s k c n m _ e

-- a write that is not refused
pub write_short : {K : Type 0} (s : State K) (t : Ticket) (n m : ℕ) → write_fault s t n m ≡ None → n ≤ s.table.chunk
write_short s t n m e = ltb-false s.table.chunk n (clear (long_value s n) LongValue _ e).0

pub write_known : {K : Type 0} (s : State K) (t : Ticket) (n m : ℕ) → write_fault s t n m ≡ None → known s.table t ≡ true
write_known s t n m e =
    let a = clear (long_value s n) LongValue _ e in
    let b = clear (short_slab s m) ShortSlab _ a.1 in
    not-false (known s.table t) (clear (not (known s.table t)) UnknownLease None b.1).0

pub give_known : {K : Type 0} (s : State K) (t : Ticket) → give_back_fault s t ≡ None → known s.table t ≡ true
give_known s t e = not-false (known s.table t) (clear (not (known s.table t)) UnknownLease None e).0

pub known_out : (n : Table) (t : Ticket) → known n t ≡ true → out_at n t.slot ≡ true
known_out n t e = (and_parts (eqb t.mark n.mark) (out_at n t.slot) e).1

-- a slot found by a lease or a drop that is not refused is not out
pub absence_idle : {K : Type 0} (same : K → K → Bool) (s : State K) (k : K) (i : ℕ) → absence_fault same s k ≡ None → held_slot same s k ≡ Some i → out_at s.table i ≡ false
absence_idle same s k i e h =
    let a = clear (not (is_some (held_slot same s k))) NotHeld _ e in
    ap (out_slot s.table) (sym h) ∙ (clear (out_slot s.table (held_slot same s k)) OnLease None a.1).0

-- ---- one slot changes

pub moved : {h h' w w' : Bool} {r r' : Record} {ch sp : ℕ} → h' ≡ h → w' ≡ w → r' ≡ r → SoundSlot h w r ch sp → SoundSlot h' w' r' ch sp
moved {h} {h'} {w} {w'} {r} {r'} {ch} {sp} p q e o =
    subst (λ (x : Bool). SoundSlot x w' r' ch sp) (sym p)
    (subst (λ (x : Bool). SoundSlot h x r' ch sp) (sym q) (subst (λ (x : Record). SoundSlot h w x ch sp) (sym e) o))

-- what stays where only the slot i changes
pub record Else {K : Type 0} (s t : State K) (i : ℕ) : Type 0 where
  pub few : slots t ≡ slots s
  pub size : t.order.size ≡ s.order.size
  pub span : t.order.span ≡ s.order.span
  pub chunk : t.table.chunk ≡ s.table.chunk
  pub recorded : length t.table.records ≡ length s.table.records
  pub held : (j : ℕ) → (j ≡ i → ⊥) → is_some (key_at t.directory j) ≡ is_some (key_at s.directory j)
  pub waiting : (j : ℕ) → (j ≡ i → ⊥) → waits j t.order.waiting ≡ waits j s.order.waiting
  pub kept : (j : ℕ) → (j ≡ i → ⊥) → record_at t.table j ≡ record_at s.table j

module _ {K : Type 0} (same : K → K → Bool) where
  change : (s t : State K) (i : ℕ) → Sound same s → Else s t i → Lawful t.order → Distinct same t.directory
      → SoundSlot (is_some (key_at t.directory i)) (waits i t.order.waiting) (record_at t.table i) s.table.chunk s.order.span → Sound same t
  change s t i S E L D o = record {
    few = let z = E.few in omega (arith, S.few);
    fits = let z = E.few in let y = E.size in omega (arith, S.fits);
    recorded = E.recorded ∙ S.recorded;
    chunk_low = let z = E.chunk in omega (arith, S.chunk_low);
    chunk_high = let z = E.chunk in omega (arith, S.chunk_high);
    lawful = L;
    distinct = D;
    each = λ j. subst (λ (a : ℕ). SoundSlot (is_some (key_at t.directory j)) (waits j t.order.waiting) (record_at t.table j) a t.order.span) (sym E.chunk)
        (subst (λ (a : ℕ). SoundSlot (is_some (key_at t.directory j)) (waits j t.order.waiting) (record_at t.table j) s.table.chunk a) (sym E.span)
        (⊎_elim (λ e. subst (λ (a : ℕ). SoundSlot (is_some (key_at t.directory a)) (waits a t.order.waiting) (record_at t.table a) s.table.chunk s.order.span) (sym e) o)
        (λ n. moved (E.held j n) (E.waiting j n) (E.kept j n) (S.each j)) (cases_eq j i)));
  }

  -- ---- what a sound state says of a slot

  pub out_held : (s : State K) (i : ℕ) → Sound same s → out_at s.table i ≡ true → is_some (key_at s.directory i) ≡ true
  out_held s i S o = (S.each i).either ∙ or_right (waits i s.order.waiting) (out_at s.table i) o

  pub out_not_waiting : (s : State K) (i : ℕ) → Sound same s → out_at s.table i ≡ true → waits i s.order.waiting ≡ false
  out_not_waiting s i S o = ⊎_elim (λ e. absurd ((S.each i).never_both e o)) (λ e. e) (cases_Bool (waits i s.order.waiting))

  pub waiting_not_out : (s : State K) (i : ℕ) → Sound same s → waits i s.order.waiting ≡ true → out_at s.table i ≡ false
  waiting_not_out s i S w = ⊎_elim (λ e. absurd ((S.each i).never_both w e)) (λ e. e) (cases_Bool (out_at s.table i))

  pub waiting_held : (s : State K) (i : ℕ) → Sound same s → waits i s.order.waiting ≡ true → is_some (key_at s.directory i) ≡ true
  waiting_held s i S w = (S.each i).either ∙ or_left (waits i s.order.waiting) (out_at s.table i) w

  pub unheld_idle : (s : State K) (i : ℕ) → Sound same s → key_at s.directory i ≡ None → (waits i s.order.waiting ≡ false) × (out_at s.table i ≡ false)
  unheld_idle s i S e = or_parts (waits i s.order.waiting) (out_at s.table i) (sym (S.each i).either ∙ ap is_some e)

  -- no slot past the table is out
  pub past_idle : (s : State K) (i : ℕ) → Sound same s → 1024 ≤ i → out_at s.table i ≡ false
  past_idle s i S h = ap (λ (r : Record). is_out r.lending) (get_or_past s.table.records i blank (omega (arith, S.recorded)))

  pub held_small : (s : State K) (i : ℕ) → Sound same s → is_some (key_at s.directory i) ≡ true → i < 1024
  held_small s i S h = let z = held_below same s.directory i h in omega (arith, S.few)

  set_record : (s : State K) (i : ℕ) (r : Record) → Sound same s → i < 1024 → record_at (with_record s.table i r) i ≡ r
  set_record s i r S b = get_or-set_same s.table.records i r blank (omega (arith, S.recorded))

  -- ---- the steps

  sound_lent : (s : State K) (i : ℕ) → Sound same s → is_some (key_at s.directory i) ≡ true → Sound same (lent_slot s i)
  sound_lent s i S h = change s (lent_slot s i) i S
      (record {
        few = refl;
        size = refl;
        span = refl;
        chunk = refl;
        recorded = length-set s.table.records i _;
        held = λ j n. refl;
        waiting = λ j n. waits_other i j s.order.waiting n;
        kept = λ j n. get_or-set_other s.table.records i j _ blank n;
      })
      (lawful_withdrawn s.order i S.lawful) S.distinct
      (moved refl (waits_gone i s.order.waiting) (set_record s i (with_lending (record_at s.table i) Lent) S (held_small s i S h))
      (record { either = h; never_both = λ p q. both_ways false refl p; cost_low = (S.each i).cost_low; cost_high = (S.each i).cost_high; short = (S.each i).short }))

  -- who waits where a slot was placed
  joins : (m : OrderMeaning) (i c : ℕ) → takes m i c ≡ true → waits i (placed m i c).waiting ≡ true
  joins m i c t = placed_waits m i c i t ∙ or_left (eqb i i) (waits i m.waiting) (eq-eqb i i refl)

  joins_other : (m : OrderMeaning) (i c j : ℕ) → takes m i c ≡ true → (j ≡ i → ⊥) → waits j (placed m i c).waiting ≡ waits j m.waiting
  joins_other m i c j t n = placed_waits m i c j t ∙ ap (λ (x : Bool). x || waits j m.waiting) (ne_eqb i j (λ e. n (sym e)))

  can_return : (s : State K) (i : ℕ) → Sound same s → out_at s.table i ≡ true → takes s.order i (record_at s.table i).cost ≡ true
  can_return s i S o =
      let h : is_some (key_at s.directory i) ≡ true = out_held s i S o in
      let lt : i < slots s = held_below same s.directory i h in
      can_place s.order i _ (omega (arith, S.fits)) (out_not_waiting s i S o) ((S.each i).cost_low h) ((S.each i).cost_high h)

  sound_returned : (s : State K) (i : ℕ) → Sound same s → out_at s.table i ≡ true → Sound same (returned s i)
  sound_returned s i S o =
      let h : is_some (key_at s.directory i) ≡ true = out_held s i S o in
      let t : takes s.order i (record_at s.table i).cost ≡ true = can_return s i S o in
      change s (returned s i) i S
      (record {
        few = refl;
        size = placed_size s.order i _;
        span = placed_span s.order i _;
        chunk = refl;
        recorded = length-set s.table.records i _;
        held = λ j n. refl;
        waiting = λ j n. joins_other s.order i _ j t n;
        kept = λ j n. get_or-set_other s.table.records i j _ blank n;
      })
      (lawful_placed s.order i _ S.lawful) S.distinct
      (moved refl (joins s.order i _ t) (set_record s i (with_lending (record_at s.table i) Idle) S (held_small s i S h))
      (record { either = h; never_both = λ p q. both_ways false refl q; cost_low = (S.each i).cost_low; cost_high = (S.each i).cost_high; short = (S.each i).short }))

  sound_rewritten : (s : State K) (i n : ℕ) → Sound same s → out_at s.table i ≡ true → n ≤ s.table.chunk → Sound same (rewritten s i n)
  sound_rewritten s i n S o f = change s (rewritten s i n) i S
      (record {
        few = refl;
        size = refl;
        span = refl;
        chunk = refl;
        recorded = length-set s.table.records i _;
        held = λ j n. refl;
        waiting = λ j n. refl;
        kept = λ j n. get_or-set_other s.table.records i j _ blank n;
      })
      S.lawful S.distinct
      (moved refl refl (set_record s i (record { cost = (record_at s.table i).cost; len = n; lending = (record_at s.table i).lending }) S (held_small s i S (out_held s i S o)))
      (record { either = (S.each i).either; never_both = (S.each i).never_both; cost_low = (S.each i).cost_low; cost_high = (S.each i).cost_high; short = f }))

  -- a slot that is held may be withdrawn and placed
  can_refresh : (s : State K) (i c : ℕ) → Sound same s → is_some (key_at s.directory i) ≡ true → 1 ≤ c → c ≤ s.order.span → takes (withdrawn s.order i) i c ≡ true
  can_refresh s i c S h lo hi =
      let lt : i < slots s = held_below same s.directory i h in
      can_place (withdrawn s.order i) i c (omega (arith, S.fits)) (waits_gone i s.order.waiting) lo hi

  pub sound_touched : (s : State K) (i : ℕ) → Sound same s → is_some (key_at s.directory i) ≡ true → Sound same (touched s i)
  sound_touched s i S h = by (out_at s.table i) refl
    where
      after : State K
      after = record { directory = s.directory; order = placed (withdrawn s.order i) i (record_at s.table i).cost; table = s.table }

      by : (b : Bool) → out_at s.table i ≡ b → Sound same (cond b s after)
      by true o = S
      by false o =
          let t : takes (withdrawn s.order i) i (record_at s.table i).cost ≡ true = can_refresh s i _ S h ((S.each i).cost_low h) ((S.each i).cost_high h) in
          change s after i S
          (record {
            few = refl;
            size = placed_size (withdrawn s.order i) i _;
            span = placed_span (withdrawn s.order i) i _;
            chunk = refl;
            recorded = refl;
            held = λ j n. refl;
            waiting = λ j n. joins_other (withdrawn s.order i) i _ j t n ∙ waits_other i j s.order.waiting n;
            kept = λ j n. refl;
          })
          (lawful_placed (withdrawn s.order i) i _ (lawful_withdrawn s.order i S.lawful)) S.distinct
          (moved refl (joins (withdrawn s.order i) i _ t) refl
          (record { either = h; never_both = λ p q. both_ways (out_at s.table i) o q; cost_low = (S.each i).cost_low; cost_high = (S.each i).cost_high; short = (S.each i).short }))

  sound_dropped : (s : State K) (i : ℕ) → Sound same s → out_at s.table i ≡ false → Sound same (dropped s i)
  sound_dropped s i S o = change s (dropped s i) i S
      (record {
        few = length-set s.directory.keys i None;
        size = refl;
        span = refl;
        chunk = refl;
        recorded = refl;
        held = λ j n. ap is_some (key_freed_other same s.directory i j n);
        waiting = λ j n. waits_other i j s.order.waiting n;
        kept = λ j n. refl;
      })
      (lawful_withdrawn s.order i S.lawful) (distinct_freed same s.directory i S.distinct)
      (moved (ap is_some (key_freed same s.directory i)) (waits_gone i s.order.waiting) refl
      (record { either = sym o; never_both = λ p q. both_ways false refl p; cost_low = λ x. absurd (both_ways false refl x); cost_high = λ x. absurd (both_ways false refl x); short = (S.each i).short }))

  pub sound_evicted : (s : State K) (f : Expelled) → Sound same s → leaver s.order.waiting ≡ Some f → Sound same (evicted s f.slot)
  sound_evicted s f S e =
      let o : out_at s.table f.slot ≡ false = waiting_not_out s f.slot S (leaver_waits s.order.waiting f e) in
      change s (evicted s f.slot) f.slot S
      (record {
        few = length-set s.directory.keys f.slot None;
        size = refl;
        span = refl;
        chunk = refl;
        recorded = refl;
        held = λ j n. ap is_some (key_freed_other same s.directory f.slot j n);
        waiting = λ j n. leaver_others s.order.waiting f j e n;
        kept = λ j n. refl;
      })
      (lawful_expelled s.order S.lawful) (distinct_freed same s.directory f.slot S.distinct)
      (moved (ap is_some (key_freed same s.directory f.slot)) (leaver_gone s.order.waiting f S.lawful.apart e) refl
      (record { either = sym o; never_both = λ p q. both_ways false refl p; cost_low = λ x. absurd (both_ways false refl x); cost_high = λ x. absurd (both_ways false refl x); short = (S.each f.slot).short }))

  sound_refreshed : (s : State K) (i c n : ℕ) → Sound same s → is_some (key_at s.directory i) ≡ true → 1 ≤ c → c ≤ s.order.span → n ≤ s.table.chunk → Sound same (settled (withdrew s i) i c n)
  sound_refreshed s i c n S h lo hi f =
      let t : takes (withdrawn s.order i) i c ≡ true = can_refresh s i c S h lo hi in
      change s (settled (withdrew s i) i c n) i S
      (record {
        few = refl;
        size = placed_size (withdrawn s.order i) i c;
        span = placed_span (withdrawn s.order i) i c;
        chunk = refl;
        recorded = length-set s.table.records i _;
        held = λ j n. refl;
        waiting = λ j n. joins_other (withdrawn s.order i) i c j t n ∙ waits_other i j s.order.waiting n;
        kept = λ j n. get_or-set_other s.table.records i j _ blank n;
      })
      (lawful_placed (withdrawn s.order i) i c (lawful_withdrawn s.order i S.lawful)) S.distinct
      (moved refl (joins (withdrawn s.order i) i c t) (set_record s i (record { cost = c; len = n; lending = Idle }) S (held_small s i S h))
      (record { either = h; never_both = λ p q. both_ways false refl q; cost_low = λ _. lo; cost_high = λ _. hi; short = f }))

  sound_taken : {home : K → ℕ} (s : State K) (i : ℕ) (k : K) (c n : ℕ) → SameLaws same home → Sound same s → held_slot same s k ≡ None → i < slots s → key_at s.directory i ≡ None → 1 ≤ c → c ≤ s.order.span → n ≤ s.table.chunk → Sound same (settled (with_key s i k) i c n)
  sound_taken s i k c n L S a lt u lo hi f =
      let t : takes s.order i c ≡ true = can_place s.order i c (omega (arith, S.fits)) (unheld_idle s i S u).0 lo hi in
      change s (settled (with_key s i k) i c n) i S
      (record {
        few = length-set s.directory.keys i (Some k);
        size = placed_size s.order i c;
        span = placed_span s.order i c;
        chunk = refl;
        recorded = length-set s.table.records i _;
        held = λ j n. ap is_some (get_or-set_other s.directory.keys i j (Some k) None n);
        waiting = λ j n. joins_other s.order i c j t n;
        kept = λ j n. get_or-set_other s.table.records i j _ blank n;
      })
      (lawful_placed s.order i c S.lawful) (distinct_entered same s.directory i k L S.distinct a lt)
      (moved (ap is_some (key_entered same s.directory i k lt)) (joins s.order i c t) (set_record s i (record { cost = c; len = n; lending = Idle }) S (omega (arith, S.few)))
      (record { either = refl; never_both = λ p q. both_ways false refl q; cost_low = λ _. lo; cost_high = λ _. hi; short = f }))

  at : {s t : State K} → t ≡ s → Sound same s → Sound same t
  at e S = subst (λ (x : State K). Sound same x) (sym e) S

  -- Every step keeps a cache sound.
  pub sound_after : {home : K → ℕ} (s : State K) (e : Event K) (t : State K) → SameLaws same home → Sound same s → Step same s e t → Sound same t
  sound_after s (gets k slab (Err e)) t L S p = at p.1 S
  sound_after s (gets k slab (Ok None)) t L S p = at p.2 S
  sound_after s (gets k slab (Ok (Some x))) t L S p =
      at p.1.after (sound_touched s p.1.slot S (found_held same s.directory k p.1.slot p.1.held))
  sound_after s (keeps k c v slab (Err e) after) t L S p = at p.1 S
  sound_after s (keeps k c v slab (Ok Refreshed) after) t L S p =
      let a = accepted same s k c (length v) (length slab) p.0 in
      at p.1.after (sound_refreshed s p.1.slot c (length v) S (found_held same s.directory k p.1.slot p.1.held) a.cost_low a.cost_high a.short)
  sound_after s (keeps k c v slab (Ok Taken) after) t L S p =
      let a = accepted same s k c (length v) (length slab) p.0 in
      at p.3.after (sound_taken s p.3.slot k c (length v) L S p.1 p.3.below p.3.unused a.cost_low a.cost_high a.short)
  sound_after s (keeps k c v slab (Ok (TakenEvicting e)) after) t L S p =
      let a = accepted same s k c (length v) (length slab) p.0 in
      let u = p.3.0 in
      let E = p.3.1 in
      let T : Takes (evicted s E.first.slot) k c v slab t after = subst (λ (x : State K). Takes x k c v slab t after) E.after p.3.2 in
      at T.after (sound_taken (evicted s E.first.slot) T.slot k c (length v) L (sound_evicted s E.first S E.least) (absent_freed same s.directory k E.first.slot p.1) T.below T.unused a.cost_low a.cost_high a.short)
  sound_after s (leases k (Err e)) t L S p = at p.1 S
  sound_after s (leases k (Ok x)) t L S p =
      at p.1.after (sound_lent s p.1.slot S (found_held same s.directory k p.1.slot p.1.held))
  sound_after s (writes x v slab (Err e) after) t L S p = at p.1 S
  sound_after s (writes x v slab (Ok u) after) t L S p =
      at p.1 (sound_rewritten s x.slot (length v) S (known_out s.table x (write_known s x (length v) (length slab) p.0)) (write_short s x (length v) (length slab) p.0))
  sound_after s (gives_back x (Err e)) t L S p = at p.1 S
  sound_after s (gives_back x (Ok u)) t L S p = at p.1 (sound_returned s x.slot S (known_out s.table x (give_known s x p.0)))
  sound_after s (drops k (Err e)) t L S p = at p.1 S
  sound_after s (drops k (Ok u)) t L S p =
      at p.1.after (sound_dropped s p.1.slot S (absence_idle same s k p.1.slot p.0 p.1.held))
  sound_after s (tells k x) t L S p = at p.1 S

  -- ---- the making

  all_same : {X : Type 0} (a : X) (n i : ℕ) → get_or (replicate n a) i a ≡ a
  all_same a zero i = refl
  all_same a (suc n) zero = refl
  all_same a (suc n) (suc i) = all_same a n i

  none_distinct : (d : DirectoryMeaning K) → ((i : ℕ) → key_at d i ≡ None) → Distinct same d
  unfolding Distinct
  none_distinct d f i j a b e g s = let z = f i in let y : ◌≡◌ {A = ℕ} 0 1 = cc in absurd (omega arith)

  pub sound_made : (m : Making K) → Sound same (made m)
  sound_made m =
      let n : ℕ = min (min 1024 m.order.size) m.directory.capacity in
      let l : slots (made m) ≡ n = length-replicate n None in
      record {
        few = omega arith;
        fits = omega arith;
        recorded = length-replicate 1024 blank;
        chunk_low = omega arith;
        chunk_high = omega arith;
        lawful = record { sorted = tt; apart = tt; slots = tt; credits = tt };
        distinct = none_distinct (made m).directory (λ i. all_same None n i);
        each = λ i. moved (ap is_some (all_same None n i)) refl (all_same blank 1024 i) (record {
          either = refl;
          never_both = λ p q. both_ways false refl p;
          cost_low = λ x. absurd (both_ways false refl x);
          cost_high = λ x. absurd (both_ways false refl x);
          short = omega arith;
        });
      }

  -- every state on a line is sound
  pub sound_line : {home : K → ℕ} (m : Making K) (es : List (Event K)) (t : State K) → SameLaws same home → Line same m es t → Sound same t
  sound_line m [] t L e = at e (sound_made m)
  sound_line m (e ∷ es) t L p = sound_after p.0 e t L (sound_line m es p.0 L p.1) p.2
