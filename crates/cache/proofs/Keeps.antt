-- What a keep answers, from its steps.
use Rattle.std.proofs.Common.{◌≡◌, ℕ, zero, suc, ◌+◌, ◌*◌, ◌<◌, ◌≤◌, Bool, true, false, cond, not, ◌&&◌, ◌||◌, eqb, ◌⊎◌, List, length, is_some, Some, None, Ok, Err, Option, sym, refl, ap, ◌∙◌, subst, ⊎_elim, arith, length-set}
use Rattle.std.proofs.lemmas.Bool.{cases_eq, cond-false, both_ways, and_left, and_right, and_from, eqb-true}
use Rattle.keys.specs.Sameness.{SameLaws}
use Rattle.orders.specs.declared.Expelled.{Expelled}
use Rattle.orders.specs.Meaning.{OrderMeaning, waits, placed, withdrawn, leaver, expelled}
use Rattle.directories.specs.Meaning.{DirectoryMeaning, key_at, pairs, size, find, declines, removed, freed, Enters}
use Rattle.promises.specs.declared.answers.Refusal.TheVariants.{BadCost, LongValue, ShortSlab, OnLease, NotAdmitted, AllOut}
use Rattle.promises.specs.declared.answers.Kept.TheVariants.{Refreshed, Taken, TakenEvicting}
use Rattle.promises.specs.declared.records.Table.{Table}
use Rattle.promises.specs.State.{State, Sound, slots, held_slot, out_at}
use Rattle.promises.specs.Events.{keeps}
use Rattle.promises.specs.Steps.{Step, Takes, Evicts, bad_cost, long_value, short_slab, out_slot, every_out, full, no_room, keep_fault, settled, evicted, written, start}
use Rattle.promises.proofs.Waits.{leaver_waits, none_waits}
use Rattle.promises.proofs.Seeks.{found_at, found_below, held_below, absent_freed, full_held, room_freed}
use Rattle.promises.proofs.Sounds.{clear, Accepted, accepted_early, sound_evicted, unheld_idle, waiting_held, waiting_not_out}
use Rattle.cache.specs.Keeping.{early_fault, Leaves}
use Rattle.cache.proofs.States.{parts_same, Done, done}
use Rattle.cache.proofs.Slabs.{fits}

-- ---- whether all slots are out

every_out_false : (n : Table) (m i : ℕ) → i < m → out_at n i ≡ false → every_out n m ≡ false
every_out_false n zero i h o = absurd (omega arith)
every_out_false n (suc m) i h o =
    step (every_out_false n m i) (cases_eq i m)
  where
    step : (i < m → out_at n i ≡ false → every_out n m ≡ false) → (i ≡ m) ⊎ (i ≡ m → ⊥) → (out_at n m && every_out n m) ≡ false
    step f = ⊎_elim (λ e. and_left (out_at n m) (every_out n m) (subst (λ (x : ℕ). out_at n x ≡ false) e o)) (λ ne. and_right (out_at n m) (every_out n m) (f (omega arith) o))

every_out_true : (n : Table) (m : ℕ) → ((i : ℕ) → i < m → out_at n i ≡ true) → every_out n m ≡ true
every_out_true n zero f = refl
every_out_true n (suc m) f = and_from (out_at n m) (every_out n m) (f m (omega arith)) (every_out_true n m (λ i h. f i (omega arith)))

or_other : (a b : Bool) → (a || b) ≡ true → a ≡ false → b ≡ true
or_other true b p q = absurd (both_ways true q refl)
or_other false b p q = p

module _ {K : Type 0} {home : K → ℕ} (same : K → K → Bool) (L : SameLaws same home) (s : State K) (S : Sound same s) where
  -- ---- the parts of a keep

  pub evict_done : (f : Expelled) (left : K) (d : DirectoryMeaning K) (o : OrderMeaning) → leaver s.order.waiting ≡ Some f → key_at s.directory f.slot ≡ Some left → d ≡ removed same s.directory left → o ≡ expelled s.order
      → Evicts s left (record { directory = d; order = o; table = s.table })
  evict_done f left d o e n p q = record {
    first = f;
    least = e;
    key = n;
    after = parts_same (p ∙ ap (freed s.directory) (found_at same s.directory left f.slot L S.distinct n)) q refl;
  }

  -- what is left when one has gone is sound
  pub evict_sound : (left : K) (u : State K) → Evicts s left u → Sound same u
  evict_sound left u E = subst (λ (y : State K). Sound same y) (sym E.after) (sound_evicted same s E.first S E.least)

  -- ---- a keep that passes the early tests

  module _ (k : K) (c : ℕ) (v slab : List ℕ) (early : early_fault same s k c (length v) (length slab) ≡ None) where
    passed : Accepted same s k c (length v) (length slab)
    passed = accepted_early same s k c (length v) (length slab) None early

    -- only the last test is left
    last : keep_fault same s k c (length v) (length slab) ≡ cond (no_room same s k) (Some AllOut) None
    last =
        let a = clear (bad_cost s c) BadCost _ early in
        let b = clear (long_value s (length v)) LongValue _ a.1 in
        let d = clear (short_slab s (length slab)) ShortSlab _ b.1 in
        let f = clear (out_slot s.table (held_slot same s k)) OnLease _ d.1 in
        let h = clear (not (s.directory.admitted k)) NotAdmitted None f.1 in
        cond-false (bad_cost s c) (Some BadCost) _ a.0 ∙ cond-false (long_value s (length v)) (Some LongValue) _ b.0
        ∙ cond-false (short_slab s (length slab)) (Some ShortSlab) _ d.0 ∙ cond-false (out_slot s.table (held_slot same s k)) (Some OnLease) _ f.0
        ∙ cond-false (not (s.directory.admitted k)) (Some NotAdmitted) _ h.0

    -- the value lies in the slab at any of the slots
    pub keep_room : (i : ℕ) → i < slots s → i * s.table.chunk + length v ≤ length slab
    keep_room i lt = fits same L s S i (length v) (length slab) lt passed.room passed.short

    pub refresh_room : (i : ℕ) → Some i ≡ held_slot same s k → i * s.table.chunk + length v ≤ length slab
    refresh_room i e = keep_room i (found_below same s.directory k i (sym e))

    pub keep_refreshes : (i : ℕ) (o o' : OrderMeaning) (n : Table) (slab' : List ℕ) → held_slot same s k ≡ Some i
        → o ≡ withdrawn s.order i → o' ≡ placed o i c → n ≡ (settled s i c (length v)).table → slab' ≡ written slab (start s i) v
        → Done same L s S (keeps k c v slab (Ok Refreshed) slab') (record { directory = s.directory; order = o'; table = n })
    keep_refreshes i o o' n slab' e p q t b =
        let z : no_room same s k ≡ false = ap (λ (x : Option ℕ). not (is_some x) && every_out s.table (slots s)) e in
        done same L s S (keeps k c v slab (Ok Refreshed) slab') _
        (last ∙ cond-false (no_room same s k) (Some AllOut) None z, record { slot = i; held = e; after = parts_same refl (q ∙ ap (λ (x : OrderMeaning). placed x i c) p) t; bytes = b })

    module _ (absent : held_slot same s k ≡ None) where
      -- the last test, where the key is not held
      by_out : (b : Bool) → every_out s.table (slots s) ≡ b → keep_fault same s k c (length v) (length slab) ≡ cond b (Some AllOut) None
      by_out b e = last ∙ ap (λ (o : Option ℕ). cond (not (is_some o) && every_out s.table (slots s)) (Some AllOut) None) absent ∙ ap (λ (x : Bool). cond x (Some AllOut) None) e

      -- an admitted key that is not held is declined where the directory is full, and only there
      by_full : declines same s.directory k ≡ full s
      by_full =
          ap (λ (x : Bool). not x || (is_some (held_slot same s k) || full s)) passed.admits ∙ ap (λ (o : Option ℕ). is_some o || full s) absent

      pub keep_takes : (i : ℕ) (d : DirectoryMeaning K) (o : OrderMeaning) (n : Table) (slab' : List ℕ) → Enters same s.directory k (Some i) d
          → o ≡ placed s.order i c → n ≡ (settled s i c (length v)).table → slab' ≡ written slab (start s i) v
          → Done same L s S (keeps k c v slab (Ok Taken) slab') (record { directory = d; order = o; table = n })
      keep_takes i d o n slab' w p q b =
          let T : Takes s k c v slab (record { directory = d; order = o; table = n }) slab' = record { slot = i; below = w.1.0; unused = w.1.1; after = parts_same w.2 p q; bytes = b } in
          let x : every_out s.table (slots s) ≡ false = every_out_false s.table (slots s) i w.1.0 (unheld_idle same s i S w.1.1).1 in
          done same L s S (keeps k c v slab (Ok Taken) slab') _ (by_out false x, absent, sym by_full ∙ w.0, T)

      -- no room: the directory declined the key
      module _ (d₁ : DirectoryMeaning K) (w : Enters same s.directory k None d₁) where
        abbrev pub s₁ : State K
        s₁ = record { directory = d₁; order = s.order; table = s.table }

        unmoved : s₁ ≡ s
        unmoved = parts_same w.1 refl refl

        pub declined_sound : Sound same s₁
        declined_sound = subst (λ (y : State K). Sound same y) (sym unmoved) S

        is_full : full s ≡ true
        is_full = sym by_full ∙ w.0

        all_held : (i : ℕ) → i < slots s → is_some (key_at s.directory i) ≡ true
        all_held i lt = full_held s.directory.keys i (eqb-true (pairs s.directory.keys) (slots s) is_full) lt

        pub keep_all_out : (s₂ : State K) → Leaves s₁ None s₂ → Step same s (keeps k c v slab (Err AllOut) slab) s₂
        keep_all_out s₂ x =
            let l : leaver s.order.waiting ≡ None = x.0 in
            let o : every_out s.table (slots s) ≡ true = every_out_true s.table (slots s) (λ i lt. or_other (waits i s.order.waiting) (out_at s.table i) (sym (S.each i).either ∙ all_held i lt) (none_waits s.order.waiting i l)) in
            (by_out true o, x.1 ∙ unmoved, refl)

        -- somebody leaves
        module _ (left : K) (s₂ : State K) (x : Leaves s₁ (Some left) s₂) where
          gone : Evicts s left s₂
          gone = subst (λ (y : State K). Evicts y left s₂) unmoved x

          first_held : is_some (key_at s.directory gone.first.slot) ≡ true
          first_held = waiting_held same s gone.first.slot S (leaver_waits s.order.waiting gone.first gone.least)

          first_below : gone.first.slot < slots s
          first_below = held_below same s.directory gone.first.slot first_held

          -- then the directory does not decline
          pub left_room : (d₂ : DirectoryMeaning K) → Enters same s₂.directory k None d₂ → ⊥
          left_room d₂ h =
              let d : DirectoryMeaning K = freed s.directory (Some gone.first.slot) in
              let a : find same d k ≡ None = absent_freed same s.directory k gone.first.slot absent in
              let z : declines same d k ≡ true = subst (λ (y : State K). declines same y.directory k ≡ true) gone.after h.0 in
              let y : declines same d k ≡ eqb (pairs d.keys) (size d) =
              ap (λ (x : Bool). not x || (is_some (find same d k) || eqb (pairs d.keys) (size d))) passed.admits ∙ ap (λ (o : Option ℕ). is_some o || eqb (pairs d.keys) (size d)) a in
              let e : pairs d.keys ≡ size d = eqb-true (pairs d.keys) (size d) (sym y ∙ z) in
              let r : pairs d.keys < size d = room_freed s.directory.keys gone.first.slot first_below in
              omega arith

          pub left_below : (i : ℕ) (d₂ : DirectoryMeaning K) → Enters same s₂.directory k (Some i) d₂ → i < slots s
          left_below i d₂ y =
              let z : i < slots (evicted s gone.first.slot) = subst (λ (t : State K). i < slots t) gone.after y.1.0 in
              omega (arith, length-set s.directory.keys gone.first.slot None)

          pub keep_evicts : (i : ℕ) (d : DirectoryMeaning K) (o : OrderMeaning) (n : Table) (slab' : List ℕ) → Enters same s₂.directory k (Some i) d
              → o ≡ placed s₂.order i c → n ≡ (settled s₂ i c (length v)).table → slab' ≡ written slab (start s₂ i) v
              → Done same L s S (keeps k c v slab (Ok (TakenEvicting (record { key = left }))) slab') (record { directory = d; order = o; table = n })
          keep_evicts i d o n slab' y p q b =
              let T : Takes s₂ k c v slab (record { directory = d; order = o; table = n }) slab' = record { slot = i; below = y.1.0; unused = y.1.1; after = parts_same y.2 p q; bytes = b } in
              let x : every_out s.table (slots s) ≡ false = every_out_false s.table (slots s) gone.first.slot first_below (waiting_not_out same s gone.first.slot S (leaver_waits s.order.waiting gone.first gone.least)) in
              done same L s S (keeps k c v slab (Ok (TakenEvicting (record { key = left }))) slab') _ (by_out false x, absent, is_full, (s₂, gone, T))
