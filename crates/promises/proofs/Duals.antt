-- What each call leaves, over the seats: the state after it, and GreedyDual after the same use.
use Rattle.std.proofs.Common.{◌≡◌, ℕ, suc, ◌+◌, ◌<◌, ◌≤◌, Bool, true, false, not, List, [], ◌∷◌, ◌++◌, map, length, is_some, Some, None, Option, sym, refl, ap, ◌∙◌, subst, ap₂, ⊎_elim, arith, length-set, get_or-set_other, get_or-set_same}
use Rattle.std.specs.Option.{option_map}
use Rattle.std.specs.List.{AllByRecursion}
use Rattle.std.proofs.lemmas.Bool.{cases_eq, cases_Bool, cond-true, cond-false}
use Rattle.keys.specs.Sameness.{SameLaws}
use Rattle.orders.specs.declared.Entry.{Entry}
use Rattle.orders.specs.Meaning.{OrderMeaning, joined, without, holding, takes, placed, withdrawn}
use Rattle.directories.specs.Meaning.{DirectoryMeaning, key_at, pairs}
use Rattle.promises.specs.declared.records.Lending.TheVariants.{Idle, Lent}
use Rattle.promises.specs.declared.records.Record.{Record}
use Rattle.promises.specs.State.{State, Sound, slots, held_slot, blank, record_at, is_out, out_at}
use Rattle.promises.specs.Steps.{touched, settled, withdrew, with_key, with_lending, lent_slot, rewritten, returned, dropped}
use Rattle.promises.specs.GreedyDual.{Dual, lend, forget, region_of, others, touch, looked, unranked, after}
use Rattle.promises.proofs.Waits.{can_place, waits_gone}
use Rattle.promises.proofs.Seeks.{slot_in_holds, some_key, held_below, key_freed, key_freed_other, key_entered}
use Rattle.promises.proofs.Sounds.{out_not_waiting, held_small}
use Rattle.promises.proofs.Merges.{entry, without_absent}
use Rattle.promises.proofs.Seats.{Seat, seat, region, sits, sans, lending, sans_absent, length_sans, seat_found}
use Rattle.promises.proofs.Marks.{Marks, Differs, others_sans, region_seat, unranked_lending, others_none}
use Rattle.promises.proofs.Tracks.{Fits, Seated, Holds, Tracks, pairs_freed, pairs_entered, marks, holds_same, tracks_touch, tracks_gone, tracks_lent, tracks_idle}

placed_waiting : (m : OrderMeaning) (i c : ℕ) → takes m i c ≡ true → (placed m i c).waiting ≡ joined (entry i c) m.waiting
placed_waiting m i c e = ap (λ (o : OrderMeaning). o.waiting) (cond-true (takes m i c) (holding m (joined (entry i c) m.waiting)) m e)

module _ {K : Type 0} (same : K → K → Bool) where
  -- the seat at which a key is held, and GreedyDual's region of it
  pub record Found (s : State K) (g : Dual K) (xs : List (Seat K)) (k : K) (i : ℕ) : Type 0 where
    pub key : K
    pub cost : ℕ
    pub rank : Option ℕ
    pub fits : Fits s i key cost rank
    pub sitting : sits i xs ≡ true
    pub marked : AllByRecursion (Marks same k i) xs
    pub region_is : region_of same k g.regions ≡ Some (region (seat i key cost rank))
    pub others_is : others same key g.regions ≡ map region (sans i xs)

  pub found : {home : K → ℕ} (s : State K) (n : ℕ) (g : Dual K) (xs : List (Seat K)) (k : K) (i : ℕ) (a : K) → SameLaws same home → Sound same s → Tracks s n g xs → key_at s.directory i ≡ Some a → same a k ≡ true → Found s g xs k i
  found s n g xs k i a L S h e m =
      let t : sits i xs ≡ true = h.holds.held i a e in
      let f = seat_found (Seated s) i xs t h.holds.seated in
      let x : Seat K = seat i f.key f.cost f.rank in
      let q = marks same s xs L S.distinct h.holds.seated i a k e m in
      let fk : key_at s.directory i ≡ Some f.key = f.has.key in
      record {
        key = f.key;
        cost = f.cost;
        rank = f.rank;
        fits = f.has;
        sitting = t;
        marked = q;
        region_is = ap (region_of same k) h.regions ∙ region_seat same k i xs q ∙ ap (option_map region) f.is;
        others_is = ap (others same f.key) h.regions ∙ others_sans same f.key i xs (marks same s xs L S.distinct h.holds.seated i f.key f.key fk (L.reflexive f.key));
      }

  pub held_found : {home : K → ℕ} (s : State K) (n : ℕ) (g : Dual K) (xs : List (Seat K)) (k : K) (i : ℕ) → SameLaws same home → Sound same s → Tracks s n g xs → held_slot same s k ≡ Some i → Found s g xs k i
  held_found s n g xs k i L S h e = let y = some_key same k (key_at s.directory i) (slot_in_holds same k s.directory.keys i e) in found s n g xs k i y.0 L S h y.1 y.2

  -- a held slot is touched, and no key comes or goes
  again : (s t : State K) (n : ℕ) (g : Dual K) (xs : List (Seat K)) (k : K) (i c : ℕ) (h : Tracks s n g xs) (f : Found s g xs k i) → t.directory ≡ s.directory
      → ((j : ℕ) → (j ≡ i → ⊥) → record_at t.table j ≡ record_at s.table j) → t.order.waiting ≡ joined (entry i c) (without i s.order.waiting)
      → (record_at t.table i).cost ≡ c → out_at t.table i ≡ false → Tracks t n (touch same g f.key c) (sans i xs ++ seat i f.key c (Some (g.inflation + c)) ∷ [])
  again s t n g xs k i c h f d r w p o = tracks_touch same s t n g xs i f.key c h
      (record { keys = λ j m. ap (λ (x : DirectoryMeaning K). key_at x j) d; kept = r })
      (ap (λ (x : DirectoryMeaning K). length x.keys) d) w
      (record { key = ap (λ (x : DirectoryMeaning K). key_at x i) d ∙ f.fits.key; cost = p; out = o })
      (ap (λ (x : DirectoryMeaning K). pairs x.keys) d ∙ sym h.holds.count ∙ sym (length_sans i xs h.holds.once f.sitting))
      f.others_is

  -- ---- what each call leaves

  pub looks_at : (s : State K) (n : ℕ) (g : Dual K) (xs : List (Seat K)) (k : K) (i : ℕ) → Sound same s → Tracks s n g xs → (f : Found s g xs k i)
      → (ys : List (Seat K)) × Tracks (touched s i) n (looked same g (Some (region (seat i f.key f.cost f.rank)))) ys
  looks_at s n g xs k i S h f = by f.rank f.fits.out
    where
      newer : State K
      newer = record { directory = s.directory; order = placed (withdrawn s.order i) i (record_at s.table i).cost; table = s.table }

      held : is_some (key_at s.directory i) ≡ true
      held = ap is_some f.fits.key

      fit : takes (withdrawn s.order i) i (record_at s.table i).cost ≡ true
      fit = let b = held_below same s.directory i held in
          can_place (withdrawn s.order i) i (record_at s.table i).cost (omega (arith, S.fits)) (waits_gone i s.order.waiting) ((S.each i).cost_low held) ((S.each i).cost_high held)

      by : (r : Option ℕ) → out_at s.table i ≡ not (is_some r) → (ys : List (Seat K)) × Tracks (touched s i) n (looked same g (Some (region (seat i f.key f.cost r)))) ys
      by None o = (xs, subst (λ (t : State K). Tracks t n g xs) (sym (cond-true (out_at s.table i) s newer o)) h)
      by (Some q) o = (
        _,
        subst (λ (t : State K). Tracks t n (touch same g f.key f.cost) (sans i xs ++ seat i f.key f.cost (Some (g.inflation + f.cost)) ∷ [])) (sym (cond-false (out_at s.table i) s newer o))
            (again s newer n g xs k i f.cost h f refl (λ j m. refl)
            (placed_waiting (withdrawn s.order i) i (record_at s.table i).cost fit ∙ ap (λ (c : ℕ). joined (entry i c) (without i s.order.waiting)) f.fits.cost)
            f.fits.cost o),
      )

  pub refreshes : (s : State K) (n : ℕ) (g : Dual K) (xs : List (Seat K)) (k : K) (i c m : ℕ) → Sound same s → Tracks s n g xs → (f : Found s g xs k i) → 1 ≤ c → c ≤ s.order.span
      → (ys : List (Seat K)) × Tracks (settled (withdrew s i) i c m) n (touch same g f.key c) ys
  refreshes s n g xs k i c m S h f lo hi =
      let held : is_some (key_at s.directory i) ≡ true = ap is_some f.fits.key in
      let b = held_below same s.directory i held in
      let fit = can_place (withdrawn s.order i) i c (omega (arith, S.fits)) (waits_gone i s.order.waiting) lo hi in
      let r : Record = record { cost = c; len = m; lending = Idle } in
      let is : record_at (settled (withdrew s i) i c m).table i ≡ r = let z = held_small same s i S held in get_or-set_same s.table.records i r blank (omega (arith, S.recorded)) in (
        _,
        again s (settled (withdrew s i) i c m) n g xs k i c h f refl (λ j q. get_or-set_other s.table.records i j r blank q)
            (placed_waiting (withdrawn s.order i) i c fit) (ap (λ (x : Record). x.cost) is) (ap (λ (x : Record). is_out x.lending) is),
      )

  pub returns_to : (s : State K) (n : ℕ) (g : Dual K) (xs : List (Seat K)) (k : K) (i : ℕ) → Sound same s → Tracks s n g xs → (f : Found s g xs k i) → out_at s.table i ≡ true
      → (ys : List (Seat K)) × Tracks (returned s i) n (touch same g f.key f.cost) ys
  returns_to s n g xs k i S h f o =
      let held : is_some (key_at s.directory i) ≡ true = ap is_some f.fits.key in
      let b = held_below same s.directory i held in
      let c : ℕ = (record_at s.table i).cost in
      let idle = out_not_waiting same s i S o in
      let fit = can_place s.order i c (omega (arith, S.fits)) idle ((S.each i).cost_low held) ((S.each i).cost_high held) in
      let r : Record = with_lending (record_at s.table i) Idle in
      let is : record_at (returned s i).table i ≡ r = let z = held_small same s i S held in get_or-set_same s.table.records i r blank (omega (arith, S.recorded)) in (
        _,
        again s (returned s i) n g xs k i f.cost h f refl (λ j q. get_or-set_other s.table.records i j r blank q)
            (placed_waiting s.order i c fit ∙ ap₂ (λ (x : ℕ) (es : List Entry). joined (entry i x) es) f.fits.cost (sym (without_absent i s.order.waiting idle)))
            (ap (λ (x : Record). x.cost) is ∙ f.fits.cost) (ap (λ (x : Record). is_out x.lending) is),
      )

  pub lends_out : (s : State K) (n : ℕ) (g : Dual K) (xs : List (Seat K)) (k : K) (i : ℕ) → Sound same s → Tracks s n g xs → Found s g xs k i
      → Tracks (lent_slot s i) n (after same n g (lend k)) (lending i xs)
  lends_out s n g xs k i S h f =
      let held : is_some (key_at s.directory i) ≡ true = ap is_some f.fits.key in
      let r : Record = with_lending (record_at s.table i) Lent in
      let is : record_at (lent_slot s i).table i ≡ r = let z = held_small same s i S held in get_or-set_same s.table.records i r blank (omega (arith, S.recorded)) in
      tracks_lent same s (lent_slot s i) n g xs i k h (record { keys = λ j q. refl; kept = λ j q. get_or-set_other s.table.records i j r blank q }) refl refl
      (ap (λ (x : Record). x.cost) is) (ap (λ (x : Record). is_out x.lending) is) (ap (unranked same k) h.regions ∙ unranked_lending same k i xs f.marked)

  pub forgets : (s : State K) (n : ℕ) (g : Dual K) (xs : List (Seat K)) (k : K) (i : ℕ) → Tracks s n g xs → Found s g xs k i → Tracks (dropped s i) n (after same n g (forget k)) (sans i xs)
  forgets s n g xs k i h f = tracks_gone same s (dropped s i) n g xs i f.key k h (record { keys = λ j q. key_freed_other same s.directory i j q; kept = λ j q. refl })
      (length-set s.directory.keys i None) refl f.fits.key (key_freed same s.directory i) (pairs_freed s.directory.keys i f.key f.fits.key)
      (ap (others same k) h.regions ∙ others_sans same k i xs f.marked)

  -- a slot without a key has no seat
  unseated : (s : State K) (xs : List (Seat K)) (i : ℕ) → Holds s xs → key_at s.directory i ≡ None → sits i xs ≡ false
  unseated s xs i h e = ⊎_elim
      (λ t. let f = seat_found (Seated s) i xs t h.seated in let q : key_at s.directory i ≡ Some f.key = f.has.key in let z : ◌≡◌ {A = ℕ} 0 1 = cc in absurd (omega arith))
      (λ t. t) (cases_Bool (sits i xs))

  pub enters : (s : State K) (n : ℕ) (g : Dual K) (xs : List (Seat K)) (k : K) (i c m : ℕ) → Tracks s n g xs → AllByRecursion (Differs same k) xs → i < slots s → key_at s.directory i ≡ None
      → i < s.order.size → i < length s.table.records → 1 ≤ c → c ≤ s.order.span → (ys : List (Seat K)) × Tracks (settled (with_key s i k) i c m) n (touch same g k c) ys
  enters s n g xs k i c m h d b e small long lo hi =
      let u = unseated s xs i h.holds e in
      let gone = sans_absent i xs u in
      let idle = tracks_idle same s n g xs i h u in
      let fit = can_place s.order i c small idle lo hi in
      let r : Record = record { cost = c; len = m; lending = Idle } in
      let t : State K = settled (with_key s i k) i c m in
      let is : record_at t.table i ≡ r = get_or-set_same s.table.records i r blank long in (
        _,
        tracks_touch same s t n g xs i k c h
            (record { keys = λ j q. get_or-set_other s.directory.keys i j (Some k) None q; kept = λ j q. get_or-set_other s.table.records i j r blank q })
            (length-set s.directory.keys i (Some k))
            (placed_waiting s.order i c fit ∙ ap (joined (entry i c)) (sym (without_absent i s.order.waiting idle)))
            (record { key = key_entered same s.directory i k b; cost = ap (λ (x : Record). x.cost) is; out = ap (λ (x : Record). is_out x.lending) is })
            (pairs_entered s.directory.keys i k b e ∙ ap suc (sym h.holds.count ∙ ap length (sym gone)))
            (ap (others same k) h.regions ∙ others_none same k xs d ∙ ap (map region) (sym gone)),
      )

  pub rewrites : (s : State K) (n : ℕ) (g : Dual K) (xs : List (Seat K)) (i m : ℕ) → Tracks s n g xs → i < length s.table.records → Tracks (rewritten s i m) n g xs
  rewrites s n g xs i m h long =
      let r : Record = record { cost = (record_at s.table i).cost; len = m; lending = (record_at s.table i).lending } in
      let here : record_at (rewritten s i m).table i ≡ r = get_or-set_same s.table.records i r blank long in
      record {
        size = h.size;
        regions = h.regions;
        waiting = h.waiting;
        ranked = h.ranked;
        holds = holds_same s (rewritten s i m) xs h.holds refl
            (λ j. ⊎_elim (λ p. subst (λ (x : ℕ). (record_at (rewritten s i m).table x).cost ≡ (record_at s.table x).cost) (sym p) (ap (λ (x : Record). x.cost) here))
            (λ p. ap (λ (x : Record). x.cost) (get_or-set_other s.table.records i j r blank p)) (cases_eq j i))
            (λ j. ⊎_elim (λ p. subst (λ (x : ℕ). out_at (rewritten s i m).table x ≡ out_at s.table x) (sym p) (ap (λ (x : Record). is_out x.lending) here))
            (λ p. ap (λ (x : Record). is_out x.lending) (get_or-set_other s.table.records i j r blank p)) (cases_eq j i));
      }
