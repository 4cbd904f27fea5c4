-- Each event that is a step of the cache is answered as GreedyDual answers it, and the seats go on with both.
use Rattle.std.proofs.Common.{◌≡◌, ℕ, Bool, true, false, eqb, List, length, is_some, Some, None, Ok, Err, Option, sym, refl, ap, ◌∙◌, subst, ap₂, arith, length-set}
use lib.ListN.{length-map}
use Rattle.std.proofs.lemmas.Bool.{both_ways, cond-true, cond-false, and_parts, eqb-true}
use Rattle.keys.specs.Sameness.{SameLaws}
use Rattle.directories.specs.Meaning.{key_at}
use Rattle.promises.specs.declared.answers.Evicted.{Evicted}
use Rattle.promises.specs.declared.answers.Kept.TheVariants.{Refreshed, Taken, TakenEvicting}
use Rattle.promises.specs.declared.records.Ticket.{Ticket}
use Rattle.promises.specs.State.{State, Sound, held_slot, out_at, known}
use Rattle.promises.specs.Events.{Event, Part, gets, keeps, leases, writes, gives_back, drops, tells, lent}
use Rattle.promises.specs.Steps.{Step, Finds, Refreshes, Takes, Evicts, full, evicted, returned}
use Rattle.promises.specs.GreedyDual.{Region, Dual, Outcome, quiet, region_of, least, touch, leave, looked, kept, taken_back, key_of, kept_outcome, given_back, use_of, after_use, outcome_of_use, answered}
use Rattle.promises.proofs.Sounds.{Accepted, accepted, write_known, give_known, known_out, out_held, held_small}
use Rattle.promises.proofs.Outs.{Agrees}
use Rattle.promises.proofs.Seats.{Seat, seat, region, sans, lending, all_sans}
use Rattle.promises.proofs.Marks.{Differs, region_none}
use Rattle.promises.proofs.Duals.{found, held_found, looks_at, refreshes, returns_to, lends_out, forgets, enters, rewrites}
use Rattle.promises.proofs.Tracks.{Tracks, differs, tracks_evicted}

-- a state that is the same
pub at : {K : Type 0} {s t : State K} {n : ℕ} {g : Dual K} {xs : List (Seat K)} → t ≡ s → Tracks s n g xs → Tracks t n g xs
at {K} {s} {t} {n} {g} {xs} e h = subst (λ (x : State K). Tracks x n g xs) (sym e) h

-- the outcome of a look, and of a keep of a key that was not held
abbrev seen : {K : Type 0} → Option (Region K) → Outcome K
seen o = record { hit = is_some o; charge = 0; victim = None }

abbrev bought : {K : Type 0} → ℕ → Option K → Outcome K
bought c v = record { hit = false; charge = c; victim = v }

full_is : {K : Type 0} (s : State K) (n : ℕ) (g : Dual K) (xs : List (Seat K)) → Tracks s n g xs → eqb (length g.regions) n ≡ full s
full_is s n g xs h = ap₂ eqb (ap length h.regions ∙ length-map xs region ∙ h.holds.count) (sym h.size)

some_of : {K : Type 0} (o : Option K) → is_some o ≡ true → (a : K) × (o ≡ Some a)
some_of None e = absurd (both_ways false refl e)
some_of (Some a) e = (a, refl)

module _ {K : Type 0} (same : K → K → Bool) where
  -- an event is answered as GreedyDual answers it, and the seats go on
  pub record Follows (n : ℕ) (g : Dual K) (es : List (Event K)) (e : Event K) (t : State K) : Type 0 where
    pub answer : answered e ≡ outcome_of_use same n g (use_of same es e)
    pub seats : List (Seat K)
    pub tracks : Tracks t n (after_use same n g (use_of same es e)) seats

  -- GreedyDual lacks a key that is not held
  pub unknown : (s : State K) (n : ℕ) (g : Dual K) (xs : List (Seat K)) (k : K) → Tracks s n g xs → held_slot same s k ≡ None → region_of same k g.regions ≡ None
  unknown s n g xs k h e = ap (region_of same k) h.regions ∙ region_none same k xs (differs same s xs k e h.holds.seated)

  misses : (s t : State K) (n : ℕ) (g : Dual K) (xs : List (Seat K)) (es : List (Event K)) (k : K) (slab : List ℕ) → Tracks s n g xs → held_slot same s k ≡ None → t ≡ s → Follows n g es (gets k slab (Ok None)) t
  misses s t n g xs es k slab h e q =
      let r = unknown s n g xs k h e in
      record { answer = ap seen (sym r); seats = xs; tracks = subst (λ (o : Option (Region K)). Tracks t n (looked same g o) xs) (sym r) (at q h) }

  taken_so : (s t : State K) (n : ℕ) (g : Dual K) (xs : List (Seat K)) (es : List (Event K)) (k : K) (c : ℕ) (v slab later : List ℕ) → Sound same s → Tracks s n g xs
      → Accepted same s k c (length v) (length slab) → held_slot same s k ≡ None → full s ≡ false → Takes s k c v slab t later → Follows n g es (keeps k c v slab (Ok Taken) later) t
  taken_so s t n g xs es k c v slab later S h a none roomy T =
      let r = unknown s n g xs k h none in
      let q : eqb (length g.regions) n ≡ false = full_is s n g xs h ∙ roomy in
      let b = T.below in
      let y = enters same s n g xs k T.slot c (length v) h (differs same s xs k none h.holds.seated) T.below T.unused (omega (arith, S.fits)) (omega (arith, S.few, S.recorded)) a.cost_low a.cost_high in
      record {
        answer = ap (bought c) (sym (cond-false (eqb (length g.regions) n) (key_of same (least same g.regions)) None q)) ∙ ap (kept_outcome same n g c) (sym r);
        seats = y.0;
        tracks = subst (λ (o : Option (Region K)). Tracks t n (kept same n g k c o) y.0) (sym r)
            (subst (λ (d : Dual K). Tracks t n (touch same d k c) y.0) (sym (cond-false (eqb (length g.regions) n) (leave same g (least same g.regions)) g q)) (at T.after y.1));
      }

  -- GreedyDual takes back the region that is out under the ticket
  back_so : (s t : State K) (n : ℕ) (g : Dual K) (es : List (Event K)) (x : Ticket) (u : Unit {0}) (l : K) (r : Region K) (ys : List (Seat K)) → lent es x ≡ Some l → region_of same l g.regions ≡ Some r
      → t ≡ s → Tracks s n (touch same g r.key r.cost) ys → Follows n g es (gives_back x (Ok u)) t
  back_so s t n g es x u l r ys who is q h = record {
    answer = subst (λ (b : Option K). quiet ≡ outcome_of_use same n g (given_back same b)) (sym who) refl;
    seats = ys;
    tracks = subst (λ (b : Option K). Tracks t n (after_use same n g (given_back same b)) ys) (sym who) (subst (λ (b : Option (Region K)). Tracks t n (taken_back same g b) ys) (sym is) (at q h));
  }

module _ {K : Type 0} (same : K → K → Bool) (home : K → ℕ) (L : SameLaws same home) where
  hits : (s t : State K) (n : ℕ) (g : Dual K) (xs : List (Seat K)) (es : List (Event K)) (k : K) (slab : List ℕ) (p : Part) → Sound same s → Tracks s n g xs → Finds same s k slab p t
      → Follows same n g es (gets k slab (Ok (Some p))) t
  hits s t n g xs es k slab p S h F =
      let f = held_found same s n g xs k F.slot L S h F.held in
      let y = looks_at same s n g xs k F.slot S h f in
      record { answer = ap seen (sym f.region_is); seats = y.0; tracks = subst (λ (o : Option (Region K)). Tracks t n (looked same g o) y.0) (sym f.region_is) (at F.after y.1) }

  refreshed_so : (s t : State K) (n : ℕ) (g : Dual K) (xs : List (Seat K)) (es : List (Event K)) (k : K) (c : ℕ) (v slab later : List ℕ) → Sound same s → Tracks s n g xs
      → Accepted same s k c (length v) (length slab) → Refreshes same s k c v slab t later → Follows same n g es (keeps k c v slab (Ok Refreshed) later) t
  refreshed_so s t n g xs es k c v slab later S h a F =
      let f = held_found same s n g xs k F.slot L S h F.held in
      let y = refreshes same s n g xs k F.slot c (length v) S h f a.cost_low a.cost_high in
      record { answer = ap (kept_outcome same n g c) (sym f.region_is); seats = y.0; tracks = subst (λ (o : Option (Region K)). Tracks t n (kept same n g k c o) y.0) (sym f.region_is) (at F.after y.1) }

  evicting_so : (s t u : State K) (n : ℕ) (g : Dual K) (xs : List (Seat K)) (es : List (Event K)) (k : K) (c : ℕ) (v slab later : List ℕ) (e : Evicted K) → Sound same s → Tracks s n g xs
      → Accepted same s k c (length v) (length slab) → held_slot same s k ≡ None → full s ≡ true → Evicts s e.key u → Takes u k c v slab t later → Follows same n g es (keeps k c v slab (Ok (TakenEvicting e)) later) t
  evicting_so s t u n g xs es k c v slab later e S h a none packed E T' =
      let i : ℕ = E.first.slot in
      let w : State K = evicted s i in
      let T : Takes w k c v slab t later = subst (λ (x : State K). Takes x k c v slab t later) E.after T' in
      let r = unknown same s n g xs k h none in
      let q : eqb (length g.regions) n ≡ true = full_is s n g xs h ∙ packed in
      let l = tracks_evicted same s n g xs E.first e.key L S.distinct S.lawful.apart h E.least E.key in
      let b = T.below in
      let z = length-set s.directory.keys i None in
      let d = all_sans (Differs same k) (Differs same k) i (λ j m x o ne p. p) xs (differs same s xs k none h.holds.seated) in
      let y = enters same w n (leave same g (least same g.regions)) (sans i xs) k T.slot c (length v) l.after d T.below T.unused (omega (arith, S.fits)) (omega (arith, S.few, S.recorded)) a.cost_low a.cost_high in
      record {
        answer = ap (bought c) (sym (cond-true (eqb (length g.regions) n) (key_of same (least same g.regions)) None q ∙ l.victim)) ∙ ap (kept_outcome same n g c) (sym r);
        seats = y.0;
        tracks = subst (λ (o : Option (Region K)). Tracks t n (kept same n g k c o) y.0) (sym r)
            (subst (λ (x : Dual K). Tracks t n (touch same x k c) y.0) (sym (cond-true (eqb (length g.regions) n) (leave same g (least same g.regions)) g q)) (at T.after y.1));
      }

  returned_so : (s t : State K) (n : ℕ) (g : Dual K) (xs : List (Seat K)) (es : List (Event K)) (x : Ticket) (u : Unit {0}) → Sound same s → Agrees same es s → Tracks s n g xs
      → known s.table x ≡ true → t ≡ returned s x.slot → Follows same n g es (gives_back x (Ok u)) t
  returned_so s t n g xs es x u S A h known' q =
      let i : ℕ = x.slot in
      let o : out_at s.table i ≡ true = known_out s.table x known' in
      let m : x.mark ≡ s.table.mark = eqb-true x.mark s.table.mark (and_parts (eqb x.mark s.table.mark) (out_at s.table i) known').0 in
      let a = some_of (key_at s.directory i) (out_held same s i S o) in
      let l = A.out i a.0 a.1 o in
      let f = found same s n g xs l.0 i a.0 L S h a.1 l.2 in
      let y = returns_to same s n g xs l.0 i S h f o in
      back_so same (returned s i) t n g es x u l.0 (region (seat i f.key f.cost f.rank)) y.0 (ap (λ (b : ℕ). lent es (ticket b i)) m ∙ l.1) f.region_is q y.1
    where
      ticket : ℕ → ℕ → Ticket
      ticket b i = record { mark = b; slot = i }

  -- each event is answered as GreedyDual answers it
  pub follows : (s : State K) (e : Event K) (t : State K) (n : ℕ) (g : Dual K) (xs : List (Seat K)) (es : List (Event K)) → Sound same s → Agrees same es s → Tracks s n g xs → Step same s e t → Follows same n g es e t
  follows s (gets k slab (Err e)) t n g xs es S A h p = record { answer = refl; seats = xs; tracks = at p.1 h }
  follows s (gets k slab (Ok None)) t n g xs es S A h p = misses same s t n g xs es k slab h p.1 p.2
  follows s (gets k slab (Ok (Some x))) t n g xs es S A h p = hits s t n g xs es k slab x S h p.1
  follows s (keeps k c v slab (Err e) later) t n g xs es S A h p = record { answer = refl; seats = xs; tracks = at p.1 h }
  follows s (keeps k c v slab (Ok Refreshed) later) t n g xs es S A h p = refreshed_so s t n g xs es k c v slab later S h (accepted same s k c (length v) (length slab) p.0) p.1
  follows s (keeps k c v slab (Ok Taken) later) t n g xs es S A h p = taken_so same s t n g xs es k c v slab later S h (accepted same s k c (length v) (length slab) p.0) p.1 p.2 p.3
  follows s (keeps k c v slab (Ok (TakenEvicting e)) later) t n g xs es S A h p =
      evicting_so s t p.3.0 n g xs es k c v slab later e S h (accepted same s k c (length v) (length slab) p.0) p.1 p.2 p.3.1 p.3.2
  follows s (leases k (Err e)) t n g xs es S A h p = record { answer = refl; seats = xs; tracks = at p.1 h }
  follows s (leases k (Ok x)) t n g xs es S A h p =
      let f = held_found same s n g xs k p.1.slot L S h p.1.held in
      record { answer = refl; seats = lending p.1.slot xs; tracks = at p.1.after (lends_out same s n g xs k p.1.slot S h f) }
  follows s (writes x v slab (Err e) later) t n g xs es S A h p = record { answer = refl; seats = xs; tracks = at p.1 h }
  follows s (writes x v slab (Ok u) later) t n g xs es S A h p =
      let o = known_out s.table x (write_known s x (length v) (length slab) p.0) in
      let b = held_small same s x.slot S (out_held same s x.slot S o) in
      record { answer = refl; seats = xs; tracks = at p.1 (rewrites same s n g xs x.slot (length v) h (omega (arith, S.recorded))) }
  follows s (gives_back x (Err e)) t n g xs es S A h p = record { answer = refl; seats = xs; tracks = at p.1 h }
  follows s (gives_back x (Ok u)) t n g xs es S A h p = returned_so s t n g xs es x u S A h (give_known s x p.0) p.1
  follows s (drops k (Err e)) t n g xs es S A h p = record { answer = refl; seats = xs; tracks = at p.1 h }
  follows s (drops k (Ok u)) t n g xs es S A h p =
      let f = held_found same s n g xs k p.1.slot L S h p.1.held in
      record { answer = refl; seats = sans p.1.slot xs; tracks = at p.1.after (forgets same s n g xs k p.1.slot h f) }
  follows s (tells k x) t n g xs es S A h p = record { answer = refl; seats = xs; tracks = at p.1 h }
