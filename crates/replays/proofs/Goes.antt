-- A row's calls, as GreedyDual sees them.
use Rattle.std.proofs.Common.{◌≡◌, ℕ, ◌*◌, ◌≤◌, Bool, true, false, cond, not, ◌&&◌, ◌||◌, eqb, ltb, List, [], ◌∷◌, ◌++◌, length, take, drop, is_some, Some, None, Ok, Err, Option, Result, sym, refl, ap, ◌∙◌, subst, append-nil, arith, take-append-drop, Bor}
use Rattle.std.proofs.lemmas.Bool.{cond-true, le-ltb, ne_eqb, eq-eqb, eqb-true}
use Rattle.keys.specs.Homes.{stirred}
use Rattle.keys.specs.Sameness.{SameLaws}
use Rattle.keys.specs.Regions.{same_number, number_home}
use Rattle.keys.specs.declared.region.RegionNumber.{RegionNumber}
use Rattle.promises.specs.declared.answers.Refusal.{Refusal}
use Rattle.promises.specs.declared.answers.Refusal.TheVariants.{BadCost, LongValue, ShortSlab, OnLease, NotAdmitted, AllOut}
use Rattle.promises.specs.declared.answers.Kept.{Kept}
use Rattle.promises.specs.declared.answers.Kept.TheVariants.{Refreshed, Taken, TakenEvicting}
use Rattle.promises.specs.declared.answers.Evicted.{Evicted}
use Rattle.promises.specs.State.{State, slots, held_slot}
use Rattle.promises.specs.Events.{Event, Part, gets, keeps, effect}
use Rattle.promises.specs.Steps.{Step, first_of, bad_cost, long_value, short_slab, out_slot, no_room, every_out, keep_fault, written, start}
use Rattle.promises.specs.Lines.{Making, made, Line}
use Rattle.promises.specs.GreedyDual.{Dual, Outcome as Comes, look, keep, after, outcome, looked, after_use, dual, use_of, outcome_of_use, answered}
use Rattle.cache.specs.Parts.{part_of, seen}
use Rattle.promises.proofs.Every.{every_line}
use Rattle.traces.specs.declared.outcomes.Outcome.{Outcome}
use Rattle.traces.specs.declared.outcomes.Outcome.TheVariants.{Hit, Taken as TakenIn, Evicting}
use Rattle.traces.specs.declared.rows.Row.{Row}
use Rattle.replays.specs.Replay.{empty, is_held, use_for, row_after, row_outcome, noted, paying, row_effect, row_fault, deeds, deed}
use Rattle.replays.specs.Standing.{kept_as, Worked, Steady, Stands, Missed, Goes, dual_at}
use Rattle.replays.proofs.Rows.{after_more, effects_more}
use Rattle.replays.proofs.Steady.{all_out, steady_at, steady_touched, steady_taken, steady_evicted}

-- region numbers as keys
laws : SameLaws same_number number_home
laws = record {
  reflexive = λ a. eq-eqb a.number a.number refl;
  symmetric = λ a b e. eq-eqb b.number a.number (sym (eqb-true a.number b.number e));
  transitive = λ a b c d e. eq-eqb a.number c.number (eqb-true a.number b.number d ∙ eqb-true b.number c.number e);
  one_home = λ a b e. ap (λ (x : ℕ). stirred x 0) (eqb-true a.number b.number e);
}

-- each event's answer is GreedyDual's
told : (m : Making RegionNumber) (e : Event RegionNumber) (es : List (Event RegionNumber)) (s : State RegionNumber) → Line same_number m (e ∷ es) s
    → answered e ≡ outcome_of_use same_number (slots (made m)) (dual same_number (slots (made m)) es) (use_of same_number es e)
told m e es s l = (every_line same_number number_home laws m (e ∷ es) s l).greedy_dual.0

no_region : {A : Type 0} (o : Option A) → is_some o ≡ false → o ≡ None
no_region None e = refl
no_region (Some x) e = let z : ◌≡◌ {A = ℕ} 0 1 = cc in absurd (omega arith)

-- one test that refuses
one_test : (b : Bool) (r e : Refusal) → cond b (Some r) None ≡ Some e → (b ≡ true) × (r ≡ e)
one_test true r e h = (refl, cc)
one_test false r e h = let z : ◌≡◌ {A = ℕ} 0 1 = cc in absurd (omega arith)

no_test : (b : Bool) (r : Refusal) → cond b (Some r) None ≡ None → b ≡ false
no_test true r h = let z : ◌≡◌ {A = ℕ} 0 1 = cc in absurd (omega arith)
no_test false r h = refl

nothing_written : (slab : List ℕ) (i : ℕ) → written slab i [] ≡ slab
nothing_written slab i = ap (λ (j : ℕ). take i slab ++ drop j slab) (omega arith) ∙ take-append-drop i slab

module _ (m : Making RegionNumber) (bytes : List ℕ) (before : List Row) (r : Row) where
  abbrev g : Dual RegionNumber
  g = dual_at m before

  stands_at : (s t : State RegionNumber) → t ≡ s → Stands m before s → Stands m before t
  stands_at s t e h = subst (λ (x : State RegionNumber). Stands m before x) (sym e) h

  -- a slab that is short of the state is short of the making
  short_is : (s : State RegionNumber) → Steady m s → short_slab s (length bytes) ≡ ltb (length bytes) (slots (made m) * (made m).table.chunk)
  short_is s h = λ j. ltb (length bytes) (h.slots_are j * h.chunk_is j)

  -- a row is refused by nothing where its key is held and the slab is not short
  held_fault : ltb (length bytes) (slots (made m) * (made m).table.chunk) ≡ false → is_held g r ≡ true → row_fault m (length bytes) g r ≡ None
  held_fault e h = λ j. first_of (
      (e j, ShortSlab) ∷ (not (h j) && ltb (made m).order.span r.cost, BadCost)
      ∷ (not (h j) && not ((made m).directory.admitted r.key), NotAdmitted) ∷ (not (h j) && eqb (slots (made m)) 0, AllOut) ∷ [])

  -- one more row
  more : (s t : State RegionNumber) (w : Worked m before s) (es : List (Event RegionNumber)) (o : Outcome) → Line same_number m es t → o ≡ noted (row_outcome (slots (made m)) g r)
      → dual same_number (slots (made m)) es ≡ row_after (slots (made m)) g r → deeds es ≡ deeds w.events ++ (row_effect r o ∷ []) → Worked m (before ++ (r ∷ [])) t
  more s t w es o l p d q = record {
    events = es;
    line = l;
    dual_is = d ∙ sym (after_more (slots (made m)) empty before r);
    deeds_are = q ∙ (λ j. w.deeds_are j ++ (row_effect r (p j) ∷ [])) ∙ sym (effects_more (slots (made m)) empty before r);
  }

  -- a get is refused
  pub get_fails : (s t : State RegionNumber) (e : Refusal) → Stands m before s → Step same_number s (gets r.key bytes (Err e)) t → Goes m (length bytes) before r t (Err e)
  get_fails s t e h (f, q) =
      let p = one_test (short_slab s (length bytes)) ShortSlab e f in
      (cond-true (ltb (length bytes) (slots (made m) * (made m).table.chunk)) _ _ (sym (short_is s h.steady) ∙ p.0) ∙ ap Some p.1, stands_at s t q h)

  -- a get finds its key
  pub get_finds : (s t : State RegionNumber) (p : Part) → Stands m before s → Step same_number s (gets r.key bytes (Ok (Some p))) t → Goes m (length bytes) before r t (Ok Hit)
  get_finds s t p h step =
      let w = h.worked in
      let e : Event RegionNumber = gets r.key bytes (Ok (Some p)) in
      let l : Line same_number m (e ∷ w.events) t = (s, w.line, step) in
      let held : is_held g r ≡ true = sym (ap (λ (o : Comes RegionNumber). o.hit) (told m e w.events t l) ∙ ap (λ (d : Dual RegionNumber). is_held d r) w.dual_is) in
      let enough : ltb (length bytes) (slots (made m) * (made m).table.chunk) ≡ false = sym (short_is s h.steady) ∙ no_test (short_slab s (length bytes)) ShortSlab step.0 in
      let o : Hit ≡ noted (row_outcome (slots (made m)) g r) = sym ((λ j. noted (outcome same_number (slots (made m)) g (use_for (held j) r))) ∙ cond-true (is_held g r) Hit (TakenIn 0) held) in
      let d : dual same_number (slots (made m)) (e ∷ w.events) ≡ row_after (slots (made m)) g r
      = ap (λ (x : Dual RegionNumber). after same_number (slots (made m)) x (look r.key)) w.dual_is ∙ (λ j. after same_number (slots (made m)) g (use_for (sym held j) r)) in (
        held_fault enough held,
        o,
        record {
          worked = more s t w (e ∷ w.events) Hit l o d refl;
          steady = steady_at m _ t step.1.after (steady_touched m s step.1.slot h.steady);
        },
      )

  -- a get misses its key
  pub get_misses : (s t : State RegionNumber) → Stands m before s → Step same_number s (gets r.key bytes (Ok None)) t → Missed m (length bytes) before r t
  get_misses s t h step =
      let w = h.worked in
      let e : Event RegionNumber = gets r.key bytes (Ok None) in
      let l : Line same_number m (e ∷ w.events) t = (s, w.line, step) in
      let x : is_held (dual same_number (slots (made m)) w.events) r ≡ false = sym (ap (λ (o : Comes RegionNumber). o.hit) (told m e w.events t l)) in
      record {
        stands = record {
          worked = record {
            events = e ∷ w.events;
            line = l;
            dual_is = ap (looked same_number (dual same_number (slots (made m)) w.events)) (no_region _ x) ∙ w.dual_is;
            deeds_are = append-nil (deeds w.events) ∙ w.deeds_are;
          };
          steady = steady_at m s t step.2 h.steady;
        };
        absent = sym (ap (λ (d : Dual RegionNumber). is_held d r) w.dual_is) ∙ x;
        unheld = ap (λ (y : State RegionNumber). held_slot same_number y r.key) step.2 ∙ step.1;
        enough = sym (short_is s h.steady) ∙ no_test (short_slab s (length bytes)) ShortSlab step.0;
      }

  -- the faults that are left for a keep after a get that misses
  abbrev left_faults : Option Refusal
  left_faults = first_of ((ltb (made m).order.span r.cost, BadCost) ∷ (not ((made m).directory.admitted r.key), NotAdmitted) ∷ (eqb (slots (made m)) 0, AllOut) ∷ [])

  module _ (s t : State RegionNumber) (h : Missed m (length bytes) before r s) where
    absent_fault : row_fault m (length bytes) g r ≡ left_faults
    absent_fault = λ j. first_of (
        (h.enough j, ShortSlab) ∷ (not (h.absent j) && ltb (made m).order.span r.cost, BadCost)
        ∷ (not (h.absent j) && not ((made m).directory.admitted r.key), NotAdmitted) ∷ (not (h.absent j) && eqb (slots (made m)) 0, AllOut) ∷ [])

    keep_fault_is : 1 ≤ r.cost → keep_fault same_number s r.key r.cost 0 (length bytes) ≡ left_faults
    keep_fault_is c =
        let d = h.stands.steady in
        let no_cost : eqb r.cost 0 ≡ false = ne_eqb r.cost 0 (λ e. omega (arith, e)) in
        let bad : bad_cost s r.cost ≡ ltb (made m).order.span r.cost = λ j. (no_cost j) || ltb (d.span_is j) r.cost in
        let long : long_value s 0 ≡ false = le-ltb s.table.chunk 0 (omega arith) in
        let short : short_slab s (length bytes) ≡ false = short_is s d ∙ h.enough in
        let out : out_slot s.table (held_slot same_number s r.key) ≡ false = ap (out_slot s.table) h.unheld in
        let room : no_room same_number s r.key ≡ eqb (slots (made m)) 0
        = (λ j. not (is_some (h.unheld j)) && every_out s.table (slots s)) ∙ all_out s.table (slots s) d.idle ∙ ap (λ x. eqb x 0) d.slots_are in
        λ j. first_of (
        (bad j, BadCost) ∷ (long j, LongValue) ∷ (short j, ShortSlab) ∷ (out j, OnLease) ∷ (not (d.admits j r.key), NotAdmitted) ∷ (room j, AllOut) ∷ [])

    pub keep_fails : (e : Refusal) (later : List ℕ) → 1 ≤ r.cost → Step same_number s (keeps r.key r.cost [] bytes (Err e) later) t → Goes m (length bytes) before r t (Err e) × (later ≡ bytes)
    keep_fails e later c (f, q, b) = ((absent_fault ∙ sym (keep_fault_is c) ∙ f, stands_at s t q h.stands), b)

    -- an accepted keep, by what it says that left
    takes_in : (e : Event RegionNumber) (v : Option RegionNumber) (o : Outcome) → 1 ≤ r.cost → Step same_number s e t → Steady m t → keep_fault same_number s r.key r.cost 0 (length bytes) ≡ None
        → answered e ≡ record { hit = false; charge = r.cost; victim = v } → use_of same_number h.stands.worked.events e ≡ Some (keep r.key r.cost) → o ≡ paying r.cost v → deed (effect e) ≡ row_effect r o ∷ []
        → Goes m (length bytes) before r t (Ok o)
    takes_in e v o c step d f a u p q =
        let w = h.stands.worked in
        let l : Line same_number m (e ∷ w.events) t = (s, w.line, step) in
        let x : outcome same_number (slots (made m)) (dual same_number (slots (made m)) w.events) (keep r.key r.cost) ≡ record { hit = false; charge = r.cost; victim = v }
        = sym (told m e w.events t l ∙ ap (outcome_of_use same_number (slots (made m)) (dual same_number (slots (made m)) w.events)) u) ∙ a in
        let y : row_outcome (slots (made m)) g r ≡ record { hit = false; charge = r.cost; victim = v }
        = (λ j. outcome same_number (slots (made m)) g (use_for (h.absent j) r)) ∙ ap (λ (z : Dual RegionNumber). outcome same_number (slots (made m)) z (keep r.key r.cost)) (sym w.dual_is) ∙ x in
        let k : o ≡ noted (row_outcome (slots (made m)) g r) = p ∙ sym (ap noted y) in
        let b : dual same_number (slots (made m)) (e ∷ w.events) ≡ row_after (slots (made m)) g r
        = ap (after_use same_number (slots (made m)) (dual same_number (slots (made m)) w.events)) u ∙ ap (λ (z : Dual RegionNumber). after same_number (slots (made m)) z (keep r.key r.cost)) w.dual_is
        ∙ (λ j. after same_number (slots (made m)) g (use_for (sym h.absent j) r)) in
        (absent_fault ∙ sym (keep_fault_is c) ∙ f, k, record { worked = more s t w (e ∷ w.events) o l k b (ap (λ ds. deeds w.events ++ ds) q); steady = d })

    pub keep_takes : (later : List ℕ) → 1 ≤ r.cost → Step same_number s (keeps r.key r.cost [] bytes (Ok Taken) later) t → Goes m (length bytes) before r t (Ok (TakenIn r.cost)) × (later ≡ bytes)
    keep_takes later c step =
        let k = step.3 in (
          takes_in (keeps r.key r.cost [] bytes (Ok Taken) later) None (TakenIn r.cost) c step
              (steady_at m _ t k.after (steady_taken m s k.slot r.key r.cost 0 h.stands.steady)) step.0 refl refl refl refl,
          k.bytes ∙ nothing_written bytes (start s k.slot),
        )

    pub keep_evicts : (v : Evicted RegionNumber) (later : List ℕ) → 1 ≤ r.cost → Step same_number s (keeps r.key r.cost [] bytes (Ok (TakenEvicting v)) later) t
        → Goes m (length bytes) before r t (Ok (Evicting r.cost v.key)) × (later ≡ bytes)
    keep_evicts v later c step =
        let (u, x, k) = step.3 in (
          takes_in (keeps r.key r.cost [] bytes (Ok (TakenEvicting v)) later) (Some v.key) (Evicting r.cost v.key) c step
              (steady_at m _ t k.after (steady_taken m u k.slot r.key r.cost 0 (steady_at m _ u x.after (steady_evicted m s x.first.slot h.stands.steady)))) step.0 refl refl refl refl,
          k.bytes ∙ nothing_written bytes (start u k.slot),
        )

    -- a key that was not found is not refreshed
    pub keep_refreshes : (later : List ℕ) → Step same_number s (keeps r.key r.cost [] bytes (Ok Refreshed) later) t → ⊥
    keep_refreshes later step = let e = step.1.held in let f = h.unheld in let z : ◌≡◌ {A = ℕ} 0 1 = cc in omega arith

    -- whatever a keep did
    pub keep_goes : (a : Kept (Evicted RegionNumber)) (later : List ℕ) → 1 ≤ r.cost → Step same_number s (keeps r.key r.cost [] bytes (Ok a) later) t
        → Goes m (length bytes) before r t (Ok (kept_as a r.cost)) × (later ≡ bytes)
    keep_goes Refreshed later c step = absurd (keep_refreshes later step)
    keep_goes Taken later c step = keep_takes later c step
    keep_goes (TakenEvicting v) later c step = keep_evicts v later c step

  -- a get as the slab's reader sees it
  pub found_goes : (s t : State RegionNumber) (w : Bor (List ℕ)) (o : Option (Bor (List ℕ))) → is_some o ≡ true → Stands m before s → Step same_number s (gets r.key bytes (seen w (Ok o))) t → Goes m (length bytes) before r t (Ok Hit)
  found_goes s t w None e h step = let z : ◌≡◌ {A = ℕ} 0 1 = cc in absurd (omega arith)
  found_goes s t w (Some p) e h step = get_finds s t (part_of w p) h step

  pub missed_goes : (s t : State RegionNumber) (w : Bor (List ℕ)) (o : Option (Bor (List ℕ))) → is_some o ≡ false → Stands m before s → Step same_number s (gets r.key bytes (seen w (Ok o))) t → Missed m (length bytes) before r t
  missed_goes s t w None e h step = get_misses s t h step
  missed_goes s t w (Some p) e h step = let z : ◌≡◌ {A = ℕ} 0 1 = cc in absurd (omega arith)

  -- an answer, and one that is equal to it
  pub answer_at : (t : State RegionNumber) (q p : Result Outcome Refusal) (later : List ℕ) → p ≡ q → Goes m (length bytes) before r t q × (later ≡ bytes) → Goes m (length bytes) before r t p × (later ≡ bytes)
  answer_at t q p later e h = subst (λ (x : Result Outcome Refusal). Goes m (length bytes) before r t x × (later ≡ bytes)) (sym e) h
