-- The tables of a numbered directory, as a number comes in or goes.
use Rattle.std.proofs.Common.{◌≡◌, ℕ, ◌+◌, ◌-◌, ◌<◌, ◌≤◌, true, false, not, ◌≢◌, List, [], ◌∷◌, ◌++◌, length, get_or, take, set, replicate, is_some, Some, None, Option, sym, refl, ap, ◌∙◌, subst, ⊎_elim, arith}
use Rattle.std.specs.List.{refill}
use Rattle.std.proofs.Math.ListN.{get_or-append}
use Rattle.std.proofs.Math.Seq.{take-length, get_or-append_seam}
use Rattle.std.proofs.lemmas.List.{take_all, drop_all, length-append, length-set, length-replicate, get_or-replicate, get_or_past, take-replicate, get_or-set_same, get_or-set_other, append-nil}
use Rattle.std.proofs.lemmas.Bool.{both_ways, cases_eq, cases_lt, cases_Bool, eq-eqb, eqb-true, ne_eqb, lt-ltb, or_from, not_from_true}
use Rattle.keys.specs.Regions.{same_number}
use Rattle.keys.specs.declared.region.RegionNumber.{RegionNumber}
use Rattle.directories.specs.Meaning.{pairs, holds, slot_in, declines}
use Rattle.directories.specs.Links.{Stacked, Least}
use Rattle.directories.specs.Numbers.{Ranked, EverySlot, below, register}
use Rattle.directories.proofs.Counts.{pairs_none}
use Rattle.directories.proofs.Sounds.{popped, restacked, pushed, sought}

some_none : {K : Type 0} (o : Option K) (a : K) → o ≡ Some a → o ≡ None → ⊥
some_none o a p q = let z : ◌≡◌ {A = ℕ} 0 1 = cc in omega arith

one_some : (o : Option RegionNumber) (a b : RegionNumber) → o ≡ Some a → o ≡ Some b → a ≡ b
one_some o a b p q = cc

-- what a write of a whole vector as a slice leaves of it
pub refilled : {A : Type 0} (xs ws : List A) (i : ℕ) (v : A) → ws ≡ xs → refill (length xs) xs (set ws i v) ≡ set xs i v
refilled xs ws i v e =
    let l : length (set ws i v) ≡ length xs = length-set ws i v ∙ ap length e in
    rw (drop_all (length (set ws i v)) xs (omega arith), append-nil (set ws i v), take_all (length xs) (set ws i v) (omega arith)) (ap (λ ys. set ys i v) e)

module _ {ks : List (Option RegionNumber)} {fs : List ℕ} {ls : List (Option ℕ)} {cap : ℕ} (h : Ranked ks fs ls cap) where
  -- where a key that is the same as k stands
  where_held : (k : RegionNumber) (j : ℕ) → holds same_number k (get_or ks j None) ≡ true → get_or ls k.number None ≡ Some j
  where_held k j t = at (get_or ks j None) refl t
    where
      at : (o : Option RegionNumber) → get_or ks j None ≡ o → holds same_number k o ≡ true → get_or ls k.number None ≡ Some j
      at None e t = absurd (both_ways false refl t)
      at (Some a) e t =
          let one : a.number ≡ k.number = eqb-true a.number k.number t in
          rw one at (h.looked.back j a e).1

  least : (k : RegionNumber) (o : Option ℕ) → get_or ls k.number None ≡ o → Least (λ i. holds same_number k (get_or ks i None)) (length ks) o
  least k None e = λ j jm. ⊎_elim
      (λ t. let w : get_or ls k.number None ≡ Some j = where_held k j t in let z : ◌≡◌ {A = ℕ} 0 1 = cc in absurd (omega arith))
      (λ f. f)
      (cases_Bool (holds same_number k (get_or ks j None)))
  least k (Some s) e =
      let o = h.looked.out k.number s e in (
        o.0,
        ap (holds same_number k) o.1 ∙ eq-eqb k.number k.number refl,
        λ j js. ⊎_elim
            (λ t. let w : get_or ls k.number None ≡ Some j = where_held k j t in let q : j ≡ s = cc in absurd (omega arith))
            (λ f. f)
            (cases_Bool (holds same_number k (get_or ks j None))),
      )

  -- the table answers what a search for the key would
  pub looked_up : (k : RegionNumber) → get_or ls k.number None ≡ slot_in same_number k ks
  looked_up k =
      sought same_number (length ks) ks (omega arith) k (get_or ls k.number None) (least k (get_or ls k.number None) refl)
      ∙ ap (slot_in same_number k) (take-length ks)

  count : length fs + pairs ks ≡ length ks
  count = ap (λ x. length fs + pairs x) (sym (take-length ks)) ∙ h.stacked.count

  -- a number comes in, at the slot on top of the stack
  module _ (k : RegionNumber) (s : ℕ) (fs' : List ℕ) (e : fs ≡ fs' ++ s ∷ []) where
    fewer : length fs ≡ length fs' + 1
    fewer = ap length e ∙ length-append fs' (s ∷ [])

    pop : (s < length ks) × (get_or ks s None ≡ None) × Stacked (length ks) (set ks s (Some k)) fs (length fs - 1)
    pop =
        let f : length fs ≡ length fs' + 1 = fewer in
        let last : length fs - 1 ≡ length fs' = omega arith in
        popped (length ks) ks fs (length fs) h.stacked (omega arith) s k (omega arith)
        (sym (ap (λ x. get_or x (length fs - 1) 0) e ∙ ap (λ i. get_or (fs' ++ s ∷ []) i 0) last ∙ get_or-append_seam fs' s [] 0))

    pub top_unused : (s < length ks) × (get_or ks s None ≡ None)
    top_unused = (pop.0, pop.1)

    pub rank_in : k.number < 4096 → k.number < length ls → slot_in same_number k ks ≡ None → Ranked (set ks s (Some k)) fs' (set ls k.number (Some s)) cap
    rank_in l long absent =
        let free : get_or ls k.number None ≡ None = looked_up k ∙ absent in
        let f : length fs ≡ length fs' + 1 = fewer in
        let last : length fs - 1 ≡ length fs' = omega arith in
        let sm : s < length ks = pop.0 in
        let r : ℕ = k.number in
        let here : get_or (set ls r (Some s)) r None ≡ Some s = get_or-set_same ls r (Some s) None long in
        let other : (x : ℕ) → x ≢ r → get_or (set ls r (Some s)) x None ≡ get_or ls x None = (λ x ne. get_or-set_other ls r x (Some s) None ne) in
        let key_here : get_or (set ks s (Some k)) s None ≡ Some k = get_or-set_same ks s (Some k) None sm in
        let key-other : (x : ℕ) → x ≢ s → get_or (set ks s (Some k)) x None ≡ get_or ks x None = (λ x ne. get_or-set_other ks s x (Some k) None ne) in
        let same : (j : ℕ) → j < length fs' → get_or fs' j 0 ≡ get_or fs j 0 =
        (λ j jl. sym (ap (λ x. get_or x j 0) e ∙ get_or-append fs' (s ∷ []) 0 j jl)) in
        record {
          small = h.small;
          size = rw (length-set ks s (Some k)) h.size;
          looked = record {
            out = λ x i v. ⊎_elim
                (λ (q : x ≡ r).
                let v' : get_or (set ls r (Some s)) r None ≡ Some i = rw q at v in
                let si : s ≡ i = cc in (
                  rw (length-set ks s (Some k)) (rw si at sm),
                  subst (λ (y : ℕ). get_or (set ks s (Some k)) y None ≡ Some (record { number = x })) si (key_here ∙ ap (λ (z : ℕ). Some (record { number = z })) (sym q)),
                ))
                (λ (ne : x ≢ r).
                let o = h.looked.out x i (sym (other x ne) ∙ v) in
                let ns : i ≢ s = (λ q. some_none (get_or ks s None) (record { number = x }) (subst (λ (y : ℕ). get_or ks y None ≡ Some (record { number = x })) q o.1) pop.1) in
                (rw (length-set ks s (Some k)) o.0, key-other i ns ∙ o.1))
                (cases_eq x r);
            back = λ i a ea. ⊎_elim
                (λ (q : i ≡ s).
                let ea' : get_or (set ks s (Some k)) s None ≡ Some a = rw q at ea in
                let ak : k ≡ a = cc in
                subst (λ (y : RegionNumber). (y.number < 4096) × (get_or (set ls r (Some s)) y.number None ≡ Some i)) ak (l, here ∙ ap Some (sym q)))
                (λ (ne : i ≢ s).
                let b = h.looked.back i a (sym (key-other i ne) ∙ ea) in
                let nr : a.number ≢ r = (λ q. some_none (get_or ls r None) i (subst (λ (y : ℕ). get_or ls y None ≡ Some i) q b.1) free) in
                (b.0, other a.number nr ∙ b.1))
                (cases_eq i s);
          };
          stacked = rw (length-set ks s (Some k))
              (restacked (length ks) (set ks s (Some k)) fs (length fs') (subst (λ (n : ℕ). Stacked (length ks) (set ks s (Some k)) fs n) last pop.2) (omega (arith, length-set ks s (Some k))) fs' same);
        }

    pub accepts : k.number < 4096 → slot_in same_number k ks ≡ None → declines same_number (register ks cap) k ≡ false
    accepts l absent =
        let f : length fs ≡ length fs' + 1 = fewer in
        let c : length fs + pairs ks ≡ length ks = count in
        or_from (not (below k)) _ (not_from_true (below k) (lt-ltb k.number 4096 l))
        (or_from (is_some (slot_in same_number k ks)) _ (ap is_some absent) (ne_eqb _ _ (λ q. omega arith)))

  -- a number goes out of its slot
  module _ (k : RegionNumber) (s : ℕ) (found : slot_in same_number k ks ≡ Some s) where
    e : get_or ls k.number None ≡ Some s
    e = looked_up k ∙ found

    pub stood : (s < length ks) × (get_or ks s None ≡ Some k)
    stood = h.looked.out k.number s e

    push : (length fs < length ks)
        × ((fs' : List ℕ) → get_or fs' (length fs) 0 ≡ s → ((j : ℕ) → j < length fs → get_or fs' j 0 ≡ get_or fs j 0) → Stacked (length ks) (set ks s None) fs' (length fs + 1))
    push = pushed (length ks) ks fs (length fs) h.stacked (omega arith) s k stood.0 stood.1

    -- the bounds of what is written
    pub bounds : (s < length ks) × (s < 1024) × (k.number < 4096) × (length fs < 1024)
    bounds =
        let small : cap ≤ 1024 = h.small in
        let size : length ks ≤ cap = h.size in
        let sm : s < length ks = stood.0 in
        let room : length fs < length ks = push.0 in
        (sm, omega arith, (h.looked.back s k stood.1).0, omega arith)

    pub rank_out : k.number < length ls → Ranked (set ks s None) (fs ++ s ∷ []) (set ls k.number None) cap
    rank_out long =
        let r : ℕ = k.number in
        let here : get_or (set ls r None) r None ≡ None = get_or-set_same ls r None None long in
        let other : (x : ℕ) → x ≢ r → get_or (set ls r None) x None ≡ get_or ls x None = (λ x ne. get_or-set_other ls r x None None ne) in
        let key_here : get_or (set ks s None) s None ≡ None = get_or-set_same ks s None None stood.0 in
        let key-other : (x : ℕ) → x ≢ s → get_or (set ks s None) x None ≡ get_or ks x None = (λ x ne. get_or-set_other ks s x None None ne) in
        record {
          small = h.small;
          size = rw (length-set ks s None) h.size;
          looked = record {
            out = λ x i v. ⊎_elim
                (λ (q : x ≡ r). absurd (some_none (get_or (set ls r None) r None) i (subst (λ (y : ℕ). get_or (set ls r None) y None ≡ Some i) q v) here))
                (λ (ne : x ≢ r).
                let o = h.looked.out x i (sym (other x ne) ∙ v) in
                let ns : i ≢ s = (λ q. ne (ap (λ y. y.number) (one_some (get_or ks s None) (record { number = x }) k
                (subst (λ (y : ℕ). get_or ks y None ≡ Some (record { number = x })) q o.1) stood.1))) in
                (rw (length-set ks s None) o.0, key-other i ns ∙ o.1))
                (cases_eq x r);
            back = λ i a ea. ⊎_elim
                (λ (q : i ≡ s). absurd (some_none (get_or (set ks s None) s None) a (subst (λ (y : ℕ). get_or (set ks s None) y None ≡ Some a) q ea) key_here))
                (λ (ne : i ≢ s).
                let b = h.looked.back i a (sym (key-other i ne) ∙ ea) in
                let nr : a.number ≢ r = (λ q. let w : get_or ls r None ≡ Some i = subst (λ (y : ℕ). get_or ls y None ≡ Some i) q b.1 in let si : s ≡ i = cc e in ne (sym si)) in
                (b.0, other a.number nr ∙ b.1))
                (cases_eq i s);
          };
          stacked = rw (length-set ks s None, length-append fs (s ∷ []))
              (push.1 (fs ++ s ∷ []) (get_or-append_seam fs s [] 0) (λ j l. get_or-append fs (s ∷ []) 0 j l));
        }

pub none_at : {A : Type 0} (n i : ℕ) → get_or {A = Option A} (replicate n None) i None ≡ None
none_at {A} n i = ⊎_elim
    (λ (l : i < n). get_or-replicate n i None None l)
    (λ (g : n ≤ i). get_or_past (replicate n None) i None (rw (length-replicate {A = Option A} n None) g))
    (cases_lt i n)

-- the first slots of a table that holds nothing
pub first_none : {A : Type 0} (m n : ℕ) (xs ys zs : List (Option A)) → m ≤ n → xs ≡ take m ys → ys ≡ zs → zs ≡ replicate n None → xs ≡ replicate m None
first_none m n xs ys zs l e f g = e ∙ ap (take m) (f ∙ g) ∙ take-replicate m n None l

-- the tables of a new directory
module _ (fs : List ℕ) (ls : List (Option ℕ)) (cap m : ℕ) (small : cap ≤ 1024) (size : m ≤ cap) (every : EverySlot m fs) (none : (r : ℕ) → get_or ls r None ≡ None) where
  pub rank_new : Ranked (replicate m None) fs ls cap
  rank_new = record {
    small = small;
    size = rw (length-replicate {A = Option RegionNumber} m None) size;
    looked = record {
      out = λ r s v. absurd (some_none (get_or ls r None) s v (none r));
      back = λ i k e. absurd (some_none (get_or (replicate m None) i None) k e (none_at m i));
    };
    stacked = rw (length-replicate {A = Option RegionNumber} m None, every.0) (record {
      unused = λ j l. rw (every.1 j l) (l, none_at m j);
      once = λ i j a b e. sym (every.1 i a) ∙ e ∙ every.1 j b;
      count = (let z : pairs {K = RegionNumber} (replicate m None) ≡ 0 = pairs_none RegionNumber m in
          let t : take m (replicate {A = Option RegionNumber} m None) ≡ replicate m None = take-replicate m m None (omega arith) in
          rw t (omega arith));
    });
  }
