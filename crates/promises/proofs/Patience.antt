-- How many evictions a region that waits untouched can see, over the views of a run.
use Rattle.std.proofs.Common.{◌≡◌, ℕ, ◌+◌, ◌-◌, ◌*◌, ◌<◌, ◌≤◌, Bool, true, false, cond, eqb, sym, refl, ap, ◌∙◌, subst, ⊎_elim, mul-le-mul_right, arith}
use Rattle.std.proofs.lemmas.Bool.{cases_lt, both_ways, eq-eqb, ne_eqb, cond-true, cond-false}
use Rattle.promises.proofs.Sums.{sum_to, sum_to_le, sum_to_same, sum_to_at, sum_to_ones}
use Rattle.keys.specs.Sameness.{SameLaws}
use Rattle.promises.specs.Events.{Effect, request_of, removal_of, eviction_of, one_if}
use Rattle.promises.specs.History.{same_as}
use Rattle.promises.proofs.Views.{Place, free, waits, lies_out, lower, View, Alike, Only, Expels, Enters, Moves, rests, sees, touches, refreshes, takes, evicts, lends, takes_back, removes, idle_nothing, idle_rewrote}
use Rattle.promises.proofs.Fine.{only_all, Fine, Proper}
use Rattle.promises.proofs.Lying.{waits_apart}

-- the sum of a function that is 0 at one number, or at two, and nowhere above 1
pub one_less : (n i : ℕ) (f : ℕ → ℕ) → i < n → ((j : ℕ) → f j ≤ 1) → f i ≡ 0 → sum_to n f + 1 ≤ n
one_less n i f l small z =
    let g : ℕ → ℕ = λ j. cond (eqb j i) 1 (f j) in
    let at : g i ≡ 1 = cond-true (eqb i i) 1 (f i) (eq-eqb i i refl) in
    let a = sum_to_at n i g f l (λ j ne. cond-false (eqb j i) 1 (f j) (ne_eqb j i ne)) in
    let b = sum_to_le n g (λ j. 1) (λ j m. below (eqb j i) (f j) (small j)) in
    let c = sum_to_ones n (λ j. 1) (λ j m. refl) in
    omega arith
  where
    below : (t : Bool) (x : ℕ) → x ≤ 1 → cond t 1 x ≤ 1
    below true x h = omega arith
    below false x h = h

pub two_less : (n i j : ℕ) (f : ℕ → ℕ) → i < n → j < n → (j ≡ i → ⊥) → ((j : ℕ) → f j ≤ 1) → f i ≡ 0 → f j ≡ 0 → sum_to n f + 2 ≤ n
two_less n i j f l m ne small z y =
    let g : ℕ → ℕ = λ x. cond (eqb x i) 1 (f x) in
    let at : g i ≡ 1 = cond-true (eqb i i) 1 (f i) (eq-eqb i i refl) in
    let a = sum_to_at n i g f l (λ x d. cond-false (eqb x i) 1 (f x) (ne_eqb x i d)) in
    let b = one_less n j g m (λ x. below (eqb x i) (f x) (small x)) (cond-false (eqb j i) 1 (f j) (ne_eqb j i ne) ∙ y) in
    omega arith
  where
    below : (t : Bool) (x : ℕ) → x ≤ 1 → cond t 1 x ≤ 1
    below true x h = omega arith
    below false x h = h

-- 1 for a region that waits with credit 0
abbrev pub due : {K : Type 0} → Place K → ℕ
due free = 0
due (waits k c r) = cond (eqb r 0) 1 0
due (lies_out k c) = 0

due_le : {K : Type 0} (p : Place K) → due p ≤ 1
due_le free = omega arith
due_le (waits k c r) = elim (eqb r 0) as (λ t. cond t 1 0 ≤ 1) [ true ↦ omega arith | false ↦ omega arith ]
due_le (lies_out k c) = omega arith

due_full : (c : ℕ) → 1 ≤ c → ◌≡◌ {A = ℕ} (cond (eqb c 0) 1 0) 0
due_full c h = cond-false (eqb c 0) 1 0 (ne_eqb c 0 (λ e. omega arith))

due_lower : {K : Type 0} (p : Place K) → due (lower 0 p) ≡ due p
due_lower free = refl
due_lower (waits k c r) = let e : r - 0 ≡ r = omega arith in ap (λ x. cond (eqb x 0) 1 0) e
due_lower (lies_out k c) = refl

-- the other slots that are due
abbrev pub due_beside : {K : Type 0} → ℕ → ℕ → Place K → ℕ
due_beside i j p = cond (eqb j i) 0 (due p)

abbrev pub dues : {K : Type 0} → ℕ → ℕ → View K → ℕ
dues n i v = sum_to n (λ j. due_beside i j (v j))

beside_le : {K : Type 0} (i j : ℕ) (p : Place K) → due_beside i j p ≤ 1
beside_le i j p = let h = due_le p in elim (eqb j i) as (λ t. cond t 0 (due p) ≤ 1) [ true ↦ omega arith | false ↦ h ]

beside_none : {K : Type 0} (i j : ℕ) (p : Place K) → due p ≡ 0 → due_beside i j p ≡ 0
beside_none i j p h = elim (eqb j i) as (λ t. cond t 0 (due p) ≡ 0) [ true ↦ refl | false ↦ h ]

beside_own : {K : Type 0} (i : ℕ) (p : Place K) → due_beside i i p ≡ 0
beside_own i p = cond-true (eqb i i) 0 (due p) (eq-eqb i i refl)

pub dues_first : {K : Type 0} (n i : ℕ) (v : View K) → i < n → dues n i v + 1 ≤ n
dues_first n i v l = one_less n i (λ j. due_beside i j (v j)) l (λ j. beside_le i j (v j)) (beside_own i (v i))

pub dues_only : {K : Type 0} (n i : ℕ) {j : ℕ} {p : Place K} {v w : View K} → Only j p v w → due p ≡ 0 → dues n i w ≤ dues n i v
dues_only n i {j} {p} {v} {w} o z = sum_to_le n _ _ (λ x l. only_all o (λ y q. due_beside i y q ≤ due_beside i y (v y)) (let a = beside_none i j p z in omega arith) (λ y ne. omega arith) x)

pub dues_alike : {K : Type 0} (n i : ℕ) {v w : View K} → Alike v w → dues n i w ≡ dues n i v
dues_alike n i s = sum_to_same n _ _ (λ j l. ap (due_beside i j) (s j))

-- an expulsion at credit 0
pub dues_expels : {K : Type 0} (n i j : ℕ) {e : K} {v u : View K} → (j ≡ i → ⊥) → Expels n j 0 e v u → dues n i u + 1 ≡ dues n i v
dues_expels {K} n i j {v = v} {u = u} ne ex =
    let a = sum_to_at n j (λ x. due_beside i x (u x)) (λ x. due_beside i x (v x)) ex.within (λ x d. ap (due_beside i x) (ex.others x d) ∙ ap (λ y. cond (eqb x i) 0 y) (due_lower (v x))) in
    let b : due_beside i j (v j) ≡ 1 = cond-false (eqb j i) 0 (due (v j)) (ne_eqb j i ne) ∙ ap due ex.was in
    let c : due_beside i j (u j) ≡ 0 = ap (due_beside i j) ex.gone ∙ beside_none {K = K} i j free refl in
    omega arith

-- after a new region has entered at another slot
pub dues_entered : {K : Type 0} (n i j : ℕ) {k : K} {c : ℕ} {v w : View K} → i < n → (j ≡ i → ⊥) → Enters n j k c v w → dues n i w + 2 ≤ n
dues_entered n i j {k = k} {c = c} {w = w} l ne en =
    two_less n i j (λ x. due_beside i x (w x)) l en.within ne (λ x. beside_le i x (w x)) (beside_own i (w i)) (beside_none i j (w j) (ap due en.entered.here ∙ due_full c en.positive))

-- the arithmetic of an expulsion by d, from credit r
pub fall_arith : (n x z z' r d b : ℕ) → d ≤ r → 1 ≤ d → z' + 2 ≤ n → x + z + r * (n - 1) ≤ b → (1 + x) + z' + (r - d) * (n - 1) ≤ b
fall_arith n x z z' r d b le pos few h =
    let m : ℕ = n - 1 in
    let q : ℕ = r - d in
    let e : r ≡ q + d = omega arith in
    let p₁ = ap (λ t. t * m) e in
    let p₂ = mul-le-mul_right m pos in
    omega arith

waits_same : {K : Type 0} (p : Place K) (k l : K) (c r d q : ℕ) → p ≡ waits k c r → p ≡ waits l d q → k ≡ l
waits_same p k l c r d q e f = cc

free_apart : {K : Type 0} (p : Place K) (k : K) (c r : ℕ) → p ≡ waits k c r → p ≡ free → ⊥
free_apart p k c r e f = let z : ◌≡◌ {A = ℕ} 0 1 = cc in omega arith

zero_of : (d : ℕ) → d ≤ 0 → d ≡ 0
zero_of d h = omega arith

-- the region l at the slot i, touched at cost c, has credit r after some evictions of others
pub record Patient {K : Type 0} (n i : ℕ) (l : K) (c : ℕ) (v : View K) (seen : ℕ) : Type 0 where
  pub left : ℕ
  pub there : v i ≡ waits l c left
  pub bound : seen + dues n i v + left * (n - 1) ≤ (c + 1) * (n - 1)

module _ {K : Type 0} (same : K → K → Bool) {home : K → ℕ} (laws : SameLaws same home) (n mark i : ℕ) (inside : i < n) (l k : K) (alike : same l k ≡ true) (c : ℕ) where
  pub patient_first : (v : View K) → v i ≡ waits l c c → Patient n i l c v 0
  patient_first v e = let a = dues_first n i v inside in record { left = c; there = e; bound = omega arith }

  -- a call that changes another slot, to one that is not due
  patient_only : {v w : View K} {j : ℕ} {p : Place K} (x : ℕ) → Only j p v w → (j ≡ i → ⊥) → due p ≡ 0 → Patient n i l c v x → Patient n i l c w (0 + x)
  patient_only x o ne z h = let a = dues_only n i o z in record { left = h.left; there = o.others i (λ e. ne (sym e)) ∙ h.there; bound = omega (arith, h.bound) }

  patient_alike : {v w : View K} (x : ℕ) → Alike v w → Patient n i l c v x → Patient n i l c w (0 + x)
  patient_alike x s h = let a = dues_alike n i s in record { left = h.left; there = s i ∙ h.there; bound = omega (arith, h.bound) }

  -- another region is at another slot
  elsewhere : {v : View K} {j : ℕ} {l' k' : K} {d q x : ℕ} → Patient n i l c v x → v j ≡ waits l' d q → same l' k' ≡ true → same k' k ≡ false → j ≡ i → ⊥
  elsewhere {v} {j} {l'} {k'} {d} {q} h e s f t =
      let ll = waits_same (v i) l l' c h.left d q h.there (ap v (sym t) ∙ e) in
      let sl : same l k' ≡ true = subst (λ y. same y k' ≡ true) (sym ll) s in
      both_ways (same k' k) f (laws.transitive k' l k (laws.symmetric l k' sl) alike)

  pub patient_step : {v w : View K} {e : Effect K} (x : ℕ) → Moves same n mark v w e → Fine same v → same_as same k (request_of e) ≡ false → same_as same k (removal_of e) ≡ false → same_as same k (eviction_of e) ≡ false → Patient n i l c v x → Patient n i l c w (one_if (eviction_of e) + x)
  patient_step x (rests idle_nothing s) fine rq rm ev h = patient_alike x s h
  patient_step x (rests (idle_rewrote _ _) s) fine rq rm ev h = patient_alike x s h
  patient_step x (sees _ _ _ _ s) fine rq rm ev h = patient_alike x s h
  patient_step {v = v} x (touches j d r lt e s o) fine rq rm ev h = patient_only x o (elsewhere h e s rq) (due_full d (subst Proper e (fine.proper j)).1) h
  patient_step x (refreshes {d = d} j c' r lt e s pos o) fine rq rm ev h = patient_only x o (elsewhere h e s rq) (due_full d pos) h
  patient_step {v = v} x (takes {d = d} j u en) fine rq rm ev h = patient_only x en.entered (λ t. free_apart (v i) l c h.left h.there (ap v (sym t) ∙ en.unused)) (due_full d en.positive) h
  patient_step {v = v} {w = w} x (evicts {k = k'} {e = e} j j' d u unheld full ex en) fine rq rm ev h = ⊎_elim late early (cases_lt 0 d)
    where
      apart : j ≡ i → ⊥
      apart = elsewhere h ex.was (laws.reflexive e) ev

      lowered : u i ≡ waits l c (h.left - d)
      lowered = ex.others i (λ t. apart (sym t)) ∙ ap (lower d) h.there

      apart' : j' ≡ i → ⊥
      apart' t = free_apart (u i) l c (h.left - d) lowered (ap u (sym t) ∙ en.unused)

      least : d ≤ h.left
      least = ex.least i l c h.left h.there

      there : w i ≡ waits l c (h.left - d)
      there = en.entered.others i (λ t. apart' (sym t)) ∙ lowered

      late : 0 < d → Patient n i l c w (1 + x)
      late pos = record { left = h.left - d; there = there; bound = fall_arith n x (dues n i v) (dues n i w) h.left d ((c + 1) * (n - 1)) least pos (dues_entered n i j' inside apart' en) h.bound }

      early : d ≤ 0 → Patient n i l c w (1 + x)
      early z =
          let ex₀ = subst (λ y. Expels n j y e v u) (zero_of d z) ex in
          let a = dues_expels n i j apart ex₀ in
          let b = dues_only n i en.entered (due_full _ en.positive) in
          let q : h.left - d ≡ h.left = omega arith in
          record { left = h.left; there = there ∙ ap (waits l c) q; bound = omega (arith, h.bound) }
  patient_step {v = v} x (lends d r mk lt e s o) fine rq rm ev h = patient_only x o (elsewhere h e s rq) refl h
  patient_step {v = v} x (takes_back {k = k'} {t = t} d mk lt e o) fine rq rm ev h = patient_only x o (λ q. waits_apart (v i) l k' c h.left d h.there (ap v (sym q) ∙ e)) (due_full d (subst Proper e (fine.proper t.slot))) h
  patient_step x (removes j d r lt e s o) fine rq rm ev h = patient_only x o (elsewhere h e s rm) refl h
