-- The potential of a cache against a rival's keys, and how each move changes it.
use Rattle.std.proofs.Common.{◌≡◌, ℕ, suc, ◌+◌, ◌-◌, ◌*◌, ◌<◌, ◌≤◌, Bool, true, false, cond, ◌||◌, ◌⊎◌, List, [], ◌∷◌, length, Some, sym, refl, ap, ◌∙◌, subst, inl, inr, mul-le-mul_right, mul-le-mul_left, zero-add, arith}
use Rattle.std.proofs.lemmas.Bool.{cases_Bool, both_ways}
use Rattle.keys.specs.Sameness.{SameLaws}
use Rattle.promises.specs.Rivals.{has, without}
use Rattle.promises.proofs.Sums.{sum_to, sum_to_le, sum_to_same, sum_to_add, sum_to_times, sum_to_at, sum_to_none, sum_to_ones, sum_to_one}
use Rattle.promises.proofs.Members.{total, same_flip, same_alike, has_alike, has_without}
use Rattle.promises.specs.Events.{Effect, price_of, request_of, removal_of, charge_of}
use Rattle.promises.specs.History.{Priced}
use Rattle.promises.proofs.Views.{Place, free, waits, lies_out, credit, holds, kept, waits?, out?, lower, View, Alike, Only, Expels, Enters, Unheld, Full, idle_nothing, idle_rewrote, Moves, rests, sees, touches, refreshes, takes, evicts, lends, takes_back, removes}
use Rattle.promises.proofs.Fine.{Apart, Proper, Costs, Fine, expels_all}

-- `f` is n - g: f * ours + potential ≤ n * theirs, with the subtracted part on the right
raise_arith : (f g n o W W' S S' T p r c : ℕ) → g ≤ n → r ≤ c → W' + r ≡ W + c → S' + r ≡ S + c → f * o + (g * W + n * T) ≤ n * p + n * S → f * o + (g * W' + n * T) ≤ n * p + n * S'
raise_arith f g n o W W' S S' T p r c gn rc ew es h =
    let x : ℕ = c - r in
    let a : W' ≡ W + x = omega arith in
    let b : S' ≡ S + x = omega arith in
    let ga = ap (λ t. g * t) a in
    let gb = ap (λ t. n * t) b in
    let gx = mul-le-mul_right x gn in
    omega arith

enter_arith : (f g n o W W' S S' T p c : ℕ) → f + g ≡ n → W' ≡ W + c → S' ≡ S + c → f * o + (g * W + n * T) ≤ n * p + n * S → f * (c + o) + (g * W' + n * T) ≤ n * p + n * S'
enter_arith f g n o W W' S S' T p c gn a b h =
    let ga = ap (λ t. g * t) a in
    let gb = ap (λ t. n * t) b in
    let gx : f * c + g * c ≡ n * c = omega (arith, ap (λ t. t * c) gn) in
    omega arith

expel_arith : (f g n o W W' S S' T p d w m j : ℕ) → g ≤ n → W ≡ W' + d * w → S ≡ S' + d * m → w + j ≡ n → m + j ≤ g → f * o + (g * W + n * T) ≤ n * p + n * S → f * o + (g * W' + n * T) ≤ n * p + n * S'
expel_arith f g n o W W' S S' T p d w m j gn a b full few h =
    let k : n * m ≤ g * w = few_arith in
    let dk = mul-le-mul_left d k in
    let ga = ap (λ t. g * t) a in
    let gb = ap (λ t. n * t) b in
    omega arith
  where
    few_arith : n * m ≤ g * w
    few_arith =
        let p₁ = mul-le-mul_left n few in
        let p₂ = mul-le-mul_right j gn in
        let p₃ = ap (λ t. g * t) full in
        omega arith

less_arith : (f g n o W W' S S' T p : ℕ) → W' ≤ W → S ≤ S' → f * o + (g * W + n * T) ≤ n * p + n * S → f * o + (g * W' + n * T) ≤ n * p + n * S'
less_arith f g n o W W' S S' T p a b h =
    let ga = mul-le-mul_left g a in
    let gb = mul-le-mul_left n b in
    omega arith

pub rival_arith : (f g n o W S S' T T' p p' : ℕ) → T' + (S + p) ≤ T + (S' + p') → f * o + (g * W + n * T) ≤ n * p + n * S → f * o + (g * W + n * T') ≤ n * p' + n * S'
rival_arith f g n o W S S' T T' p p' e h = let k = mul-le-mul_left n e in omega arith

-- the sum of our credits
abbrev pub wealth : {K : Type 0} → ℕ → View K → ℕ
wealth n v = sum_to n (λ i. credit (v i))

abbrev pub credit_in : {K : Type 0} → (K → K → Bool) → List K → Place K → ℕ
credit_in same rs p = cond (kept same rs p) (credit p) 0

-- the sum of our credits of the rival's keys
abbrev pub shared : {K : Type 0} → (K → K → Bool) → ℕ → List K → View K → ℕ
shared same n rs v = sum_to n (λ i. credit_in same rs (v i))

-- how many slots hold a key of the rival's
abbrev pub common : {K : Type 0} → (K → K → Bool) → ℕ → List K → View K → ℕ
common same n rs v = sum_to n (λ i. cond (kept same rs (v i)) 1 0)

cond_or : (a b : Bool) (x : ℕ) → cond (a || b) x 0 ≤ cond b x 0 + cond a x 0
cond_or true b x = omega arith
cond_or false b x = omega arith

cond_or_right : (a b : Bool) (x : ℕ) → cond b x 0 ≤ cond (a || b) x 0
cond_or_right true true x = omega arith
cond_or_right true false x = omega arith
cond_or_right false b x = omega arith

-- of a and b, where b' implies b
cond_or_less : (a b b' : Bool) (x : ℕ) → (b' ≡ true → b ≡ true) → cond (a || b) x 0 + cond b' x 0 ≤ cond b x 0 + cond (a || b') x 0
cond_or_less true true b' x h = elim b' as (λ t. cond (true || true) x 0 + cond t x 0 ≤ cond true x 0 + cond (true || t) x 0) [ true ↦ omega arith | false ↦ omega arith ]
cond_or_less true false true x h = absurd (both_ways false refl (h refl))
cond_or_less true false false x h = omega arith
cond_or_less false b b' x h = omega arith

module _ {K : Type 0} (same : K → K → Bool) where
  -- one key more
  pub kept_more : (r : K) (rs : List K) (x : ℕ) (p : Place K) → cond (kept same (r ∷ rs) p) x 0 ≤ cond (kept same rs p) x 0 + cond (holds same r p) x 0
  kept_more r rs x free = omega arith
  kept_more r rs x (waits l c e) = cond_or (same l r) (has same rs l) x
  kept_more r rs x (lies_out l c) = cond_or (same l r) (has same rs l) x

  pub kept_less : (r : K) (rs : List K) (x : ℕ) (p : Place K) → cond (kept same rs p) x 0 ≤ cond (kept same (r ∷ rs) p) x 0
  kept_less r rs x free = omega arith
  kept_less r rs x (waits l c e) = cond_or_right (same l r) (has same rs l) x
  kept_less r rs x (lies_out l c) = cond_or_right (same l r) (has same rs l) x

  kept_both : (r : K) (rs rs' : List K) → ((a : K) → has same rs' a ≡ true → has same rs a ≡ true) → (x : ℕ) (p : Place K) → cond (kept same (r ∷ rs) p) x 0 + cond (kept same rs' p) x 0 ≤ cond (kept same rs p) x 0 + cond (kept same (r ∷ rs') p) x 0
  kept_both r rs rs' h x free = omega arith
  kept_both r rs rs' h x (waits l c e) = cond_or_less (same l r) (has same rs l) (has same rs' l) x (h l)
  kept_both r rs rs' h x (lies_out l c) = cond_or_less (same l r) (has same rs l) (has same rs' l) x (h l)

  module _ (n : ℕ) (v : View K) (apart : Apart same v) where
    -- of the slots that hold r there is one at most
    pub one_holder : (r : K) (F : Place K → ℕ) (b : ℕ) → ((i : ℕ) → holds same r (v i) ≡ true → F (v i) ≤ b) → sum_to n (λ i. cond (holds same r (v i)) (F (v i)) 0) ≤ b
    one_holder r F b h = sum_to_one n (λ i. holds same r (v i)) (λ i. F (v i)) b (λ i j p q. apart i j r p q) h

    pub common_more : (r : K) (rs : List K) → common same n (r ∷ rs) v ≤ common same n rs v + 1
    common_more r rs =
        let a = sum_to_le n _ _ (λ i l. kept_more r rs 1 (v i)) in
        let b = sum_to_add n (λ i. cond (kept same rs (v i)) 1 0) (λ i. cond (holds same r (v i)) 1 0) in
        let c = one_holder r (λ p. 1) 1 (λ i h. omega arith) in
        omega arith

    -- the rival's key r, of cost b at least
    pub shared_more : (r : K) (rs : List K) (b : ℕ) → ((i : ℕ) → holds same r (v i) ≡ true → credit (v i) ≤ b) → shared same n (r ∷ rs) v ≤ shared same n rs v + b
    shared_more r rs b h =
        let a = sum_to_le n _ _ (λ i l. kept_more r rs (credit (v i)) (v i)) in
        let e = sum_to_add n (λ i. cond (kept same rs (v i)) (credit (v i)) 0) (λ i. cond (holds same r (v i)) (credit (v i)) 0) in
        let c = one_holder r credit b h in
        omega arith

  pub shared_less : (n : ℕ) (v : View K) (r : K) (rs : List K) → shared same n rs v ≤ shared same n (r ∷ rs) v
  shared_less n v r rs = sum_to_le n _ _ (λ i l. kept_less r rs (credit (v i)) (v i))

  shared_both : (n : ℕ) (v : View K) (r : K) (rs rs' : List K) → ((a : K) → has same rs' a ≡ true → has same rs a ≡ true) → shared same n (r ∷ rs) v + shared same n rs' v ≤ shared same n rs v + shared same n (r ∷ rs') v
  shared_both n v r rs rs' h =
      let a = sum_to_le n _ _ (λ i l. kept_both r rs rs' h (credit (v i)) (v i)) in
      let b = sum_to_add n (λ i. credit_in same (r ∷ rs) (v i)) (λ i. credit_in same rs' (v i)) in
      let c = sum_to_add n (λ i. credit_in same rs (v i)) (λ i. credit_in same (r ∷ rs') (v i)) in
      omega arith

cond_has : (t b : Bool) → cond t false b ≡ true → b ≡ true
cond_has true b e = absurd (both_ways false refl e)
cond_has false b e = e

-- our credit of a key is at most its cost
abbrev pub Covered : {K : Type 0} → (K → K → Bool) → (K → ℕ) → View K → Type 0
Covered {K} same cost v = (i : ℕ) (k : K) → holds same k (v i) ≡ true → credit (v i) ≤ cost k

module _ {K : Type 0} (same : K → K → Bool) {home : K → ℕ} (laws : SameLaws same home) where
  pub without_has : (k : K) (rs : List K) (a : K) → has same (without same k rs) a ≡ true → has same rs a ≡ true
  without_has k rs a h = cond_has (same k a) (has same rs a) (sym (has_without same laws k rs a) ∙ h)

  -- a rival that lets go of a key
  pub without_shared : (cost : K → ℕ) (n : ℕ) (v : View K) → Apart same v → Covered same cost v → (k : K) (rs : List K) → total cost (without same k rs) + shared same n rs v ≤ total cost rs + shared same n (without same k rs) v
  without_shared cost n v apart cov k [] = omega arith
  without_shared cost n v apart cov k (r ∷ rs) = go (cases_Bool (same k r)) (without_shared cost n v apart cov k rs)
    where
      go : (same k r ≡ true) ⊎ (same k r ≡ false) → total cost (without same k rs) + shared same n rs v ≤ total cost rs + shared same n (without same k rs) v → total cost (without same k (r ∷ rs)) + shared same n (r ∷ rs) v ≤ total cost (r ∷ rs) + shared same n (without same k (r ∷ rs)) v
      go (inl e) ih = let a = shared_more same n v apart r rs (cost r) (λ i h. cov i r h) in rw e (omega arith)
      go (inr e) ih = let a = shared_both same n v r rs (without same k rs) (without_has k rs) in rw e (omega arith)

  -- the rival holds x, which we lack, beside what is common
  pub common_few : (n : ℕ) (v : View K) → Apart same v → (x : K) → Unheld same x v → (rs : List K) → common same n rs v + cond (has same rs x) 1 0 ≤ length rs
  common_few n v apart x u [] = let z = sum_to_none n (λ i. cond (kept same [] (v i)) 1 0) (λ i l. none (v i)) in omega arith
    where
      none : (p : Place K) → ◌≡◌ {A = ℕ} (cond (kept same [] p) 1 0) 0
      none free = refl
      none (waits k c r) = refl
      none (lies_out k c) = refl
  common_few n v apart x u (r ∷ rs) = go (cases_Bool (same x r)) (common_few n v apart x u rs)
    where
      no_r : same x r ≡ true → (p : Place K) → holds same x p ≡ false → ◌≡◌ {A = ℕ} (cond (kept same (r ∷ rs) p) 1 0) (cond (kept same rs p) 1 0)
      no_r e free h = refl
      no_r e (waits l c d) h = let q = same_alike same laws x r l e in let q₁ = same_flip same laws x l in let q₂ = same_flip same laws r l in cc
      no_r e (lies_out l c) h = let q = same_alike same laws x r l e in let q₁ = same_flip same laws x l in let q₂ = same_flip same laws r l in cc

      go : (same x r ≡ true) ⊎ (same x r ≡ false) → common same n rs v + cond (has same rs x) 1 0 ≤ length rs → common same n (r ∷ rs) v + cond (has same (r ∷ rs) x) 1 0 ≤ length (r ∷ rs)
      go (inl e) ih =
          let a = sum_to_same n (λ i. cond (kept same (r ∷ rs) (v i)) 1 0) (λ i. cond (kept same rs (v i)) 1 0) (λ i l. no_r e (v i) (u i)) in
          rw e (omega arith)
      go (inr e) ih = let a = common_more same n v apart r rs in rw e (omega arith)

  -- a move at one slot
  pub sum_only : {n i : ℕ} {p q : Place K} {v w : View K} → Only i p v w → i < n → v i ≡ q → (F : Place K → ℕ) → sum_to n (λ j. F (w j)) + F q ≡ sum_to n (λ j. F (v j)) + F p
  sum_only {n} {i} {v = v} {w = w} o l e F =
      let a = sum_to_at n i (λ j. F (w j)) (λ j. F (v j)) l (λ j d. ap F (o.others j d)) in
      let b = ap F e in
      let c = ap F o.here in
      omega arith

abbrev waiting_one : {K : Type 0} → Place K → ℕ
waiting_one p = cond (waits? p) 1 0

abbrev out_one : {K : Type 0} → Place K → ℕ
out_one p = cond (out? p) 1 0

abbrev waiting_in : {K : Type 0} → (K → K → Bool) → List K → Place K → ℕ
waiting_in same rs p = cond (waits? p) (cond (kept same rs p) 1 0) 0

module _ {K : Type 0} (same : K → K → Bool) (n : ℕ) {i d : ℕ} {e : K} {v u : View K} (ex : Expels n i d e v u) where
  lowered_credit : (p : Place K) → ((k : K) (c r : ℕ) → p ≡ waits k c r → d ≤ r) → credit p ≡ credit (lower d p) + d * waiting_one p
  lowered_credit free h = omega arith
  lowered_credit (waits k c r) h = let l = h k c r refl in omega arith
  lowered_credit (lies_out k c) h = omega arith

  expel_credit : (j : ℕ) → credit (v j) ≡ credit (u j) + d * waiting_one (v j)
  expel_credit = expels_all ex (λ j q. credit (v j) ≡ credit q + d * waiting_one (v j))
      (rw ex.was (omega arith))
      (λ j ne. lowered_credit (v j) (λ k c r. ex.least j k c r))

  lowered_credit_in : (rs : List K) (p : Place K) → ((k : K) (c r : ℕ) → p ≡ waits k c r → d ≤ r) → credit_in same rs p ≡ credit_in same rs (lower d p) + d * waiting_in same rs p
  lowered_credit_in rs free h = omega arith
  lowered_credit_in rs (waits k c r) h = let l = h k c r refl in elim (has same rs k) as (λ t. cond t r 0 ≡ cond t (r - d) 0 + d * cond t 1 0) [ true ↦ omega arith | false ↦ omega arith ]
  lowered_credit_in rs (lies_out k c) h = omega arith

  expel_credit_in : (rs : List K) (j : ℕ) → credit_in same rs (v j) ≡ credit_in same rs (u j) + d * waiting_in same rs (v j)
  expel_credit_in rs = expels_all ex (λ j q. credit_in same rs (v j) ≡ credit_in same rs q + d * waiting_in same rs (v j))
      (rw ex.was (elim (has same rs e) as (λ t. cond t d 0 ≡ 0 + d * cond t 1 0) [ true ↦ omega arith | false ↦ omega arith ]))
      (λ j ne. lowered_credit_in rs (v j) (λ k c r. ex.least j k c r))

  expel_wealth : wealth n v ≡ wealth n u + d * sum_to n (λ j. waiting_one (v j))
  expel_wealth = sum_to_same n _ _ (λ j l. expel_credit j) ∙ sum_to_add n (λ j. credit (u j)) (λ j. d * waiting_one (v j)) ∙ ap (λ t. wealth n u + t) (sum_to_times n d (λ j. waiting_one (v j)))

  expel_shared : (rs : List K) → shared same n rs v ≡ shared same n rs u + d * sum_to n (λ j. waiting_in same rs (v j))
  expel_shared rs = sum_to_same n _ _ (λ j l. expel_credit_in rs j) ∙ sum_to_add n (λ j. credit_in same rs (u j)) (λ j. d * waiting_in same rs (v j)) ∙ ap (λ t. shared same n rs u + t) (sum_to_times n d (λ j. waiting_in same rs (v j)))

module _ {K : Type 0} (same : K → K → Bool) (n : ℕ) (v : View K) where
  full_count : Full n v → sum_to n (λ j. waiting_one (v j)) + sum_to n (λ j. out_one (v j)) ≡ n
  full_count full = sym (sum_to_add n (λ j. waiting_one (v j)) (λ j. out_one (v j))) ∙ sum_to_ones n _ (λ j l. one (v j) (full j l))
    where
      one : (p : Place K) → (p ≡ free → ⊥) → waiting_one p + out_one p ≡ 1
      one free h = absurd (h refl)
      one (waits k c r) h = refl
      one (lies_out k c) h = refl

  few_count : (rs : List K) → ((i : ℕ) (k : K) (c : ℕ) → v i ≡ lies_out k c → has same rs k ≡ true) → sum_to n (λ j. waiting_in same rs (v j)) + sum_to n (λ j. out_one (v j)) ≤ common same n rs v
  few_count rs outs =
      let a = sum_to_add n (λ j. waiting_in same rs (v j)) (λ j. out_one (v j)) in
      let b = sum_to_le n (λ j. waiting_in same rs (v j) + out_one (v j)) (λ j. cond (kept same rs (v j)) 1 0) (λ j l. one (v j) (outs j)) in
      omega arith
    where
      one : (p : Place K) → ((k : K) (c : ℕ) → p ≡ lies_out k c → has same rs k ≡ true) → waiting_in same rs p + out_one p ≤ cond (kept same rs p) 1 0
      one free h = omega arith
      one (waits k c r) h = omega arith
      one (lies_out k c) h = rw (h k c refl) (omega arith)

-- (n - g) of what we paid, and the potential, are within n times what the rival paid
abbrev pub Bound : {K : Type 0} → (K → K → Bool) → (K → ℕ) → (n f g : ℕ) → View K → List K → ℕ → ℕ → Type 0
Bound same cost n f g v rs p o = f * o + (g * wealth n v + n * total cost rs) ≤ n * p + n * shared same n rs v

module _ {K : Type 0} (same : K → K → Bool) {home : K → ℕ} (laws : SameLaws same home) (cost : K → ℕ) (cost_alike : (a b : K) → same a b ≡ true → cost a ≡ cost b) (n mark f g : ℕ) (split : f + g ≡ n) where
  -- the credit of a region that the rival holds too rises from r to c
  bound_raise : {v w : View K} {i : ℕ} {a b : Place K} → Only i b v w → i < n → v i ≡ a → (rs : List K) (p o : ℕ) → kept same rs a ≡ true → kept same rs b ≡ true → credit a ≤ credit b → Bound same cost n f g v rs p o → Bound same cost n f g w rs p o
  bound_raise {v} {w} {i} {a} {b} only l e rs p o ka kb le h =
      let x = sum_only same laws only l e credit in
      let y : shared same n rs w + credit a ≡ shared same n rs v + credit b = rw (ka, kb) at (sum_only same laws only l e (credit_in same rs)) in
      raise_arith f g n o (wealth n v) (wealth n w) (shared same n rs v) (shared same n rs w) (total cost rs) p (credit a) (credit b) (omega arith) le x y h

  bound_enters : {v w : View K} {i c : ℕ} {k : K} → Enters n i k c v w → (rs : List K) (p o : ℕ) → has same rs k ≡ true → Bound same cost n f g v rs p o → Bound same cost n f g w rs p (c + o)
  bound_enters {v} {w} {i} {c} {k} en rs p o hk h =
      let x = sum_only same laws en.entered en.within en.unused credit in
      let y : shared same n rs w + 0 ≡ shared same n rs v + c = rw hk at (sum_only same laws en.entered en.within en.unused (credit_in same rs)) in
      enter_arith f g n o (wealth n v) (wealth n w) (shared same n rs v) (shared same n rs w) (total cost rs) p c split (omega arith) (omega arith) h

  bound_expels : {v u : View K} {i d : ℕ} {e : K} → Expels n i d e v u → Full n v → Apart same v → (x : K) → Unheld same x v → (rs : List K) (p o : ℕ) → has same rs x ≡ true → length rs ≤ suc g → ((i : ℕ) (k : K) (c : ℕ) → v i ≡ lies_out k c → has same rs k ≡ true) → Bound same cost n f g v rs p o → Bound same cost n f g u rs p o
  bound_expels {v} {u} {i} {d} {e} ex full apart x un rs p o hx small outs h =
      let few : common same n rs v + 1 ≤ length rs = rw hx at (common_few same laws n v apart x un rs) in
      let cnt = few_count same n v rs outs in
      expel_arith f g n o (wealth n v) (wealth n u) (shared same n rs v) (shared same n rs u) (total cost rs) p d (sum_to n (λ j. waiting_one (v j))) (sum_to n (λ j. waiting_in same rs (v j))) (sum_to n (λ j. out_one (v j))) (omega arith) (expel_wealth same n ex) (expel_shared same n ex rs) (full_count same n v full) (omega arith) h

  bound_alike : {v w : View K} → Alike v w → (rs : List K) (p o : ℕ) → Bound same cost n f g v rs p o → Bound same cost n f g w rs p o
  bound_alike {v} {w} s rs p o h =
      let x = sum_to_same n (λ i. credit (w i)) (λ i. credit (v i)) (λ i l. ap credit (s i)) in
      let y = sum_to_same n (λ i. credit_in same rs (w i)) (λ i. credit_in same rs (v i)) (λ i l. ap (credit_in same rs) (s i)) in
      less_arith f g n o (wealth n v) (wealth n w) (shared same n rs v) (shared same n rs w) (total cost rs) p (omega arith) (omega arith) h

  bound_removes : {v w : View K} {i : ℕ} {a : Place K} → Only i free v w → i < n → v i ≡ a → (rs : List K) (p o : ℕ) → kept same rs a ≡ false → Bound same cost n f g v rs p o → Bound same cost n f g w rs p o
  bound_removes {v} {w} {i} {a} only l e rs p o ka h =
      let x = sum_only same laws only l e credit in
      let y : shared same n rs w + 0 ≡ shared same n rs v + 0 = rw ka at (sum_only same laws only l e (credit_in same rs)) in
      less_arith f g n o (wealth n v) (wealth n w) (shared same n rs v) (shared same n rs w) (total cost rs) p (omega arith) (omega arith) h

  -- one call, after the rival has served it
  pub bound_step : {v w : View K} {e : Effect K} → Moves same n mark v w e → Fine same v → ((i : ℕ) → Costs cost (v i)) → Priced same cost (price_of e) → (rs : List K) (p o : ℕ) → length rs ≤ suc g
      → ((k : K) → request_of e ≡ Some k → has same rs k ≡ true) → ((k : K) → removal_of e ≡ Some k → has same rs k ≡ false)
      → ((i : ℕ) (k : K) (c : ℕ) → v i ≡ lies_out k c → has same rs k ≡ true)
      → Bound same cost n f g v rs p o → Bound same cost n f g w rs p (charge_of e + o)
  bound_step (rests idle_nothing s) fine costs pr rs p o small req rem outs h = bound_alike s rs p (0 + o) (rw zero-add h)
  bound_step (rests (idle_rewrote t b) s) fine costs pr rs p o small req rem outs h = bound_alike s rs p (0 + o) (rw zero-add h)
  bound_step (sees i c e t s) fine costs pr rs p o small req rem outs h = bound_alike s rs p (0 + o) (rw zero-add h)
  bound_step (touches {k = k} {l = l} i c r lt e s only) fine costs pr rs p o small req rem outs h =
      let hl = has_alike same laws rs l k s ∙ req k refl in
      bound_raise only lt e rs p (0 + o) hl hl (subst Proper e (fine.proper i)).0 (rw zero-add h)
  bound_step (refreshes {k = k} {l = l} {d = d} i c r lt e s pos only) fine costs pr rs p o small req rem outs h =
      let hl = has_alike same laws rs l k s ∙ req k refl in
      let a = (subst Proper e (fine.proper i)).0 in
      let b = subst (Costs cost) e (costs i) in
      let c = cost_alike l k s in
      bound_raise only lt e rs p (0 + o) hl hl (omega arith) (rw zero-add h)
  bound_step (takes {k = k} i un en) fine costs pr rs p o small req rem outs h = bound_enters en rs p o (req k refl) h
  bound_step (evicts {k = k} i j least x un full ex en) fine costs pr rs p o small req rem outs h =
      bound_enters en rs p o (req k refl) (bound_expels ex full fine.apart k un rs p o (req k refl) small outs h)
  bound_step (lends {k = k} {l = l} {t = t} c r mk lt e s only) fine costs pr rs p o small req rem outs h =
      let hl = has_alike same laws rs l k s ∙ req k refl in
      bound_raise only lt e rs p (0 + o) hl hl (subst Proper e (fine.proper t.slot)).0 (rw zero-add h)
  bound_step (takes_back {k = k} {t = t} c mk lt e only) fine costs pr rs p o small req rem outs h =
      let hl = outs t.slot k c e in
      bound_raise only lt e rs p (0 + o) hl hl (omega arith) (rw zero-add h)
  bound_step (removes {k = k} {l = l} i c r lt e s only) fine costs pr rs p o small req rem outs h =
      bound_removes only lt e rs p (0 + o) (has_alike same laws rs l k s ∙ rem k refl) (rw zero-add h)
