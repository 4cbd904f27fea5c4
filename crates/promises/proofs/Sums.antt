-- The sum of a function over the numbers below n.
use Rattle.std.proofs.Common.{◌≡◌, ℕ, zero, suc, ◌+◌, ◌*◌, ◌<◌, ◌≤◌, Bool, true, false, cond, ◌⊎◌, refl, ap, inl, inr, ⊎_elim, arith}
use Rattle.std.proofs.lemmas.Bool.{cases_eq, cases_Bool, cond-true, cond-false}

abbrev pub sum_to : ℕ → (ℕ → ℕ) → ℕ
sum_to zero f = 0
sum_to (suc n) f = sum_to n f + f n

pub sum_to_le : (n : ℕ) (f g : ℕ → ℕ) → ((i : ℕ) → i < n → f i ≤ g i) → sum_to n f ≤ sum_to n g
sum_to_le zero f g h = omega arith
sum_to_le (suc n) f g h =
    let e = sum_to_le n f g (λ i l. h i (omega arith)) in
    let k = h n (omega arith) in
    omega arith

pub sum_to_same : (n : ℕ) (f g : ℕ → ℕ) → ((i : ℕ) → i < n → f i ≡ g i) → sum_to n f ≡ sum_to n g
sum_to_same zero f g h = refl
sum_to_same (suc n) f g h =
    let e = sum_to_same n f g (λ i l. h i (omega arith)) in
    let k = h n (omega arith) in
    omega arith

pub sum_to_add : (n : ℕ) (f g : ℕ → ℕ) → sum_to n (λ i. f i + g i) ≡ sum_to n f + sum_to n g
sum_to_add zero f g = refl
sum_to_add (suc n) f g = let e = sum_to_add n f g in omega arith

pub sum_to_times : (n c : ℕ) (f : ℕ → ℕ) → sum_to n (λ i. c * f i) ≡ c * sum_to n f
sum_to_times zero c f = omega arith
sum_to_times (suc n) c f = let e = sum_to_times n c f in omega arith

-- two functions that differ at i alone
pub sum_to_at : (n i : ℕ) (f g : ℕ → ℕ) → i < n → ((j : ℕ) → (j ≡ i → ⊥) → f j ≡ g j) → sum_to n f + g i ≡ sum_to n g + f i
sum_to_at zero i f g l h = omega arith
sum_to_at (suc n) i f g l h = go (cases_eq n i) (λ m. sum_to_at n i f g m h)
  where
    go : (n ≡ i) ⊎ (n ≡ i → ⊥) → (i < n → sum_to n f + g i ≡ sum_to n g + f i) → (sum_to n f + f n) + g i ≡ (sum_to n g + g n) + f i
    go (inl e) ih =
        let s = sum_to_same n f g (λ j m. h j (λ q. omega arith)) in
        let a = ap f e in
        let b = ap g e in
        omega arith
    go (inr d) ih =
        let a = h n d in
        let b = ih (omega arith) in
        omega arith

pub sum_to_none : (n : ℕ) (f : ℕ → ℕ) → ((i : ℕ) → i < n → f i ≡ 0) → sum_to n f ≡ 0
sum_to_none zero f h = refl
sum_to_none (suc n) f h = let e = sum_to_none n f (λ i l. h i (omega arith)) in let k = h n (omega arith) in omega arith

pub sum_to_ones : (n : ℕ) (f : ℕ → ℕ) → ((i : ℕ) → i < n → f i ≡ 1) → sum_to n f ≡ n
sum_to_ones zero f h = refl
sum_to_ones (suc n) f h = let e = sum_to_ones n f (λ i l. h i (omega arith)) in let k = h n (omega arith) in omega arith

-- a test that holds at one number at most
pub sum_to_one : (n : ℕ) (t : ℕ → Bool) (f : ℕ → ℕ) (b : ℕ) → ((i j : ℕ) → t i ≡ true → t j ≡ true → i ≡ j) → ((i : ℕ) → t i ≡ true → f i ≤ b) → sum_to n (λ i. cond (t i) (f i) 0) ≤ b
sum_to_one zero t f b one h = omega arith
sum_to_one (suc n) t f b one h = go (cases_Bool (t n)) (sum_to_one n t f b one h)
  where
    go : (t n ≡ true) ⊎ (t n ≡ false) → sum_to n (λ i. cond (t i) (f i) 0) ≤ b → sum_to n (λ i. cond (t i) (f i) 0) + cond (t n) (f n) 0 ≤ b
    go (inl e) ih =
        let z : sum_to n (λ i. cond (t i) (f i) 0) ≡ 0 = sum_to_none n _ (λ i l. ⊎_elim (λ p. absurd (lt_irrefl' i n l (one i n p e))) (λ p. cond-false _ _ _ p) (cases_Bool (t i))) in
        let a = cond-true (t n) (f n) 0 e in
        let k = h n e in
        omega arith
      where
        lt_irrefl' : (i m : ℕ) → i < m → i ≡ m → ⊥
        lt_irrefl' i m l e = omega arith
    go (inr e) ih = let a = cond-false (t n) (f n) 0 e in omega arith
