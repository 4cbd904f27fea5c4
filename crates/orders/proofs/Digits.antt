-- Bits of a number in base 2, and the first that is set.
use Rattle.std.proofs.Common.{◌≡◌, ℕ, zero, suc, ◌+◌, ◌-◌, ◌*◌, ◌/◌, ◌%◌, ◌^◌, ◌<◌, ◌≤◌, max, true, false, not, ◌&&◌, ◌||◌, eqb, ◌⊎◌, List, length, get_or, set, drop, length-drop, sym, ap, ◌∙◌, subst, inl, inr, ⊎_elim, pow-suc, arith, pow_mono}
use lib.Bits.{bit_or, bit_xor, or_step, or_shr, xor_shr, xor_add_and}
use lib.Count.{count_trailing_zeros, under}
use Rattle.std.proofs.lemmas.Nat.{shl-shr, shr-shr, pow-add, pow_pos, shr_le, pow_below, div_below}
use Rattle.std.proofs.lemmas.Bool.Decides.{nat_tests}
use Rattle.std.proofs.lemmas.Bool.{cases_eq, cases_lt, cases_order, eqb-true, eq-eqb, ne_eqb}
use Rattle.std.specs.List.{enumerate_from, AllWithin, HoldsAt}
use Rattle.std.proofs.lemmas.List.{get_or-set_same, get_or-set_other, get_or-drop}
use Rattle.std.proofs.lemmas.List.FromFn.{length-enumerate_from, get_or-enumerate_from}
use Rattle.orders.specs.Bits.{digit, marked}

pub digit_or : (a b j : ℕ) → digit (bit_or a b) j ≡ max (digit a j) (digit b j)
unfolding digit
digit_or a b j = let e = or_shr a b j in let f = or_step (a / 2 ^ j) (b / 2 ^ j) in rw e (omega arith)

pub digit_two : (n j : ℕ) → (digit n j ≡ 0) ⊎ (digit n j ≡ 1)
unfolding digit
digit_two n j = ⊎_elim inl (λ k. inr (omega arith)) (cases_eq (n / 2 ^ j % 2) 0)

pub digit_zero : (n : ℕ) → digit n 0 ≡ n % 2
unfolding digit
digit_zero n = omega arith

pub digit_suc : (n j : ℕ) → digit n (suc j) ≡ digit (n / 2) j
unfolding digit
digit_suc n j = let e : n / 2 ^ 1 / 2 ^ j ≡ n / 2 ^ (1 + j) = shr-shr n 1 j in let f : 1 + j ≡ suc j = omega arith in
    let g = ap (λ (z : ℕ). n / 2 ^ z) f in ap (λ (z : ℕ). z % 2) (sym g ∙ sym e)

pub digit_shift : (n i j : ℕ) → digit (n / 2 ^ i) j ≡ digit n (i + j)
unfolding digit
digit_shift n i j = ap (λ (z : ℕ). z % 2) (shr-shr n i j)

pow_same : (k : ℕ) → digit (2 ^ k) k ≡ 1
unfolding digit
pow_same k = let e = shl-shr 1 k in let f : 1 * 2 ^ k ≡ 2 ^ k = omega arith in let g = ap (λ (z : ℕ). z / 2 ^ k) f in omega arith

pow_above : (k j : ℕ) → k < j → digit (2 ^ k) j ≡ 0
unfolding digit
pow_above k j h = let l = pow_below k j h in let e : 2 ^ k / 2 ^ j < 1 = div_below (2 ^ k) (2 ^ j) 1 (pow_pos j) (omega arith) in omega arith

pow_under : (d j : ℕ) → digit (2 ^ (suc d + j)) j ≡ 0
unfolding digit
pow_under d j =
    let e = pow-add 2 (suc d) j in
    let f = shl-shr (2 ^ suc d) j in
    let g = ap (λ (z : ℕ). z / 2 ^ j) e in
    let p = pow-suc 2 d in
    omega arith

pub digit_pow : (k j : ℕ) → (j ≡ k → ⊥) → digit (2 ^ k) j ≡ 0
digit_pow k j n = ⊎_elim (λ e. absurd (n e)) (⊎_elim
    (λ l. let e : suc (k - suc j) + j ≡ k = omega arith in subst (λ (z : ℕ). digit (2 ^ z) j ≡ 0) e (pow_under (k - suc j) j))
    (λ l. pow_above k j l)) (cases_order j k)

pub digit_pow_same : (k j : ℕ) → j ≡ k → digit (2 ^ k) j ≡ 1
digit_pow_same k j e = subst (λ (z : ℕ). digit (2 ^ k) z ≡ 1) (sym e) (pow_same k)

pub digit_of_zero : (j : ℕ) → digit 0 j ≡ 0
unfolding digit
digit_of_zero j = let e : 0 / 2 ^ j < 1 = div_below 0 (2 ^ j) 1 (pow_pos j) (omega (arith, pow_pos j)) in omega arith

-- the zeros that are counted, and the digit above them
pub zeros_low : (k n j : ℕ) → j < count_trailing_zeros k n → digit n j ≡ 0
unfolding count_trailing_zeros
zeros_low zero n j h = absurd (omega arith)
zeros_low (suc k) n zero h = digit_zero n ∙ ⊎_elim (λ e. e) (λ d. let e : n % 2 ≡ 1 = omega arith in let l : 0 < under (n % 2) (count_trailing_zeros k (n / 2)) = h in
    absurd (let m : 0 < under 1 (count_trailing_zeros k (n / 2)) = subst (λ (z : ℕ). 0 < under z (count_trailing_zeros k (n / 2))) e l in omega arith)) (cases_eq (n % 2) 0)
zeros_low (suc k) n (suc j) h = digit_suc n j ∙ zeros_low k (n / 2) j (⊎_elim
    (λ e. let m : suc j < under 0 (count_trailing_zeros k (n / 2)) = subst (λ (z : ℕ). suc j < under z (count_trailing_zeros k (n / 2))) e h in omega arith)
    (λ d. let e : n % 2 ≡ 1 = omega arith in let m : suc j < under 1 (count_trailing_zeros k (n / 2)) = subst (λ (z : ℕ). suc j < under z (count_trailing_zeros k (n / 2))) e h in absurd (omega arith))
    (cases_eq (n % 2) 0))

pub zeros_top : (k n : ℕ) → (n ≡ 0 → ⊥) → n < 2 ^ k → (count_trailing_zeros k n < k) × (digit n (count_trailing_zeros k n) ≡ 1)
unfolding count_trailing_zeros
zeros_top zero n p h = absurd (p (omega arith))
zeros_top (suc k) n p h =
    let t = count_trailing_zeros k (n / 2) in
    ⊎_elim
    (λ e. let w = pow-suc 2 k in let m = zeros_top k (n / 2) (omega arith) (omega arith) in
    subst (λ (z : ℕ). (under z t < suc k) × (digit n (under z t) ≡ 1)) (sym e) (let a = m.0 in omega arith, digit_suc n t ∙ m.1))
    (λ d. let e : n % 2 ≡ 1 = omega arith in
    subst (λ (z : ℕ). (under z t < suc k) × (digit n (under z t) ≡ 1)) (sym e) (omega arith, digit_zero n ∙ e))
    (cases_eq (n % 2) 0)

pub digit_xor : (a b j : ℕ) → digit (bit_xor a b) j ≡ (digit a j + digit b j) % 2
unfolding digit
digit_xor a b j = let e = xor_shr a b j in let f = xor_add_and (a / 2 ^ j) (b / 2 ^ j) in rw e (omega arith)

same_place : (q k : ℕ) → k / 64 ≡ q / 64 → k % 64 ≡ q % 64 → k ≡ q
same_place q k a b = omega arith

module _ (ws : List ℕ) (q w : ℕ) (long : length ws ≡ 4) (q-in : q < 256) where
  pub marked_other : (k : ℕ) → (k / 64 ≡ q / 64 → ⊥) → marked (set ws (q / 64) w) k ≡ marked ws k
  marked_other k n = ap (λ (z : ℕ). eqb (digit z (k % 64)) 1) (get_or-set_other ws (q / 64) (k / 64) w 0 n)

  pub marked_same : (k : ℕ) → k / 64 ≡ q / 64 → marked (set ws (q / 64) w) k ≡ eqb (digit w (k % 64)) 1
  marked_same k e = ap (λ (z : ℕ). eqb (digit z (k % 64)) 1) (ap (λ (z : ℕ). get_or (set ws (q / 64) w) z 0) e ∙ get_or-set_same ws (q / 64) w 0 (omega arith))

module _ (ws : List ℕ) (q : ℕ) (long : length ws ≡ 4) (q-in : q < 256) where
  pub marked_or : (k : ℕ) → marked (set ws (q / 64) (bit_or (get_or ws (q / 64) 0) (2 ^ (q % 64)))) k ≡ (eqb k q || marked ws k)
  marked_or k =
      let w = bit_or (get_or ws (q / 64) 0) (2 ^ (q % 64)) in
      ⊎_elim
      (λ e.
      let m = marked_same ws q w long q-in k e in
      let d = digit_or (get_or ws (q / 64) 0) (2 ^ (q % 64)) (k % 64) in
      let b = ap (λ (z : ℕ). digit (get_or ws z 0) (k % 64)) e in
      ⊎_elim
      (λ s. let p = digit_pow_same (q % 64) (k % 64) s in let kq = same_place q k e s in m ∙ grind (arith, nat_tests, digit_two (get_or ws (q / 64) 0) (k % 64)))
      (λ s. let p = digit_pow (q % 64) (k % 64) s in let kq : k ≡ q → ⊥ = λ z. s (ap (λ (x : ℕ). x % 64) z) in m ∙ grind (arith, nat_tests))
      (cases_eq (k % 64) (q % 64)))
      (λ n. let m = marked_other ws q w long q-in k n in let kq : k ≡ q → ⊥ = λ z. n (ap (λ (x : ℕ). x / 64) z) in m ∙ grind (arith, nat_tests))
      (cases_eq (k / 64) (q / 64))

  pub marked_xor : marked ws q ≡ true → (k : ℕ) → marked (set ws (q / 64) (bit_xor (get_or ws (q / 64) 0) (2 ^ (q % 64)))) k ≡ (not (eqb k q) && marked ws k)
  marked_xor was k =
      let w = bit_xor (get_or ws (q / 64) 0) (2 ^ (q % 64)) in
      ⊎_elim
      (λ e.
      let m = marked_same ws q w long q-in k e in
      let d = digit_xor (get_or ws (q / 64) 0) (2 ^ (q % 64)) (k % 64) in
      let b = ap (λ (z : ℕ). digit (get_or ws z 0) (k % 64)) e in
      ⊎_elim
      (λ s. let p = digit_pow_same (q % 64) (k % 64) s in let kq = same_place q k e s in
      let one = eqb-true (digit (get_or ws (q / 64) 0) (q % 64)) 1 was in
      let on : digit (get_or ws (q / 64) 0) (k % 64) ≡ 1 = ap (digit (get_or ws (q / 64) 0)) s ∙ one in
      let zero' : digit w (k % 64) ≡ 0 = omega arith in
      m ∙ grind (arith, nat_tests))
      (λ s. let p = digit_pow (q % 64) (k % 64) s in let kq : k ≡ q → ⊥ = λ z. s (ap (λ (x : ℕ). x % 64) z) in
      let f = digit_two (get_or ws (q / 64) 0) (k % 64) in
      let same : digit w (k % 64) ≡ digit (get_or ws (q / 64) 0) (k % 64) = ⊎_elim (λ z. omega arith) (λ z. omega arith) f in
      m ∙ grind (arith, nat_tests))
      (cases_eq (k % 64) (q % 64)))
      (λ n. let m = marked_other ws q w long q-in k n in let kq : k ≡ q → ⊥ = λ z. n (ap (λ (x : ℕ). x / 64) z) in m ∙ grind (arith, nat_tests))
      (cases_eq (k / 64) (q / 64))

-- every word 0
pub marked_none : (ws : List ℕ) (k : ℕ) → ((i : ℕ) → i < 4 → get_or ws i 0 ≡ 0) → k < 256 → marked ws k ≡ false
marked_none ws k z h = let e = z (k / 64) (omega arith) in let d = digit_of_zero (k % 64) in let f = ap (λ (x : ℕ). digit x (k % 64)) e in grind (arith, nat_tests)

digit_high : (n j : ℕ) → n < 2 ^ 64 → 64 ≤ j → digit n j ≡ 0
unfolding digit
digit_high n j h l =
    let m : 2 ^ 64 ≤ 2 ^ j = pow_mono l in
    let e : n / 2 ^ j < 1 = div_below n (2 ^ j) 1 (pow_pos j) (omega arith) in omega arith

module _ (ws : List ℕ) where
  marked_at : (i j k : ℕ) → j < 64 → k ≡ i * 64 + j → digit (get_or ws i 0) j ≡ 1 → marked ws k ≡ true
  marked_at i j k h e d = let a : k / 64 ≡ i = omega arith in let b : k % 64 ≡ j = omega arith in
      ap (λ (z : ℕ). eqb (digit (get_or ws z 0) (k % 64)) 1) a ∙ ap (λ (z : ℕ). eqb (digit (get_or ws i 0) z) 1) b ∙ eq-eqb (digit (get_or ws i 0) j) 1 d

  unmarked_at : (i j k : ℕ) → j < 64 → k ≡ i * 64 + j → digit (get_or ws i 0) j ≡ 0 → marked ws k ≡ false
  unmarked_at i j k h e d = let a : k / 64 ≡ i = omega arith in let b : k % 64 ≡ j = omega arith in
      ap (λ (z : ℕ). eqb (digit (get_or ws z 0) (k % 64)) 1) a ∙ ap (λ (z : ℕ). eqb (digit (get_or ws i 0) z) 1) b ∙ ne_eqb (digit (get_or ws i 0) j) 1 (omega arith)

  -- within the word of p
  module _ (p : ℕ) (p-in : p < 256) (fits : get_or ws (p / 64) 0 < 2 ^ 64) where
    pub part_none : get_or ws (p / 64) 0 / 2 ^ (p % 64) ≡ 0 → (k : ℕ) → p ≤ k → k < (p / 64 + 1) * 64 → marked ws k ≡ false
    part_none z k h l =
        let s = digit_shift (get_or ws (p / 64) 0) (p % 64) (k - p) in
        let o = digit_of_zero (k - p) in
        let e : p % 64 + (k - p) ≡ k % 64 = omega arith in
        unmarked_at (p / 64) (k % 64) k (omega arith) (omega arith) (ap (digit (get_or ws (p / 64) 0)) (sym e) ∙ sym s ∙ ap (λ (x : ℕ). digit x (k - p)) z ∙ o)

    pub part_first : (get_or ws (p / 64) 0 / 2 ^ (p % 64) ≡ 0 → ⊥) →
        let t = count_trailing_zeros 64 (get_or ws (p / 64) 0 / 2 ^ (p % 64)) in
        (p ≤ p + t) × (p + t < 256) × (marked ws (p + t) ≡ true) × ((k : ℕ) → p ≤ k → k < p + t → marked ws k ≡ false)
    part_first n =
        let w : ℕ = get_or ws (p / 64) 0 in
        let part : ℕ = w / 2 ^ (p % 64) in
        let t : ℕ = count_trailing_zeros 64 part in
        let small : part ≤ w = shr_le w (p % 64) in
        let top = zeros_top 64 part n (omega arith) in
        let d : digit w (p % 64 + t) ≡ 1 = sym (digit_shift w (p % 64) t) ∙ top.1 in
        let in' : p % 64 + t < 64 = ⊎_elim (λ l. l) (λ l. let z = digit_high w (p % 64 + t) fits l in absurd (omega arith)) (cases_lt (p % 64 + t) 64) in (
          omega arith,
          omega arith,
          marked_at (p / 64) (p % 64 + t) (p + t) in' (omega arith) d,
          λ k h l. unmarked_at (p / 64) (p % 64 + (k - p)) k (omega arith) (omega arith) (sym (digit_shift w (p % 64) (k - p)) ∙ zeros_low 64 part (k - p) (omega arith)),
        )

  module _ (p i : ℕ) (p-in : p < i * 64) (i-in : i < 4) (fits : get_or ws i 0 < 2 ^ 64) (low : (k : ℕ) → p ≤ k → k < i * 64 → marked ws k ≡ false) where
    pub word_first : (get_or ws i 0 ≡ 0 → ⊥) →
        let t = count_trailing_zeros 64 (get_or ws i 0) in
        (p ≤ i * 64 + t) × (i * 64 + t < 256) × (marked ws (i * 64 + t) ≡ true) × ((k : ℕ) → p ≤ k → k < i * 64 + t → marked ws k ≡ false)
    word_first n =
        let w : ℕ = get_or ws i 0 in
        let t : ℕ = count_trailing_zeros 64 w in
        let top = zeros_top 64 w n fits in
        let tl = top.0 in (
          omega arith,
          omega arith,
          marked_at i t (i * 64 + t) tl (omega arith) top.1,
          λ k h l. ⊎_elim (λ m. low k h m)
              (λ m. unmarked_at i (k - i * 64) k (omega arith) (omega arith) (zeros_low 64 w (k - i * 64) (omega arith)))
              (cases_lt k (i * 64)),
        )

-- ---- the words after that of p, each with its place

abbrev pub later_words : List ℕ → ℕ → List (ℕ × ℕ)
later_words ws p = drop (p / 64 + 1) (enumerate_from 0 ws)

module _ (ws : List ℕ) (p : ℕ) (long : length ws ≡ 4) (p-in : p < 256) (part : (k : ℕ) → p ≤ k → k < (p / 64 + 1) * 64 → marked ws k ≡ false) where
  later_at : (j : ℕ) → p / 64 + 1 + j < 4 → (d : ℕ × ℕ) → get_or (later_words ws p) j d ≡ (p / 64 + 1 + j, get_or ws (p / 64 + 1 + j) d.1)
  later_at j h d =
      let e : 0 + (p / 64 + 1 + j) ≡ p / 64 + 1 + j = omega arith in
      get_or-drop (p / 64 + 1) (enumerate_from 0 ws) j d ∙ get_or-enumerate_from 0 ws (p / 64 + 1 + j) d (omega arith)
      ∙ ap (λ (n : ℕ). (n, get_or ws (p / 64 + 1 + j) d.1)) e

  later_long : length (later_words ws p) ≡ 3 - p / 64
  later_long = let a = length-drop (p / 64 + 1) (enumerate_from 0 ws) in let b = length-enumerate_from 0 ws in omega arith

  low : (i : ℕ) → AllWithin (λ (y : ℕ × ℕ). y.1 ≡ 0) (later_words ws p) 0 i → (k : ℕ) → p ≤ k → k < (p / 64 + 1 + i) * 64 → k < 256 → marked ws k ≡ false
  low i zeros k h l m = ⊎_elim (part k h)
      (λ n.
      let j : ℕ = k / 64 - (p / 64 + 1) in
      let e : p / 64 + 1 + j ≡ k / 64 = omega arith in
      let z : get_or ws (k / 64) 0 ≡ 0 = ap (λ (x : ℕ). get_or ws x 0) (sym e) ∙ ap (λ (y : ℕ × ℕ). y.1) (sym (later_at j (omega arith) (0, 0))) ∙ zeros j (0, 0) (omega arith) (omega arith) in
      unmarked_at ws (k / 64) (k % 64) k (omega arith) (omega arith) (ap (λ (x : ℕ). digit x (k % 64)) z ∙ digit_of_zero (k % 64)))
      (cases_lt k ((p / 64 + 1) * 64))

  pub later_none : AllWithin (λ (y : ℕ × ℕ). y.1 ≡ 0) (later_words ws p) 0 (length (later_words ws p)) → (k : ℕ) → p ≤ k → k < 256 → marked ws k ≡ false
  later_none zeros k h l = let n = later_long in low (length (later_words ws p)) zeros k h (omega arith) l

  pub later_first : (word whole i : ℕ) → (whole ≡ 0 → ⊥) → i < length (later_words ws p) → HoldsAt (λ (y : ℕ × ℕ). y ≡ (word, whole)) (later_words ws p) i →
      AllWithin (λ (y : ℕ × ℕ). y.1 ≡ 0) (later_words ws p) 0 i → ((j : ℕ) → get_or ws j 0 < 2 ^ 64) →
      let t = count_trailing_zeros 64 whole in
      (p ≤ word * 64 + t) × (word * 64 + t < 256) × (marked ws (word * 64 + t) ≡ true) × ((k : ℕ) → p ≤ k → k < word * 64 + t → marked ws k ≡ false)
  later_first word whole i some i-in here zeros fits =
      let n = later_long in
      let is : ◌≡◌ {A = ℕ × ℕ} (p / 64 + 1 + i, get_or ws (p / 64 + 1 + i) 0) (word, whole) = sym (later_at i (omega arith) (0, 0)) ∙ here (0, 0) in
      let at_word : p / 64 + 1 + i ≡ word = ap (λ (y : ℕ × ℕ). y.0) is in
      let there : get_or ws word 0 ≡ whole = ap (λ (x : ℕ). get_or ws x 0) (sym at_word) ∙ ap (λ (y : ℕ × ℕ). y.1) is in
      let past : p < word * 64 = omega arith in
      let within : word < 4 = omega arith in
      let before : (k : ℕ) → p ≤ k → k < word * 64 → marked ws k ≡ false = λ k h l. low i zeros k h (omega arith) (omega arith) in
      subst (λ (x : ℕ).
      let t = count_trailing_zeros 64 x in
      (p ≤ word * 64 + t) × (word * 64 + t < 256) × (marked ws (word * 64 + t) ≡ true) × ((k : ℕ) → p ≤ k → k < word * 64 + t → marked ws k ≡ false)) there
      (word_first ws p word past within (fits word) before (λ z. some (sym there ∙ z)))
