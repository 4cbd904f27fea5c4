-- Where a directory finds a key, and which keys stand in it after one comes or goes.
use Rattle.std.proofs.Common.{◌≡◌, ℕ, zero, suc, ◌<◌, ◌≤◌, Bool, true, false, cond, List, [], ◌∷◌, length, get_or, set, is_some, Some, None, Option, sym, refl, ap, ◌∙◌, subst, ⊎_elim, arith, length-set, get_or-set_other, get_or-set_same}
use Rattle.std.specs.Option.{option_map}
use Rattle.std.proofs.lemmas.Bool.{cases_eq, both_ways, cases_lt}
use Rattle.std.proofs.lemmas.List.{get_or_past}
use Rattle.keys.specs.Sameness.{SameLaws}
use Rattle.directories.specs.Meaning.{DirectoryMeaning, Distinct, size, key_at, pairs, holds, slot_in, find, entered, freed}

module _ {K : Type 0} (same : K → K → Bool) where
  -- the slot found holds the key
  pub slot_in_holds : (k : K) (xs : List (Option K)) (i : ℕ) → slot_in same k xs ≡ Some i → holds same k (get_or xs i None) ≡ true
  slot_in_holds k [] i e = let z : ◌≡◌ {A = ℕ} 0 1 = cc in absurd (omega arith)
  slot_in_holds k (o ∷ os) i e = here (holds same k o) refl (slot_in_holds k os) e
    where
      there : (m : Option ℕ) → ((j : ℕ) → m ≡ Some j → holds same k (get_or os j None) ≡ true) → (n : ℕ) → option_map suc m ≡ Some n → holds same k (get_or (o ∷ os) n None) ≡ true
      there None f n h = let z : ◌≡◌ {A = ℕ} 0 1 = cc in absurd (omega arith)
      there (Some j) f n h = let z : suc j ≡ n = cc in subst (λ (x : ℕ). holds same k (get_or (o ∷ os) x None) ≡ true) z (f j refl)

      here : (b : Bool) → holds same k o ≡ b → ((j : ℕ) → slot_in same k os ≡ Some j → holds same k (get_or os j None) ≡ true) → cond b (Some 0) (option_map suc (slot_in same k os)) ≡ Some i → holds same k (get_or (o ∷ os) i None) ≡ true
      here true p f h = let z : 0 ≡ i = cc in subst (λ (x : ℕ). holds same k (get_or (o ∷ os) x None) ≡ true) z p
      here false p f h = there (slot_in same k os) f i h

  some_held : (k : K) (o : Option K) → holds same k o ≡ true → is_some o ≡ true
  some_held k None e = e
  some_held k (Some a) e = refl

  pub held_below : (d : DirectoryMeaning K) (i : ℕ) → is_some (key_at d i) ≡ true → i < size d
  held_below d i h = ⊎_elim (λ lt. lt) (λ ge. absurd (both_ways (is_some (key_at d i)) (ap is_some (get_or_past d.keys i None ge)) h)) (cases_lt i (size d))

  pub found_held : (d : DirectoryMeaning K) (k : K) (i : ℕ) → find same d k ≡ Some i → is_some (key_at d i) ≡ true
  found_held d k i e = some_held k (key_at d i) (slot_in_holds k d.keys i e)

  pub found_below : (d : DirectoryMeaning K) (k : K) (i : ℕ) → find same d k ≡ Some i → i < size d
  found_below d k i e = held_below d i (found_held d k i e)

  -- a key that is not found stands at no slot
  pub absent : (k : K) (xs : List (Option K)) (j : ℕ) → slot_in same k xs ≡ None → holds same k (get_or xs j None) ≡ false
  absent k [] j e = refl
  absent k (o ∷ os) j e = here (holds same k o) refl (absent k os) e j
    where
      tail : (m : Option ℕ) → option_map suc m ≡ None → m ≡ None
      tail None h = refl
      tail (Some n) h = let z : ◌≡◌ {A = ℕ} 0 1 = cc in absurd (omega arith)

      here : (b : Bool) → holds same k o ≡ b → ((n : ℕ) → slot_in same k os ≡ None → holds same k (get_or os n None) ≡ false) → cond b (Some 0) (option_map suc (slot_in same k os)) ≡ None → (n : ℕ) → holds same k (get_or (o ∷ os) n None) ≡ false
      here true p f h n = let z : ◌≡◌ {A = ℕ} 0 1 = cc in absurd (omega arith)
      here false p f h zero = p
      here false p f h (suc n) = f n (tail (slot_in same k os) h)

  -- a key that stands at a slot is found
  pub stands_found : (k : K) (xs : List (Option K)) (j : ℕ) → holds same k (get_or xs j None) ≡ true → is_some (slot_in same k xs) ≡ true
  stands_found k xs j h = by (slot_in same k xs) refl
    where
      by : (m : Option ℕ) → slot_in same k xs ≡ m → is_some m ≡ true
      by None e = absurd (both_ways (holds same k (get_or xs j None)) (absent k xs j e) h)
      by (Some i) e = refl

  pub some_key : (k : K) (o : Option K) → holds same k o ≡ true → (a : K) × (o ≡ Some a) × (same a k ≡ true)
  some_key k None e = absurd (both_ways false refl e)
  some_key k (Some a) e = (a, refl, e)

  -- a key that stands at a slot is found there
  pub found_at : {home : K → ℕ} (d : DirectoryMeaning K) (k : K) (i : ℕ) → SameLaws same home → Distinct same d → key_at d i ≡ Some k → find same d k ≡ Some i
  unfolding Distinct
  found_at d k i L D e = by (find same d k) refl (stands_found k d.keys i (ap (holds same k) e ∙ L.reflexive k))
    where
      by : (o : Option ℕ) → find same d k ≡ o → is_some o ≡ true → o ≡ Some i
      by None f h = absurd (both_ways false refl h)
      by (Some j) f h =
          let x = some_key k (key_at d j) (slot_in_holds k d.keys j f) in
          ap (λ (n : ℕ). Some n) (D j i x.0 k x.1 e x.2)

  -- ---- one goes

  pub key_freed : (d : DirectoryMeaning K) (i : ℕ) → key_at (freed d (Some i)) i ≡ None
  key_freed d i = ⊎_elim (λ lt. get_or-set_same d.keys i None None lt)
      (λ ge. get_or_past (set d.keys i None) i None (let z = length-set d.keys i None in omega arith)) (cases_lt i (size d))

  pub key_freed_other : (d : DirectoryMeaning K) (i j : ℕ) → (j ≡ i → ⊥) → key_at (freed d (Some i)) j ≡ key_at d j
  key_freed_other d i j n = get_or-set_other d.keys i j None None n

  none_some : {X : Type 0} (o : Option X) (a : X) → o ≡ None → o ≡ Some a → ⊥
  none_some o a e f = let z : ◌≡◌ {A = ℕ} 0 1 = cc in omega arith

  -- a key that stands in it after one went stood there before
  stood : (d : DirectoryMeaning K) (i j : ℕ) (a : K) → key_at (freed d (Some i)) j ≡ Some a → key_at d j ≡ Some a
  stood d i j a e = ⊎_elim
      (λ p. absurd (none_some (key_at (freed d (Some i)) i) a (key_freed d i) (subst (λ (n : ℕ). key_at (freed d (Some i)) n ≡ Some a) p e)))
      (λ n. sym (key_freed_other d i j n) ∙ e) (cases_eq j i)

  pub distinct_freed : (d : DirectoryMeaning K) (i : ℕ) → Distinct same d → Distinct same (freed d (Some i))
  unfolding Distinct
  distinct_freed d i D m n a b e f s = D m n a b (stood d i m a e) (stood d i n b f) s

  pub absent_freed : (d : DirectoryMeaning K) (k : K) (i : ℕ) → find same d k ≡ None → find same (freed d (Some i)) k ≡ None
  absent_freed d k i e = by (find same (freed d (Some i)) k) refl
    where
      by : (o : Option ℕ) → find same (freed d (Some i)) k ≡ o → o ≡ None
      by None f = refl
      by (Some j) f =
          let x = some_key k (key_at (freed d (Some i)) j) (slot_in_holds k (freed d (Some i)).keys j f) in
          absurd (both_ways (holds same k (key_at d j)) (absent k d.keys j e) (ap (holds same k) (stood d i j x.0 x.1) ∙ x.2))

  -- ---- one comes

  came : (d : DirectoryMeaning K) (i j : ℕ) (k a : K) → (j ≡ i → ⊥) → key_at (entered d i k) j ≡ Some a → key_at d j ≡ Some a
  came d i j k a n e = sym (get_or-set_other d.keys i j (Some k) None n) ∙ e

  pub key_entered : (d : DirectoryMeaning K) (i : ℕ) (k : K) → i < size d → key_at (entered d i k) i ≡ Some k
  key_entered d i k lt = get_or-set_same d.keys i (Some k) None lt

  pub distinct_entered : {home : K → ℕ} (d : DirectoryMeaning K) (i : ℕ) (k : K) → SameLaws same home → Distinct same d → find same d k ≡ None → i < size d → Distinct same (entered d i k)
  unfolding Distinct
  distinct_entered d i k L D f lt m n a b e g s = ⊎_elim
      (λ p. ⊎_elim (λ q. p ∙ sym q) (λ q. absurd (clash n b q g (L.symmetric a b s) (it m a p e))) (cases_eq n i))
      (λ p. ⊎_elim (λ q. absurd (clash m a p e s (it n b q g))) (λ q. D m n a b (came d i m k a p e) (came d i n k b q g) s) (cases_eq n i))
      (cases_eq m i)
    where
      only : (x y : K) → ◌≡◌ {A = Option K} (Some x) (Some y) → x ≡ y
      only x y h = cc

      it : (j : ℕ) (x : K) → j ≡ i → key_at (entered d i k) j ≡ Some x → k ≡ x
      it j x p h = only k x (sym (key_entered d i k lt) ∙ subst (λ (z : ℕ). key_at (entered d i k) z ≡ Some x) p h)

      clash : (j : ℕ) (x : K) → (j ≡ i → ⊥) → key_at (entered d i k) j ≡ Some x → {y : K} → same x y ≡ true → k ≡ y → ⊥
      clash j x p h {y} t q =
          both_ways (holds same k (key_at d j)) (absent k d.keys j f)
          (ap (holds same k) (came d i j k x p h) ∙ subst (λ (z : K). same x z ≡ true) (sym q) t)

-- ---- how many are in

module _ {K : Type 0} where
  pub pairs_few : (xs : List (Option K)) → pairs xs ≤ length xs
  pairs_few [] = omega arith
  pairs_few (None ∷ xs) = let z = pairs_few xs in omega arith
  pairs_few (Some k ∷ xs) = let z = pairs_few xs in omega arith

  -- where all slots have a key, each has
  pub full_held : (xs : List (Option K)) (i : ℕ) → pairs xs ≡ length xs → i < length xs → is_some (get_or xs i None) ≡ true
  full_held [] i e h = absurd (omega arith)
  full_held (None ∷ xs) i e h = let z = pairs_few xs in absurd (omega arith)
  full_held (Some k ∷ xs) zero e h = refl
  full_held (Some k ∷ xs) (suc i) e h = full_held xs i (omega arith) (omega arith)

  pub room_freed : (xs : List (Option K)) (i : ℕ) → i < length xs → pairs (set xs i None) < length (set xs i None)
  room_freed [] i h = absurd (omega arith)
  room_freed (o ∷ xs) zero h = let z = pairs_few xs in omega arith
  room_freed (None ∷ xs) (suc i) h = let z = room_freed xs i (omega arith) in omega arith
  room_freed (Some k ∷ xs) (suc i) h = let z = room_freed xs i (omega arith) in omega arith
