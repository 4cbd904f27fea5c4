-- Seats: the slots that are held, the least recently touched first, each with its key, its cost, and its rank while it waits.
use Rattle.std.proofs.Common.{◌≡◌, ℕ, suc, ◌-◌, ◌≤◌, Bool, true, false, cond, ◌||◌, eqb, List, [], ◌∷◌, ◌++◌, length, Some, None, Option, sym, refl, ap, ◌∙◌, subst, ap₂, ⊎_elim, arith}
use Rattle.std.specs.List.{AllByRecursion}
use Rattle.std.proofs.lemmas.Bool.Decides.{nat_tests}
use Rattle.std.proofs.lemmas.Bool.{cases_eq, both_ways, eq-eqb, ne_eqb, eqb-false, cond-true, cond-false, or_parts, or_from}
use Rattle.orders.specs.declared.Entry.{Entry}
use Rattle.orders.specs.Meaning.{waits, without, fallen}
use Rattle.promises.specs.GreedyDual.{Region}
use Rattle.promises.proofs.Waits.{drop_same, drop_else}
use Rattle.promises.proofs.Merges.{entry, Over, without_absent}

pub data Seat (K : Type 0) : Type 0 where
  seat : (slot : ℕ) (key : K) (cost : ℕ) (rank : Option ℕ) → Seat K

-- a rank is at least L
abbrev pub Above : ℕ → Option ℕ → Type 0
Above l None = Unit {0}
Above l (Some r) = l ≤ r

module _ {K : Type 0} where
  -- the region at a seat
  abbrev pub region : Seat K → Region K
  region (seat i k c r) = record { key = k; cost = c; rank = r }

  -- the waiting slots in their order, by their credits over L
  abbrev pub queue : ℕ → List (Seat K) → List Entry
  queue l [] = []
  queue l (seat i k c None ∷ xs) = queue l xs
  queue l (seat i k c (Some r) ∷ xs) = entry i (r - l) ∷ queue l xs

  -- whether the slot is held
  abbrev pub sits : ℕ → List (Seat K) → Bool
  sits i [] = false
  sits i (seat j k c r ∷ xs) = eqb j i || sits i xs

  abbrev pub Once : List (Seat K) → Type 0
  Once [] = Unit {0}
  Once (seat j k c r ∷ xs) = (sits j xs ≡ false) × Once xs

  -- all but the slot
  abbrev pub sans : ℕ → List (Seat K) → List (Seat K)
  sans i [] = []
  sans i (seat j k c r ∷ xs) = cond (eqb j i) (sans i xs) (seat j k c r ∷ sans i xs)

  -- the slot loses its rank
  abbrev pub lending : ℕ → List (Seat K) → List (Seat K)
  lending i [] = []
  lending i (seat j k c r ∷ xs) = cond (eqb j i) (seat j k c None ∷ xs) (seat j k c r ∷ lending i xs)

  -- the seat at a slot
  abbrev pub seat_at : ℕ → List (Seat K) → Option (Seat K)
  seat_at i [] = None
  seat_at i (seat j k c r ∷ xs) = cond (eqb j i) (Some (seat j k c r)) (seat_at i xs)

  abbrev pub Ranked : ℕ → Seat K → Type 0
  Ranked l (seat i k c r) = Above l r

  -- ---- one goes

  sans_same : (i j : ℕ) (k : K) (c : ℕ) (r : Option ℕ) (xs : List (Seat K)) → j ≡ i → sans i (seat j k c r ∷ xs) ≡ sans i xs
  sans_same i j k c r xs h = cond-true (eqb j i) (sans i xs) (seat j k c r ∷ sans i xs) (eq-eqb j i h)

  sans_else : (i j : ℕ) (k : K) (c : ℕ) (r : Option ℕ) (xs : List (Seat K)) → (j ≡ i → ⊥) → sans i (seat j k c r ∷ xs) ≡ seat j k c r ∷ sans i xs
  sans_else i j k c r xs h = cond-false (eqb j i) (sans i xs) (seat j k c r ∷ sans i xs) (ne_eqb j i h)

  pub all_sans : (P Q : Seat K → Type 0) (i : ℕ) → ((j : ℕ) (k : K) (c : ℕ) (r : Option ℕ) → (j ≡ i → ⊥) → P (seat j k c r) → Q (seat j k c r))
      → (xs : List (Seat K)) → AllByRecursion P xs → AllByRecursion Q (sans i xs)
  all_sans P Q i f [] a = tt
  all_sans P Q i f (seat j k c r ∷ xs) a = ⊎_elim
      (λ h. subst (AllByRecursion Q) (sym (sans_same i j k c r xs h)) (all_sans P Q i f xs a.1))
      (λ h. subst (AllByRecursion Q) (sym (sans_else i j k c r xs h)) (f j k c r h a.0, all_sans P Q i f xs a.1))
      (cases_eq j i)

  pub sits_sans : (i h : ℕ) (xs : List (Seat K)) → sits h (sans i xs) ≡ cond (eqb h i) false (sits h xs)
  sits_sans i h [] = grind (arith, nat_tests)
  sits_sans i h (seat j k c r ∷ xs) = let ih = sits_sans i h xs in ⊎_elim
      (λ p. let e = sans_same i j k c r xs p in rw e (grind (arith, nat_tests)))
      (λ p. let e = sans_else i j k c r xs p in rw e (grind (arith, nat_tests)))
      (cases_eq j i)

  pub once_sans : (i : ℕ) (xs : List (Seat K)) → Once xs → Once (sans i xs)
  once_sans i [] o = tt
  once_sans i (seat j k c r ∷ xs) o = ⊎_elim
      (λ h. subst Once (sym (sans_same i j k c r xs h)) (once_sans i xs o.1))
      (λ h. subst Once (sym (sans_else i j k c r xs h)) (sits_sans i j xs ∙ cond-false (eqb j i) false (sits j xs) (ne_eqb j i h) ∙ o.0, once_sans i xs o.1))
      (cases_eq j i)

  pub sans_absent : (i : ℕ) (xs : List (Seat K)) → sits i xs ≡ false → sans i xs ≡ xs
  sans_absent i [] h = refl
  sans_absent i (seat j k c r ∷ xs) h =
      let p = or_parts (eqb j i) (sits i xs) h in
      sans_else i j k c r xs (eqb-false j i p.0) ∙ ap (λ (zs : List (Seat K)). seat j k c r ∷ zs) (sans_absent i xs p.1)

  pub length_sans : (i : ℕ) (xs : List (Seat K)) → Once xs → sits i xs ≡ true → suc (length (sans i xs)) ≡ length xs
  length_sans i [] o h = absurd (both_ways false refl h)
  length_sans i (seat j k c r ∷ xs) o h = ⊎_elim
      (λ p. ap (λ (zs : List (Seat K)). suc (length zs)) (sans_same i j k c r xs p ∙ sans_absent i xs (subst (λ (n : ℕ). sits n xs ≡ false) p o.0)))
      (λ p. ap (λ (zs : List (Seat K)). suc (length zs)) (sans_else i j k c r xs p)
      ∙ ap suc (length_sans i xs o.1 (sym (ap (λ (b : Bool). b || sits i xs) (ne_eqb j i p)) ∙ h)))
      (cases_eq j i)

  -- ---- one comes

  pub sits_push : (h i : ℕ) (k : K) (c : ℕ) (r : Option ℕ) (xs : List (Seat K)) → sits h (xs ++ seat i k c r ∷ []) ≡ (eqb i h || sits h xs)
  sits_push h i k c r [] = refl
  sits_push h i k c r (seat j l d q ∷ xs) = let ih = sits_push h i k c r xs in grind (arith, nat_tests)

  pub once_push : (i : ℕ) (k : K) (c : ℕ) (r : Option ℕ) (xs : List (Seat K)) → Once xs → sits i xs ≡ false → Once (xs ++ seat i k c r ∷ [])
  once_push i k c r [] o h = (refl, tt)
  once_push i k c r (seat j l d q ∷ xs) o h =
      let p = or_parts (eqb j i) (sits i xs) h in
      (sits_push j i k c r xs ∙ or_from (eqb i j) (sits j xs) (ne_eqb i j (λ z. eqb-false j i p.0 (sym z))) o.0, once_push i k c r xs o.1 p.1)

  -- ---- the queue

  pub queue_sans : (l i : ℕ) (xs : List (Seat K)) → queue l (sans i xs) ≡ without i (queue l xs)
  queue_sans l i [] = refl
  queue_sans l i (seat j k c None ∷ xs) = ⊎_elim
      (λ h. ap (queue l) (sans_same i j k c None xs h) ∙ queue_sans l i xs)
      (λ h. ap (queue l) (sans_else i j k c None xs h) ∙ queue_sans l i xs)
      (cases_eq j i)
  queue_sans l i (seat j k c (Some r) ∷ xs) = ⊎_elim
      (λ h. ap (queue l) (sans_same i j k c (Some r) xs h) ∙ queue_sans l i xs ∙ sym (drop_same i (entry j (r - l)) (queue l xs) h))
      (λ h. ap (queue l) (sans_else i j k c (Some r) xs h) ∙ ap (λ (zs : List Entry). entry j (r - l) ∷ zs) (queue_sans l i xs) ∙ sym (drop_else i (entry j (r - l)) (queue l xs) h))
      (cases_eq j i)

  pub queue_push : (l i : ℕ) (k : K) (c r : ℕ) (xs : List (Seat K)) → queue l (xs ++ seat i k c (Some r) ∷ []) ≡ queue l xs ++ entry i (r - l) ∷ []
  queue_push l i k c r [] = refl
  queue_push l i k c r (seat j e d None ∷ xs) = queue_push l i k c r xs
  queue_push l i k c r (seat j e d (Some q) ∷ xs) = ap (λ (zs : List Entry). entry j (q - l) ∷ zs) (queue_push l i k c r xs)

  -- L rises, and the credits fall
  pub queue_fallen : (l n : ℕ) (xs : List (Seat K)) → l ≤ n → fallen (n - l) (queue l xs) ≡ queue n xs
  queue_fallen l n [] h = refl
  queue_fallen l n (seat j k c None ∷ xs) h = queue_fallen l n xs h
  queue_fallen l n (seat j k c (Some r) ∷ xs) h = let e : r - l - (n - l) ≡ r - n = omega arith in ap₂ (λ (z : ℕ) (zs : List Entry). entry j z ∷ zs) e (queue_fallen l n xs h)

  pub queue_over : (l n : ℕ) (xs : List (Seat K)) → AllByRecursion (Ranked n) xs → Over (n - l) (queue l xs)
  queue_over l n [] a = tt
  queue_over l n (seat j k c None ∷ xs) a = queue_over l n xs a.1
  queue_over l n (seat j k c (Some r) ∷ xs) a = let h : n ≤ r = a.0 in (omega arith, queue_over l n xs a.1)

  pub queue_idle : (l i : ℕ) (xs : List (Seat K)) → sits i xs ≡ false → waits i (queue l xs) ≡ false
  queue_idle l i [] h = refl
  queue_idle l i (seat j k c None ∷ xs) h = queue_idle l i xs (or_parts (eqb j i) (sits i xs) h).1
  queue_idle l i (seat j k c (Some r) ∷ xs) h = let p = or_parts (eqb j i) (sits i xs) h in or_from (eqb j i) (waits i (queue l xs)) p.0 (queue_idle l i xs p.1)

  -- ---- one is lent

  lend_same : (i j : ℕ) (k : K) (c : ℕ) (r : Option ℕ) (xs : List (Seat K)) → j ≡ i → lending i (seat j k c r ∷ xs) ≡ seat j k c None ∷ xs
  lend_same i j k c r xs h = cond-true (eqb j i) (seat j k c None ∷ xs) (seat j k c r ∷ lending i xs) (eq-eqb j i h)

  lend_else : (i j : ℕ) (k : K) (c : ℕ) (r : Option ℕ) (xs : List (Seat K)) → (j ≡ i → ⊥) → lending i (seat j k c r ∷ xs) ≡ seat j k c r ∷ lending i xs
  lend_else i j k c r xs h = cond-false (eqb j i) (seat j k c None ∷ xs) (seat j k c r ∷ lending i xs) (ne_eqb j i h)

  pub sits_lending : (i h : ℕ) (xs : List (Seat K)) → sits h (lending i xs) ≡ sits h xs
  sits_lending i h [] = refl
  sits_lending i h (seat j k c r ∷ xs) = ⊎_elim
      (λ p. ap (sits h) (lend_same i j k c r xs p))
      (λ p. ap (sits h) (lend_else i j k c r xs p) ∙ ap (λ (b : Bool). eqb j h || b) (sits_lending i h xs))
      (cases_eq j i)

  pub once_lending : (i : ℕ) (xs : List (Seat K)) → Once xs → Once (lending i xs)
  once_lending i [] o = tt
  once_lending i (seat j k c r ∷ xs) o = ⊎_elim
      (λ p. subst Once (sym (lend_same i j k c r xs p)) o)
      (λ p. subst Once (sym (lend_else i j k c r xs p)) (sits_lending i j xs ∙ o.0, once_lending i xs o.1))
      (cases_eq j i)

  pub length_lending : (i : ℕ) (xs : List (Seat K)) → length (lending i xs) ≡ length xs
  length_lending i [] = refl
  length_lending i (seat j k c r ∷ xs) = ⊎_elim
      (λ p. ap length (lend_same i j k c r xs p))
      (λ p. ap length (lend_else i j k c r xs p) ∙ ap suc (length_lending i xs))
      (cases_eq j i)

  -- what holds of each but the slot, and of the slot without its rank
  all_past : (P Q : Seat K → Type 0) (i : ℕ) → ((j : ℕ) (k : K) (c : ℕ) (r : Option ℕ) → (j ≡ i → ⊥) → P (seat j k c r) → Q (seat j k c r))
      → (xs : List (Seat K)) → sits i xs ≡ false → AllByRecursion P xs → AllByRecursion Q xs
  all_past P Q i f [] h a = tt
  all_past P Q i f (seat j k c r ∷ xs) h a = let p = or_parts (eqb j i) (sits i xs) h in (f j k c r (eqb-false j i p.0) a.0, all_past P Q i f xs p.1 a.1)

  pub all_lending : (P Q : Seat K → Type 0) (i : ℕ) → ((j : ℕ) (k : K) (c : ℕ) (r : Option ℕ) → (j ≡ i → ⊥) → P (seat j k c r) → Q (seat j k c r))
      → ((k : K) (c : ℕ) (r : Option ℕ) → P (seat i k c r) → Q (seat i k c None)) → (xs : List (Seat K)) → Once xs → AllByRecursion P xs → AllByRecursion Q (lending i xs)
  all_lending P Q i f g [] o a = tt
  all_lending P Q i f g (seat j k c r ∷ xs) o a = ⊎_elim
      (λ p. subst (AllByRecursion Q) (sym (lend_same i j k c r xs p)) (
        subst (λ (n : ℕ). Q (seat n k c None)) (sym p) (g k c r (subst (λ (n : ℕ). P (seat n k c r)) p a.0)),
        all_past P Q i f xs (subst (λ (n : ℕ). sits n xs ≡ false) p o.0) a.1,
      ))
      (λ p. subst (AllByRecursion Q) (sym (lend_else i j k c r xs p)) (f j k c r p a.0, all_lending P Q i f g xs o.1 a.1))
      (cases_eq j i)

  queue_past : (l i : ℕ) (xs : List (Seat K)) → sits i xs ≡ false → queue l xs ≡ without i (queue l xs)
  queue_past l i xs h = sym (without_absent i (queue l xs) (queue_idle l i xs h))

  pub queue_lending : (l i : ℕ) (xs : List (Seat K)) → Once xs → queue l (lending i xs) ≡ without i (queue l xs)
  queue_lending l i [] o = refl
  queue_lending l i (seat j k c None ∷ xs) o = ⊎_elim
      (λ h. ap (queue l) (lend_same i j k c None xs h) ∙ queue_past l i xs (subst (λ (n : ℕ). sits n xs ≡ false) h o.0))
      (λ h. ap (queue l) (lend_else i j k c None xs h) ∙ queue_lending l i xs o.1)
      (cases_eq j i)
  queue_lending l i (seat j k c (Some r) ∷ xs) o = ⊎_elim
      (λ h. ap (queue l) (lend_same i j k c (Some r) xs h) ∙ queue_past l i xs (subst (λ (n : ℕ). sits n xs ≡ false) h o.0) ∙ sym (drop_same i (entry j (r - l)) (queue l xs) h))
      (λ h. ap (queue l) (lend_else i j k c (Some r) xs h) ∙ ap (λ (zs : List Entry). entry j (r - l) ∷ zs) (queue_lending l i xs o.1) ∙ sym (drop_else i (entry j (r - l)) (queue l xs) h))
      (cases_eq j i)

  -- ---- the seat at a slot

  pub record Seated-at (P : Seat K → Type 0) (i : ℕ) (xs : List (Seat K)) : Type 0 where
    pub key : K
    pub cost : ℕ
    pub rank : Option ℕ
    pub is : seat_at i xs ≡ Some (seat i key cost rank)
    pub has : P (seat i key cost rank)

  pub seat_found : (P : Seat K → Type 0) (i : ℕ) (xs : List (Seat K)) → sits i xs ≡ true → AllByRecursion P xs → Seated-at P i xs
  seat_found P i [] h a = absurd (both_ways false refl h)
  seat_found P i (seat j k c r ∷ xs) h a = ⊎_elim
      (λ p. record {
        key = k;
        cost = c;
        rank = r;
        is = cond-true (eqb j i) (Some (seat j k c r)) (seat_at i xs) (eq-eqb j i p) ∙ ap (λ (n : ℕ). Some (seat n k c r)) p;
        has = subst (λ (n : ℕ). P (seat n k c r)) p a.0;
      })
      (λ p. let f = seat_found P i xs (sym (ap (λ (b : Bool). b || sits i xs) (ne_eqb j i p)) ∙ h) a.1 in
      record { key = f.key; cost = f.cost; rank = f.rank; is = cond-false (eqb j i) (Some (seat j k c r)) (seat_at i xs) (ne_eqb j i p) ∙ f.is; has = f.has })
      (cases_eq j i)
