-- Lists of slots in which none stands twice.
use Rattle.std.specs.Prelude.{◌≡◌, ℕ, zero, suc, ◌<◌, ◌≤◌, false, cond, ◌||◌, List, [], ◌∷◌, ◌++◌, length, ◌==◌, nat_lt}
use Rattle.std.proofs.Math.Path.{refl}
use Rattle.std.proofs.Common.{sym, ap, subst, ◌∙◌, ⊎_elim, arith}
use Rattle.std.specs.List.{AllByRecursion}
use Rattle.std.proofs.lemmas.Bool.Decides.{nat_tests}
use Rattle.std.proofs.lemmas.Bool.{cases_eq, ne_eqb, lt-ltb, le-ltb, cond-true, cond-false, or_parts, eqb-false}
use Rattle.orders.specs.Rings.{Path, walk, sans, holds, Once}
use Rattle.orders.specs.Paths.{sans_same, sans_other}

pub holds_push : (y : ℕ) (xs : List ℕ) (x : ℕ) → holds y (xs ++ x ∷ []) ≡ (holds y xs || x == y)
holds_push y [] x = grind (arith, nat_tests)
holds_push y (z ∷ zs) x = let h = holds_push y zs x in grind (arith, nat_tests)

pub holds_sans : (y x : ℕ) (xs : List ℕ) → holds y (sans x xs) ≡ cond (y == x) false (holds y xs)
holds_sans y x [] = grind (arith, nat_tests)
holds_sans y x (z ∷ zs) = let h = holds_sans y x zs in
    ⊎_elim
    (λ k. let e = sans_same x z zs k in rw e (grind (arith, nat_tests)))
    (λ k. let e = sans_other x z zs k in rw e (grind (arith, nat_tests)))
    (cases_eq z x)

pub once_push : (xs : List ℕ) (x : ℕ) → Once xs → holds x xs ≡ false → Once (xs ++ x ∷ [])
once_push [] x o h = (refl, tt)
once_push (y ∷ ys) x o h =
    let p = or_parts (y == x) (holds x ys) h in
    let n = holds_push y ys x in
    let o0 : holds y ys ≡ false = o.0 in
    ((grind (arith, nat_tests)), once_push ys x o.1 p.1)

pub all_sans : (P : ℕ → Type 0) (x : ℕ) (xs : List ℕ) → AllByRecursion P xs → AllByRecursion P (sans x xs)
all_sans P x [] a = tt
all_sans P x (y ∷ ys) a =
    ⊎_elim
    (λ k. subst (AllByRecursion P) (sym (sans_same x y ys k)) (all_sans P x ys a.1))
    (λ k. subst (AllByRecursion P) (sym (sans_other x y ys k)) (a.0, all_sans P x ys a.1))
    (cases_eq y x)

pub once_sans : (x : ℕ) (xs : List ℕ) → Once xs → Once (sans x xs)
once_sans x [] o = tt
once_sans x (y ∷ ys) o =
    ⊎_elim
    (λ k. subst Once (sym (sans_same x y ys k)) (once_sans x ys o.1))
    (λ k. subst Once (sym (sans_other x y ys k)) (holds_sans y x ys ∙ cond-false (y == x) false (holds y ys) (ne_eqb y x k) ∙ o.0, once_sans x ys o.1))
    (cases_eq y x)

pub sans_absent : (x : ℕ) (xs : List ℕ) → holds x xs ≡ false → sans x xs ≡ xs
sans_absent x [] h = refl
sans_absent x (y ∷ ys) h =
    let p = or_parts (y == x) (holds x ys) h in
    sans_other x y ys (eqb-false y x p.0) ∙ ap (λ (zs : List ℕ). y ∷ zs) (sans_absent x ys p.1)

length_sans : (x : ℕ) (xs : List ℕ) → Once xs → length xs ≤ suc (length (sans x xs))
length_sans x [] o = omega arith
length_sans x (y ∷ ys) o =
    ⊎_elim
    (λ k. let e = sans_same x y ys k in let a : sans x ys ≡ ys = sans_absent x ys (subst (λ (z : ℕ). holds z ys ≡ false) k o.0) in
    rw (e, a) (omega arith))
    (λ k. let e = sans_other x y ys k in let m = length_sans x ys o.1 in rw e (omega arith))
    (cases_eq y x)

below_sans : (m : ℕ) (xs : List ℕ) → AllByRecursion (λ y. y < suc m) xs → AllByRecursion (λ y. y < m) (sans m xs)
below_sans m [] a = tt
below_sans m (y ∷ ys) a =
    ⊎_elim
    (λ k. subst (AllByRecursion (λ y. y < m)) (sym (sans_same m y ys k)) (below_sans m ys a.1))
    (λ k. let l : y < suc m = a.0 in subst (AllByRecursion (λ y. y < m)) (sym (sans_other m y ys k)) ((omega arith), below_sans m ys a.1))
    (cases_eq y m)

-- as many slots as there are, at most
pub once_short : (m : ℕ) (xs : List ℕ) → Once xs → AllByRecursion (λ y. y < m) xs → length xs ≤ m
once_short zero [] o a = omega arith
once_short zero (y ∷ ys) o a = let l : y < 0 = a.0 in omega arith
once_short (suc m) xs o a = let s = length_sans m xs o in let h = once_short m (sans m xs) (once_sans m xs o) (below_sans m xs a) in omega arith

module _ (f : ℕ → ℕ) where
  walk_end : (k b : ℕ) → 1024 ≤ b → walk k f b ≡ []
  unfolding walk
  walk_end zero b h = refl
  walk_end (suc k) b h = cond-false (nat_lt b 1024) (b ∷ walk k f (f b)) [] (le-ltb b 1024 h)

  walk_more : (k y : ℕ) → y < 1024 → walk (suc k) f y ≡ y ∷ walk k f (f y)
  unfolding walk
  walk_more k y h = cond-true (nat_lt y 1024) (y ∷ walk k f (f y)) [] (lt-ltb y 1024 h)

  pub walk_path : (k : ℕ) (xs : List ℕ) (a b : ℕ) → AllByRecursion (λ y. y < 1024) xs → 1024 ≤ b → length xs ≤ k → Path f a xs b → walk k f (f a) ≡ xs
  walk_path k [] a b s bb l p = ap (walk k f) p ∙ walk_end k b bb
  walk_path zero (y ∷ ys) a b s bb l p = absurd (omega arith)
  walk_path (suc k) (y ∷ ys) a b s bb l p =
      ap (walk (suc k) f) p.0 ∙ walk_more k y s.0 ∙ ap (λ (zs : List ℕ). y ∷ zs) (walk_path k ys y b s.1 bb (omega arith) p.1)
