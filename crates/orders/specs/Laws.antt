-- The laws of an order, for the entries of a row of queues.
use Rattle.std.specs.Prelude.{◌≡◌, ℕ, zero, suc, ◌+◌, ◌<◌, ◌≤◌, true, false, List, [], ◌∷◌, ◌++◌, ◌==◌, refl}
use Rattle.std.proofs.Common.{sym, ap, ◌∙◌, ⊎_elim, arith}
use Rattle.std.specs.List.{AllByRecursion}
use Rattle.std.proofs.ByRecursion.{All-append}
use Rattle.std.proofs.lemmas.Bool.{cases_eq, eq-eqb, ne_eqb, or_from, or_left, or_right}
use Rattle.orders.specs.declared.Entry.{Entry}
use Rattle.orders.specs.Meaning.{waits, some_due, Sorted, Apart}
use Rattle.orders.specs.Rings.{holds, Once}
use Rattle.orders.specs.Flat.{tagged, flat}
use Rattle.orders.specs.Flats.{flat_from, tagged_waits, waits_append}

-- ---- who waits

pub flat_waits_none : (s : ℕ) (f : ℕ → List ℕ) (c n : ℕ) → ((j : ℕ) → c ≤ j → j < c + n → holds s (f j) ≡ false) → waits s (flat f c n) ≡ false
unfolding flat
flat_waits_none s f c zero h = refl
flat_waits_none s f c (suc n) h =
    waits_append s (tagged c (f c)) (flat f (suc c) n)
    ∙ or_from (waits s (tagged c (f c))) (waits s (flat f (suc c) n)) (tagged_waits s c (f c) ∙ h c (omega arith) (omega arith))
    (flat_waits_none s f (suc c) n (λ j a b. h j (omega arith) (omega arith)))

pub flat_waits_some : (s d : ℕ) (f : ℕ → List ℕ) (c n : ℕ) → c ≤ d → d < c + n → holds s (f d) ≡ true → waits s (flat f c n) ≡ true
unfolding flat
flat_waits_some s d f c zero l h k = absurd (omega arith)
flat_waits_some s d f c (suc n) l h k =
    waits_append s (tagged c (f c)) (flat f (suc c) n)
    ∙ ⊎_elim
    (λ e. or_left (waits s (tagged c (f c))) (waits s (flat f (suc c) n)) (tagged_waits s c (f c) ∙ ap (λ (z : ℕ). holds s (f z)) (sym e) ∙ k))
    (λ e. or_right (waits s (tagged c (f c))) (waits s (flat f (suc c) n)) (flat_waits_some s d f (suc c) n (omega arith) (omega arith) k))
    (cases_eq d c)

-- ---- sorted, and apart

sorted_tagged : (c : ℕ) (xs : List ℕ) (ys : List Entry) → AllByRecursion (λ (y : Entry). c ≤ y.credit) ys → Sorted ys → Sorted (tagged c xs ++ ys)
sorted_tagged c [] ys a s = s
sorted_tagged c (x ∷ xs) ys a s =
    (All-append (λ (y : Entry). c ≤ y.credit) (tagged c xs) ys (same c xs) a, sorted_tagged c xs ys a s) where
      same : (c : ℕ) (xs : List ℕ) → AllByRecursion (λ (y : Entry). c ≤ y.credit) (tagged c xs)
      same c [] = tt
      same c (x ∷ xs) = (omega arith, same c xs)

pub flat_sorted : (f : ℕ → List ℕ) (c n : ℕ) → Sorted (flat f c n)
unfolding flat
flat_sorted f c zero = tt
flat_sorted f c (suc n) = sorted_tagged c (f c) (flat f (suc c) n) (flat_from c f (suc c) n (omega arith)) (flat_sorted f (suc c) n)

apart_tagged : (c : ℕ) (xs : List ℕ) (ys : List Entry) → Once xs → ((x : ℕ) → holds x xs ≡ true → waits x ys ≡ false) → Apart ys → Apart (tagged c xs ++ ys)
apart_tagged c [] ys o h a = a
apart_tagged c (x ∷ xs) ys o h a = (
  waits_append x (tagged c xs) ys ∙ or_from (waits x (tagged c xs)) (waits x ys) (tagged_waits x c xs ∙ o.0) (h x (or_left (x == x) (holds x xs) (eq-eqb x x refl))),
  apart_tagged c xs ys o.1 (λ y k. h y (or_right (x == y) (holds y xs) k)) a,
)

pub flat_apart : (f : ℕ → List ℕ) (c n : ℕ) → ((j : ℕ) → c ≤ j → j < c + n → Once (f j)) →
    ((x i j : ℕ) → c ≤ i → i < j → j < c + n → holds x (f i) ≡ true → holds x (f j) ≡ false) → Apart (flat f c n)
unfolding flat
flat_apart f c zero o h = tt
flat_apart f c (suc n) o h =
    apart_tagged c (f c) (flat f (suc c) n) (o c (omega arith) (omega arith))
    (λ x k. flat_waits_none x f (suc c) n (λ j a b. h x c j (omega arith) (omega arith) (omega arith) k))
    (flat_apart f (suc c) n (λ j a b. o j (omega arith) (omega arith)) (λ x i j a b d k. h x i j (omega arith) b (omega arith) k))

-- ---- due

pub none_due : (xs : List Entry) → AllByRecursion (λ (y : Entry). 1 ≤ y.credit) xs → some_due xs ≡ false
none_due [] a = refl
none_due (x ∷ xs) a = let l : 1 ≤ x.credit = a.0 in or_from (x.credit == 0) (some_due xs) (ne_eqb x.credit 0 (omega arith)) (none_due xs a.1)

pub flat_due_none : (f : ℕ → List ℕ) (n : ℕ) → f 0 ≡ [] → some_due (flat f 0 (suc n)) ≡ false
unfolding flat
flat_due_none f n e = ap (λ (xs : List ℕ). some_due (tagged 0 xs ++ flat f 1 n)) e ∙ none_due (flat f 1 n) (flat_from 1 f 1 n (omega arith))

pub flat_due_some : (f : ℕ → List ℕ) (n y : ℕ) (ys : List ℕ) → f 0 ≡ y ∷ ys → some_due (flat f 0 (suc n)) ≡ true
unfolding flat
flat_due_some f n y ys e = ap (λ (xs : List ℕ). some_due (tagged 0 xs ++ flat f 1 n)) e
