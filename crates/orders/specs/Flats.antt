-- The entries of a row of queues: joining, taking out, falling.
use Rattle.std.specs.Prelude.{◌≡◌, ℕ, zero, suc, ◌+◌, ◌-◌, ◌<◌, ◌≤◌, Bool, false, ◌||◌, List, [], ◌∷◌, ◌++◌, ◌==◌, ◌≢◌, nat_lt, refl}
use Rattle.std.proofs.Common.{sym, ap, ap₂, ◌∙◌, ⊎_elim, append_assoc, arith}
use Rattle.std.specs.List.{AllByRecursion}
use Rattle.std.proofs.ByRecursion.{All-append}
use Rattle.std.proofs.lemmas.Bool.Decides.{nat_tests}
use Rattle.std.proofs.lemmas.Bool.{cases_eq, cases_Bool, eq-eqb, lt-ltb, le-ltb, cond-true, cond-false, or_parts}
use Rattle.orders.specs.declared.Entry.{Entry}
use Rattle.orders.specs.Meaning.{joined, waits, without, fallen}
use Rattle.orders.specs.Rings.{sans, holds}
use Rattle.orders.specs.Flat.{entry, tagged, flat}

-- ---- lists of entries

pub joined_past : (e : Entry) (xs ys : List Entry) → AllByRecursion (λ (y : Entry). y.credit ≤ e.credit) xs → joined e (xs ++ ys) ≡ xs ++ joined e ys
joined_past e [] ys a = refl
joined_past e (x ∷ xs) ys a =
    cond-false (nat_lt e.credit x.credit) (e ∷ x ∷ (xs ++ ys)) (x ∷ joined e (xs ++ ys)) (le-ltb e.credit x.credit a.0)
    ∙ ap (λ (zs : List Entry). x ∷ zs) (joined_past e xs ys a.1)

pub joined_front : (e : Entry) (ys : List Entry) → AllByRecursion (λ (y : Entry). e.credit < y.credit) ys → joined e ys ≡ e ∷ ys
joined_front e [] a = refl
joined_front e (y ∷ ys) a = cond-true (nat_lt e.credit y.credit) (e ∷ y ∷ ys) (y ∷ joined e ys) (lt-ltb e.credit y.credit a.0)

pub without_append : (s : ℕ) (xs ys : List Entry) → without s (xs ++ ys) ≡ without s xs ++ without s ys
without_append s [] ys = refl
without_append s (x ∷ xs) ys =
    let h = without_append s xs ys in
    ⊎_elim
    (λ e. cond-true (x.slot == s) (without s (xs ++ ys)) (x ∷ without s (xs ++ ys)) e ∙ h
    ∙ ap (λ (zs : List Entry). zs ++ without s ys) (sym (cond-true (x.slot == s) (without s xs) (x ∷ without s xs) e)))
    (λ e. cond-false (x.slot == s) (without s (xs ++ ys)) (x ∷ without s (xs ++ ys)) e ∙ ap (λ (zs : List Entry). x ∷ zs) h
    ∙ ap (λ (zs : List Entry). zs ++ without s ys) (sym (cond-false (x.slot == s) (without s xs) (x ∷ without s xs) e)))
    (cases_Bool (x.slot == s))

pub fallen_append : (d : ℕ) (xs ys : List Entry) → fallen d (xs ++ ys) ≡ fallen d xs ++ fallen d ys
fallen_append d [] ys = refl
fallen_append d (x ∷ xs) ys = ap (λ (zs : List Entry). entry x.slot (x.credit - d) ∷ zs) (fallen_append d xs ys)

pub waits_append : (s : ℕ) (xs ys : List Entry) → waits s (xs ++ ys) ≡ (waits s xs || waits s ys)
waits_append s [] ys = refl
waits_append s (x ∷ xs) ys = let h = waits_append s xs ys in grind (arith, nat_tests)

pub without_absent : (s : ℕ) (xs : List Entry) → waits s xs ≡ false → without s xs ≡ xs
without_absent s [] h = refl
without_absent s (x ∷ xs) h =
    let p = or_parts (x.slot == s) (waits s xs) h in
    cond-false (x.slot == s) (without s xs) (x ∷ without s xs) p.0 ∙ ap (λ (zs : List Entry). x ∷ zs) (without_absent s xs p.1)

pub without_first : (x : Entry) (xs : List Entry) → waits x.slot xs ≡ false → without x.slot (x ∷ xs) ≡ xs
without_first x xs h = cond-true (x.slot == x.slot) (without x.slot xs) (x ∷ without x.slot xs) (eq-eqb x.slot x.slot refl) ∙ without_absent x.slot xs h

-- ---- one credit

tagged_push : (c : ℕ) (xs : List ℕ) (x : ℕ) → tagged c (xs ++ x ∷ []) ≡ tagged c xs ++ entry x c ∷ []
tagged_push c [] x = refl
tagged_push c (y ∷ ys) x = ap (λ (zs : List Entry). entry y c ∷ zs) (tagged_push c ys x)

tagged_all : (P : Entry → Type 0) (c : ℕ) (xs : List ℕ) → AllByRecursion (λ x. P (entry x c)) xs → AllByRecursion P (tagged c xs)
tagged_all P c [] a = tt
tagged_all P c (x ∷ xs) a = (a.0, tagged_all P c xs a.1)

all_true : (P : ℕ → Type 0) (xs : List ℕ) → ((x : ℕ) → P x) → AllByRecursion P xs
all_true P [] h = tt
all_true P (x ∷ xs) h = (h x, all_true P xs h)

pub tagged_waits : (s c : ℕ) (xs : List ℕ) → waits s (tagged c xs) ≡ holds s xs
tagged_waits s c [] = refl
tagged_waits s c (x ∷ xs) = ap (λ (b : Bool). (x == s) || b) (tagged_waits s c xs)

tagged_without : (s c : ℕ) (xs : List ℕ) → without s (tagged c xs) ≡ tagged c (sans s xs)
tagged_without s c [] = refl
tagged_without s c (x ∷ xs) =
    let h = tagged_without s c xs in
    ⊎_elim
    (λ e. cond-true (x == s) (without s (tagged c xs)) (entry x c ∷ without s (tagged c xs)) e ∙ h
    ∙ ap (tagged c) (sym (cond-true (x == s) (sans s xs) (x ∷ sans s xs) e)))
    (λ e. cond-false (x == s) (without s (tagged c xs)) (entry x c ∷ without s (tagged c xs)) e ∙ ap (λ (zs : List Entry). entry x c ∷ zs) h
    ∙ ap (tagged c) (sym (cond-false (x == s) (sans s xs) (x ∷ sans s xs) e)))
    (cases_Bool (x == s))

tagged_fallen : (d c e : ℕ) (xs : List ℕ) → c - d ≡ e → fallen d (tagged c xs) ≡ tagged e xs
tagged_fallen d c e [] h = refl
tagged_fallen d c e (x ∷ xs) h = ap₂ (λ (k : ℕ) (zs : List Entry). entry x k ∷ zs) h (tagged_fallen d c e xs h)

-- ---- rows of credits

pub flat_same : (f g : ℕ → List ℕ) (c n : ℕ) → ((j : ℕ) → c ≤ j → j < c + n → f j ≡ g j) → flat f c n ≡ flat g c n
unfolding flat
flat_same f g c zero h = refl
flat_same f g c (suc n) h = ap₂ (λ (xs : List ℕ) (ys : List Entry). tagged c xs ++ ys) (h c (omega arith) (omega arith)) (flat_same f g (suc c) n (λ j a b. h j (omega arith) (omega arith)))

pub flat_all : (P : Entry → Type 0) (f : ℕ → List ℕ) (c n : ℕ) → ((j : ℕ) → c ≤ j → j < c + n → AllByRecursion (λ x. P (entry x j)) (f j)) → AllByRecursion P (flat f c n)
unfolding flat
flat_all P f c zero h = tt
flat_all P f c (suc n) h =
    All-append P (tagged c (f c)) (flat f (suc c) n) (tagged_all P c (f c) (h c (omega arith) (omega arith)))
    (flat_all P f (suc c) n (λ j a b. h j (omega arith) (omega arith)))

pub flat_from : (d : ℕ) (f : ℕ → List ℕ) (c n : ℕ) → d ≤ c → AllByRecursion (λ (y : Entry). d ≤ y.credit) (flat f c n)
flat_from d f c n h = flat_all (λ (y : Entry). d ≤ y.credit) f c n (λ j a b. all_true (λ x. d ≤ j) (f j) (λ x. omega arith))

pub flat_without : (s : ℕ) (f : ℕ → List ℕ) (c n : ℕ) → without s (flat f c n) ≡ flat (λ j. sans s (f j)) c n
unfolding flat
flat_without s f c zero = refl
flat_without s f c (suc n) = without_append s (tagged c (f c)) (flat f (suc c) n) ∙ ap₂ (λ (xs ys : List Entry). xs ++ ys) (tagged_without s c (f c)) (flat_without s f (suc c) n)

pub flat_fallen : (d : ℕ) (f g : ℕ → List ℕ) (c e n : ℕ) → c ≡ d + e → ((j : ℕ) → e ≤ j → j < e + n → f (d + j) ≡ g j) → fallen d (flat f c n) ≡ flat g e n
unfolding flat
flat_fallen d f g c e zero h k = refl
flat_fallen d f g c e (suc n) h k =
    fallen_append d (tagged c (f c)) (flat f (suc c) n)
    ∙ ap₂ (λ (xs ys : List Entry). xs ++ ys)
    (tagged_fallen d c e (f c) (omega arith) ∙ ap (tagged e) (ap f h ∙ k e (omega arith) (omega arith)))
    (flat_fallen d f g (suc c) (suc e) n (omega arith) (λ j a b. k j (omega arith) (omega arith)))

pub flat_skip : (f : ℕ → List ℕ) (c d n : ℕ) → ((j : ℕ) → c ≤ j → j < c + d → f j ≡ []) → flat f c (d + n) ≡ flat f (c + d) n
unfolding flat
flat_skip f c zero n h = ap₂ (λ (x y : ℕ). flat f x y) (omega arith) (omega arith)
flat_skip f c (suc d) n h =
    let e : suc d + n ≡ suc (d + n) = omega arith in
    let e' : suc c + d ≡ c + suc d = omega arith in
    ap (flat f c) e ∙ ap (λ (xs : List ℕ). tagged c xs ++ flat f (suc c) (d + n)) (h c (omega arith) (omega arith))
    ∙ flat_skip f (suc c) d n (λ j a b. h j (omega arith) (omega arith)) ∙ ap (λ (x : ℕ). flat f x n) e'

pub flat_split : (f : ℕ → List ℕ) (c d n : ℕ) → flat f c (d + n) ≡ flat f c d ++ flat f (c + d) n
unfolding flat
flat_split f c zero n = ap₂ (λ (x y : ℕ). flat f x y) (omega arith) (omega arith)
flat_split f c (suc d) n =
    let e : suc d + n ≡ suc (d + n) = omega arith in
    let e' : suc c + d ≡ c + suc d = omega arith in
    ap (flat f c) e ∙ ap (λ (ys : List Entry). tagged c (f c) ++ ys) (flat_split f (suc c) d n ∙ ap (λ (x : ℕ). flat f (suc c) d ++ flat f x n) e')
    ∙ sym (append_assoc (tagged c (f c)) (flat f (suc c) d) (flat f (c + suc d) n))

-- the slot joins queue d at its back
pub flat_joined : (f g : ℕ → List ℕ) (x d c n : ℕ) → c ≤ d → d < c + n → g d ≡ f d ++ x ∷ [] → ((j : ℕ) → (j ≢ d) → j < c + n → g j ≡ f j) → joined (entry x d) (flat f c n) ≡ flat g c n
unfolding flat
flat_joined f g x d c zero l h here else = absurd (omega arith)
flat_joined f g x d c (suc n) l h here else =
    let past : joined (entry x d) (tagged c (f c) ++ flat f (suc c) n) ≡ tagged c (f c) ++ joined (entry x d) (flat f (suc c) n) =
    joined_past (entry x d) (tagged c (f c)) (flat f (suc c) n) (tagged_all (λ (y : Entry). y.credit ≤ d) c (f c) (all_true (λ _. c ≤ d) (f c) (λ _. l))) in
    ⊎_elim
    (λ e.
    let gc : g c ≡ f c ++ x ∷ [] = ap g (sym e) ∙ here ∙ ap (λ (z : ℕ). f z ++ x ∷ []) e in
    past ∙ ap (λ (ys : List Entry). tagged c (f c) ++ ys)
    (joined_front (entry x d) (flat f (suc c) n) (flat_from (suc d) f (suc c) n (omega arith))
    ∙ ap₂ (λ (z : ℕ) (ys : List Entry). entry x z ∷ ys) e (flat_same f g (suc c) n (λ j a b. sym (else j (omega arith) (omega arith)))))
    ∙ sym (append_assoc (tagged c (f c)) (entry x c ∷ []) (flat g (suc c) n))
    ∙ ap (λ (ys : List Entry). ys ++ flat g (suc c) n) (sym (tagged_push c (f c) x) ∙ ap (tagged c) (sym gc)))
    (λ n'.
    past ∙ ap₂ (λ (xs : List ℕ) (ys : List Entry). tagged c xs ++ ys) (sym (else c (λ z. n' (sym z)) (omega arith)))
    (flat_joined f g x d (suc c) n (omega arith) (omega arith) here (λ j a b. else j a (omega arith))))
    (cases_eq d c)
