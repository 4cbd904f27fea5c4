-- Entries that join an empty order one after the other: who goes, who falls, and who is first.
use Rattle.std.proofs.Common.{◌≡◌, ℕ, ◌-◌, ◌<◌, ◌≤◌, Bool, false, cond, ◌||◌, eqb, ltb, leb, List, [], ◌∷◌, ◌++◌, Some, None, Option, sym, refl, ap, ◌∙◌, subst, ap₂, ⊎_elim, arith}
use Rattle.std.specs.List.{AllByRecursion}
use Rattle.std.proofs.ByRecursion.{All-weaker}
use Rattle.std.proofs.lemmas.Bool.Decides.{nat_tests}
use Rattle.std.proofs.lemmas.Bool.{cases_eq, cases_lt, le-leb, lt-leb, cond-true, cond-false, or_parts, lt-ltb}
use Rattle.orders.specs.declared.Entry.{Entry}
use Rattle.orders.specs.declared.Expelled.{Expelled}
use Rattle.orders.specs.Meaning.{joined, waits, without, fallen, leaver, rest, Sorted, Apart}
use Rattle.promises.proofs.Waits.{join_here, join_past, join_all, join_sorted, join_waits, drop_same, drop_else, without_all, leaver_slot}

abbrev pub entry : ℕ → ℕ → Entry
entry s c = record { slot = s; credit = c }

abbrev pub Over : ℕ → List Entry → Type 0
Over c xs = AllByRecursion (λ (y : Entry). c ≤ y.credit) xs

-- the entries join one after the other
abbrev pub merged : List Entry → List Entry → List Entry
merged acc [] = acc
merged acc (e ∷ es) = merged (joined e acc) es

pub merged_push : (acc es : List Entry) (e : Entry) → merged acc (es ++ e ∷ []) ≡ joined e (merged acc es)
merged_push acc [] e = refl
merged_push acc (x ∷ es) e = merged_push (joined x acc) es e

pub merged_waits : (s : ℕ) (acc es : List Entry) → waits s (merged acc es) ≡ (waits s acc || waits s es)
merged_waits s acc [] = grind (arith, nat_tests)
merged_waits s acc (e ∷ es) = merged_waits s (joined e acc) es ∙ ap (λ (b : Bool). b || waits s es) (join_waits s e acc) ∙ grind (arith, nat_tests)

-- ---- one goes

pub without_absent : (s : ℕ) (xs : List Entry) → waits s xs ≡ false → without s xs ≡ xs
without_absent s [] h = refl
without_absent s (x ∷ xs) h =
    let p = or_parts (eqb x.slot s) (waits s xs) h in
    cond-false (eqb x.slot s) (without s xs) (x ∷ without s xs) p.0 ∙ ap (λ (zs : List Entry). x ∷ zs) (without_absent s xs p.1)

-- what the first leaves behind
pub rest_without : (xs : List Entry) (f : Expelled) → Apart xs → leaver xs ≡ Some f → rest xs ≡ fallen f.credit (without f.slot xs)
rest_without [] f a e = refl
rest_without (x ∷ xs) f a e =
    let p : x.slot ≡ f.slot = leaver_slot x xs f e in
    let q : x.credit ≡ f.credit = ap (λ (o : Option Expelled). elim o [ None ↦ 0 | Some y ↦ y.credit ]) e in
    ap₂ fallen q (sym (drop_same f.slot x xs p ∙ without_absent f.slot xs (subst (λ (n : ℕ). waits n xs ≡ false) p a.0)))

joined_front : (e : Entry) (ys : List Entry) → AllByRecursion (λ (y : Entry). e.credit < y.credit) ys → joined e ys ≡ e ∷ ys
joined_front e [] a = refl
joined_front e (y ∷ ys) a = cond-true (ltb e.credit y.credit) (e ∷ y ∷ ys) (y ∷ joined e ys) (lt-ltb e.credit y.credit a.0)

without_join_same : (s : ℕ) (e : Entry) (xs : List Entry) → e.slot ≡ s → without s (joined e xs) ≡ without s xs
without_join_same s e [] h = drop_same s e [] h
without_join_same s e (x ∷ xs) h = ⊎_elim
    (λ k. ap (without s) (join_here e x xs k) ∙ drop_same s e (x ∷ xs) h)
    (λ k. ap (without s) (join_past e x xs k) ∙ ⊎_elim
    (λ m. drop_same s x (joined e xs) m ∙ without_join_same s e xs h ∙ sym (drop_same s x xs m))
    (λ m. drop_else s x (joined e xs) m ∙ ap (λ (zs : List Entry). x ∷ zs) (without_join_same s e xs h) ∙ sym (drop_else s x xs m))
    (cases_eq x.slot s))
    (cases_lt e.credit x.credit)

without_join_else : (s : ℕ) (e : Entry) (xs : List Entry) → (e.slot ≡ s → ⊥) → Sorted xs → without s (joined e xs) ≡ joined e (without s xs)
without_join_else s e [] h o = drop_else s e [] h
without_join_else s e (x ∷ xs) h o = ⊎_elim
    (λ k. ap (without s) (join_here e x xs k) ∙ drop_else s e (x ∷ xs) h
    ∙ sym (joined_front e (without s (x ∷ xs)) (without_all (λ (y : Entry). e.credit < y.credit) s (x ∷ xs)
    (k, All-weaker (λ (y : Entry). x.credit ≤ y.credit) (λ (y : Entry). e.credit < y.credit) (λ y l. omega arith) xs o.0))))
    (λ k. ap (without s) (join_past e x xs k) ∙ ⊎_elim
    (λ m. drop_same s x (joined e xs) m ∙ without_join_else s e xs h o.1 ∙ ap (joined e) (sym (drop_same s x xs m)))
    (λ m. drop_else s x (joined e xs) m ∙ ap (λ (zs : List Entry). x ∷ zs) (without_join_else s e xs h o.1) ∙ sym (ap (joined e) (drop_else s x xs m) ∙ join_past e x (without s xs) k))
    (cases_eq x.slot s))
    (cases_lt e.credit x.credit)

pub merged_without : (s : ℕ) (acc es : List Entry) → Sorted acc → without s (merged acc es) ≡ merged (without s acc) (without s es)
merged_without s acc [] o = refl
merged_without s acc (e ∷ es) o = merged_without s (joined e acc) es (join_sorted e acc o) ∙ ⊎_elim
    (λ k. ap₂ merged (without_join_same s e acc k) (sym (drop_same s e es k)))
    (λ k. ap (λ (zs : List Entry). merged zs (without s es)) (without_join_else s e acc k o) ∙ ap (merged (without s acc)) (sym (drop_else s e es k)))
    (cases_eq e.slot s)

-- ---- all fall

fallen_join : (d : ℕ) (e : Entry) (xs : List Entry) → d ≤ e.credit → Over d xs → fallen d (joined e xs) ≡ joined (entry e.slot (e.credit - d)) (fallen d xs)
fallen_join d e [] h a = refl
fallen_join d e (x ∷ xs) h a =
    let l : d ≤ x.credit = a.0 in
    let e' : Entry = entry e.slot (e.credit - d) in
    let x' : Entry = entry x.slot (x.credit - d) in
    ⊎_elim
    (λ k. ap (fallen d) (join_here e x xs k) ∙ sym (join_here e' x' (fallen d xs) (omega arith)))
    (λ k. ap (fallen d) (join_past e x xs k) ∙ ap (λ (zs : List Entry). x' ∷ zs) (fallen_join d e xs h a.1) ∙ sym (join_past e' x' (fallen d xs) (omega arith)))
    (cases_lt e.credit x.credit)

pub merged_fallen : (d : ℕ) (acc es : List Entry) → Over d acc → Over d es → fallen d (merged acc es) ≡ merged (fallen d acc) (fallen d es)
merged_fallen d acc [] a b = refl
merged_fallen d acc (e ∷ es) a b = merged_fallen d (joined e acc) es (join_all (λ (y : Entry). d ≤ y.credit) e acc b.0 a) b.1
    ∙ ap (λ (zs : List Entry). merged zs (fallen d es)) (fallen_join d e acc b.0 a)

-- ---- who is first

-- of two, the one of less credit, and the one before among equals
abbrev pub sooner : Option Expelled → Option Expelled → Option Expelled
sooner None q = q
sooner (Some x) None = Some x
sooner (Some x) (Some y) = cond (leb x.credit y.credit) (Some x) (Some y)

abbrev pub leaving : Entry → Expelled
leaving e = record { slot = e.slot; credit = e.credit }

sooner_here : (x y : Expelled) → x.credit ≤ y.credit → sooner (Some x) (Some y) ≡ Some x
sooner_here x y h = cond-true (leb x.credit y.credit) (Some x) (Some y) (le-leb x.credit y.credit h)

sooner_past : (x y : Expelled) → y.credit < x.credit → sooner (Some x) (Some y) ≡ Some y
sooner_past x y h = cond-false (leb x.credit y.credit) (Some x) (Some y) (lt-leb x.credit y.credit h)

pub sooner_assoc : (p q r : Option Expelled) → sooner (sooner p q) r ≡ sooner p (sooner q r)
sooner_assoc None q r = refl
sooner_assoc (Some x) None r = refl
sooner_assoc (Some x) (Some y) None = ⊎_elim
    (λ h. ap (λ (o : Option Expelled). sooner o None) (sooner_past x y h) ∙ sym (sooner_past x y h))
    (λ h. ap (λ (o : Option Expelled). sooner o None) (sooner_here x y h) ∙ sym (sooner_here x y h))
    (cases_lt y.credit x.credit)
sooner_assoc (Some x) (Some y) (Some z) = ⊎_elim
    (λ h. ap (λ (o : Option Expelled). sooner o (Some z)) (sooner_past x y h) ∙ ⊎_elim
    (λ k. sooner_past y z k ∙ sym (ap (sooner (Some x)) (sooner_past y z k) ∙ sooner_past x z (omega arith)))
    (λ k. sooner_here y z k ∙ sym (ap (sooner (Some x)) (sooner_here y z k) ∙ sooner_past x y h))
    (cases_lt z.credit y.credit))
    (λ h. ap (λ (o : Option Expelled). sooner o (Some z)) (sooner_here x y h) ∙ ⊎_elim
    (λ k. sym (ap (sooner (Some x)) (sooner_past y z k)))
    (λ k. sooner_here x z (omega arith) ∙ sym (ap (sooner (Some x)) (sooner_here y z k) ∙ sooner_here x y h))
    (cases_lt z.credit y.credit))
    (cases_lt y.credit x.credit)

pub leaver_join : (e : Entry) (xs : List Entry) → leaver (joined e xs) ≡ sooner (leaver xs) (Some (leaving e))
leaver_join e [] = refl
leaver_join e (x ∷ xs) = ⊎_elim
    (λ h. ap leaver (join_here e x xs h) ∙ sym (sooner_past (leaving x) (leaving e) h))
    (λ h. ap leaver (join_past e x xs h) ∙ sym (sooner_here (leaving x) (leaving e) h))
    (cases_lt e.credit x.credit)
