-- Lists of entries that are merged, credit by credit.
use Rattle.std.specs.Prelude.{◌≡◌, ℕ, ◌+◌, ◌-◌, ◌*◌, ◌<◌, ◌≤◌, Bool, true, false, cond, ◌||◌, List, [], ◌∷◌, None, Option, ◌==◌, ◌≢◌, nat_lt, slice_set, refl}
use Rattle.std.proofs.Common.{sym, ap, ap₂, subst, ◌∙◌, ⊎_elim, arith}
use Rattle.std.specs.List.{AllByRecursion}
use Rattle.std.proofs.ByRecursion.{All-weaker}
use Rattle.std.proofs.lemmas.List.{get_or-set_other}
use Rattle.std.proofs.lemmas.Bool.Decides.{nat_tests}
use Rattle.std.proofs.lemmas.Bool.{cases_eq, cases_lt, eq-eqb, ne_eqb, lt-ltb, le-ltb, cond-true, cond-false, or_parts, or_from, or_left, or_right, eqb-false}
use Rattle.orders.specs.declared.Entry.{Entry}
use Rattle.orders.specs.Meaning.{joined, waits, without, fallen, some_due, Sorted, Apart}
use Rattle.orders.specs.Rings.{named, number}
use Rattle.orders.specs.Flat.{entry}
use Rattle.orders.specs.Wheels.{lifted, lift, merged, Over}
use Rattle.orders.specs.Flats.{joined_front}

-- ---- one place in a list

pub join_here : (e x : Entry) (xs : List Entry) → e.credit < x.credit → joined e (x ∷ xs) ≡ e ∷ x ∷ xs
join_here e x xs h = cond-true (nat_lt e.credit x.credit) (e ∷ x ∷ xs) (x ∷ joined e xs) (lt-ltb e.credit x.credit h)

pub join_past : (e x : Entry) (xs : List Entry) → x.credit ≤ e.credit → joined e (x ∷ xs) ≡ x ∷ joined e xs
join_past e x xs h = cond-false (nat_lt e.credit x.credit) (e ∷ x ∷ xs) (x ∷ joined e xs) (le-ltb e.credit x.credit h)

pub join_all : (P : Entry → Type 0) (e : Entry) (xs : List Entry) → P e → AllByRecursion P xs → AllByRecursion P (joined e xs)
join_all P e [] p a = (p, tt)
join_all P e (x ∷ xs) p a = ⊎_elim
    (λ h. subst (AllByRecursion P) (sym (join_here e x xs h)) (p, a))
    (λ h. subst (AllByRecursion P) (sym (join_past e x xs h)) (a.0, join_all P e xs p a.1))
    (cases_lt e.credit x.credit)

pub join_sorted : (e : Entry) (xs : List Entry) → Sorted xs → Sorted (joined e xs)
join_sorted e [] s = (tt, tt)
join_sorted e (x ∷ xs) s = ⊎_elim
    (λ h. subst Sorted (sym (join_here e x xs h))
    ((omega arith, All-weaker (λ (y : Entry). x.credit ≤ y.credit) (λ (y : Entry). e.credit ≤ y.credit) (λ y k. omega arith) xs s.0), s))
    (λ h. subst Sorted (sym (join_past e x xs h)) (join_all (λ (y : Entry). x.credit ≤ y.credit) e xs h s.0, join_sorted e xs s.1))
    (cases_lt e.credit x.credit)

pub join_waits : (s : ℕ) (e : Entry) (xs : List Entry) → waits s (joined e xs) ≡ (e.slot == s || waits s xs)
join_waits s e [] = refl
join_waits s e (x ∷ xs) = ⊎_elim
    (λ h. ap (waits s) (join_here e x xs h))
    (λ h. ap (waits s) (join_past e x xs h) ∙ ap (λ (b : Bool). (x.slot == s) || b) (join_waits s e xs) ∙ grind (arith, nat_tests))
    (cases_lt e.credit x.credit)

pub join_apart : (e : Entry) (xs : List Entry) → waits e.slot xs ≡ false → Apart xs → Apart (joined e xs)
join_apart e [] w a = (refl, tt)
join_apart e (x ∷ xs) w a =
    let p = or_parts (x.slot == e.slot) (waits e.slot xs) w in
    ⊎_elim
    (λ h. subst Apart (sym (join_here e x xs h)) (w, a))
    (λ h. subst Apart (sym (join_past e x xs h)) (
      join_waits x.slot e xs ∙ or_from (e.slot == x.slot) (waits x.slot xs) (ne_eqb e.slot x.slot (λ z. eqb-false x.slot e.slot p.0 (sym z))) a.0,
      join_apart e xs p.1 a.1,
    ))
    (cases_lt e.credit x.credit)

-- two of different credit come in either order
pub join_swap : (d e : Entry) (xs : List Entry) → d.credit < e.credit → joined e (joined d xs) ≡ joined d (joined e xs)
join_swap d e [] h = join_past e d [] (omega arith) ∙ sym (join_here d e [] h)
join_swap d e (x ∷ xs) h = ⊎_elim
    (λ k.
    let l : d.credit < x.credit = k in
    ⊎_elim
    (λ m. ap (joined e) (join_here d x xs k) ∙ join_past e d (x ∷ xs) (omega arith) ∙ ap (λ (zs : List Entry). d ∷ zs) (join_here e x xs m)
    ∙ sym (ap (joined d) (join_here e x xs m) ∙ join_here d e (x ∷ xs) h))
    (λ m. ap (joined e) (join_here d x xs k) ∙ join_past e d (x ∷ xs) (omega arith) ∙ ap (λ (zs : List Entry). d ∷ zs) (join_past e x xs m)
    ∙ sym (ap (joined d) (join_past e x xs m) ∙ join_here d x (joined e xs) k))
    (cases_lt e.credit x.credit))
    (λ k. ap (joined e) (join_past d x xs k) ∙ join_past e x (joined d xs) (omega arith) ∙ ap (λ (zs : List Entry). x ∷ zs) (join_swap d e xs h)
    ∙ sym (ap (joined d) (join_past e x xs (omega arith)) ∙ join_past d x (joined e xs) k))
    (cases_lt d.credit x.credit)

pub join_due : (e : Entry) (xs : List Entry) → some_due (joined e xs) ≡ (e.credit == 0 || some_due xs)
join_due e [] = refl
join_due e (x ∷ xs) = ⊎_elim
    (λ h. ap some_due (join_here e x xs h))
    (λ h. ap some_due (join_past e x xs h) ∙ ap (λ (b : Bool). (x.credit == 0) || b) (join_due e xs) ∙ grind (arith, nat_tests))
    (cases_lt e.credit x.credit)

-- ---- going

pub drop_same : (s : ℕ) (x : Entry) (xs : List Entry) → x.slot ≡ s → without s (x ∷ xs) ≡ without s xs
drop_same s x xs h = cond-true (x.slot == s) (without s xs) (x ∷ without s xs) (eq-eqb x.slot s h)

pub drop_else : (s : ℕ) (x : Entry) (xs : List Entry) → (x.slot ≢ s) → without s (x ∷ xs) ≡ x ∷ without s xs
drop_else s x xs h = cond-false (x.slot == s) (without s xs) (x ∷ without s xs) (ne_eqb x.slot s h)

pub without_all : (P : Entry → Type 0) (s : ℕ) (xs : List Entry) → AllByRecursion P xs → AllByRecursion P (without s xs)
without_all P s [] a = tt
without_all P s (x ∷ xs) a = ⊎_elim
    (λ h. subst (AllByRecursion P) (sym (drop_same s x xs h)) (without_all P s xs a.1))
    (λ h. subst (AllByRecursion P) (sym (drop_else s x xs h)) (a.0, without_all P s xs a.1))
    (cases_eq x.slot s)

pub without_sorted : (s : ℕ) (xs : List Entry) → Sorted xs → Sorted (without s xs)
without_sorted s [] a = tt
without_sorted s (x ∷ xs) a = ⊎_elim
    (λ h. subst Sorted (sym (drop_same s x xs h)) (without_sorted s xs a.1))
    (λ h. subst Sorted (sym (drop_else s x xs h)) (without_all (λ (y : Entry). x.credit ≤ y.credit) s xs a.0, without_sorted s xs a.1))
    (cases_eq x.slot s)

pub waits_without : (t s : ℕ) (xs : List Entry) → waits t (without s xs) ≡ cond (t == s) false (waits t xs)
waits_without t s [] = grind (arith, nat_tests)
waits_without t s (x ∷ xs) = let h = waits_without t s xs in ⊎_elim
    (λ k. let e = drop_same s x xs k in rw e (grind (arith, nat_tests)))
    (λ k. let e = drop_else s x xs k in rw e (grind (arith, nat_tests)))
    (cases_eq x.slot s)

pub without_apart : (s : ℕ) (xs : List Entry) → Apart xs → Apart (without s xs)
without_apart s [] a = tt
without_apart s (x ∷ xs) a = ⊎_elim
    (λ h. subst Apart (sym (drop_same s x xs h)) (without_apart s xs a.1))
    (λ h. subst Apart (sym (drop_else s x xs h))
    (waits_without x.slot s xs ∙ cond-false (x.slot == s) false (waits x.slot xs) (ne_eqb x.slot s h) ∙ a.0, without_apart s xs a.1))
    (cases_eq x.slot s)

pub without_join_same : (s : ℕ) (e : Entry) (xs : List Entry) → e.slot ≡ s → without s (joined e xs) ≡ without s xs
without_join_same s e [] h = drop_same s e [] h
without_join_same s e (x ∷ xs) h = ⊎_elim
    (λ k. ap (without s) (join_here e x xs k) ∙ drop_same s e (x ∷ xs) h)
    (λ k. ap (without s) (join_past e x xs k) ∙ ⊎_elim
    (λ m. drop_same s x (joined e xs) m ∙ without_join_same s e xs h ∙ sym (drop_same s x xs m))
    (λ m. drop_else s x (joined e xs) m ∙ ap (λ (zs : List Entry). x ∷ zs) (without_join_same s e xs h) ∙ sym (drop_else s x xs m))
    (cases_eq x.slot s))
    (cases_lt e.credit x.credit)

pub without_join_else : (s : ℕ) (e : Entry) (xs : List Entry) → (e.slot ≢ s) → Sorted xs → without s (joined e xs) ≡ joined e (without s xs)
without_join_else s e [] h o = drop_else s e [] h
without_join_else s e (x ∷ xs) h o = ⊎_elim
    (λ k. ap (without s) (join_here e x xs k) ∙ drop_else s e (x ∷ xs) h
    ∙ sym (joined_front e (without s (x ∷ xs)) (without_all (λ (y : Entry). e.credit < y.credit) s (x ∷ xs)
    (k, All-weaker (λ (y : Entry). x.credit ≤ y.credit) (λ (y : Entry). e.credit < y.credit) (λ y l. omega arith) xs o.0))))
    (λ k. ap (without s) (join_past e x xs k) ∙ ⊎_elim
    (λ m. drop_same s x (joined e xs) m ∙ without_join_else s e xs h o.1 ∙ ap (joined e) (sym (drop_same s x xs m)))
    (λ m. drop_else s x (joined e xs) m ∙ ap (λ (zs : List Entry). x ∷ zs) (without_join_else s e xs h o.1) ∙ sym (ap (joined e) (drop_else s x xs m) ∙ join_past e x (without s xs) k))
    (cases_eq x.slot s))
    (cases_lt e.credit x.credit)

-- ---- falling

pub fallen_waits : (s d : ℕ) (xs : List Entry) → waits s (fallen d xs) ≡ waits s xs
fallen_waits s d [] = refl
fallen_waits s d (x ∷ xs) = ap (λ (b : Bool). (x.slot == s) || b) (fallen_waits s d xs)

pub fallen_all : (P Q : Entry → Type 0) (d : ℕ) (xs : List Entry) → ((y : Entry) → P y → Q (entry y.slot (y.credit - d))) → AllByRecursion P xs → AllByRecursion Q (fallen d xs)
fallen_all P Q d [] f a = tt
fallen_all P Q d (x ∷ xs) f a = (f x a.0, fallen_all P Q d xs f a.1)

pub fallen_sorted : (d : ℕ) (xs : List Entry) → Sorted xs → Sorted (fallen d xs)
fallen_sorted d [] s = tt
fallen_sorted d (x ∷ xs) s =
    (fallen_all (λ (y : Entry). x.credit ≤ y.credit) (λ (y : Entry). x.credit - d ≤ y.credit) d xs (λ y k. omega arith) s.0, fallen_sorted d xs s.1)

pub fallen_apart : (d : ℕ) (xs : List Entry) → Apart xs → Apart (fallen d xs)
fallen_apart d [] a = tt
fallen_apart d (x ∷ xs) a = (fallen_waits x.slot d xs ∙ a.0, fallen_apart d xs a.1)

pub fallen_join : (d : ℕ) (e : Entry) (xs : List Entry) → d ≤ e.credit → Over d xs → fallen d (joined e xs) ≡ joined (entry e.slot (e.credit - d)) (fallen d xs)
fallen_join d e [] h a = refl
fallen_join d e (x ∷ xs) h a =
    let l : d ≤ x.credit = a.0 in
    let e' : Entry = entry e.slot (e.credit - d) in
    let x' : Entry = entry x.slot (x.credit - d) in
    ⊎_elim
    (λ k. ap (fallen d) (join_here e x xs k) ∙ sym (join_here e' x' (fallen d xs) (omega arith)))
    (λ k. ap (fallen d) (join_past e x xs k) ∙ ap (λ (zs : List Entry). x' ∷ zs) (fallen_join d e xs h a.1) ∙ sym (join_past e' x' (fallen d xs) (omega arith)))
    (cases_lt e.credit x.credit)

pub fallen_twice : (c d : ℕ) (xs : List Entry) → fallen c (fallen d xs) ≡ fallen (d + c) xs
fallen_twice c d [] = refl
fallen_twice c d (x ∷ xs) = let e : x.credit - d - c ≡ x.credit - (d + c) = omega arith in ap₂ (λ (k : ℕ) (zs : List Entry). entry x.slot k ∷ zs) e (fallen_twice c d xs)

pub fallen_zero : (xs : List Entry) → fallen 0 xs ≡ xs
fallen_zero [] = refl
fallen_zero (x ∷ xs) = let e : x.credit - 0 ≡ x.credit = omega arith in ap₂ (λ (k : ℕ) (zs : List Entry). entry x.slot k ∷ zs) e (fallen_zero xs)

-- ---- merging

pub merged_waits : (s : ℕ) (acc es : List Entry) → waits s (merged acc es) ≡ (waits s acc || waits s es)
merged_waits s acc [] = grind (arith, nat_tests)
merged_waits s acc (e ∷ es) = merged_waits s (joined e acc) es ∙ ap (λ (b : Bool). b || waits s es) (join_waits s e acc) ∙ grind (arith, nat_tests)

pub merged_sorted : (acc es : List Entry) → Sorted acc → Sorted (merged acc es)
merged_sorted acc [] s = s
merged_sorted acc (e ∷ es) s = merged_sorted (joined e acc) es (join_sorted e acc s)

pub merged_due : (acc es : List Entry) → some_due (merged acc es) ≡ (some_due acc || some_due es)
merged_due acc [] = grind (arith, nat_tests)
merged_due acc (e ∷ es) = merged_due (joined e acc) es ∙ ap (λ (b : Bool). b || some_due es) (join_due e acc) ∙ grind (arith, nat_tests)

pub merged_join : (e : Entry) (acc es : List Entry) → AllByRecursion (λ (y : Entry). e.credit < y.credit) es → merged (joined e acc) es ≡ joined e (merged acc es)
merged_join e acc [] a = refl
merged_join e acc (y ∷ es) a = ap (λ (zs : List Entry). merged zs es) (join_swap e y acc a.0) ∙ merged_join e (joined y acc) es a.1

pub merged_first : (x : Entry) (acc es : List Entry) → Over x.credit es → merged (x ∷ acc) es ≡ x ∷ merged acc es
merged_first x acc [] a = refl
merged_first x acc (y ∷ es) a = ap (λ (zs : List Entry). merged zs es) (join_past y x acc a.0) ∙ merged_first x (joined y acc) es a.1

pub merged_without : (s : ℕ) (acc es : List Entry) → Sorted acc → without s (merged acc es) ≡ merged (without s acc) (without s es)
merged_without s acc [] o = refl
merged_without s acc (e ∷ es) o = merged_without s (joined e acc) es (join_sorted e acc o) ∙ ⊎_elim
    (λ k. ap₂ merged (without_join_same s e acc k) (sym (drop_same s e es k)))
    (λ k. ap (λ (zs : List Entry). merged zs (without s es)) (without_join_else s e acc k o) ∙ ap (merged (without s acc)) (sym (drop_else s e es k)))
    (cases_eq e.slot s)

pub merged_fallen : (d : ℕ) (acc es : List Entry) → Over d acc → Over d es → fallen d (merged acc es) ≡ merged (fallen d acc) (fallen d es)
merged_fallen d acc [] a b = refl
merged_fallen d acc (e ∷ es) a b = merged_fallen d (joined e acc) es (join_all (λ (y : Entry). d ≤ y.credit) e acc b.0 a) b.1
    ∙ ap (λ (zs : List Entry). merged zs (fallen d es)) (fallen_join d e acc b.0 a)

-- ---- lifting

pub due_none : (xs : List Entry) → some_due xs ≡ false → Over 1 xs
due_none [] h = tt
due_none (x ∷ xs) h = let p = or_parts (x.credit == 0) (some_due xs) h in let n = eqb-false x.credit 0 p.0 in (omega arith, due_none xs p.1)

-- each of a list waits in it
all_waits : (xs : List Entry) → AllByRecursion (λ (y : Entry). waits y.slot xs ≡ true) xs
all_waits [] = tt
all_waits (x ∷ xs) = (
  or_left (x.slot == x.slot) (waits x.slot xs) (eq-eqb x.slot x.slot refl),
  All-weaker (λ (y : Entry). waits y.slot xs ≡ true) (λ (y : Entry). waits y.slot (x ∷ xs) ≡ true) (λ y k. or_right (x.slot == y.slot) (waits y.slot xs) k) xs (all_waits xs),
)

pub all_who : (P : ℕ → Type 0) (xs : List Entry) → ((s : ℕ) → waits s xs ≡ true → P s) → AllByRecursion (λ (y : Entry). P y.slot) xs
all_who P xs f = All-weaker (λ (y : Entry). waits y.slot xs ≡ true) (λ (y : Entry). P y.slot) (λ y k. f y.slot k) xs (all_waits xs)

module _ (p : ℕ) (later : List (Option ℕ)) where
  pub lift_waits : (s : ℕ) (es : List Entry) → waits s (lift p later es) ≡ waits s es
  lift_waits s [] = refl
  lift_waits s (e ∷ es) = ap (λ (b : Bool). (e.slot == s) || b) (lift_waits s es)

  pub lift_over : p < 256 → (es : List Entry) → Over 1 es → Over (256 - p) (lift p later es)
  lift_over h [] a = tt
  lift_over h (e ∷ es) a = let l : 1 ≤ e.credit = a.0 in (omega arith, lift_over h es a.1)

  pub lift_without : (s : ℕ) (es : List Entry) → lift p later (without s es) ≡ without s (lift p later es)
  lift_without s [] = refl
  lift_without s (e ∷ es) = ⊎_elim
      (λ k. ap (lift p later) (drop_same s e es k) ∙ lift_without s es ∙ sym (drop_same s (lifted p later e) (lift p later es) k))
      (λ k. ap (lift p later) (drop_else s e es k) ∙ ap (λ (zs : List Entry). lifted p later e ∷ zs) (lift_without s es) ∙ sym (drop_else s (lifted p later e) (lift p later es) k))
      (cases_eq e.slot s)

  pub lift_set : (s : ℕ) (r : Option ℕ) (es : List Entry) → waits s es ≡ false → lift p (slice_set later s r) es ≡ lift p later es
  lift_set s r [] h = refl
  lift_set s r (e ∷ es) h =
      let q = or_parts (e.slot == s) (waits s es) h in
      let g : number (named (slice_set later s r) e.slot) ≡ number (named later e.slot) = ap number (get_or-set_other later s e.slot r None (eqb-false e.slot s q.0)) in
      ap₂ (λ (k : ℕ) (zs : List Entry). entry e.slot (256 * e.credit + k - p) ∷ zs) g (lift_set s r es q.1)

  pub lift_fall : (d : ℕ) (es : List Entry) → fallen d (lift p later es) ≡ lift (p + d) later es
  lift_fall d [] = refl
  lift_fall d (e ∷ es) =
      let g : 256 * e.credit + number (named later e.slot) - p - d ≡ 256 * e.credit + number (named later e.slot) - (p + d) = omega arith in
      ap₂ (λ (k : ℕ) (zs : List Entry). entry e.slot k ∷ zs) g (lift_fall d es)

  pub lift_down : (b : ℕ) (es : List Entry) → p ≤ 256 * b → Over b es → fallen (256 * b - p) (lift p later es) ≡ lift 0 later (fallen b es)
  lift_down b [] h a = refl
  lift_down b (e ∷ es) h a =
      let l : b ≤ e.credit = a.0 in
      let g : 256 * e.credit + number (named later e.slot) - p - (256 * b - p) ≡ 256 * (e.credit - b) + number (named later e.slot) - 0 = omega arith in
      ap₂ (λ (k : ℕ) (zs : List Entry). entry e.slot k ∷ zs) g (lift_down b es h a.1)

  -- a lifted list over a credit below
  lift_above : (e : Entry) (es : List Entry) → p < 256 → 1 ≤ e.credit → number (named later e.slot) < 256 → AllByRecursion (λ (y : Entry). e.credit < y.credit) es →
      AllByRecursion (λ (y : Entry). (lifted p later e).credit < y.credit) (lift p later es)
  lift_above e [] h c r a = tt
  lift_above e (y ∷ es) h c r a = let l : e.credit < y.credit = a.0 in (omega arith, lift_above e es h c r a.1)

  -- what joins below joins here
  pub lift_join : (acc : List Entry) (e : Entry) (es : List Entry) → p < 256 → 1 ≤ e.credit → number (named later e.slot) < 256 → Sorted es →
      merged acc (lift p later (joined e es)) ≡ joined (lifted p later e) (merged acc (lift p later es))
  lift_join acc e [] h c r o = refl
  lift_join acc e (y ∷ es) h c r o = ⊎_elim
      (λ k. ap (λ (zs : List Entry). merged acc (lift p later zs)) (join_here e y es k)
      ∙ merged_join (lifted p later e) acc (lift p later (y ∷ es)) (lift_above e (y ∷ es) h c r
      (k, All-weaker (λ (z : Entry). y.credit ≤ z.credit) (λ (z : Entry). e.credit < z.credit) (λ z l. omega arith) es o.0)))
      (λ k. ap (λ (zs : List Entry). merged acc (lift p later zs)) (join_past e y es k) ∙ lift_join (joined (lifted p later y) acc) e es h c r o.1)
      (cases_lt e.credit y.credit)
