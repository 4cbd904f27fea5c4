-- Who waits after one is placed, withdrawn or expelled, and that an order stays lawful.
use Rattle.std.proofs.Common.{◌≡◌, ℕ, ◌-◌, ◌<◌, ◌≤◌, Bool, true, false, cond, not, ◌&&◌, ◌||◌, eqb, ltb, leb, List, [], ◌∷◌, Some, None, Option, sym, refl, ap, ◌∙◌, subst, ⊎_elim, arith}
use Rattle.std.specs.List.{AllByRecursion}
use Rattle.std.proofs.ByRecursion.{All-weaker}
use Rattle.std.proofs.lemmas.Bool.Decides.{nat_tests}
use Rattle.std.proofs.lemmas.Bool.{cases_eq, cases_lt, cases_Bool, eq-eqb, ne_eqb, lt-ltb, le-ltb, le-leb, cond-true, cond-false, or_parts, or_from, or_left, eqb-false, ltb-true, leb-true, and_parts, and_from, not_from_false, not-true}
use Rattle.orders.specs.declared.Entry.{Entry}
use Rattle.orders.specs.declared.Expelled.{Expelled}
use Rattle.orders.specs.Meaning.{OrderMeaning, Lawful, joined, waits, without, fallen, holding, takes, placed, withdrawn, leaver, rest, expelled, Sorted, Apart}

-- ---- one joins

pub join_here : (e x : Entry) (xs : List Entry) → e.credit < x.credit → joined e (x ∷ xs) ≡ e ∷ x ∷ xs
join_here e x xs h = cond-true (ltb e.credit x.credit) (e ∷ x ∷ xs) (x ∷ joined e xs) (lt-ltb e.credit x.credit h)

pub join_past : (e x : Entry) (xs : List Entry) → x.credit ≤ e.credit → joined e (x ∷ xs) ≡ x ∷ joined e xs
join_past e x xs h = cond-false (ltb e.credit x.credit) (e ∷ x ∷ xs) (x ∷ joined e xs) (le-ltb e.credit x.credit h)

pub join_all : (P : Entry → Type 0) (e : Entry) (xs : List Entry) → P e → AllByRecursion P xs → AllByRecursion P (joined e xs)
join_all P e [] p a = (p, tt)
join_all P e (x ∷ xs) p a = ⊎_elim
    (λ h. subst (AllByRecursion P) (sym (join_here e x xs h)) (p, a))
    (λ h. subst (AllByRecursion P) (sym (join_past e x xs h)) (a.0, join_all P e xs p a.1))
    (cases_lt e.credit x.credit)

pub join_sorted : (e : Entry) (xs : List Entry) → Sorted xs → Sorted (joined e xs)
join_sorted e [] s = (tt, tt)
join_sorted e (x ∷ xs) s = ⊎_elim
    (λ h. subst Sorted (sym (join_here e x xs h))
    ((omega arith, All-weaker (λ (y : Entry). x.credit ≤ y.credit) (λ (y : Entry). e.credit ≤ y.credit) (λ y k. omega arith) xs s.0), s))
    (λ h. subst Sorted (sym (join_past e x xs h)) (join_all (λ (y : Entry). x.credit ≤ y.credit) e xs h s.0, join_sorted e xs s.1))
    (cases_lt e.credit x.credit)

pub join_waits : (s : ℕ) (e : Entry) (xs : List Entry) → waits s (joined e xs) ≡ (eqb e.slot s || waits s xs)
join_waits s e [] = refl
join_waits s e (x ∷ xs) = ⊎_elim
    (λ h. ap (waits s) (join_here e x xs h))
    (λ h. ap (waits s) (join_past e x xs h) ∙ ap (λ (b : Bool). eqb x.slot s || b) (join_waits s e xs) ∙ grind (arith, nat_tests))
    (cases_lt e.credit x.credit)

join_apart : (e : Entry) (xs : List Entry) → waits e.slot xs ≡ false → Apart xs → Apart (joined e xs)
join_apart e [] w a = (refl, tt)
join_apart e (x ∷ xs) w a =
    let p = or_parts (eqb x.slot e.slot) (waits e.slot xs) w in
    ⊎_elim
    (λ h. subst Apart (sym (join_here e x xs h)) (w, a))
    (λ h. subst Apart (sym (join_past e x xs h)) (
      join_waits x.slot e xs ∙ or_from (eqb e.slot x.slot) (waits x.slot xs) (ne_eqb e.slot x.slot (λ z. eqb-false x.slot e.slot p.0 (sym z))) a.0,
      join_apart e xs p.1 a.1,
    ))
    (cases_lt e.credit x.credit)

-- ---- one goes

pub drop_same : (s : ℕ) (x : Entry) (xs : List Entry) → x.slot ≡ s → without s (x ∷ xs) ≡ without s xs
drop_same s x xs h = cond-true (eqb x.slot s) (without s xs) (x ∷ without s xs) (eq-eqb x.slot s h)

pub drop_else : (s : ℕ) (x : Entry) (xs : List Entry) → (x.slot ≡ s → ⊥) → without s (x ∷ xs) ≡ x ∷ without s xs
drop_else s x xs h = cond-false (eqb x.slot s) (without s xs) (x ∷ without s xs) (ne_eqb x.slot s h)

pub without_all : (P : Entry → Type 0) (s : ℕ) (xs : List Entry) → AllByRecursion P xs → AllByRecursion P (without s xs)
without_all P s [] a = tt
without_all P s (x ∷ xs) a = ⊎_elim
    (λ h. subst (AllByRecursion P) (sym (drop_same s x xs h)) (without_all P s xs a.1))
    (λ h. subst (AllByRecursion P) (sym (drop_else s x xs h)) (a.0, without_all P s xs a.1))
    (cases_eq x.slot s)

without_sorted : (s : ℕ) (xs : List Entry) → Sorted xs → Sorted (without s xs)
without_sorted s [] a = tt
without_sorted s (x ∷ xs) a = ⊎_elim
    (λ h. subst Sorted (sym (drop_same s x xs h)) (without_sorted s xs a.1))
    (λ h. subst Sorted (sym (drop_else s x xs h)) (without_all (λ (y : Entry). x.credit ≤ y.credit) s xs a.0, without_sorted s xs a.1))
    (cases_eq x.slot s)

pub waits_without : (t s : ℕ) (xs : List Entry) → waits t (without s xs) ≡ cond (eqb t s) false (waits t xs)
waits_without t s [] = grind (arith, nat_tests)
waits_without t s (x ∷ xs) = let h = waits_without t s xs in ⊎_elim
    (λ k. let e = drop_same s x xs k in rw e (grind (arith, nat_tests)))
    (λ k. let e = drop_else s x xs k in rw e (grind (arith, nat_tests)))
    (cases_eq x.slot s)

-- the slot that goes waits no more, and any other as before
pub waits_gone : (s : ℕ) (xs : List Entry) → waits s (without s xs) ≡ false
waits_gone s xs = waits_without s s xs ∙ cond-true (eqb s s) false (waits s xs) (eq-eqb s s refl)

pub waits_other : (s t : ℕ) (xs : List Entry) → (t ≡ s → ⊥) → waits t (without s xs) ≡ waits t xs
waits_other s t xs n = waits_without t s xs ∙ cond-false (eqb t s) false (waits t xs) (ne_eqb t s n)

without_apart : (s : ℕ) (xs : List Entry) → Apart xs → Apart (without s xs)
without_apart s [] a = tt
without_apart s (x ∷ xs) a = ⊎_elim
    (λ h. subst Apart (sym (drop_same s x xs h)) (without_apart s xs a.1))
    (λ h. subst Apart (sym (drop_else s x xs h)) (waits_other s x.slot xs h ∙ a.0, without_apart s xs a.1))
    (cases_eq x.slot s)

-- ---- the first leaves, and the others fall

pub fallen_waits : (s d : ℕ) (xs : List Entry) → waits s (fallen d xs) ≡ waits s xs
fallen_waits s d [] = refl
fallen_waits s d (x ∷ xs) = ap (λ (b : Bool). eqb x.slot s || b) (fallen_waits s d xs)

fallen_all : (P Q : Entry → Type 0) (d : ℕ) (xs : List Entry) → ((y : Entry) → P y → Q (record { slot = y.slot; credit = y.credit - d })) → AllByRecursion P xs → AllByRecursion Q (fallen d xs)
fallen_all P Q d [] f a = tt
fallen_all P Q d (x ∷ xs) f a = (f x a.0, fallen_all P Q d xs f a.1)

fallen_sorted : (d : ℕ) (xs : List Entry) → Sorted xs → Sorted (fallen d xs)
fallen_sorted d [] s = tt
fallen_sorted d (x ∷ xs) s =
    (fallen_all (λ (y : Entry). x.credit ≤ y.credit) (λ (y : Entry). x.credit - d ≤ y.credit) d xs (λ y k. omega arith) s.0, fallen_sorted d xs s.1)

fallen_apart : (d : ℕ) (xs : List Entry) → Apart xs → Apart (fallen d xs)
fallen_apart d [] a = tt
fallen_apart d (x ∷ xs) a = (fallen_waits x.slot d xs ∙ a.0, fallen_apart d xs a.1)

pub leaver_slot : (x : Entry) (xs : List Entry) (f : Expelled) → leaver (x ∷ xs) ≡ Some f → x.slot ≡ f.slot
leaver_slot x xs f e = ap (λ (o : Option Expelled). elim o [ None ↦ 0 | Some p ↦ p.slot ]) e

pub leaver_waits : (xs : List Entry) (f : Expelled) → leaver xs ≡ Some f → waits f.slot xs ≡ true
leaver_waits [] f e = let z : ◌≡◌ {A = ℕ} 0 1 = cc in absurd (omega arith)
leaver_waits (x ∷ xs) f e = or_left (eqb x.slot f.slot) (waits f.slot xs) (eq-eqb x.slot f.slot (leaver_slot x xs f e))

pub leaver_gone : (xs : List Entry) (f : Expelled) → Apart xs → leaver xs ≡ Some f → waits f.slot (rest xs) ≡ false
leaver_gone [] f a e = refl
leaver_gone (x ∷ xs) f a e = fallen_waits f.slot x.credit xs ∙ subst (λ (n : ℕ). waits n xs ≡ false) (leaver_slot x xs f e) a.0

pub leaver_others : (xs : List Entry) (f : Expelled) (j : ℕ) → leaver xs ≡ Some f → (j ≡ f.slot → ⊥) → waits j (rest xs) ≡ waits j xs
leaver_others [] f j e n = refl
leaver_others (x ∷ xs) f j e n =
    fallen_waits j x.credit xs ∙ ap (λ (b : Bool). b || waits j xs) (sym (ne_eqb x.slot j (λ d. n (sym d ∙ leaver_slot x xs f e))))

pub none_waits : (xs : List Entry) (j : ℕ) → leaver xs ≡ None → waits j xs ≡ false
none_waits [] j e = refl
none_waits (x ∷ xs) j e = let z : ◌≡◌ {A = ℕ} 0 1 = cc in absurd (omega arith)

-- ---- a slot that can be placed

pub can_place : (m : OrderMeaning) (i c : ℕ) → i < m.size → waits i m.waiting ≡ false → 1 ≤ c → c ≤ m.span → takes m i c ≡ true
can_place m i c lt w lo hi =
    and_from _ _ (lt-ltb i m.size lt) (and_from _ _ (not_from_false (waits i m.waiting) w) (and_from _ _ (lt-ltb 0 c (omega arith)) (le-leb c m.span hi)))

pub placed_size : (m : OrderMeaning) (i c : ℕ) → (placed m i c).size ≡ m.size
placed_size m i c = ⊎_elim
    (λ e. ap (λ (o : OrderMeaning). o.size) (cond-true (takes m i c) (holding m (joined (record { slot = i; credit = c }) m.waiting)) m e))
    (λ e. ap (λ (o : OrderMeaning). o.size) (cond-false (takes m i c) (holding m (joined (record { slot = i; credit = c }) m.waiting)) m e))
    (cases_Bool (takes m i c))

pub placed_span : (m : OrderMeaning) (i c : ℕ) → (placed m i c).span ≡ m.span
placed_span m i c = ⊎_elim
    (λ e. ap (λ (o : OrderMeaning). o.span) (cond-true (takes m i c) (holding m (joined (record { slot = i; credit = c }) m.waiting)) m e))
    (λ e. ap (λ (o : OrderMeaning). o.span) (cond-false (takes m i c) (holding m (joined (record { slot = i; credit = c }) m.waiting)) m e))
    (cases_Bool (takes m i c))

pub placed_waits : (m : OrderMeaning) (i c j : ℕ) → takes m i c ≡ true → waits j (placed m i c).waiting ≡ (eqb i j || waits j m.waiting)
placed_waits m i c j e =
    ap (λ (o : OrderMeaning). waits j o.waiting) (cond-true (takes m i c) (holding m (joined (record { slot = i; credit = c }) m.waiting)) m e)
    ∙ join_waits j (record { slot = i; credit = c }) m.waiting

-- ---- the laws last

pub lawful_placed : (m : OrderMeaning) (i c : ℕ) → Lawful m → Lawful (placed m i c)
lawful_placed m i c l = by (takes m i c) refl
  where
    new : Entry
    new = record { slot = i; credit = c }

    by : (b : Bool) → takes m i c ≡ b → Lawful (cond b (holding m (joined new m.waiting)) m)
    by false e = l
    by true e =
        let p = and_parts (ltb i m.size) (not (waits i m.waiting) && (ltb 0 c && leb c m.span)) e in
        let q = and_parts (not (waits i m.waiting)) (ltb 0 c && leb c m.span) p.1 in
        let r = and_parts (ltb 0 c) (leb c m.span) q.1 in
        record {
          sorted = join_sorted new m.waiting l.sorted;
          apart = join_apart new m.waiting (not-true (waits i m.waiting) q.0) l.apart;
          slots = join_all (λ (y : Entry). y.slot < m.size) new m.waiting (ltb-true i m.size p.0) l.slots;
          credits = join_all (λ (y : Entry). y.credit ≤ m.span) new m.waiting (leb-true c m.span r.1) l.credits;
        }

pub lawful_withdrawn : (m : OrderMeaning) (s : ℕ) → Lawful m → Lawful (withdrawn m s)
lawful_withdrawn m s l = record {
  sorted = without_sorted s m.waiting l.sorted;
  apart = without_apart s m.waiting l.apart;
  slots = without_all (λ (y : Entry). y.slot < m.size) s m.waiting l.slots;
  credits = without_all (λ (y : Entry). y.credit ≤ m.span) s m.waiting l.credits;
}

lawful_fallen : (m : OrderMeaning) (d : ℕ) → Lawful m → Lawful (holding m (fallen d m.waiting))
lawful_fallen m d l = record {
  sorted = fallen_sorted d m.waiting l.sorted;
  apart = fallen_apart d m.waiting l.apart;
  slots = fallen_all (λ (y : Entry). y.slot < m.size) (λ (y : Entry). y.slot < m.size) d m.waiting (λ y k. k) l.slots;
  credits = fallen_all (λ (y : Entry). y.credit ≤ m.span) (λ (y : Entry). y.credit ≤ m.span) d m.waiting (λ y k. omega arith) l.credits;
}

lawful_rest : (m : OrderMeaning) (xs : List Entry) → Lawful (holding m xs) → Lawful (holding m (rest xs))
lawful_rest m [] l = l
lawful_rest m (x ∷ xs) l =
    lawful_fallen (holding m xs) x.credit (record { sorted = l.sorted.1; apart = l.apart.1; slots = l.slots.1; credits = l.credits.1 })

pub lawful_expelled : (m : OrderMeaning) → Lawful m → Lawful (expelled m)
lawful_expelled m l = lawful_rest m m.waiting l
