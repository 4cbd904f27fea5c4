-- The credit of each slot, after one is placed, withdrawn or expelled.
use Rattle.std.proofs.Common.{◌≡◌, ℕ, ◌-◌, ◌<◌, ◌≤◌, true, false, cond, ◌||◌, eqb, ltb, ◌⊎◌, List, [], ◌∷◌, is_some, Some, None, Option, sym, refl, ap, ◌∙◌, inl, inr, ⊎_elim, arith}
use Rattle.std.specs.List.{AllByRecursion}
use Rattle.std.proofs.lemmas.Bool.{cases_Bool, eq-eqb, ne_eqb, eqb-true, eqb-false, cond-true, cond-false, or_parts}
use Rattle.orders.specs.declared.Entry.{Entry}
use Rattle.orders.specs.declared.Expelled.{Expelled}
use Rattle.orders.specs.Meaning.{OrderMeaning, joined, waits, without, fallen, holding, takes, placed, withdrawn, leaver, rest, Sorted}
use Rattle.promises.proofs.Optional.{none_some, some_eq, some_of}
use Rattle.promises.proofs.Waits.{waits_gone, can_place}

-- the credit of a slot, if it waits
abbrev pub credit_at : List Entry → ℕ → Option ℕ
credit_at [] j = None
credit_at (e ∷ es) j = cond (eqb e.slot j) (Some e.credit) (credit_at es j)

-- a slot waits exactly if it has a credit
pub credit_waits : (es : List Entry) (j : ℕ) → is_some (credit_at es j) ≡ waits j es
credit_waits [] j = refl
credit_waits (e ∷ es) j = let h = credit_waits es j in elim (eqb e.slot j) as (λ t. is_some (cond t (Some e.credit) (credit_at es j)) ≡ (t || waits j es)) [ true ↦ refl | false ↦ h ]

pub waiting_credit : (es : List Entry) (j : ℕ) → waits j es ≡ true → (r : ℕ) × (credit_at es j ≡ Some r)
waiting_credit es j h = some_of (credit_at es j) (credit_waits es j ∙ h)

-- one goes
without_at : (i : ℕ) (es : List Entry) (j : ℕ) → credit_at (without i es) j ≡ cond (eqb i j) None (credit_at es j)
without_at i [] j = elim (eqb i j) as (λ t. ◌≡◌ {A = Option ℕ} None (cond t None None)) [ true ↦ refl | false ↦ refl ]
without_at i (e ∷ es) j = go (cases_Bool (eqb e.slot i)) (cases_Bool (eqb i j)) (cases_Bool (eqb e.slot j)) (without_at i es j)
  where
    go : (eqb e.slot i ≡ true) ⊎ (eqb e.slot i ≡ false) → (eqb i j ≡ true) ⊎ (eqb i j ≡ false) → (eqb e.slot j ≡ true) ⊎ (eqb e.slot j ≡ false) → credit_at (without i es) j ≡ cond (eqb i j) None (credit_at es j) → credit_at (without i (e ∷ es)) j ≡ cond (eqb i j) None (credit_at (e ∷ es) j)
    go (inl p) (inl q) (inl r) ih = cc
    go (inl p) (inl q) (inr r) ih = cc
    go (inl p) (inr q) (inl r) ih = absurd (eqb-false i j q (sym (eqb-true e.slot i p) ∙ eqb-true e.slot j r))
    go (inl p) (inr q) (inr r) ih = cc
    go (inr p) (inl q) (inl r) ih = absurd (eqb-false e.slot i p (eqb-true e.slot j r ∙ sym (eqb-true i j q)))
    go (inr p) (inl q) (inr r) ih = cc
    go (inr p) (inr q) (inl r) ih = cc
    go (inr p) (inr q) (inr r) ih = cc

pub withdrawn_here : (o : OrderMeaning) (i : ℕ) → credit_at (withdrawn o i).waiting i ≡ None
withdrawn_here o i = without_at i o.waiting i ∙ cond-true (eqb i i) None (credit_at o.waiting i) (eq-eqb i i refl)

pub withdrawn_other : (o : OrderMeaning) (i j : ℕ) → (j ≡ i → ⊥) → credit_at (withdrawn o i).waiting j ≡ credit_at o.waiting j
withdrawn_other o i j ne = without_at i o.waiting j ∙ cond-false (eqb i j) None (credit_at o.waiting j) (ne_eqb i j (λ e. ne (sym e)))

-- one joins that did not wait
joined_at : (x : Entry) (es : List Entry) → waits x.slot es ≡ false → (j : ℕ) → credit_at (joined x es) j ≡ cond (eqb x.slot j) (Some x.credit) (credit_at es j)
joined_at x [] h j = refl
joined_at x (e ∷ es) h j =
    let parts = or_parts (eqb e.slot x.slot) (waits x.slot es) h in
    go parts.0 (cases_Bool (ltb x.credit e.credit)) (cases_Bool (eqb x.slot j)) (cases_Bool (eqb e.slot j)) (joined_at x es parts.1 j)
  where
    go : eqb e.slot x.slot ≡ false → (ltb x.credit e.credit ≡ true) ⊎ (ltb x.credit e.credit ≡ false) → (eqb x.slot j ≡ true) ⊎ (eqb x.slot j ≡ false) → (eqb e.slot j ≡ true) ⊎ (eqb e.slot j ≡ false)
        → credit_at (joined x es) j ≡ cond (eqb x.slot j) (Some x.credit) (credit_at es j) → credit_at (joined x (e ∷ es)) j ≡ cond (eqb x.slot j) (Some x.credit) (credit_at (e ∷ es) j)
    go ne (inl p) a b ih = cc
    go ne (inr p) (inl a) (inl b) ih = absurd (eqb-false e.slot x.slot ne (eqb-true e.slot j b ∙ sym (eqb-true x.slot j a)))
    go ne (inr p) (inl a) (inr b) ih = cc
    go ne (inr p) (inr a) (inl b) ih = cc
    go ne (inr p) (inr a) (inr b) ih = cc

module _ (o : OrderMeaning) (i c : ℕ) (fit : i < o.size) (idle : waits i o.waiting ≡ false) (low : 1 ≤ c) (high : c ≤ o.span) where
  placed_at : (j : ℕ) → credit_at (placed o i c).waiting j ≡ cond (eqb i j) (Some c) (credit_at o.waiting j)
  placed_at j =
      ap (λ (m : OrderMeaning). credit_at m.waiting j) (cond-true (takes o i c) (holding o (joined (record { slot = i; credit = c }) o.waiting)) o (can_place o i c fit idle low high))
      ∙ joined_at (record { slot = i; credit = c }) o.waiting idle j

  pub placed_here : credit_at (placed o i c).waiting i ≡ Some c
  placed_here = placed_at i ∙ cond-true (eqb i i) (Some c) (credit_at o.waiting i) (eq-eqb i i refl)

  pub placed_other : (j : ℕ) → (j ≡ i → ⊥) → credit_at (placed o i c).waiting j ≡ credit_at o.waiting j
  placed_other j ne = placed_at j ∙ cond-false (eqb i j) (Some c) (credit_at o.waiting j) (ne_eqb i j (λ e. ne (sym e)))

-- one is placed anew
module _ (o : OrderMeaning) (i c : ℕ) (fit : i < o.size) (low : 1 ≤ c) (high : c ≤ o.span) where
  pub replaced_here : credit_at (placed (withdrawn o i) i c).waiting i ≡ Some c
  replaced_here = placed_here (withdrawn o i) i c fit (waits_gone i o.waiting) low high

  pub replaced_other : (j : ℕ) → (j ≡ i → ⊥) → credit_at (placed (withdrawn o i) i c).waiting j ≡ credit_at o.waiting j
  replaced_other j ne = placed_other (withdrawn o i) i c fit (waits_gone i o.waiting) low high j ne ∙ withdrawn_other o i j ne

-- the first leaves, and the others fall
abbrev pub less : ℕ → Option ℕ → Option ℕ
less d None = None
less d (Some r) = Some (r - d)

fallen_at : (d : ℕ) (es : List Entry) (j : ℕ) → credit_at (fallen d es) j ≡ less d (credit_at es j)
fallen_at d [] j = refl
fallen_at d (e ∷ es) j = let ih = fallen_at d es j in elim (eqb e.slot j) as (λ t. cond t (Some (e.credit - d)) (credit_at (fallen d es) j) ≡ less d (cond t (Some e.credit) (credit_at es j))) [ true ↦ refl | false ↦ ih ]

leaver_is : (x : Entry) (xs : List Entry) (f : Expelled) → leaver (x ∷ xs) ≡ Some f → (x.slot ≡ f.slot) × (x.credit ≡ f.credit)
leaver_is x xs f e = (ap (λ (o : Option Expelled). elim o [ None ↦ 0 | Some p ↦ p.slot ]) e, ap (λ (o : Option Expelled). elim o [ None ↦ 0 | Some p ↦ p.credit ]) e)

pub leaver_credit : (xs : List Entry) (f : Expelled) → leaver xs ≡ Some f → credit_at xs f.slot ≡ Some f.credit
leaver_credit [] f e = absurd (none_some f e)
leaver_credit (x ∷ xs) f e = let q = leaver_is x xs f e in cond-true (eqb x.slot f.slot) (Some x.credit) (credit_at xs f.slot) (eq-eqb x.slot f.slot q.0) ∙ ap (λ (n : ℕ). Some n) q.1

pub rest_at : (xs : List Entry) (f : Expelled) (j : ℕ) → leaver xs ≡ Some f → (j ≡ f.slot → ⊥) → credit_at (rest xs) j ≡ less f.credit (credit_at xs j)
rest_at [] f j e ne = absurd (none_some f e)
rest_at (x ∷ xs) f j e ne =
    let q = leaver_is x xs f e in
    fallen_at x.credit xs j ∙ ap (λ (d : ℕ). less d (credit_at xs j)) q.1
    ∙ ap (less f.credit) (sym (cond-false (eqb x.slot j) (Some x.credit) (credit_at xs j) (ne_eqb x.slot j (λ t. ne (sym t ∙ q.0)))))

all_credits : (d : ℕ) (xs : List Entry) → AllByRecursion (λ (y : Entry). d ≤ y.credit) xs → (j r : ℕ) → credit_at xs j ≡ Some r → d ≤ r
all_credits d [] a j r e = absurd (none_some r e)
all_credits d (x ∷ xs) a j r e = ⊎_elim
    (λ p. let z = some_eq x.credit r (sym (cond-true _ (Some x.credit) (credit_at xs j) p) ∙ e) in let y = a.0 in omega arith)
    (λ p. all_credits d xs a.1 j r (sym (cond-false _ (Some x.credit) (credit_at xs j) p) ∙ e))
    (cases_Bool (eqb x.slot j))

pub leaver_least : (xs : List Entry) (f : Expelled) → Sorted xs → leaver xs ≡ Some f → (j r : ℕ) → credit_at xs j ≡ Some r → f.credit ≤ r
leaver_least [] f s e j r q = absurd (none_some f e)
leaver_least (x ∷ xs) f s e j r q = let z = (leaver_is x xs f e).1 in let y : x.credit ≤ r = all_credits x.credit (x ∷ xs) (omega arith, s.0) j r q in omega arith
