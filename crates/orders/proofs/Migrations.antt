-- What a migration moves: the slots that the order below has due, one after the other.
use Rattle.std.proofs.Common.{◌≡◌, ℕ, ◌+◌, ◌-◌, ◌*◌, ◌<◌, ◌≤◌, false, cond, eqb, List, [], ◌∷◌, ◌++◌, set, Some, None, Option, sym, refl, ap, ◌∙◌, ap₂, ⊎_elim, append_assoc, append-nil, arith}
use Rattle.std.proofs.lemmas.List.{get_or-set_other}
use Rattle.std.proofs.lemmas.Bool.{cases_eq, cases_lt, eq-eqb, ne_eqb, eqb-false, cond-true, cond-false, or_parts, or_from}
use Rattle.orders.specs.declared.Entry.{Entry}
use Rattle.orders.specs.Meaning.{OrderMeaning, waits, fallen, rest, holding}
use Rattle.orders.specs.Rings.{named, names, holds}
use Rattle.orders.specs.Rows.{Bare, BareBetween, Joins, Leaves}
use Rattle.orders.specs.Flat.{entry}
use Rattle.orders.specs.Wheels.{Over}
use Rattle.orders.specs.declared.Expelled.{Expelled}
use Rattle.orders.specs.declared.Order.{Ghosts}
use Rattle.orders.specs.declared.wheel.Wheel.{Wheel}
use Rattle.orders.specs.Moved.{of_credit, past_credit, bound_for, forgotten, least, row, migrated, Migrated}
use Rattle.orders.specs.Turns.{waiting_below, ExpelledOwn, ExpelledBelow}

of_here : (c : ℕ) (e : Entry) (es : List Entry) → e.credit ≡ c → of_credit c (e ∷ es) ≡ e.slot ∷ of_credit c es
of_here c e es h = cond-true (eqb e.credit c) (e.slot ∷ of_credit c es) (of_credit c es) (eq-eqb e.credit c h)

of_else : (c : ℕ) (e : Entry) (es : List Entry) → (e.credit ≡ c → ⊥) → of_credit c (e ∷ es) ≡ of_credit c es
of_else c e es h = cond-false (eqb e.credit c) (e.slot ∷ of_credit c es) (of_credit c es) (ne_eqb e.credit c h)

past_here : (c : ℕ) (e : Entry) (es : List Entry) → e.credit ≡ c → past_credit c (e ∷ es) ≡ past_credit c es
past_here c e es h = cond-true (eqb e.credit c) (past_credit c es) (entry e.slot (e.credit - c) ∷ past_credit c es) (eq-eqb e.credit c h)

past_else : (c : ℕ) (e : Entry) (es : List Entry) → (e.credit ≡ c → ⊥) → past_credit c (e ∷ es) ≡ entry e.slot (e.credit - c) ∷ past_credit c es
past_else c e es h = cond-false (eqb e.credit c) (past_credit c es) (entry e.slot (e.credit - c) ∷ past_credit c es) (ne_eqb e.credit c h)

-- what is due after a fall was of that credit before
of_fallen : (c : ℕ) (es : List Entry) → Over c es → of_credit 0 (fallen c es) ≡ of_credit c es
of_fallen c [] o = refl
of_fallen c (e ∷ es) o =
    let l : c ≤ e.credit = o.0 in
    ⊎_elim
    (λ h. of_here 0 (entry e.slot (e.credit - c)) (fallen c es) (omega arith) ∙ ap (λ (zs : List ℕ). e.slot ∷ zs) (of_fallen c es o.1) ∙ sym (of_here c e es h))
    (λ h. of_else 0 (entry e.slot (e.credit - c)) (fallen c es) (λ z. h (omega arith)) ∙ of_fallen c es o.1 ∙ sym (of_else c e es h))
    (cases_eq e.credit c)

past_fallen : (c : ℕ) (es : List Entry) → Over c es → past_credit 0 (fallen c es) ≡ past_credit c es
past_fallen c [] o = refl
past_fallen c (e ∷ es) o =
    let l : c ≤ e.credit = o.0 in
    ⊎_elim
    (λ h. past_here 0 (entry e.slot (e.credit - c)) (fallen c es) (omega arith) ∙ past_fallen c es o.1 ∙ sym (past_here c e es h))
    (λ h. let z : e.credit - c - 0 ≡ e.credit - c = omega arith in
    past_else 0 (entry e.slot (e.credit - c)) (fallen c es) (λ i. h (omega arith))
    ∙ ap₂ (λ (n : ℕ) (zs : List Entry). entry e.slot n ∷ zs) z (past_fallen c es o.1) ∙ sym (past_else c e es h))
    (cases_eq e.credit c)

-- nothing due: nothing to move
of_none : (es : List Entry) → Over 1 es → of_credit 0 es ≡ []
of_none [] o = refl
of_none (e ∷ es) o = let l : 1 ≤ e.credit = o.0 in of_else 0 e es (λ h. omega arith) ∙ of_none es o.1

past_none : (es : List Entry) → Over 1 es → past_credit 0 es ≡ es
past_none [] o = refl
past_none (e ∷ es) o =
    let l : 1 ≤ e.credit = o.0 in
    let z : e.credit - 0 ≡ e.credit = omega arith in
    past_else 0 e es (λ h. omega arith) ∙ ap₂ (λ (n : ℕ) (zs : List Entry). entry e.slot n ∷ zs) z (past_none es o.1)

-- what is remembered of one slot does not matter to the others
of_holds : (s c : ℕ) (es : List Entry) → waits s es ≡ false → holds s (of_credit c es) ≡ false
of_holds s c [] h = refl
of_holds s c (e ∷ es) h =
    let p = or_parts (eqb e.slot s) (waits s es) h in
    ⊎_elim
    (λ i. ap (holds s) (of_here c e es i) ∙ or_from (eqb e.slot s) (holds s (of_credit c es)) p.0 (of_holds s c es p.1))
    (λ i. ap (holds s) (of_else c e es i) ∙ of_holds s c es p.1)
    (cases_eq e.credit c)

bound_set : (later : List (Option ℕ)) (s : ℕ) (r : Option ℕ) (q : ℕ) (ss : List ℕ) → holds s ss ≡ false → bound_for (set later s r) q ss ≡ bound_for later q ss
bound_set later s r q [] h = refl
bound_set later s r q (x ∷ xs) h =
    let p = or_parts (eqb x s) (holds s xs) h in
    let n : named (set later s r) x ≡ named later x = get_or-set_other later s x r None (eqb-false x s p.0) in
    ap₂ (λ (a : Option ℕ) (zs : List ℕ). cond (names a q) (x ∷ zs) zs) n (bound_set later s r q xs p.1)

-- ---- on the way up: what stands in the queues, and what is yet to come, make up the whole

module _ (whole : ℕ → List ℕ) (last : List (Option ℕ)) (rests : List Entry) where
  pub record Climbs (c : ℕ) (qs : ℕ → List ℕ) (later : List (Option ℕ)) (us : List Entry) : Type 0 where
    pub queues : (q : ℕ) → q < 256 → qs q ++ bound_for later q (of_credit c us) ≡ whole q
    pub memory : forgotten later (of_credit c us) ≡ last
    pub past : past_credit c us ≡ rests

  module _ (c : ℕ) (qs qs' : ℕ → List ℕ) (later : List (Option ℕ)) (e : Entry) (es : List Entry) (k : Climbs c qs later (e ∷ es))
      (due : e.credit ≡ c) (over : Over c es) (apart : waits e.slot es ≡ false) (r : ℕ) (there : named later e.slot ≡ Some r) (joins : Joins qs qs' r e.slot) where
    abbrev next_up : List ℕ
    next_up = of_credit c es

    step_queue : (q : ℕ) → q < 256 → qs' q ++ bound_for later q next_up ≡ qs q ++ bound_for later q (e.slot ∷ next_up)
    step_queue q h =
        let s : ℕ = e.slot in
        let B : List ℕ = bound_for later q next_up in
        ⊎_elim
        (λ i. ap (λ (zs : List ℕ). zs ++ B) (joins q h ∙ cond-true (eqb q r) (qs q ++ s ∷ []) (qs q) (eq-eqb q r (sym i)))
        ∙ append_assoc (qs q) (s ∷ []) B
        ∙ ap (λ (zs : List ℕ). qs q ++ zs) (sym (cond-true (names (named later s) q) (s ∷ B) B (ap (λ (o : Option ℕ). names o q) there ∙ eq-eqb r q i))))
        (λ i. ap (λ (zs : List ℕ). zs ++ B) (joins q h ∙ cond-false (eqb q r) (qs q ++ s ∷ []) (qs q) (ne_eqb q r (λ z. i (sym z))))
        ∙ ap (λ (zs : List ℕ). qs q ++ zs) (sym (cond-false (names (named later s) q) (s ∷ B) B (ap (λ (o : Option ℕ). names o q) there ∙ ne_eqb r q i))))
        (cases_eq r q)

    pub climb : Climbs 0 qs' (set later e.slot None) (fallen c es)
    climb =
        let f = of_fallen c es over in
        record {
          queues = λ q h. ap (λ (zs : List ℕ). qs' q ++ bound_for (set later e.slot None) q zs) f
              ∙ ap (λ (zs : List ℕ). qs' q ++ zs) (bound_set later e.slot None q next_up (of_holds e.slot c es apart))
              ∙ step_queue q h
              ∙ ap (λ (zs : List ℕ). qs q ++ bound_for later q zs) (sym (of_here c e es due))
              ∙ k.queues q h;
          memory = ap (forgotten (set later e.slot None)) f ∙ ap (forgotten later) (sym (of_here c e es due)) ∙ k.memory;
          past = past_fallen c es over ∙ sym (past_here c e es due) ∙ k.past;
        }

  -- none is due any more
  module _ (qs : ℕ → List ℕ) (later : List (Option ℕ)) (us : List Entry) (k : Climbs 0 qs later us) (over : Over 1 us) where
    pub up_queues : (q : ℕ) → q < 256 → qs q ≡ whole q
    up_queues q h = sym (append-nil (qs q)) ∙ ap (λ (zs : List ℕ). qs q ++ bound_for later q zs) (sym (of_none us over)) ∙ k.queues q h

    pub up_memory : later ≡ last
    up_memory = ap (forgotten later) (sym (of_none us over)) ∙ k.memory

    pub up_past : us ≡ rests
    up_past = sym (past_none us over) ∙ k.past

-- the order below keeps its size and span
pub kept_sizes : (m₀ m n : OrderMeaning) → n ≡ holding m (rest m.waiting) → m ≡ holding m₀ m.waiting → n ≡ holding m₀ n.waiting
kept_sizes m₀ m n e k =
    e ∙ ap (λ (z : OrderMeaning). holding z (rest m.waiting)) k ∙ ap (λ (z : OrderMeaning). holding m₀ z.waiting) (sym e)

-- a row that is the same, queue by queue
pub leaves_from : (before before' after : ℕ → List ℕ) (p p' q s : ℕ) → p ≡ p' → ((k : ℕ) → k < 256 → before k ≡ before' k) → Leaves before after p q s → Leaves before' after p' q s
leaves_from before before' after p p' q s e same l =
    let w : q < 256 = l.within in
    let o = l.onward in
    record {
      onward = omega arith;
      within = w;
      passed = λ k a b. sym (same k (omega arith)) ∙ l.passed k (omega arith) b;
      front = sym (same q w) ∙ l.front;
      others = λ k h n. l.others k h n ∙ same k h;
    }

-- none from the hand on, and none before it
pub bare_of : (qs : ℕ → List ℕ) (p : ℕ) → ((k : ℕ) → k < p → qs k ≡ []) → BareBetween qs p 256 → Bare qs
bare_of qs p spent left k h = ⊎_elim (λ l. spent k l) (λ l. left k l h) (cases_lt k p)

-- v stands between a migration from w and a pop to t
pub expelled_below : (O : Type 0) (g : Ghosts O) (w v t : Wheel O g) (e : Expelled) (n : ℕ) → Bare (row w.own) → Migrated w.own v.own (g.meaning w.below) (g.meaning v.below) →
    ExpelledOwn O g e v t → w.own.hand + n ≡ 256 * least (waiting_below O g w) + e.credit → ExpelledBelow O g (record { slot = e.slot; credit = n }) w t
expelled_below O g w v t e n bare up own far = let a = up.hand in let b = own.far in record {
  bare = bare;
  leaves = leaves_from (row v.own) (migrated w.own (g.meaning w.below)) (row t.own) v.own.hand 0 t.own.hand e.slot up.hand up.queues own.leaves;
  far = omega arith;
  moved_up = record { later = own.later ∙ up.moved_up.later; below = ap g.meaning own.below ∙ up.moved_up.below };
}
