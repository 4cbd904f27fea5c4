-- The costs that the events gave and who is out by them are what the view shows.
use Rattle.std.proofs.Common.{◌≡◌, ℕ, Bool, true, false, cond, ◌||◌, List, [], ◌∷◌, Some, None, Option, sym, refl, ap, ◌∙◌, subst, ⊎_elim}
use Rattle.std.proofs.lemmas.Bool.{cases_Bool, cond-true, cond-false, or_left, or_right}
use Rattle.keys.specs.Sameness.{SameLaws}
use Rattle.promises.specs.declared.records.Ticket.{Ticket}
use Rattle.promises.specs.Events.{Event, Effect, nothing, hit, refreshed, took, took_evicting, lent_out, rewrote, came_back, removed, effect, price_of, Price, lent}
use Rattle.promises.specs.History.{same_as, cost_given, last_cost, out_after, is_out}
use Rattle.promises.proofs.Members.{same_flip, same_alike}
use Rattle.promises.proofs.Views.{Place, free, waits, lies_out, holds, lower, View, idle_nothing, idle_rewrote, Moves, rests, sees, touches, refreshes, takes, evicts, lends, takes_back, removes, Leads}
use Rattle.promises.proofs.Fine.{Apart, Costs, Fine, only_all, expels_all, lower_costs, fine_line, unheld_expels}
use Rattle.promises.proofs.Lying.{Match, lent_place, ticket, Agree, agree_line}

-- a region that lies out is out by the events
abbrev pub Noted : {K : Type 0} → (K → Bool) → Place K → Type 0
Noted out free = Unit {0}
Noted out (waits k c r) = Unit {0}
Noted out (lies_out k c) = out k ≡ true

lower_noted : {K : Type 0} (out : K → Bool) (d : ℕ) (p : Place K) → Noted out p → Noted out (lower d p)
lower_noted out d free h = tt
lower_noted out d (waits k c r) h = tt
lower_noted out d (lies_out k c) h = h

module _ {K : Type 0} (same : K → K → Bool) {home : K → ℕ} (laws : SameLaws same home) where
  -- same keys are the same to any third
  alike_to : (l a b : K) → same a b ≡ true → same l a ≡ same l b
  alike_to l a b e = same_flip same laws l a ∙ same_alike same laws a b l e ∙ same_flip same laws b l

  alike_option : (o : Option K) (a b : K) → same a b ≡ true → same_as same a o ≡ same_as same b o
  alike_option None a b e = refl
  alike_option (Some l) a b e = alike_to l a b e

  -- the costs and who is out respect sameness
  cost_alike : (o : Option (Price K)) (a b : K) (x y : ℕ) → same a b ≡ true → x ≡ y → cost_given same a o x ≡ cost_given same b o y
  cost_alike None a b x y e q = q
  cost_alike (Some p) a b x y e q = let t = alike_to p.key a b e in cc

  pub last_cost_alike : (es : List (Event K)) (a b : K) → same a b ≡ true → last_cost same es a ≡ last_cost same es b
  last_cost_alike [] a b e = refl
  last_cost_alike (d ∷ es) a b e = cost_alike (price_of (effect d)) a b _ _ e (last_cost_alike es a b e)

  out_alike : (d : Effect K) (es : List (Event K)) (a b : K) (x y : Bool) → same a b ≡ true → x ≡ y → out_after same d es a x ≡ out_after same d es b y
  out_alike nothing es a b x y e q = q
  out_alike (hit l) es a b x y e q = q
  out_alike (refreshed l c v) es a b x y e q = q
  out_alike (took l c v) es a b x y e q = q
  out_alike (took_evicting l c v z) es a b x y e q = q
  out_alike (lent_out l t) es a b x y e q = let p = alike_to l a b e in cc
  out_alike (rewrote t v) es a b x y e q = q
  out_alike (came_back t) es a b x y e q = let p = alike_option (lent es t) a b e in cc
  out_alike (removed l) es a b x y e q = q

  pub is_out_alike : (es : List (Event K)) (a b : K) → same a b ≡ true → is_out same es a ≡ is_out same es b
  is_out_alike [] a b e = refl
  is_out_alike (d ∷ es) a b e = out_alike (effect d) es a b _ _ e (is_out_alike es a b e)

  -- a key that is given a cost, and the others
  priced_own : (k l : K) (c x : ℕ) → same l k ≡ true → c ≡ cost_given same l (Some (record { key = k; cost = c })) x
  priced_own k l c x s = sym (cond-true (same k l) c x (laws.symmetric l k s))

  priced_other : (k : K) (c : ℕ) (cost : K → ℕ) (p : Place K) → holds same k p ≡ false → Costs cost p → Costs (λ x. cost_given same x (Some (record { key = k; cost = c })) (cost x)) p
  priced_other k c cost free h co = tt
  priced_other k c cost (waits l d r) h co = co ∙ sym (cond-false (same k l) c (cost l) (same_flip same laws k l ∙ h))
  priced_other k c cost (lies_out l d) h co = co ∙ sym (cond-false (same k l) c (cost l) (same_flip same laws k l ∙ h))

  -- no other slot holds the key of a slot
  elsewhere : (v : View K) → Apart same v → (k : K) (i : ℕ) → holds same k (v i) ≡ true → (j : ℕ) → (j ≡ i → ⊥) → holds same k (v j) ≡ false
  elsewhere v apart k i h j ne = ⊎_elim (λ t. absurd (ne (apart j i k t h))) (λ t. t) (cases_Bool (holds same k (v j)))

  module _ (n mark : ℕ) where
    pub costs_given : {v w : View K} {e : Effect K} → Moves same n mark v w e → Fine same v → (cost : K → ℕ) → ((i : ℕ) → Costs cost (v i)) → (i : ℕ) → Costs (λ x. cost_given same x (price_of e) (cost x)) (w i)
    costs_given (rests idle_nothing s) fine cost h = λ i. subst (Costs cost) (sym (s i)) (h i)
    costs_given (rests (idle_rewrote _ _) s) fine cost h = λ i. subst (Costs cost) (sym (s i)) (h i)
    costs_given (sees _ _ _ _ s) fine cost h = λ i. subst (Costs cost) (sym (s i)) (h i)
    costs_given (touches i c r l e s o) fine cost h = only_all o (λ j q. Costs cost q) (subst (Costs cost) e (h i)) (λ j ne. h j)
    costs_given {v = v} (refreshes {k = k} {l = l} {d = d} i c r lt e s pos o) fine cost h =
        only_all o (λ j q. Costs (λ x. cost_given same x (Some (record { key = k; cost = d })) (cost x)) q) (priced_own k l d (cost l) s)
        (λ j ne. priced_other k d cost (v j) (elsewhere v fine.apart k i (ap (holds same k) e ∙ s) j ne) (h j))
    costs_given {v = v} (takes {k = k} {d = d} i u o) fine cost h =
        only_all o.entered (λ j q. Costs (λ x. cost_given same x (Some (record { key = k; cost = d })) (cost x)) q) (priced_own k k d (cost k) (laws.reflexive k)) (λ j ne. priced_other k d cost (v j) (u j) (h j))
    costs_given {v = v} (evicts {k = k} {d = d} i j least x u full ex en) fine cost h =
        only_all en.entered (λ j q. Costs (λ x. cost_given same x (Some (record { key = k; cost = d })) (cost x)) q) (priced_own k k d (cost k) (laws.reflexive k))
        (λ j ne. priced_other k d cost (x j) (unheld_expels same laws n mark k ex u j) (expels_all ex (λ j q. Costs cost q) tt (λ j ne. lower_costs cost least (v j) (h j)) j))
    costs_given (lends {t = t} c r mk l e s o) fine cost h = only_all o (λ j q. Costs cost q) (subst (Costs cost) e (h t.slot)) (λ j ne. h j)
    costs_given (takes_back {t = t} c mk l e o) fine cost h = only_all o (λ j q. Costs cost q) (subst (Costs cost) e (h t.slot)) (λ j ne. h j)
    costs_given (removes i c r l e s o) fine cost h = only_all o (λ j q. Costs cost q) tt (λ j ne. h j)

    -- the cost at a slot is the cost that was last given
    pub last_costs : (es : List (Event K)) (v : View K) → Leads same n mark es v → (i : ℕ) → Costs (last_cost same es) (v i)
    last_costs [] v l = λ i. subst (Costs (last_cost same [])) (sym (l i)) tt
    last_costs (e ∷ es) w (v, l, m) = costs_given m (fine_line same laws n mark es v l) (last_cost same es) (last_costs es v l)

    -- a region that comes back is not one that stays out
    stays_noted : (es : List (Event K)) (out : K → Bool) (t : Ticket) (k : K) (p : Place K) → Match same (lent es t) (Some k) → holds same k p ≡ false → Noted out p → Noted (λ x. cond (same_as same x (lent es t)) false (out x)) p
    stays_noted es out t k free m h o = tt
    stays_noted es out t k (waits x c r) m h o = tt
    stays_noted es out t k (lies_out x c) m h o = cond-false (same_as same x (lent es t)) false (out x) (go (lent es t) m) ∙ o
      where
        go : (y : Option K) → Match same y (Some k) → same_as same x y ≡ false
        go None m = refl
        go (Some y) m = same_alike same laws y k x m ∙ same_flip same laws k x ∙ h

    pub noted_step : {v w : View K} {e : Effect K} → Moves same n mark v w e → Fine same v → (es : List (Event K)) → Agree same mark (lent es) v → (out : K → Bool) → ((i : ℕ) → Noted out (v i)) → (i : ℕ) → Noted (λ x. out_after same e es x (out x)) (w i)
    noted_step (rests idle_nothing s) fine es a out h = λ i. subst (Noted out) (sym (s i)) (h i)
    noted_step (rests (idle_rewrote _ _) s) fine es a out h = λ i. subst (Noted out) (sym (s i)) (h i)
    noted_step (sees _ _ _ _ s) fine es a out h = λ i. subst (Noted out) (sym (s i)) (h i)
    noted_step (touches i c r l e s o) fine es a out h = only_all o (λ j q. Noted out q) tt (λ j ne. h j)
    noted_step (refreshes i c r lt e s pos o) fine es a out h = only_all o (λ j q. Noted out q) tt (λ j ne. h j)
    noted_step (takes i u o) fine es a out h = only_all o.entered (λ j q. Noted out q) tt (λ j ne. h j)
    noted_step {v = v} (evicts i j least x u full ex en) fine es a out h =
        only_all en.entered (λ j q. Noted out q) tt (λ j ne. expels_all ex (λ j q. Noted out q) tt (λ j ne. lower_noted out least (v j) (h j)) j)
    noted_step {v = v} (lends {k = k} {l = l} {t = t} c r mk lt e s o) fine es a out h =
        only_all o (λ j q. Noted (λ x. same k x || out x) q) (or_left (same k l) (out l) (laws.symmetric l k s)) (λ j ne. more (v j) (h j))
      where
        more : (p : Place K) → Noted out p → Noted (λ x. same k x || out x) p
        more free h = tt
        more (waits x c r) h = tt
        more (lies_out x c) h = or_right (same k x) (out x) h
    noted_step {v = v} (takes_back {k = k} {t = t} c mk lt e o) fine es a out h =
        only_all o (λ j q. Noted (λ x. cond (same_as same x (lent es t)) false (out x)) q) tt
        (λ j ne. stays_noted es out t k (v j) own (elsewhere v fine.apart k t.slot (ap (holds same k) e ∙ laws.reflexive k) j ne) (h j))
      where
        own : Match same (lent es t) (Some k)
        own = subst (λ y. Match same (lent es t) (lent_place y)) e (subst (λ (y : ℕ). Match same (lent es (ticket y t.slot)) (lent_place (v t.slot))) (sym mk) (a.slots t.slot))
    noted_step (removes i c r lt e s o) fine es a out h = only_all o (λ j q. Noted out q) tt (λ j ne. h j)

    pub noted_line : (es : List (Event K)) (v : View K) → Leads same n mark es v → (i : ℕ) → Noted (is_out same es) (v i)
    noted_line [] v l = λ i. subst (Noted (is_out same [])) (sym (l i)) tt
    noted_line (e ∷ es) w (v, l, m) = noted_step m (fine_line same laws n mark es v l) es (agree_line same laws n mark es v l) (is_out same es) (noted_line es v l)
