-- What holds of every view that a line leads to.
use Rattle.std.proofs.Common.{◌≡◌, ℕ, ◌≤◌, Bool, true, false, List, [], ◌∷◌, sym, refl, ap, ◌∙◌, subst, ⊎_elim, arith}
use Rattle.std.proofs.lemmas.Bool.{cases_eq, both_ways}
use Rattle.keys.specs.Sameness.{SameLaws}
use Rattle.promises.specs.Events.{Event, Effect, effect, price_of, Each}
use Rattle.promises.specs.History.{Priced}
use Rattle.promises.proofs.Views.{Place, free, waits, lies_out, holds, lower, View, Alike, Only, Expels, Enters, Unheld, Moves, rests, sees, touches, refreshes, takes, evicts, lends, takes_back, removes, Leads}

module _ {K : Type 0} {i : ℕ} {p : Place K} {v w : View K} where
  -- what holds of the changed slot, and of the others
  pub only_all : Only i p v w → (Q : ℕ → Place K → Type 0) → Q i p → ((j : ℕ) → (j ≡ i → ⊥) → Q j (v j)) → (j : ℕ) → Q j (w j)
  only_all o Q a f j = ⊎_elim (λ e. subst (λ x. Q x (w x)) (sym e) (subst (Q i) (sym o.here) a)) (λ d. subst (Q j) (sym (o.others j d)) (f j d)) (cases_eq j i)

pub expels_all : {K : Type 0} {n i d : ℕ} {e : K} {v w : View K} → Expels n i d e v w → (Q : ℕ → Place K → Type 0) → Q i free → ((j : ℕ) → (j ≡ i → ⊥) → Q j (lower d (v j))) → (j : ℕ) → Q j (w j)
expels_all {i = i} {w = w} o Q a f j = ⊎_elim (λ e. subst (λ x. Q x (w x)) (sym e) (subst (Q i) (sym o.gone) a)) (λ d. subst (Q j) (sym (o.others j d)) (f j d)) (cases_eq j i)

-- no two slots hold the same key
abbrev pub Apart : {K : Type 0} → (K → K → Bool) → View K → Type 0
Apart {K} same v = (i j : ℕ) (k : K) → holds same k (v i) ≡ true → holds same k (v j) ≡ true → i ≡ j

abbrev pub Proper : {K : Type 0} → Place K → Type 0
Proper free = Unit {0}
Proper (waits k c r) = (r ≤ c) × (1 ≤ c)
Proper (lies_out k c) = 1 ≤ c

abbrev pub Costs : {K : Type 0} → (K → ℕ) → Place K → Type 0
Costs cost free = Unit {0}
Costs cost (waits k c r) = c ≡ cost k
Costs cost (lies_out k c) = c ≡ cost k

pub lower_proper : {K : Type 0} (d : ℕ) (p : Place K) → Proper p → Proper (lower d p)
lower_proper d free h = tt
lower_proper d (waits k c r) h = (omega arith, h.1)
lower_proper d (lies_out k c) h = h

pub lower_costs : {K : Type 0} (cost : K → ℕ) (d : ℕ) (p : Place K) → Costs cost p → Costs cost (lower d p)
lower_costs cost d free h = tt
lower_costs cost d (waits k c r) h = h
lower_costs cost d (lies_out k c) h = h

pub lower_holds : {K : Type 0} (same : K → K → Bool) (k : K) (d : ℕ) (p : Place K) → holds same k (lower d p) ≡ holds same k p
lower_holds same k d free = refl
lower_holds same k d (waits l c r) = refl
lower_holds same k d (lies_out l c) = refl

module _ {K : Type 0} (same : K → K → Bool) {home : K → ℕ} (laws : SameLaws same home) where
  pub shrinks : (v w : View K) → ((j : ℕ) (k : K) → holds same k (w j) ≡ true → holds same k (v j) ≡ true) → Apart same v → Apart same w
  shrinks v w h a i j k p q = a i j k (h i k p) (h j k q)

  pub only_shrinks : {i : ℕ} {p : Place K} {v w : View K} → Only i p v w → ((k : K) → holds same k p ≡ true → holds same k (v i) ≡ true) → (j : ℕ) (k : K) → holds same k (w j) ≡ true → holds same k (v j) ≡ true
  only_shrinks {v = v} o h = only_all o (λ j q. (k : K) → holds same k q ≡ true → holds same k (v j) ≡ true) h (λ j d k t. t)

  pub expels_shrinks : {n i d : ℕ} {e : K} {v w : View K} → Expels n i d e v w → (j : ℕ) (k : K) → holds same k (w j) ≡ true → holds same k (v j) ≡ true
  expels_shrinks {d = d} {v = v} o = expels_all o (λ j q. (k : K) → holds same k q ≡ true → holds same k (v j) ≡ true) (λ k t. absurd (both_ways false refl t)) (λ j ne k t. sym (lower_holds same k d (v j)) ∙ t)

  -- a region that keeps its key
  pub stays : {i : ℕ} {p q : Place K} {v w : View K} → Only i p v w → v i ≡ q → ((k : K) → holds same k p ≡ holds same k q) → Apart same v → Apart same w
  stays {v = v} {w = w} o e h a = shrinks v w (only_shrinks o (λ k t. ap (holds same k) e ∙ sym (h k) ∙ t)) a

  pub enters_apart : {n i : ℕ} {x : K} {c : ℕ} {v w : View K} → Enters n i x c v w → Unheld same x v → Apart same v → Apart same w
  enters_apart {i = i} {x = x} {v = v} {w = w} o u a =
      only_all o.entered (λ j q. (j' : ℕ) (k : K) → holds same k q ≡ true → holds same k (w j') ≡ true → j ≡ j')
      (only_all o.entered (λ j q. (k : K) → same x k ≡ true → holds same k q ≡ true → i ≡ j) (λ k s t. refl) (λ j d k s t. absurd (clash j k s t)))
      (λ j d. only_all o.entered (λ j' q. (k : K) → holds same k (v j) ≡ true → holds same k q ≡ true → j ≡ j') (λ k s t. absurd (clash j k t s)) (λ j' d' k s t. a j j' k s t))
    where
      clash' : (p : Place K) (k : K) → holds same x p ≡ false → same x k ≡ true → holds same k p ≡ true → ⊥
      clash' free k u s t = both_ways false refl t
      clash' (waits l c r) k u s t = both_ways (same l x) u (laws.transitive l k x t (laws.symmetric x k s))
      clash' (lies_out l c) k u s t = both_ways (same l x) u (laws.transitive l k x t (laws.symmetric x k s))

      clash : (j : ℕ) (k : K) → same x k ≡ true → holds same k (v j) ≡ true → ⊥
      clash j k s t = clash' (v j) k (u j) s t

pub record Fine {K : Type 0} (same : K → K → Bool) (v : View K) : Type 0 where
  pub apart : Apart same v
  pub proper : (i : ℕ) → Proper (v i)

module _ {K : Type 0} (same : K → K → Bool) {home : K → ℕ} (laws : SameLaws same home) (n mark : ℕ) where
  pub fine_expels : {i d : ℕ} {e : K} {v w : View K} → Expels n i d e v w → Fine same v → Fine same w
  fine_expels {d = d} {v = v} {w = w} o f = record {
    apart = shrinks same laws v w (expels_shrinks same laws o) f.apart;
    proper = expels_all o (λ j q. Proper q) tt (λ j ne. lower_proper d (v j) (f.proper j));
  }

  pub fine_enters : {i c : ℕ} {x : K} {v w : View K} → Enters n i x c v w → Unheld same x v → Fine same v → Fine same w
  fine_enters {c = c} {v = v} o u f = record {
    apart = enters_apart same laws o u f.apart;
    proper = only_all o.entered (λ j q. Proper q) (omega arith, o.positive) (λ j ne. f.proper j);
  }

  pub fine_only : {i : ℕ} {p q : Place K} {v w : View K} → Only i p v w → v i ≡ q → ((k : K) → holds same k p ≡ holds same k q) → Proper p → Fine same v → Fine same w
  fine_only o e h pr f = record {
    apart = stays same laws o e h f.apart;
    proper = only_all o (λ j q. Proper q) pr (λ j ne. f.proper j);
  }

  -- a key that nobody holds is still held by nobody after an expulsion
  pub unheld_expels : (x : K) {i d : ℕ} {e : K} {v w : View K} → Expels n i d e v w → Unheld same x v → Unheld same x w
  unheld_expels x {d = d} {v = v} o u = expels_all o (λ j q. holds same x q ≡ false) refl (λ j ne. lower_holds same x d (v j) ∙ u j)

  pub fine_alike : {v w : View K} → Alike v w → Fine same v → Fine same w
  fine_alike {v} {w} s f = record {
    apart = shrinks same laws v w (λ j k t. ap (holds same k) (sym (s j)) ∙ t) f.apart;
    proper = λ i. subst Proper (sym (s i)) (f.proper i);
  }

  pub fine_step : {v w : View K} {e : Effect K} → Moves same n mark v w e → Fine same v → Fine same w
  fine_step (rests _ s) f = fine_alike s f
  fine_step (sees _ _ _ _ s) f = fine_alike s f
  fine_step {v = v} (touches i c r l e s o) f = fine_only o e (λ k. refl) (omega arith, (subst Proper e (f.proper i)).1) f
  fine_step (refreshes i c r l e s pos o) f = fine_only o e (λ k. refl) (omega arith, pos) f
  fine_step (takes i u o) f = fine_enters o u f
  fine_step (evicts {k = k} i j least x u full ex en) f = fine_enters en (unheld_expels k ex u) (fine_expels ex f)
  fine_step (lends {t = t} c r mk l e s o) f = fine_only o e (λ k. refl) (subst Proper e (f.proper t.slot)).1 f
  fine_step (takes_back {t = t} c mk l e o) f = let h = subst Proper e (f.proper t.slot) in fine_only o e (λ k. refl) (omega arith, h) f
  fine_step {v = v} {w = w} (removes i c r l e s o) f = record {
    apart = shrinks same laws v w (only_shrinks same laws o (λ k t. absurd (both_ways false refl t))) f.apart;
    proper = only_all o (λ j q. Proper q) tt (λ j ne. f.proper j);
  }

  pub fine_line : (es : List (Event K)) (v : View K) → Leads same n mark es v → Fine same v
  fine_line [] v l = record {
    apart = λ i j k p q. absurd (both_ways false refl (sym (ap (holds same k) (l i)) ∙ p));
    proper = λ i. subst Proper (sym (l i)) tt;
  }
  fine_line (e ∷ es) w (v, l, m) = fine_step m (fine_line es v l)

  module _ (cost : K → ℕ) (cost_alike : (a b : K) → same a b ≡ true → cost a ≡ cost b) where
    pub costs_step : {v w : View K} {e : Effect K} → Moves same n mark v w e → Priced same cost (price_of e) → ((i : ℕ) → Costs cost (v i)) → (i : ℕ) → Costs cost (w i)
    costs_step (rests _ s) p h = λ i. subst (Costs cost) (sym (s i)) (h i)
    costs_step (sees _ _ _ _ s) p h = λ i. subst (Costs cost) (sym (s i)) (h i)
    costs_step (touches i c r l e s o) p h = only_all o (λ j q. Costs cost q) (subst (Costs cost) e (h i)) (λ j ne. h j)
    costs_step (refreshes {k = k} {l = l} i c r lt e s pos o) p h = only_all o (λ j q. Costs cost q) (p ∙ sym (cost_alike l k s)) (λ j ne. h j)
    costs_step (takes i u o) p h = only_all o.entered (λ j q. Costs cost q) p (λ j ne. h j)
    costs_step {v = v} (evicts i j least x u full ex en) p h =
        only_all en.entered (λ j q. Costs cost q) p (λ j ne. expels_all ex (λ j q. Costs cost q) tt (λ j ne. lower_costs cost least (v j) (h j)) j)
    costs_step (lends {t = t} c r mk l e s o) p h = only_all o (λ j q. Costs cost q) (subst (Costs cost) e (h t.slot)) (λ j ne. h j)
    costs_step (takes_back {t = t} c mk l e o) p h = only_all o (λ j q. Costs cost q) (subst (Costs cost) e (h t.slot)) (λ j ne. h j)
    costs_step (removes i c r l e s o) p h = only_all o (λ j q. Costs cost q) tt (λ j ne. h j)

    pub costs_line : (es : List (Event K)) (v : View K) → Leads same n mark es v → Each (λ e before. Priced same cost (price_of (effect e))) es → (i : ℕ) → Costs cost (v i)
    costs_line [] v l p = λ i. subst (Costs cost) (sym (l i)) tt
    costs_line (e ∷ es) w (v, l, m) p = costs_step m p.0 (costs_line es v l p.1)
