-- What we paid against what any rival paid, over the views of a line.
use Rattle.std.proofs.Common.{◌≡◌, ℕ, suc, ◌+◌, ◌*◌, ◌≤◌, Bool, true, false, cond, ◌⊎◌, List, [], ◌∷◌, length, Some, None, Option, sym, refl, ap, ◌∙◌, subst, inl, inr, ⊎_elim, mul-le-mul_left, arith}
use Rattle.std.proofs.lemmas.Bool.{cases_Bool, cond-true, cond-false, or_left, or_right}
use Rattle.keys.specs.Sameness.{SameLaws}
use Rattle.promises.specs.declared.records.Ticket.{Ticket}
use Rattle.promises.specs.Events.{Event, Effect, nothing, hit, refreshed, took, took_evicting, lent_out, rewrote, came_back, removed, effect, request_of, removal_of, price_of, Each, lent, lent_after, same_ticket, paid}
use Rattle.promises.specs.History.{Priced}
use Rattle.promises.specs.Rivals.{has, without, Rival, starts, discards, has_it, pays, loses, unmoved, NotOut}
use Rattle.promises.proofs.Sums.{sum_to_none}
use Rattle.promises.proofs.Members.{total, has_alike, has_without}
use Rattle.promises.proofs.Optional.{none_some, some_same}
use Rattle.promises.proofs.Views.{Place, free, waits, lies_out, credit, holds, View, idle_nothing, idle_rewrote, Moves, rests, sees, touches, refreshes, takes, evicts, lends, takes_back, removes, Leads}
use Rattle.promises.proofs.Fine.{Apart, Proper, Costs, Fine, fine_line, costs_line}
use Rattle.promises.proofs.Potential.{Bound, bound_step, Covered, wealth, shared, credit_in, without_shared, shared_less, shared_more, rival_arith}
use Rattle.promises.proofs.Lying.{waits_apart, lent_place, Match, ticket, Agree, agree_line}

-- no event both requests and removes
pub request_or_removal : {K : Type 0} (e : Effect K) (a b : K) → request_of e ≡ Some a → removal_of e ≡ Some b → ⊥
request_or_removal nothing a b p q = none_some a p
request_or_removal (hit k) a b p q = none_some b q
request_or_removal (refreshed k c d) a b p q = none_some b q
request_or_removal (took k c d) a b p q = none_some b q
request_or_removal (took_evicting k c d x) a b p q = none_some b q
request_or_removal (lent_out k u) a b p q = none_some b q
request_or_removal (rewrote u d) a b p q = none_some a p
request_or_removal (came_back u) a b p q = none_some a p
request_or_removal (removed k) a b p q = none_some a p

-- a key that is out was out before, or is requested
pub lent_since : {K : Type 0} (e : Effect K) (t : Ticket) (o : Option K) (l : K) → lent_after e t o ≡ Some l → (o ≡ Some l) ⊎ (request_of e ≡ Some l)
lent_since nothing t o l h = inl h
lent_since (hit k) t o l h = inl h
lent_since (refreshed k c d) t o l h = inl h
lent_since (took k c d) t o l h = inl h
lent_since (took_evicting k c d x) t o l h = inl h
lent_since (lent_out k u) t o l h = ⊎_elim (λ q. inr (sym (cond-true _ (Some k) o q) ∙ h)) (λ q. inl (sym (cond-false _ (Some k) o q) ∙ h)) (cases_Bool (same_ticket u t))
lent_since (rewrote u d) t o l h = inl h
lent_since (came_back u) t o l h = ⊎_elim (λ q. absurd (none_some l (sym (cond-true _ None o q) ∙ h))) (λ q. inl (sym (cond-false _ None o q) ∙ h)) (cases_Bool (same_ticket u t))
lent_since (removed k) t o l h = inl h

length_without : {K : Type 0} (same : K → K → Bool) (k : K) (rs : List K) → length (without same k rs) ≤ length rs
length_without same k [] = omega arith
length_without same k (r ∷ rs) = let a = length_without same k rs in elim (same k r) as (λ t. length (cond t (without same k rs) (r ∷ without same k rs)) ≤ suc (length rs)) [ true ↦ omega arith | false ↦ omega arith ]

module _ {K : Type 0} (same : K → K → Bool) where
  -- every key that is out is the rival's
  abbrev pub OutsIn : List (Event K) → List K → Type 0
  OutsIn es rs = (t : Ticket) (l : K) → lent es t ≡ Some l → has same rs l ≡ true

  -- the slot at which a key that is out lies
  lies_at : (p : Place K) (o : Option K) (l : K) → Match same o (lent_place p) → o ≡ Some l → (k : K) × (c : ℕ) × (p ≡ lies_out k c) × (same l k ≡ true)
  lies_at free None l h e = absurd (none_some l e)
  lies_at free (Some x) l h e = absurd h
  lies_at (waits k c r) None l h e = absurd (none_some l e)
  lies_at (waits k c r) (Some x) l h e = absurd h
  lies_at (lies_out k c) None l h e = absurd h
  lies_at (lies_out k c) (Some x) l h e = (k, c, refl, subst (λ y. same y k ≡ true) (some_same (Some x) x l refl e) h)

  known_lent : (p : Place K) (o : Option K) (k : K) (c : ℕ) → Match same o (lent_place p) → p ≡ lies_out k c → (l : K) × (o ≡ Some l) × (same l k ≡ true)
  known_lent p None k c h e = absurd (subst (λ x. Match same None (lent_place x)) e h)
  known_lent p (Some x) k c h e = (x, refl, subst (λ x'. Match same (Some x) (lent_place x')) e h)

module _ {K : Type 0} (same : K → K → Bool) {home : K → ℕ} (laws : SameLaws same home) (cost : K → ℕ) (cost_alike : (a b : K) → same a b ≡ true → cost a ≡ cost b) (n mark f g : ℕ) (split : f + g ≡ n) where
  covered : (v : View K) → Fine same v → ((i : ℕ) → Costs cost (v i)) → Covered same cost v
  covered v fine costs i k h = go (v i) (fine.proper i) (costs i) h
    where
      go : (p : Place K) → Proper p → Costs cost p → holds same k p ≡ true → credit p ≤ cost k
      go free pr co t = omega arith
      go (waits l c r) pr co t = let e = cost_alike l k t in omega arith
      go (lies_out l c) pr co t = let e = cost_alike l k t in omega arith

  pub record Stands (es : List (Event K)) (v : View K) (rs : List K) (p : ℕ) : Type 0 where
    pub bound : Bound same cost n f g v rs p (paid es)
    pub small : length rs ≤ suc g
    pub outs : OutsIn same es rs

  -- our part of an event, after the rival's
  serve : (e : Event K) (es : List (Event K)) (v w : View K) → Leads same n mark es v → Moves same n mark v w (effect e) → Each (λ e before. Priced same cost (price_of (effect e))) (e ∷ es) → (rs : List K) (p : ℕ) → Stands es v rs p → ((k : K) → request_of (effect e) ≡ Some k → has same rs k ≡ true) → ((k : K) → removal_of (effect e) ≡ Some k → has same rs k ≡ false) → Stands (e ∷ es) w rs p
  serve e es v w l m pr rs p st req rem = record {
    bound = bound_step same laws cost cost_alike n mark f g split m (fine_line same laws n mark es v l) (costs_line same laws n mark cost cost_alike es v l pr.1) pr.0 rs p (paid es) st.small req rem
        (λ i k c q. let a = agree_line same laws n mark es v l in let x = known_lent same (v i) (lent es (ticket mark i)) k c (a.slots i) q in sym (has_alike same laws rs x.0 k x.2) ∙ st.outs (ticket mark i) x.0 x.1)
        st.bound;
    small = st.small;
    outs = λ t x h. ⊎_elim (λ a. st.outs t x a) (λ a. req x a) (lent_since (effect e) t (lent es t) x h);
  }

  -- a rival that lets go of a key that is not out
  lets_go : (es : List (Event K)) (v : View K) → Leads same n mark es v → Each (λ e before. Priced same cost (price_of (effect e))) es → (k : K) → NotOut same es k → (rs : List K) (p : ℕ) → Stands es v rs p → Stands es v (without same k rs) p
  lets_go es v l pr k nout rs p st =
      let fine = fine_line same laws n mark es v l in
      let a = without_shared same laws cost n v fine.apart (covered v fine (costs_line same laws n mark cost cost_alike es v l pr)) k rs in
      let b = length_without same k rs in
      record {
        bound = rival_arith f g n (paid es) (wealth n v) (shared same n rs v) (shared same n (without same k rs) v) (total cost rs) (total cost (without same k rs)) p p (omega arith) st.bound;
        small = omega (arith, st.small);
        outs = λ t x h. has_without same laws k rs x ∙ cond-false (same k x) false (has same rs x) (nout t x h) ∙ st.outs t x h;
      }

  -- a rival that pays for a key
  buys : (es : List (Event K)) (v : View K) (k : K) (rs : List K) (p : ℕ) → length (k ∷ rs) ≤ suc g → Stands es v rs p → Stands es v (k ∷ rs) (cost k + p)
  buys es v k rs p small st =
      let a = shared_less same n v k rs in
      record {
        bound = rival_arith f g n (paid es) (wealth n v) (shared same n rs v) (shared same n (k ∷ rs) v) (total cost rs) (total cost (k ∷ rs)) p (cost k + p) (omega arith) st.bound;
        small = small;
        outs = λ t x h. or_right (same x k) (has same rs x) (st.outs t x h);
      }

  -- a key that is dropped was not out
  dropped_not_out : {v w : View K} {e : Effect K} (es : List (Event K)) → Leads same n mark es v → Moves same n mark v w e → (k : K) → removal_of e ≡ Some k → NotOut same es k
  dropped_not_out es l (rests idle_nothing s) k q = absurd (none_some k q)
  dropped_not_out es l (rests (idle_rewrote _ _) s) k q = absurd (none_some k q)
  dropped_not_out es l (sees _ _ _ _ s) k q = absurd (none_some k q)
  dropped_not_out es l (touches _ _ _ _ _ _ o) k q = absurd (none_some k q)
  dropped_not_out es l (refreshes _ _ _ _ _ _ _ o) k q = absurd (none_some k q)
  dropped_not_out es l (takes i _ o) k q = absurd (none_some k q)
  dropped_not_out es l (evicts i j d u _ _ _ _) k q = absurd (none_some k q)
  dropped_not_out es l (lends _ _ _ _ _ _ o) k q = absurd (none_some k q)
  dropped_not_out es l (takes_back _ _ _ _ o) k q = absurd (none_some k q)
  dropped_not_out {v = v} es l (removes {k = k'} {l = l'} i c r lt at s o) k q = λ t x h. ⊎_elim (λ p. absurd (clash t x h p)) (λ p. p) (cases_Bool (same k x))
    where
      fine : Fine same v
      fine = fine_line same laws n mark es v l

      agree : Agree same mark (lent es) v
      agree = agree_line same laws n mark es v l

      clash : (t : Ticket) (x : K) → lent es t ≡ Some x → same k x ≡ true → ⊥
      clash t x h p =
          let lm : lent es (ticket mark t.slot) ≡ Some x = subst (λ (y : ℕ). lent es (ticket y t.slot) ≡ Some x) (agree.marks t x h) h in
          let found = lies_at same (v t.slot) (lent es (ticket mark t.slot)) x (agree.slots t.slot) lm in
          let kk = some_same (Some k') k' k refl q in
          let hi : holds same k (v i) ≡ true = subst (λ y. holds same k y ≡ true) (sym at) (subst (λ y. same l' y ≡ true) kk s) in
          let hj : holds same k (v t.slot) ≡ true = subst (λ y. holds same k y ≡ true) (sym found.2) (laws.symmetric k found.0 (laws.transitive k x found.0 p found.3)) in
          let ij = fine.apart i t.slot k hi hj in
          waits_apart (v i) l' found.0 c r found.1 at (ap v ij ∙ found.2)

  -- every rival, after every line
  pub stands : {es : List (Event K)} {rs : List K} {p : ℕ} → Rival same cost (suc g) es rs p → (v : View K) → Leads same n mark es v → Each (λ e before. Priced same cost (price_of (effect e))) es → Stands es v rs p
  stands starts v l pr =
      let w = sum_to_none n (λ i. credit (v i)) (λ i lt. ap credit (l i)) in
      record {
        bound = let z = ap (λ t. g * t) w in omega arith;
        small = omega arith;
        outs = λ t x h. absurd (none_some x h);
      }
  stands (discards {es = es} {keys = rs} {p = p} k r nout) v l pr = lets_go es v l pr k nout rs p (stands r v l pr)
  stands (has_it {es = es} {keys = rs} {p = p} e k r q hk) w (v, l, m) pr =
      serve e es v w l m pr rs p (stands r v l pr.1) (λ a t. subst (λ y. has same rs y ≡ true) (some_same (request_of (effect e)) k a q t) hk) (λ a t. absurd (request_or_removal (effect e) k a q t))
  stands (pays {es = es} {keys = rs} {p = p} e k r q hk small) w (v, l, m) pr =
      serve e es v w l m pr (k ∷ rs) (cost k + p) (buys es v k rs p small (stands r v l pr.1)) (λ a t. subst (λ y. has same (k ∷ rs) y ≡ true) (some_same (request_of (effect e)) k a q t) (or_left (same k k) (has same rs k) (laws.reflexive k))) (λ a t. absurd (request_or_removal (effect e) k a q t))
  stands (loses {es = es} {keys = rs} {p = p} e k r q) w (v, l, m) pr =
      serve e es v w l m pr (without same k rs) p (lets_go es v l pr.1 k (dropped_not_out es l m k q) rs p (stands r v l pr.1)) (λ a t. absurd (request_or_removal (effect e) a k t q))
      (λ a t. subst (λ y. has same (without same k rs) y ≡ false) (some_same (removal_of (effect e)) k a q t) (has_without same laws k rs k ∙ cond-true (same k k) false (has same rs k) (laws.reflexive k)))
  stands (unmoved {es = es} {keys = rs} {p = p} e r q q') w (v, l, m) pr =
      serve e es v w l m pr rs p (stands r v l pr.1) (λ a t. absurd (none_some a (sym q ∙ t))) (λ a t. absurd (none_some a (sym q' ∙ t)))

  -- our credits of the rival's keys are within the cost of these
  shared_le : (v : View K) → Apart same v → Covered same cost v → (rs : List K) → shared same n rs v ≤ total cost rs
  shared_le v apart cov [] = let z = sum_to_none n (λ i. credit_in same [] (v i)) (λ i l. none (v i)) in omega arith
    where
      none : (p : Place K) → credit_in same [] p ≡ 0
      none free = refl
      none (waits k c r) = refl
      none (lies_out k c) = refl
  shared_le v apart cov (r ∷ rs) =
      let a = shared_le v apart cov rs in
      let b = shared_more same n v apart r rs (cost r) (λ i h. cov i r h) in
      omega arith

  pub paid_within : {es : List (Event K)} {rs : List K} {p : ℕ} → Rival same cost (suc g) es rs p → (v : View K) → Leads same n mark es v → Each (λ e before. Priced same cost (price_of (effect e))) es → f * paid es ≤ n * p
  paid_within {es} {rs} {p} r v l pr =
      let fine = fine_line same laws n mark es v l in
      let a = shared_le v fine.apart (covered v fine (costs_line same laws n mark cost cost_alike es v l pr)) rs in
      let b = mul-le-mul_left n a in
      omega (arith, (stands r v l pr).bound)
