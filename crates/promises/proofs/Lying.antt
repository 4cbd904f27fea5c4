-- The keys that are out by the events are those that are out in the view.
use Rattle.std.proofs.Common.{◌≡◌, ℕ, Bool, true, false, cond, eqb, List, [], ◌∷◌, Some, None, Option, sym, refl, ap, ◌∙◌, subst, ⊎_elim, arith}
use Rattle.std.proofs.lemmas.Bool.{cases_Bool, eq-eqb, ne_eqb, eqb-true, and_from, and_right, and_parts, cond-false}
use Rattle.keys.specs.Sameness.{SameLaws}
use Rattle.promises.specs.declared.records.Ticket.{Ticket}
use Rattle.promises.specs.Events.{Event, Effect, lent, lent_after, same_ticket}
use Rattle.promises.proofs.Optional.{none_some}
use Rattle.promises.proofs.Views.{Place, free, waits, lies_out, lower, View, Alike, Only, Expels, idle_nothing, idle_rewrote, Moves, rests, sees, touches, refreshes, takes, evicts, lends, takes_back, removes, Leads}
use Rattle.promises.proofs.Fine.{only_all, expels_all}

pub waits_apart : {K : Type 0} (p : Place K) (k l : K) (c r d : ℕ) → p ≡ waits k c r → p ≡ lies_out l d → ⊥
waits_apart p k l c r d e f = let z : ◌≡◌ {A = ℕ} 0 1 = cc in omega arith

abbrev pub lent_place : {K : Type 0} → Place K → Option K
lent_place free = None
lent_place (waits k c r) = None
lent_place (lies_out k c) = Some k

abbrev pub Match : {K : Type 0} → (K → K → Bool) → Option K → Option K → Type 0
Match same None None = Unit {0}
Match same None (Some k) = ⊥
Match same (Some l) None = ⊥
Match same (Some l) (Some k) = same l k ≡ true

-- the ticket of a slot
abbrev pub ticket : ℕ → ℕ → Ticket
ticket m i = record { mark = m; slot = i }

-- who is out by ticket is who lies out in the view
pub record Agree {K : Type 0} (same : K → K → Bool) (mark : ℕ) (by : Ticket → Option K) (v : View K) : Type 0 where
  pub slots : (i : ℕ) → Match same (by (ticket mark i)) (lent_place (v i))
  pub marks : (t : Ticket) (l : K) → by t ≡ Some l → t.mark ≡ mark

lower_lent : {K : Type 0} (d : ℕ) (p : Place K) → lent_place (lower d p) ≡ lent_place p
lower_lent d free = refl
lower_lent d (waits k c r) = refl
lower_lent d (lies_out k c) = refl

module _ {K : Type 0} (same : K → K → Bool) (n mark : ℕ) (by : Ticket → Option K) where
  agree_only : {v w : View K} {i : ℕ} {p q : Place K} → Only i p v w → v i ≡ q → lent_place p ≡ lent_place q → Agree same mark by v → Agree same mark by w
  agree_only {i = i} o e s a = record {
    slots = only_all o (λ j x. Match same (by (ticket mark j)) (lent_place x)) (subst (Match same (by (ticket mark i))) (ap lent_place e ∙ sym s) (a.slots i)) (λ j ne. a.slots j);
    marks = a.marks;
  }

  agree_alike : {v w : View K} → Alike v w → Agree same mark by v → Agree same mark by w
  agree_alike s a = record { slots = λ i. subst (λ x. Match same (by (ticket mark i)) (lent_place x)) (sym (s i)) (a.slots i); marks = a.marks }

  agree_expels : {v w : View K} {i d : ℕ} {e : K} → Expels n i d e v w → Agree same mark by v → Agree same mark by w
  agree_expels {v = v} {i = i} {d = d} o a = record {
    slots = expels_all o (λ j x. Match same (by (ticket mark j)) (lent_place x)) (subst (Match same (by (ticket mark i))) (ap lent_place o.was) (a.slots i)) (λ j ne. subst (Match same (by (ticket mark j))) (sym (lower_lent d (v j))) (a.slots j));
    marks = a.marks;
  }

-- the test of a ticket, at its own slot and at another
own : (t : Ticket) (m : ℕ) → t.mark ≡ m → same_ticket t (ticket m t.slot) ≡ true
own t m e = and_from (eqb t.mark m) (eqb t.slot t.slot) (eq-eqb t.mark m e) (eq-eqb t.slot t.slot refl)

other : (t : Ticket) (m j : ℕ) → (j ≡ t.slot → ⊥) → same_ticket t (ticket m j) ≡ false
other t m j ne = and_right (eqb t.mark m) (eqb t.slot j) (ne_eqb t.slot j (λ e. ne (sym e)))

module _ {K : Type 0} (same : K → K → Bool) {home : K → ℕ} (laws : SameLaws same home) (n mark : ℕ) where
  pub agree_step : {v w : View K} {e : Effect K} → Moves same n mark v w e → (by : Ticket → Option K) → Agree same mark by v → Agree same mark (λ t. lent_after e t (by t)) w
  agree_step (rests idle_nothing s) by a = agree_alike same n mark by s a
  agree_step (rests (idle_rewrote t b) s) by a = agree_alike same n mark by s a
  agree_step (sees i c e t s) by a = agree_alike same n mark by s a
  agree_step (touches i c r lt e s o) by a = agree_only same n mark by o e refl a
  agree_step (refreshes i c r lt e s pos o) by a = agree_only same n mark by o e refl a
  agree_step (takes i un en) by a = agree_only same n mark by en.entered en.unused refl a
  agree_step (evicts i j least x un full ex en) by a = agree_only same n mark by en.entered en.unused refl (agree_expels same n mark by ex a)
  agree_step (lends {k = k} {l = l} {t = t} c r mk lt e s o) by a = record {
    slots = only_all o (λ j x. Match same (cond (same_ticket t (ticket mark j)) (Some k) (by (ticket mark j))) (lent_place x)) (rw (own t mark mk) (laws.symmetric l k s)) (λ j ne. rw (other t mark j ne) (a.slots j));
    marks = λ u x h. ⊎_elim (λ q. sym (eqb-true t.mark u.mark (and_parts (eqb t.mark u.mark) (eqb t.slot u.slot) q).0) ∙ mk) (λ q. a.marks u x (sym (cond-false _ (Some k) (by u) q) ∙ h)) (cases_Bool (same_ticket t u));
  }
  agree_step (takes_back {k = k} {t = t} c mk lt e o) by a = record {
    slots = only_all o (λ j x. Match same (cond (same_ticket t (ticket mark j)) None (by (ticket mark j))) (lent_place x)) (rw (own t mark mk) tt) (λ j ne. rw (other t mark j ne) (a.slots j));
    marks = λ u x h. ⊎_elim (λ q. sym (eqb-true t.mark u.mark (and_parts (eqb t.mark u.mark) (eqb t.slot u.slot) q).0) ∙ mk) (λ q. a.marks u x (sym (cond-false _ None (by u) q) ∙ h)) (cases_Bool (same_ticket t u));
  }
  agree_step (removes i c r lt e s o) by a = agree_only same n mark by o e refl a

  pub agree_line : (es : List (Event K)) (v : View K) → Leads same n mark es v → Agree same mark (lent es) v
  agree_line [] v l = record { slots = λ i. subst (λ x. Match same None (lent_place x)) (sym (l i)) tt; marks = λ t x h. absurd (none_some x h) }
  agree_line (e ∷ es) w (v, l, m) = agree_step m (lent es) (agree_line es v l)
