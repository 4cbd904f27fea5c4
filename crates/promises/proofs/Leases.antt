-- What a lease protects: how every call is answered while a region is out, where it is held, and that its value stays.
use Rattle.std.proofs.Common.{◌≡◌, ℕ, ◌+◌, ◌≤◌, Bool, true, false, cond, not, eqb, ◌⊎◌, List, [], ◌∷◌, length, is_some, Some, None, Ok, Err, Option, sym, refl, ap, ◌∙◌, inl, inr, arith}
use Rattle.std.proofs.lemmas.Bool.{both_ways, eq-eqb, eqb-true, and_from, and_parts, cond-true, cond-false}
use Rattle.keys.specs.Sameness.{SameLaws}
use Rattle.directories.specs.Meaning.{Distinct, key_at}
use Rattle.promises.specs.declared.answers.Refusal.{Refusal}
use Rattle.promises.specs.declared.answers.Refusal.TheVariants.{BadCost, LongValue, ShortSlab, NotHeld, OnLease}
use Rattle.promises.specs.declared.answers.Kept.TheVariants.{Refreshed, Taken, TakenEvicting}
use Rattle.promises.specs.declared.answers.Presence.TheVariants.{Waiting, Out}
use Rattle.promises.specs.declared.records.Ticket.{Ticket}
use Rattle.promises.specs.Numbers.{number_of}
use Rattle.promises.specs.State.{State, held_slot, out_at, Sound}
use Rattle.promises.specs.Events.{Event, gets, keeps, leases, writes, gives_back, drops, tells, Effect, effect, same_ticket, lent_after, lent, lends_one, returns_one, lendings, returns, one_if}
use Rattle.promises.specs.Steps.{Step, bad_cost, long_value, short_slab, out_slot, presence, Evicts}
use Rattle.promises.specs.Lines.{Making, Line}
use Rattle.promises.specs.History.{same_as, last_value, slab_in, slab_out, writes_under}
use Rattle.promises.specs.Promises.{AnswersWhileOut, StaysOut, ValueKept, HeldOut}
use Rattle.promises.proofs.Cells.{Shift, rests, finds, renews, comes, evicts, lends, rewrites, takes_back, removes, none_some, found_there, found_none, first_idle, shifts}
use Rattle.promises.proofs.Sounds.{accepted, absence_idle}
use Rattle.promises.proofs.Outs.{Agrees, agrees}

-- a Bool that cannot be true
pub untrue : (b : Bool) → (b ≡ true → ⊥) → b ≡ false
untrue true h = absurd (h refl)
untrue false h = refl

module _ {K : Type 0} (same : K → K → Bool) (s : State K) (so : Sound same s) where
  -- two slots with same keys are one
  pub one_slot : (i j : ℕ) (a b : K) → key_at s.directory i ≡ Some a → key_at s.directory j ≡ Some b → same a b ≡ true → i ≡ j
  unfolding Distinct
  one_slot = so.distinct

  -- a key that is the same as one that stands at a slot is found there
  pub found_same : {home : K → ℕ} → SameLaws same home → (i : ℕ) (a l : K) → key_at s.directory i ≡ Some a → same a l ≡ true → held_slot same s l ≡ Some i
  found_same laws i a l e h = by (held_slot same s l) refl
    where
      by : (o : Option ℕ) → held_slot same s l ≡ o → o ≡ Some i
      by None f = absurd (both_ways (same a l) (found_none same s so l f i a e) h)
      by (Some j) f =
          let g = found_there same s so l j f in
          ap (λ (x : ℕ). Some x) (one_slot j i g.0 a g.1 e (laws.transitive g.0 l a g.2 (laws.symmetric a l h)))

-- the refusal of a keep whose key is out
barred : (a b c d : Bool) (r : Refusal) (o : Option Refusal)
    → cond a (Some BadCost) (cond b (Some LongValue) (cond c (Some ShortSlab) (cond d (Some OnLease) o))) ≡ Some r → d ≡ true → (r ≡ OnLease) ⊎ (number_of r ≤ number_of ShortSlab)
barred true b c d r o e h = let f : BadCost ≡ r = cc in let g = ap number_of f in inr (omega arith)
barred false true c d r o e h = let f : LongValue ≡ r = cc in let g = ap number_of f in inr (omega arith)
barred false false true d r o e h = let f : ShortSlab ≡ r = cc in let g = ap number_of f in inr (omega arith)
barred false false false true r o e h = inl (cc)
barred false false false false r o e h = absurd (both_ways false refl h)

-- the refusal of a lease or a drop whose key is held and out
barred_absence : (a b : Bool) (r : Refusal) → cond a (Some NotHeld) (cond b (Some OnLease) None) ≡ Some r → a ≡ false → b ≡ true → r ≡ OnLease
barred_absence true b r e h k = absurd (both_ways true h refl)
barred_absence false true r e h k = cc
barred_absence false false r e h k = absurd (both_ways false refl k)

-- while a region whose key is the same as k is out at the slot i
module _ {K : Type 0} (same : K → K → Bool) {home : K → ℕ} (laws : SameLaws same home) (s : State K) (so : Sound same s)
    (k a : K) (i : ℕ) (there : key_at s.directory i ≡ Some a) (alike : same a k ≡ true) (out : out_at s.table i ≡ true) where
  found_out : (l : K) → same l k ≡ true → held_slot same s l ≡ Some i
  found_out l h = found_same same s so laws i a l there (laws.transitive a k l alike (laws.symmetric l k h))

  slot_out : (l : K) → same l k ≡ true → out_slot s.table (held_slot same s l) ≡ true
  slot_out l h = ap (out_slot s.table) (found_out l h) ∙ out

  not_idle : (l : K) → out_slot s.table (held_slot same s l) ≡ false → same l k ≡ false
  not_idle l h = untrue (same l k) (λ e. both_ways _ h (slot_out l e))

  evicted_other : (l : K) (u : State K) → Evicts s l u → same l k ≡ false
  evicted_other l u ev = untrue (same l k) (λ e.
      let q = one_slot same s so ev.first.slot i l a ev.key there (laws.transitive l k a e (laws.symmetric a k alike)) in
      both_ways _ (first_idle same s so ev.first ev.least) (ap (out_at s.table) q ∙ out))

  present : (l : K) → same l k ≡ true → not (is_some (held_slot same s l)) ≡ false
  present l h = ap (λ (o : Option ℕ). not (is_some o)) (found_out l h)

  pub answers_while_out : (e : Event K) (t : State K) → Step same s e t → AnswersWhileOut same k e
  answers_while_out (gets l slab (Err r)) t st = tt
  answers_while_out (gets l slab (Ok None)) t (f, h, g) = untrue (same l k) (λ e. none_some h (found_out l e))
  answers_while_out (gets l slab (Ok (Some p))) t st = tt
  answers_while_out (keeps l c v slab (Err r) after) t (f, g, h) = λ e. barred (bad_cost s c) (long_value s (length v)) (short_slab s (length slab)) (out_slot s.table (held_slot same s l)) r _ f (slot_out l e)
  answers_while_out (keeps l c v slab (Ok Refreshed) after) t (f, g) = (not_idle l (accepted same s l c (length v) (length slab) f).idle, refl)
  answers_while_out (keeps l c v slab (Ok Taken) after) t (f, g, h, ta) = (not_idle l (accepted same s l c (length v) (length slab) f).idle, refl)
  answers_while_out (keeps l c v slab (Ok (TakenEvicting x)) after) t (f, g, h, (u, ev, ta)) = (not_idle l (accepted same s l c (length v) (length slab) f).idle, evicted_other x.key u ev)
  answers_while_out (leases l (Err r)) t (f, g) = λ e. barred_absence (not (is_some (held_slot same s l))) (out_slot s.table (held_slot same s l)) r f (present l e) (slot_out l e)
  answers_while_out (leases l (Ok n)) t (f, g) = untrue (same l k) (λ e. both_ways _ (absence_idle same s l i f (found_out l e)) out)
  answers_while_out (writes n v slab b after) t st = tt
  answers_while_out (gives_back n b) t st = tt
  answers_while_out (drops l (Err r)) t (f, g) = λ e. barred_absence (not (is_some (held_slot same s l))) (out_slot s.table (held_slot same s l)) r f (present l e) (slot_out l e)
  answers_while_out (drops l (Ok u)) t (f, g) = untrue (same l k) (λ e. both_ways _ (absence_idle same s l i f (found_out l e)) out)
  answers_while_out (tells l p) t (f, g) = λ e. f ∙ ap (presence s.table) (found_out l e) ∙ cond-true _ Out Waiting out

-- the tickets of one mark and slot are one
pub one_ticket : (u t : Ticket) → same_ticket u t ≡ true → u ≡ t
one_ticket u t h =
    let q = and_parts (eqb u.mark t.mark) (eqb u.slot t.slot) h in
    let a = eqb-true u.mark t.mark q.0 in
    let b = eqb-true u.slot t.slot q.1 in
    ap (λ (x : ℕ). record { mark = x; slot = u.slot }) a ∙ ap (λ (x : ℕ). record { mark = t.mark; slot = x }) b

pub same_tickets : (u t : Ticket) → u.mark ≡ t.mark → u.slot ≡ t.slot → same_ticket u t ≡ true
same_tickets u t a b = and_from (eqb u.mark t.mark) (eqb u.slot t.slot) (eq-eqb _ _ a) (eq-eqb _ _ b)

-- what one event does to a ticket that is lent: how often it went out and came back, and the value of its key
module _ {K : Type 0} (same : K → K → Bool) {home : K → ℕ} (laws : SameLaws same home) (s : State K) (so : Sound same s) (es : List (Event K)) (ag : Agrees same es s) where
  -- a ticket whose slot is idle is not lent
  idle_unlent : (n : Ticket) → out_at s.table n.slot ≡ false → (o : Option K) → lent es n ≡ o → o ≡ None
  idle_unlent n h None e = refl
  idle_unlent n h (Some l) e = absurd (both_ways _ h (ag.leased n l e).3)

  count_lent : (n : Ticket) (k : K) (b : Bool) (m r : ℕ) → (b ≡ true → lent es n ≡ None) → m ≡ r + one_if (lent es n) → cond b 1 0 + m ≡ 0 + r + one_if (cond b (Some k) (lent es n))
  count_lent n k true m r f h = let e = ap (λ (o : Option K). one_if o) (f refl) in omega arith
  count_lent n k false m r f h = omega arith

  count_back : (n : Ticket) (l : K) (b : Bool) (m r : ℕ) → (b ≡ true → (a : K) × (lent es n ≡ Some a)) → m ≡ r + one_if (lent es n) → 0 + m ≡ (cond b 1 0 + r) + one_if (cond b None (lent es n))
  count_back n l true m r f h = let e = ap (λ (o : Option K). one_if o) (f refl).1 in omega arith
  count_back n l false m r f h = omega arith

  pub count_step : (t : State K) (x y : Option (List ℕ)) (f : Effect K) → Shift same s t x y f → (n : Ticket) (m r : ℕ) → m ≡ r + one_if (lent es n)
      → lends_one f n + m ≡ (returns_one f n + r) + one_if (lent_after f n (lent es n))
  count_step t x y f (rests _ _) n m r h = omega arith
  count_step t x y f (finds _ _) n m r h = omega arith
  count_step t x y f (renews _ _ _) n m r h = omega arith
  count_step t x y f (comes _) n m r h = omega arith
  count_step t x y f (evicts _ _ _ _) n m r h = omega arith
  count_step t x y f (lends {k = k} {n = u} a e o q) n m r h = count_lent n k (same_ticket u n) m r
      (λ z. idle_unlent n (ap (λ (w : Ticket). out_at s.table w.slot) (sym (one_ticket u n z) ∙ e) ∙ a.how) (lent es n) refl) h
  count_step t x y f (rewrites _ _ _ _ _ _ _) n m r h = omega arith
  count_step t x y f (takes_back {n = u} l e th ou o q) n m r h = count_back n l (same_ticket u n) m r
      (λ z. let w = ag.out u.slot l th ou in
      (w.0, ap (lent es) (sym (one_ticket u n z) ∙ ap (λ (x : ℕ). record { mark = x; slot = u.slot }) e) ∙ w.1)) h
  count_step t x y f (removes _ _) n m r h = omega arith

  -- the value of a key that is out, by an event that is not a write under its ticket
  pub value_step : (n : Ticket) (k : K) → lent es n ≡ Some k → (e : Event K) → AnswersWhileOut same k e → writes_under n (effect e) ≡ false → last_value same (e ∷ es) k ≡ last_value same es k
  value_step n k h (gets l slab (Err r)) a w = refl
  value_step n k h (gets l slab (Ok None)) a w = refl
  value_step n k h (gets l slab (Ok (Some p))) a w = refl
  value_step n k h (keeps l c v slab (Err r) after) a w = refl
  value_step n k h (keeps l c v slab (Ok Refreshed) after) a w = cond-false (same l k) v _ a.0
  value_step n k h (keeps l c v slab (Ok Taken) after) a w = cond-false (same l k) v _ a.0
  value_step n k h (keeps l c v slab (Ok (TakenEvicting x)) after) a w = cond-false (same l k) v _ a.0
  value_step n k h (leases l (Err r)) a w = refl
  value_step n k h (leases l (Ok u)) a w = refl
  value_step n k h (writes u v slab (Err r) after) a w = refl
  value_step n k h (writes u v slab (Ok b) after) a w = cond-false _ v _ (by (lent es u) refl)
    where
      by : (o : Option K) → lent es u ≡ o → same_as same k o ≡ false
      by None e = refl
      by (Some l) e = untrue (same l k) (λ z.
          let p = ag.leased u l e in
          let q = ag.leased n k h in
          let pk = laws.transitive p.0 l k p.2 z in
          let i = one_slot same s so u.slot n.slot p.0 q.0 p.1 q.1 (laws.transitive p.0 k q.0 pk (laws.symmetric q.0 k q.2)) in
          both_ways _ w (same_tickets u n (p.4 ∙ sym q.4) i))
  value_step n k h (gives_back u (Err r)) a w = refl
  value_step n k h (gives_back u (Ok b)) a w = refl
  value_step n k h (drops l (Err r)) a w = refl
  value_step n k h (drops l (Ok u)) a w = refl
  value_step n k h (tells l p) a w = refl

-- The promises of a line.
module _ {K : Type 0} (same : K → K → Bool) (home : K → ℕ) (laws : SameLaws same home)
    (sounds : (m : Making K) (es : List (Event K)) (s : State K) → Line same m es s → Sound same s) (m : Making K) where
  answers_next : (es : List (Event K)) (s : State K) → Line same m es s → (e : Event K) (t : State K) → Step same s e t → (n : Ticket) (k : K) → lent es n ≡ Some k → AnswersWhileOut same k e
  answers_next es s l e t st n k h =
      let a = (agrees same home laws sounds m es s l).leased n k h in
      answers_while_out same laws s (sounds m es s l) k a.0 n.slot a.1 a.2 a.3 e t st

  pub stays_out : (es : List (Event K)) (s : State K) → Line same m es s → StaysOut same es
  stays_out [] s l = tt
  stays_out (e ∷ es) t (s, l, st) = (answers_next es s l e t st, stays_out es s l)

  pub held_out : (es : List (Event K)) (s : State K) → Line same m es s → HeldOut same es s
  held_out es s l n k h =
      let a = (agrees same home laws sounds m es s l).leased n k h in
      (found_same same s (sounds m es s l) laws n.slot a.0 k a.1 a.2, and_from _ _ (eq-eqb n.mark s.table.mark a.4) a.3)

  pub one_lease : (es : List (Event K)) (s : State K) → Line same m es s → (n : Ticket) → lendings es n ≡ returns es n + one_if (lent es n)
  one_lease [] s l n = refl
  one_lease (e ∷ es) t (s, l, st) n =
      let so = sounds m es s l in
      count_step same laws s so es (agrees same home laws sounds m es s l) t (slab_in e) (slab_out e) (effect e) (shifts same s so laws e t st) n (lendings es n) (returns es n) (one_lease es s l n)

  pub value_kept : (es : List (Event K)) (s : State K) → Line same m es s → ValueKept same es
  value_kept [] s l = tt
  value_kept (e ∷ es) t (s, l, st) =
      (λ n k h w. value_step same laws s (sounds m es s l) es (agrees same home laws sounds m es s l) n k h e (answers_next es s l e t st n k h) w, value_kept es s l)
