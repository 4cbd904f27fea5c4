-- When each lease in hand was tried, nothing is out.
use Rattle.std.proofs.Common.{◌≡◌, ℕ, zero, suc, Bool, true, false, cond, not, ◌&&◌, eqb, List, [], ◌∷◌, ◌++◌, length, get_or, set, replicate, Some, None, Ok, Err, Option, Result, sym, refl, ap, ◌∙◌, subst, ⊎_elim, append_assoc, append-nil, arith}
use Rattle.std.specs.List.{remove}
use Rattle.std.proofs.lemmas.Bool.{cases_Bool, or_cases, cond-true, cond-false, both_ways, and_parts, and_cases, and_left, and_right, eqb-true, not_from_true}
use Rattle.promises.specs.declared.answers.Refusal.{Refusal}
use Rattle.promises.specs.declared.answers.Refusal.TheVariants.{UnknownLease}
use Rattle.promises.specs.declared.records.Lending.TheVariants.{Idle}
use Rattle.promises.specs.declared.records.Record.{Record}
use Rattle.promises.specs.declared.records.Table.{Table}
use Rattle.promises.specs.declared.records.Ticket.{Ticket}
use Rattle.promises.specs.State.{State, blank, record_at, with_record, is_out, out_at, known}
use Rattle.promises.specs.Events.{Event, gives_back, lent, same_ticket}
use Rattle.promises.specs.Steps.{Step, give_back_fault, with_lending}
use Rattle.promises.specs.Lines.{Making, Line}
use Rattle.promises.specs.Promises.{FromMaking}
use Rattle.cache.specs.Leases.{ticket_of}
use Rattle.cache.specs.declared.lease.Lease.{Lease}
use Rattle.runs.specs.declared.asks.Ask.TheVariants.{GiveBack as AskGive}
use Rattle.runs.specs.Asks.{Hand, hand, handed_back, Leads}
use Rattle.runs.specs.Runs.{Asked, Passes, noted, Unknown}
use Rattle.runs.proofs.Covers.{has, Covers}

-- a record that is set to idle makes no slot out
idle_set : (rs : List Record) (i j : ℕ) (r : Record) → is_out r.lending ≡ false → is_out (get_or rs j blank).lending ≡ false → is_out (get_or (set rs i r) j blank).lending ≡ false
idle_set [] i j r a b = b
idle_set (x ∷ rs) zero zero r a b = a
idle_set (x ∷ rs) zero (suc j) r a b = b
idle_set (x ∷ rs) (suc i) zero r a b = b
idle_set (x ∷ rs) (suc i) (suc j) r a b = idle_set rs i j r a b

unknown_one : (n : Table) (i : ℕ) (t : Ticket) → known n t ≡ false → known (with_record n i (with_lending (record_at n i) Idle)) t ≡ false
unknown_one n i t h =
    ⊎_elim
    (λ e. and_left (eqb t.mark n.mark) (out_at (with_record n i (with_lending (record_at n i) Idle)) t.slot) e)
    (λ e. and_right (eqb t.mark n.mark) (out_at (with_record n i (with_lending (record_at n i) Idle)) t.slot) (idle_set n.records i t.slot (with_lending (record_at n i) Idle) refl e))
    (and_cases (eqb t.mark n.mark) (out_at n t.slot) h)

unknown_after : (n : Table) (i : ℕ) (ls : List Lease) → Unknown n ls → Unknown (with_record n i (with_lending (record_at n i) Idle)) ls
unknown_after n i [] h = tt
unknown_after n i (l ∷ ls) h = (unknown_one n i (ticket_of l) h.0, unknown_after n i ls h.1)

unknown_more : (n : Table) (ls : List Lease) (l : Lease) → Unknown n ls → known n (ticket_of l) ≡ false → Unknown n (ls ++ l ∷ [])
unknown_more n [] l h k = (k, tt)
unknown_more n (m ∷ ls) l h k = (h.0, unknown_more n ls l h.1 k)

same_known : (n : Table) (a b : Ticket) → same_ticket a b ≡ true → known n a ≡ known n b
same_known n a b h =
    let p = and_parts (eqb a.mark b.mark) (eqb a.slot b.slot) h in
    let e : a.mark ≡ b.mark = eqb-true a.mark b.mark p.0 in
    let f : a.slot ≡ b.slot = eqb-true a.slot b.slot p.1 in
    ap (λ (x : ℕ). eqb x n.mark && out_at n a.slot) e ∙ ap (λ (x : ℕ). eqb b.mark n.mark && out_at n x) f

pub refused_unknown : {K : Type 0} (s : State K) (t : Ticket) (e : Refusal) → give_back_fault s t ≡ Some e → known s.table t ≡ false
refused_unknown s t e h =
    ⊎_elim
    (λ k. let w : cond (not (known s.table t)) (Some UnknownLease) None ≡ None = cond-false (not (known s.table t)) (Some UnknownLease) None (not_from_true (known s.table t) k) in
    let z : ◌≡◌ {A = ℕ} 0 1 = cc in absurd (omega arith))
    (λ k. k)
    (cases_Bool (known s.table t))

module _ {K : Type 0} (same : K → K → Bool) where
  none_lent : (es : List (Event K)) → Covers es [] → (t : Ticket) → lent es t ≡ None
  none_lent es w t = way (lent es t) refl
    where
      way : (o : Option K) → lent es t ≡ o → o ≡ None
      way None q = refl
      way (Some k) q = absurd (both_ways false refl (w t k q))

  -- the state after the calls, and what is out by the events
  abbrev Closed : List (Event K) → State K → Hand → Type 0
  Closed es t g = ((x : Ticket) → lent es x ≡ None) × Unknown t.table g.leases

  -- an accepted lease is no more among those to try
  covers_taken : (l : Lease) (u : Unit {0}) (ls : List Lease) (es : List (Event K)) → Covers es (l ∷ ls) → Covers (gives_back (ticket_of l) (Ok u) ∷ es) ls
  covers_taken l u ls es w t k z =
      ⊎_elim
      (λ d. let y : None ≡ Some k = sym (cond-true (same_ticket (ticket_of l) t) None (lent es t) d) ∙ z in let x : ◌≡◌ {A = ℕ} 0 1 = cc in absurd (omega arith))
      (λ d. ⊎_elim (λ y. absurd (both_ways (same_ticket (ticket_of l) t) d y)) (λ y. y)
      (or_cases (same_ticket (ticket_of l) t) (has t ls) (w t k (sym (cond-false (same_ticket (ticket_of l) t) None (lent es t) d) ∙ z))))
      (cases_Bool (same_ticket (ticket_of l) t))

  -- and a declined one was not out
  covers_declined : (m : Making K) → FromMaking same m → (l : Lease) (ls : List Lease) (es : List (Event K)) (s : State K) (e : Refusal) → Line same m es s → known s.table (ticket_of l) ≡ false
      → Covers es (l ∷ ls) → Covers (gives_back (ticket_of l) (Err e) ∷ es) ls
  covers_declined m every l ls es s e line n w t k z =
      ⊎_elim
      (λ d. absurd (both_ways (known s.table t) (sym (same_known s.table (ticket_of l) t d) ∙ n) ((every es s line).held_out t k z).1))
      (λ y. y)
      (or_cases (same_ticket (ticket_of l) t) (has t ls) (w t k z))

  close_one : (m : Making K) → FromMaking same m → (l : Lease) (u tr : List Lease) (slab : List ℕ) (cs : List (Option (Event K))) (es : List (Event K)) (s n t : State K) (i g : Hand) (r : Result (Unit {0}) Refusal)
      → Line same m es s → Covers es (l ∷ u) → Unknown s.table tr
      → i ≡ hand (remove (l ∷ (u ++ tr)) 0 ++ handed_back l r) slab → Asked i (replicate (length u) (AskGive 0)) cs g → Step same s (gives_back (ticket_of l) r) n
      → ((tr' : List Lease) (es' : List (Event K)) → Line same m es' n → Covers es' u → Unknown n.table tr' → Asked (hand (u ++ tr') slab) (replicate (length u) (AskGive 0)) cs g → Closed (noted cs es') t g)
      → Closed (noted cs (gives_back (ticket_of l) r ∷ es)) t g
  close_one m every l u tr slab cs es s n t i g (Ok v) line w k q a z ih =
      let e : i ≡ hand (u ++ tr) slab = q ∙ ap (λ (x : List Lease). hand x slab) (append-nil (u ++ tr)) in
      let y : Unknown n.table tr = subst (λ (x : State K). Unknown x.table tr) (sym z.1) (unknown_after s.table l.ticket.slot tr k) in
      ih tr (gives_back (ticket_of l) (Ok v) ∷ es) (s, line, z) (covers_taken l v u es w) y (subst (λ (x : Hand). Asked x (replicate (length u) (AskGive 0)) cs g) e a)
  close_one m every l u tr slab cs es s n t i g (Err f) line w k q a z ih =
      let e : i ≡ hand (u ++ (tr ++ l ∷ [])) slab = q ∙ ap (λ (x : List Lease). hand x slab) (append_assoc u tr (l ∷ [])) in
      let d : known s.table (ticket_of l) ≡ false = refused_unknown s (ticket_of l) f z.0 in
      let y : Unknown n.table (tr ++ l ∷ []) = subst (λ (x : State K). Unknown x.table (tr ++ l ∷ [])) (sym z.1) (unknown_more s.table tr l k d) in
      ih (tr ++ l ∷ []) (gives_back (ticket_of l) (Err f) ∷ es) (s, line, z) (covers_declined m every l u es s f line d w) y (subst (λ (x : Hand). Asked x (replicate (length u) (AskGive 0)) cs g) e a)

  pub closes : (m : Making K) → FromMaking same m → (u tr : List Lease) (slab : List ℕ) (cs : List (Option (Event K))) (es : List (Event K)) (s t : State K) (g : Hand)
      → Line same m es s → Covers es u → Unknown s.table tr → Asked (hand (u ++ tr) slab) (replicate (length u) (AskGive 0)) cs g → Passes same s cs t → Closed (noted cs es) t g
  closes m every [] tr slab [] es s t g line w k a p =
      let y : Unknown t.table tr = subst (λ (x : State K). Unknown x.table tr) (sym p) k in
      (none_lent es w, subst (λ (x : Hand). Unknown t.table x.leases) (sym a) y)
  closes m every [] tr slab (c ∷ cs) es s t g line w k a p = absurd a
  closes m every (l ∷ u) tr slab [] es s t g line w k a p = absurd a
  closes m every (l ∷ u) tr slab (c ∷ cs) es s t g line w k a p =
      let r = a.1.0 in
      let q : c ≡ Some (gives_back (ticket_of l) r) = a.1.1 in
      let z : Step same s (gives_back (ticket_of l) r) p.0 = subst (λ (x : Option (Event K)). Leads same s x p.0) q p.1 in
      subst (λ (x : Option (Event K)). Closed (noted (x ∷ cs) es) t g) (sym q)
      (close_one m every l u tr slab cs es s p.0 t a.0 g r line w k a.1.2 a.2 z
      (λ tr' es' line' w' k' a'. closes m every u tr' slab cs es' p.0 t g line' w' k' a' p.2))
