-- A run that begins with no lease in hand: each lease in hand is out by the events, and no two are of one ticket. So each is accepted when it
-- is given back, and none is left.
use Rattle.std.proofs.Common.{◌≡◌, ℕ, zero, suc, Bool, true, false, cond, not, eqb, List, [], ◌∷◌, ◌++◌, is_some, Some, None, Ok, Err, vec_items, Option, Result, sym, refl, ap, ◌∙◌, subst, ⊎_elim, append-nil, arith}
use Rattle.std.specs.List.{remove}
use Rattle.std.proofs.lemmas.Bool.{cases_Bool, cond-true, cond-false, both_ways, and_from, and_parts, eqb-true, eq-eqb}
use Rattle.promises.specs.declared.answers.Refusal.{Refusal}
use Rattle.promises.specs.declared.answers.Refusal.TheVariants.{NotHeld, OnLease}
use Rattle.promises.specs.declared.records.Ticket.{Ticket}
use Rattle.promises.specs.State.{State, known, out_at}
use Rattle.promises.specs.Events.{Event, leases, gives_back, lent, same_ticket}
use Rattle.promises.specs.Steps.{Step, out_slot}
use Rattle.promises.specs.Lines.{Making, Line}
use Rattle.promises.specs.Promises.{FromMaking}
use Rattle.cache.specs.Leases.{ticket_of, ticketed}
use Rattle.cache.specs.declared.lease.Lease.{Lease}
use Rattle.runs.specs.declared.asks.Ask.{Ask}
use Rattle.runs.specs.declared.asks.Ask.TheVariants.{State as AskState, Get as AskGet, Keep as AskKeep, Lease as AskLease, Write as AskWrite, GiveBack as AskGive, Drop as AskDrop}
use Rattle.runs.specs.Asks.{Hand, hand, nth, gained, handed_back, MakesWrite, MakesGive, Makes, Leads}
use Rattle.runs.specs.Runs.{Asked, Passes, noted, tries}
use Rattle.runs.proofs.Chains.{note, noted_first}
use Rattle.runs.proofs.Covers.{lent_get, lent_keep, lent_write, lent_drop, same_hand}
use Rattle.runs.proofs.Closes.{refused_unknown}

-- two leases of different tickets
abbrev Differ : Lease → Lease → Type 0
Differ l m = ticket_of l ≡ ticket_of m → ⊥

-- the lease differs from each of the list
abbrev Apart : Lease → List Lease → Type 0
Apart l [] = Unit {0}
Apart l (m ∷ ls) = Differ l m × Apart l ls

one_ticket : (l m : Lease) → same_ticket (ticket_of l) (ticket_of m) ≡ true → ticket_of l ≡ ticket_of m
one_ticket l m h =
    let p = and_parts (eqb l.ticket.mark m.ticket.mark) (eqb l.ticket.slot m.ticket.slot) h in
    ap (λ (x : ℕ). record { mark = x; slot = l.ticket.slot }) (eqb-true l.ticket.mark m.ticket.mark p.0)
    ∙ ap (λ (x : ℕ). record { mark = m.ticket.mark; slot = x }) (eqb-true l.ticket.slot m.ticket.slot p.1)

not_same : (l m : Lease) → Differ l m → same_ticket (ticket_of l) (ticket_of m) ≡ false
not_same l m d = ⊎_elim (λ e. absurd (d (one_ticket l m e))) (λ e. e) (cases_Bool (same_ticket (ticket_of l) (ticket_of m)))

apart_more : (m l : Lease) (ls : List Lease) → Apart m ls → Differ m l → Apart m (ls ++ l ∷ [])
apart_more m l [] a d = (d, tt)
apart_more m l (x ∷ ls) a d = (a.0, apart_more m l ls a.1 d)

apart_removed : (m : Lease) (ls : List Lease) (n : ℕ) → Apart m ls → Apart m (remove ls n)
apart_removed m [] zero a = tt
apart_removed m [] (suc n) a = tt
apart_removed m (x ∷ ls) zero a = a.1
apart_removed m (x ∷ ls) (suc n) a = (a.0, apart_removed m ls n a.1)

apart_nth : (m l : Lease) (ls : List Lease) (n : ℕ) → nth ls n ≡ Some l → Apart m ls → Differ m l
apart_nth m l [] n q a = let y : ◌≡◌ {A = ℕ} 0 1 = cc in absurd (omega arith)
apart_nth m l (x ∷ ls) zero q a = let e : x ≡ l = cc in subst (λ (y : Lease). Differ m y) e a.0
apart_nth m l (x ∷ ls) (suc n) q a = apart_nth m l ls n q a.1

module _ {K : Type 0} where
  -- the lease is out by the events
  abbrev OutNow : List (Event K) → Lease → Type 0
  OutNow es l = (k : K) × (lent es (ticket_of l) ≡ Some k)

  -- each lease is out, and no two are of one ticket
  abbrev pub Live : List (Event K) → List Lease → Type 0
  Live es [] = Unit {0}
  Live es (l ∷ ls) = OutNow es l × Apart l ls × Live es ls

  out_nth : (es : List (Event K)) (l : Lease) (ls : List Lease) (n : ℕ) → nth ls n ≡ Some l → Live es ls → OutNow es l
  out_nth es l [] n q w = let y : ◌≡◌ {A = ℕ} 0 1 = cc in absurd (omega arith)
  out_nth es l (x ∷ ls) zero q w = let e : x ≡ l = cc in subst (λ (y : Lease). OutNow es y) e w.0
  out_nth es l (x ∷ ls) (suc n) q w = out_nth es l ls n q w.2

  -- the events after lend and take back none of the list
  live_same : (es fs : List (Event K)) (ls : List Lease) → ((t : Ticket) → lent fs t ≡ lent es t) → Live es ls → Live fs ls
  live_same es fs [] f w = tt
  live_same es fs (l ∷ ls) f w = ((w.0.0, f (ticket_of l) ∙ w.0.1), w.1, live_same es fs ls f w.2)

  -- a new lease, which was not out
  out_more : (es : List (Event K)) (k : K) (l m : Lease) → Differ l m → OutNow es m → OutNow (leases k (Ok (ticket_of l)) ∷ es) m
  out_more es k l m d o = (o.0, cond-false (same_ticket (ticket_of l) (ticket_of m)) (Some k) (lent es (ticket_of m)) (not_same l m d) ∙ o.1)

  out_new : (es : List (Event K)) (k : K) (l : Lease) → OutNow (leases k (Ok (ticket_of l)) ∷ es) l
  out_new es k l =
      let e : same_ticket (ticket_of l) (ticket_of l) ≡ true = and_from (eqb l.ticket.mark l.ticket.mark) (eqb l.ticket.slot l.ticket.slot) (eq-eqb l.ticket.mark l.ticket.mark refl) (eq-eqb l.ticket.slot l.ticket.slot refl) in
      (k, cond-true (same_ticket (ticket_of l) (ticket_of l)) (Some k) (lent es (ticket_of l)) e)

  apart_of_none : (es : List (Event K)) (l m : Lease) → lent es (ticket_of l) ≡ None → OutNow es m → Differ l m
  apart_of_none es l m n o e =
      let z : None ≡ Some o.0 = sym n ∙ (ap (λ (t : Ticket). lent es t) e ∙ o.1) in
      let y : ◌≡◌ {A = ℕ} 0 1 = cc in absurd (omega arith)

  live_more : (es : List (Event K)) (k : K) (l : Lease) (ls : List Lease) → lent es (ticket_of l) ≡ None → Live es ls → Live (leases k (Ok (ticket_of l)) ∷ es) (ls ++ l ∷ [])
  live_more es k l [] n w = (out_new es k l, tt, tt)
  live_more es k l (m ∷ ls) n w =
      let d : Differ l m = apart_of_none es l m n w.0 in
      (out_more es k l m d w.0, apart_more m l ls w.1 (λ e. d (sym e)), live_more es k l ls n w.2)

  -- a lease that was taken back
  out_less : (es : List (Event K)) (u : Unit {0}) (l m : Lease) → Differ l m → OutNow es m → OutNow (gives_back (ticket_of l) (Ok u) ∷ es) m
  out_less es u l m d o = (o.0, cond-false (same_ticket (ticket_of l) (ticket_of m)) None (lent es (ticket_of m)) (not_same l m d) ∙ o.1)

  live_apart : (es : List (Event K)) (u : Unit {0}) (l : Lease) (ls : List Lease) → Apart l ls → Live es ls → Live (gives_back (ticket_of l) (Ok u) ∷ es) ls
  live_apart es u l [] a w = tt
  live_apart es u l (m ∷ ls) a w = (out_less es u l m a.0 w.0, w.1, live_apart es u l ls a.1 w.2)

  live_less : (es : List (Event K)) (u : Unit {0}) (l : Lease) (ls : List Lease) (n : ℕ) → nth ls n ≡ Some l → Live es ls → Live (gives_back (ticket_of l) (Ok u) ∷ es) (remove ls n)
  live_less es u l [] n q w = let y : ◌≡◌ {A = ℕ} 0 1 = cc in absurd (omega arith)
  live_less es u l (m ∷ ls) zero q w =
      let e : m ≡ l = cc in
      subst (λ (x : Lease). Live (gives_back (ticket_of x) (Ok u) ∷ es) ls) e (live_apart es u m ls w.1 w.2)
  live_less es u l (m ∷ ls) (suc n) q w =
      (out_less es u l m (λ e. apart_nth m l ls n q w.1 (sym e)) w.0, apart_removed m ls n w.1, live_less es u l ls n q w.2)

  as_before : (c : Option (Event K)) (e : Event K) (es : List (Event K)) (ls ms : List Lease) → c ≡ Some e → ((t : Ticket) → lent (e ∷ es) t ≡ lent es t) → ms ≡ ls → Live es ls → Live (note c es) ms
  as_before c e es ls ms q f p w =
      let y : Live (e ∷ es) ms = subst (λ (x : List Lease). Live (e ∷ es) x) (sym p) (live_same es (e ∷ es) ls f w) in
      subst (λ (x : Option (Event K)). Live (note x es) ms) (sym q) y

  -- no call
  as_idle : (h g : Hand) (c : Option (Event K)) (es : List (Event K)) → c ≡ None → g ≡ h → Live es h.leases → Live (note c es) g.leases
  as_idle h g c es q p w =
      let y : Live es g.leases = subst (λ (x : Hand). Live es x.leases) (sym p) w in
      subst (λ (x : Option (Event K)). Live (note x es) g.leases) (sym q) y

module _ {K : Type 0} (same : K → K → Bool) (m : Making K) (every : FromMaking same m) where
  -- a region is lent only while it waits
  was_in : (es : List (Event K)) (s n : State K) (k : K) (t : Ticket) → Line same m es s → Step same s (leases k (Ok t)) n → lent es t ≡ None
  was_in es s n k t line z = way (lent es t) refl
    where
      way : (o : Option K) → lent es t ≡ o → o ≡ None
      way None q = refl
      way (Some x) q =
          let i : ℕ = z.1.slot in
          let p = and_parts (eqb t.mark s.table.mark) (out_at s.table t.slot) ((every es s line).held_out t x q).1 in
          let a : out_at s.table i ≡ true = ap (λ (y : Ticket). out_at s.table y.slot) (sym z.1.names) ∙ p.1 in
          let b : cond (out_at s.table i) (Some OnLease) None ≡ None
          = subst (λ (y : Option ℕ). cond (not (is_some y)) (Some NotHeld) (cond (out_slot s.table y) (Some OnLease) None) ≡ None) z.1.held z.0 in
          let c : Some OnLease ≡ None = sym (cond-true (out_at s.table i) (Some OnLease) None a) ∙ b in
          let y : ◌≡◌ {A = ℕ} 0 1 = cc in absurd (omega arith)

  -- and a lease that is out is never declined
  never_declined : (es : List (Event K)) (s n : State K) (l : Lease) (e : Refusal) → Line same m es s → OutNow es l → Step same s (gives_back (ticket_of l) (Err e)) n → ⊥
  never_declined es s n l e line o z = both_ways (known s.table (ticket_of l)) (refused_unknown s (ticket_of l) e z.0) ((every es s line).held_out (ticket_of l) o.0 o.1).1

  live_lease : (es : List (Event K)) (s n : State K) (k : K) (r : Result Lease Refusal) (ls : List Lease) → Line same m es s → Step same s (leases k (ticketed r)) n → Live es ls
      → Live (leases k (ticketed r) ∷ es) (ls ++ gained r)
  live_lease es s n k (Ok l) ls line z w = live_more es k l ls (was_in es s n k (ticket_of l) line z) w
  live_lease es s n k (Err e) ls line z w = subst (λ (x : List Lease). Live es x) (sym (append-nil ls)) w

  live_give : (es : List (Event K)) (s n : State K) (l : Lease) (i : ℕ) (r : Result (Unit {0}) Refusal) (ls : List Lease) → Line same m es s → Step same s (gives_back (ticket_of l) r) n → nth ls i ≡ Some l
      → Live es ls → Live (gives_back (ticket_of l) r ∷ es) (remove ls i ++ handed_back l r)
  live_give es s n l i (Ok u) ls line z q w = subst (λ (x : List Lease). Live (gives_back (ticket_of l) (Ok u) ∷ es) x) (sym (append-nil (remove ls i))) (live_less es u l ls i q w)
  live_give es s n l i (Err e) ls line z q w = absurd (never_declined es s n l e line (out_nth es l ls i q w) z)

  live_write : (h g : Hand) (o : Option Lease) (v : List ℕ) (c : Option (Event K)) (es : List (Event K)) → MakesWrite h o v c g → Live es h.leases → Live (note c es) g.leases
  live_write h g None v c es d w = as_idle h g c es d.0 d.1 w
  live_write h g (Some l) v c es d w = as_before c _ es h.leases g.leases d.1 (λ t. lent_write (ticket_of l) v h.slab d.0 g.slab es t) d.2 w

  live_back : (h g : Hand) (i : ℕ) (o : Option Lease) (c : Option (Event K)) (es : List (Event K)) (s n : State K) → Line same m es s → Leads same s c n → nth h.leases i ≡ o → MakesGive h i o c g
      → Live es h.leases → Live (note c es) g.leases
  live_back h g i None c es s n line z q d w = as_idle h g c es d.0 d.1 w
  live_back h g i (Some l) c es s n line z q d w =
      let e : Event K = gives_back (ticket_of l) d.0 in
      let x : Step same s e n = subst (λ (y : Option (Event K)). Leads same s y n) d.1 z in
      let y : Live (e ∷ es) g.leases = subst (λ (y : Hand). Live (e ∷ es) y.leases) (sym d.2) (live_give es s n l i d.0 h.leases line x q w) in
      subst (λ (y : Option (Event K)). Live (note y es) g.leases) (sym d.1) y

  live_lend : (h g : Hand) (k : K) (c : Option (Event K)) (es : List (Event K)) (s n : State K) → Line same m es s → Leads same s c n → Makes h (AskLease k) c g → Live es h.leases → Live (note c es) g.leases
  live_lend h g k c es s n line z d w =
      let e : Event K = leases k (ticketed d.0) in
      let x : Step same s e n = subst (λ (y : Option (Event K)). Leads same s y n) d.1 z in
      let y : Live (e ∷ es) g.leases = subst (λ (y : Hand). Live (e ∷ es) y.leases) (sym d.2) (live_lease es s n k d.0 h.leases line x w) in
      subst (λ (y : Option (Event K)). Live (note y es) g.leases) (sym d.1) y

  live_one : (h g : Hand) (a : Ask K) (c : Option (Event K)) (es : List (Event K)) (s n : State K) → Line same m es s → Leads same s c n → Makes h a c g → Live es h.leases → Live (note c es) g.leases
  live_one h g (AskState k) c es s n line z d w = as_before c _ es h.leases g.leases d.1 (λ t. refl) (same_hand h g d.2) w
  live_one h g (AskGet k) c es s n line z d w = as_before c _ es h.leases g.leases d.1 (λ t. lent_get k h.slab d.0 es t) (same_hand h g d.2) w
  live_one h g (AskKeep k p v) c es s n line z d w = as_before c _ es h.leases g.leases d.1 (λ t. lent_keep k p (vec_items v) h.slab d.0 g.slab es t) d.2 w
  live_one h g (AskLease k) c es s n line z d w = live_lend h g k c es s n line z d w
  live_one h g (AskWrite i v) c es s n line z d w = live_write h g (nth h.leases i) (vec_items v) c es d w
  live_one h g (AskGive i) c es s n line z d w = live_back h g i (nth h.leases i) c es s n line z refl d w
  live_one h g (AskDrop k) c es s n line z d w = as_before c _ es h.leases g.leases d.1 (λ t. lent_drop k d.0 es t) (same_hand h g d.2) w

  line_one : (c : Option (Event K)) (es : List (Event K)) (s n : State K) → Line same m es s → Leads same s c n → Line same m (note c es) n
  line_one None es s n line z = subst (λ (x : State K). Line same m es x) (sym z) line
  line_one (Some e) es s n line z = (s, line, z)

  pub live_all : (h g : Hand) (asks : List (Ask K)) (cs : List (Option (Event K))) (es : List (Event K)) (s t : State K) → Line same m es s → Asked h asks cs g → Passes same s cs t → Live es h.leases → Live (noted cs es) g.leases
  live_all h g [] [] es s t line a p w = subst (λ (x : Hand). Live es x.leases) (sym a) w
  live_all h g [] (c ∷ cs) es s t line a p w = absurd a
  live_all h g (x ∷ asks) [] es s t line a p w = absurd a
  live_all h g (x ∷ asks) (c ∷ cs) es s t line a p w =
      subst (λ (y : List (Event K)). Live y g.leases) (sym (noted_first c cs es))
      (live_all a.0 g asks cs (note c es) p.0 t (line_one c es s p.0 line p.1) a.2 p.2 (live_one h a.0 x c es s p.0 line p.1 a.1 w))

  -- each try is accepted, so the list ends empty
  empty_one : (l : Lease) (ls : List Lease) (slab : List ℕ) (cs : List (Option (Event K))) (es : List (Event K)) (s n : State K) (i g : Hand) (r : Result (Unit {0}) Refusal)
      → Line same m es s → Live es (l ∷ ls) → i ≡ hand (ls ++ handed_back l r) slab → Asked i (tries ls) cs g → Step same s (gives_back (ticket_of l) r) n
      → ((es' : List (Event K)) → Line same m es' n → Live es' ls → Asked (hand ls slab) (tries ls) cs g → g.leases ≡ []) → g.leases ≡ []
  empty_one l ls slab cs es s n i g (Ok u) line w q a z ih =
      let e : i ≡ hand ls slab = q ∙ ap (λ (x : List Lease). hand x slab) (append-nil ls) in
      ih (gives_back (ticket_of l) (Ok u) ∷ es) (s, line, z) (live_apart es u l ls w.1 w.2) (subst (λ (x : Hand). Asked x (tries ls) cs g) e a)
  empty_one l ls slab cs es s n i g (Err e) line w q a z ih = absurd (never_declined es s n l e line w.0 z)

  pub empties : (ls : List Lease) (slab : List ℕ) (cs : List (Option (Event K))) (es : List (Event K)) (s t : State K) (g : Hand)
      → Line same m es s → Live es ls → Asked (hand ls slab) (tries ls) cs g → Passes same s cs t → g.leases ≡ []
  empties [] slab [] es s t g line w a p = ap (λ (x : Hand). x.leases) a
  empties [] slab (c ∷ cs) es s t g line w a p = absurd a
  empties (l ∷ ls) slab [] es s t g line w a p = absurd a
  empties (l ∷ ls) slab (c ∷ cs) es s t g line w a p =
      let r = a.1.0 in
      let z : Step same s (gives_back (ticket_of l) r) p.0 = subst (λ (x : Option (Event K)). Leads same s x p.0) a.1.1 p.1 in
      empty_one l ls slab cs es s p.0 a.0 g r line w a.1.2 a.2 z (λ es' line' w' a'. empties ls slab cs es' p.0 t g line' w' a' p.2)
