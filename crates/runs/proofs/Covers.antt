-- Who is out by the events is out under a lease in hand.
use Rattle.std.proofs.Common.{◌≡◌, ℕ, zero, suc, Bool, true, false, ◌||◌, List, [], ◌∷◌, ◌++◌, Some, None, Ok, Err, vec_items, Option, Result, sym, refl, ap, ◌∙◌, subst, ⊎_elim, arith}
use Rattle.std.specs.List.{remove}
use Rattle.std.proofs.lemmas.Bool.{cases_Bool, or_cases, or_left, or_right, cond-true, cond-false, both_ways}
use Rattle.promises.specs.declared.answers.Refusal.{Refusal}
use Rattle.promises.specs.declared.answers.Kept.{Kept}
use Rattle.promises.specs.declared.answers.Kept.TheVariants.{Refreshed, Taken, TakenEvicting}
use Rattle.promises.specs.declared.answers.Evicted.{Evicted}
use Rattle.promises.specs.declared.records.Ticket.{Ticket}
use Rattle.promises.specs.Events.{Event, Part, gets, keeps, leases, writes, gives_back, drops, lent, same_ticket}
use Rattle.cache.specs.Leases.{ticket_of, ticketed}
use Rattle.cache.specs.declared.lease.Lease.{Lease}
use Rattle.runs.specs.declared.asks.Ask.{Ask}
use Rattle.runs.specs.declared.asks.Ask.TheVariants.{State as AskState, Get as AskGet, Keep as AskKeep, Lease as AskLease, Write as AskWrite, GiveBack as AskGive, Drop as AskDrop}
use Rattle.runs.specs.Asks.{Hand, nth, gained, handed_back, MakesWrite, MakesGive, Makes}
use Rattle.runs.specs.Runs.{Asked, noted}
use Rattle.runs.proofs.Chains.{note, over_all}

-- a lease of this ticket is in the list
abbrev pub has : Ticket → List Lease → Bool
has t [] = false
has t (l ∷ ls) = same_ticket (ticket_of l) t || has t ls

has_left : (t : Ticket) (ls ms : List Lease) → has t ls ≡ true → has t (ls ++ ms) ≡ true
has_left t [] ms h = absurd (both_ways false refl h)
has_left t (l ∷ ls) ms h =
    ⊎_elim (λ e. or_left (same_ticket (ticket_of l) t) (has t (ls ++ ms)) e) (λ e. or_right (same_ticket (ticket_of l) t) (has t (ls ++ ms)) (has_left t ls ms e)) (or_cases (same_ticket (ticket_of l) t) (has t ls) h)

has_last : (t : Ticket) (ls : List Lease) (l : Lease) → same_ticket (ticket_of l) t ≡ true → has t (ls ++ l ∷ []) ≡ true
has_last t [] l h = or_left (same_ticket (ticket_of l) t) false h
has_last t (m ∷ ls) l h = or_right (same_ticket (ticket_of m) t) (has t (ls ++ l ∷ [])) (has_last t ls l h)

-- the one that is taken out is another
has_removed : (t : Ticket) (ls : List Lease) (n : ℕ) (l : Lease) → nth ls n ≡ Some l → same_ticket (ticket_of l) t ≡ false → has t ls ≡ true → has t (remove ls n) ≡ true
has_removed t [] n l q d h = absurd (both_ways false refl h)
has_removed t (m ∷ ls) zero l q d h =
    let e : m ≡ l = cc in
    let f : same_ticket (ticket_of m) t ≡ false = ap (λ (x : Lease). same_ticket (ticket_of x) t) e ∙ d in
    ⊎_elim (λ y. absurd (both_ways (same_ticket (ticket_of m) t) f y)) (λ y. y) (or_cases (same_ticket (ticket_of m) t) (has t ls) h)
has_removed t (m ∷ ls) (suc n) l q d h =
    ⊎_elim (λ y. or_left (same_ticket (ticket_of m) t) (has t (remove ls n)) y) (λ y. or_right (same_ticket (ticket_of m) t) (has t (remove ls n)) (has_removed t ls n l q d y)) (or_cases (same_ticket (ticket_of m) t) (has t ls) h)

pub same_hand : (h g : Hand) → g ≡ h → g.leases ≡ h.leases
same_hand h g e = ap (λ (x : Hand). x.leases) e

module _ {K : Type 0} where
  -- each ticket that is out is of a lease in the list
  abbrev pub Covers : List (Event K) → List Lease → Type 0
  Covers es ls = (t : Ticket) (k : K) → lent es t ≡ Some k → has t ls ≡ true

  -- calls that lend nothing and take nothing back
  pub lent_get : (k : K) (slab : List ℕ) (r : Result (Option Part) Refusal) (es : List (Event K)) (t : Ticket) → lent (gets k slab r ∷ es) t ≡ lent es t
  lent_get k slab (Err e) es t = refl
  lent_get k slab (Ok None) es t = refl
  lent_get k slab (Ok (Some p)) es t = refl

  pub lent_keep : (k : K) (c : ℕ) (v slab : List ℕ) (r : Result (Kept (Evicted K)) Refusal) (after : List ℕ) (es : List (Event K)) (t : Ticket) → lent (keeps k c v slab r after ∷ es) t ≡ lent es t
  lent_keep k c v slab (Err e) after es t = refl
  lent_keep k c v slab (Ok Refreshed) after es t = refl
  lent_keep k c v slab (Ok Taken) after es t = refl
  lent_keep k c v slab (Ok (TakenEvicting e)) after es t = refl

  pub lent_write : (x : Ticket) (v slab : List ℕ) (r : Result (Unit {0}) Refusal) (after : List ℕ) (es : List (Event K)) (t : Ticket) → lent (writes x v slab r after ∷ es) t ≡ lent es t
  lent_write x v slab (Err e) after es t = refl
  lent_write x v slab (Ok u) after es t = refl

  pub lent_drop : (k : K) (r : Result (Unit {0}) Refusal) (es : List (Event K)) (t : Ticket) → lent (drops k r ∷ es) t ≡ lent es t
  lent_drop k (Err e) es t = refl
  lent_drop k (Ok u) es t = refl

  -- the call that was made is this one, and as many leases are in hand
  as_before : (c : Option (Event K)) (e : Event K) (es : List (Event K)) (ls ms : List Lease) → c ≡ Some e → ((t : Ticket) → lent (e ∷ es) t ≡ lent es t) → ms ≡ ls → Covers es ls → Covers (note c es) ms
  as_before c e es ls ms q f p h =
      let w : Covers (e ∷ es) ls = λ t k z. h t k (sym (f t) ∙ z) in
      let y : Covers (e ∷ es) ms = subst (λ (x : List Lease). Covers (e ∷ es) x) (sym p) w in
      subst (λ (x : Option (Event K)). Covers (note x es) ms) (sym q) y

  covers_lease : (k : K) (r : Result Lease Refusal) (es : List (Event K)) (ls : List Lease) → Covers es ls → Covers (leases k (ticketed r) ∷ es) (ls ++ gained r)
  covers_lease k (Err e) es ls h = λ t x z. has_left t ls [] (h t x z)
  covers_lease k (Ok l) es ls h = λ t x z.
      ⊎_elim (λ d. has_last t ls l d) (λ d. has_left t ls (l ∷ []) (h t x (sym (cond-false (same_ticket (ticket_of l) t) (Some k) (lent es t) d) ∙ z))) (cases_Bool (same_ticket (ticket_of l) t))

  covers_give : (l : Lease) (n : ℕ) (r : Result (Unit {0}) Refusal) (es : List (Event K)) (ls : List Lease) → nth ls n ≡ Some l → Covers es ls → Covers (gives_back (ticket_of l) r ∷ es) (remove ls n ++ handed_back l r)
  covers_give l n (Err e) es ls q h = λ t x z.
      ⊎_elim (λ d. has_last t (remove ls n) l d) (λ d. has_left t (remove ls n) (l ∷ []) (has_removed t ls n l q d (h t x z))) (cases_Bool (same_ticket (ticket_of l) t))
  covers_give l n (Ok u) es ls q h = λ t x z.
      ⊎_elim
      (λ d. let w : None ≡ Some x = sym (cond-true (same_ticket (ticket_of l) t) None (lent es t) d) ∙ z in let y : ◌≡◌ {A = ℕ} 0 1 = cc in absurd (omega arith))
      (λ d. has_left t (remove ls n) [] (has_removed t ls n l q d (h t x (sym (cond-false (same_ticket (ticket_of l) t) None (lent es t) d) ∙ z))))
      (cases_Bool (same_ticket (ticket_of l) t))

  covers_write : (h g : Hand) (o : Option Lease) (v : List ℕ) (c : Option (Event K)) (es : List (Event K)) → MakesWrite h o v c g → Covers es h.leases → Covers (note c es) g.leases
  covers_write h g None v c es m w =
      let y : Covers es g.leases = subst (λ (x : Hand). Covers es x.leases) (sym m.1) w in
      subst (λ (x : Option (Event K)). Covers (note x es) g.leases) (sym m.0) y
  covers_write h g (Some l) v c es m w = as_before c _ es h.leases g.leases m.1 (λ t. lent_write (ticket_of l) v h.slab m.0 g.slab es t) m.2 w

  covers_back : (h g : Hand) (n : ℕ) (o : Option Lease) (c : Option (Event K)) (es : List (Event K)) → nth h.leases n ≡ o → MakesGive h n o c g → Covers es h.leases → Covers (note c es) g.leases
  covers_back h g n None c es q m w =
      let y : Covers es g.leases = subst (λ (x : Hand). Covers es x.leases) (sym m.1) w in
      subst (λ (x : Option (Event K)). Covers (note x es) g.leases) (sym m.0) y
  covers_back h g n (Some l) c es q m w =
      let y : Covers (gives_back (ticket_of l) m.0 ∷ es) g.leases = subst (λ (x : Hand). Covers (gives_back (ticket_of l) m.0 ∷ es) x.leases) (sym m.2) (covers_give l n m.0 es h.leases q w) in
      subst (λ (x : Option (Event K)). Covers (note x es) g.leases) (sym m.1) y

  covers_one : (h g : Hand) (a : Ask K) (c : Option (Event K)) (es : List (Event K)) → Makes h a c g → Covers es h.leases → Covers (note c es) g.leases
  covers_one h g (AskState k) c es m w = as_before c _ es h.leases g.leases m.1 (λ t. refl) (same_hand h g m.2) w
  covers_one h g (AskGet k) c es m w = as_before c _ es h.leases g.leases m.1 (λ t. lent_get k h.slab m.0 es t) (same_hand h g m.2) w
  covers_one h g (AskKeep k n v) c es m w = as_before c _ es h.leases g.leases m.1 (λ t. lent_keep k n (vec_items v) h.slab m.0 g.slab es t) m.2 w
  covers_one h g (AskLease k) c es m w =
      let y : Covers (leases k (ticketed m.0) ∷ es) g.leases = subst (λ (x : Hand). Covers (leases k (ticketed m.0) ∷ es) x.leases) (sym m.2) (covers_lease k m.0 es h.leases w) in
      subst (λ (x : Option (Event K)). Covers (note x es) g.leases) (sym m.1) y
  covers_one h g (AskWrite n v) c es m w = covers_write h g (nth h.leases n) (vec_items v) c es m w
  covers_one h g (AskGive n) c es m w = covers_back h g n (nth h.leases n) c es refl m w
  covers_one h g (AskDrop k) c es m w = as_before c _ es h.leases g.leases m.1 (λ t. lent_drop k m.0 es t) (same_hand h g m.2) w

  pub covers_all : (h g : Hand) (asks : List (Ask K)) (cs : List (Option (Event K))) (es : List (Event K)) → Asked h asks cs g → Covers es h.leases → Covers (noted cs es) g.leases
  covers_all h g asks cs es r w = over_all (λ (x : List (Event K)) (i : Hand). Covers x i.leases) (λ i j a c x m y. covers_one i j a c x m y) h g asks cs es r w
