-- What each call does for its ask.
use Rattle.std.proofs.Common.{◌≡◌, ℕ, zero, suc, ◌<◌, ◌≤◌, Bool, List, [], ◌∷◌, ◌++◌, length, get_or, Some, None, Ok, Err, vec_items, Option, Result, Vec, sym, refl, ap, ◌∙◌, subst, append-nil, arith, Bor}
use Rattle.std.specs.List.{remove}
use Rattle.std.specs.declared.alloc.Global.{Global}
use Rattle.promises.specs.declared.answers.Refusal.{Refusal}
use Rattle.promises.specs.declared.answers.Kept.{Kept}
use Rattle.promises.specs.declared.answers.Evicted.{Evicted}
use Rattle.promises.specs.declared.answers.Presence.{Presence}
use Rattle.promises.specs.declared.records.Ticket.{Ticket}
use Rattle.promises.specs.State.{State}
use Rattle.promises.specs.Events.{Event, gets, keeps, leases, writes, gives_back, drops, tells}
use Rattle.promises.specs.Steps.{Step}
use Rattle.cache.specs.Leases.{ticket_of}
use Rattle.cache.specs.Parts.{seen}
use Rattle.cache.specs.declared.lease.Lease.{Lease}
use Rattle.runs.specs.declared.asks.Ask.{Ask}
use Rattle.runs.specs.declared.asks.Ask.TheVariants.{State as AskState, Get as AskGet, Keep as AskKeep, Lease as AskLease, Write as AskWrite, GiveBack as AskGive, Drop as AskDrop}
use Rattle.runs.specs.declared.asks.Happening.{Happening}
use Rattle.runs.specs.declared.asks.Happening.TheVariants.{State as SaidState, Get as SaidGet, Keep as SaidKeep, Lease as SaidLease, Write as SaidWrite, GiveBack as SaidGive, Drop as SaidDrop, Idle}
use Rattle.runs.specs.Asks.{Hand, hand, nth, handed_back, MakesWrite, MakesGive, lengths, found_lengths, Does}

-- the lease at a place
nth_past : (ls : List Lease) (n : ℕ) → length ls ≤ n → nth ls n ≡ None
nth_past [] n h = refl
nth_past (l ∷ ls) zero h = absurd (omega arith)
nth_past (l ∷ ls) (suc n) h = nth_past ls n (omega arith)

nth_at : (ls : List Lease) (n : ℕ) (d : Lease) → n < length ls → nth ls n ≡ Some (get_or ls n d)
nth_at [] n d h = absurd (omega arith)
nth_at (l ∷ ls) zero d h = refl
nth_at (l ∷ ls) (suc n) d h = nth_at ls n d (omega arith)

pub lengths_seen : (whole : Bor (List ℕ)) (r : Result (Option (Bor (List ℕ))) Refusal) → found_lengths r ≡ lengths (seen whole r)
lengths_seen whole (Err e) = refl
lengths_seen whole (Ok None) = refl
lengths_seen whole (Ok (Some p)) = refl

-- a declined lease goes to the end
pub pushed_back : (rest taken after : List Lease) (l t : Lease) → after ≡ taken ++ t ∷ [] → taken ≡ rest → t ≡ l → after ≡ rest ++ l ∷ []
pushed_back rest taken after l t p q e = cc

module _ {K : Type 0} (same : K → K → Bool) where
  -- from an ask that is equal to the one that was done
  pub does_as : (s t : State K) (h g : Hand) (ask a : Ask K) (x : Happening K) → ask ≡ a → Does same s h a x t g → Does same s h ask x t g
  does_as s t h g ask a x q d = subst (λ (y : Ask K). Does same s h y x t g) (sym q) d

  pub does_state : (s : State K) (h : Hand) (k : K) (p : Presence) → Step same s (tells k p) s → Does same s h (AskState k) (SaidState k p) s h
  does_state s h k p z = record { call = Some (tells k p); makes = (p, refl, refl); leads = z; told = refl }

  pub does_get : (s t : State K) (ls : List Lease) (k : K) (slab : Bor (List ℕ)) (r : Result (Option (Bor (List ℕ))) Refusal) (x : Result (Option ℕ) Refusal)
      → Step same s (gets k slab.now (seen slab r)) t → x ≡ found_lengths r → Does same s (hand ls slab.now) (AskGet k) (SaidGet k x) t (hand ls slab.now)
  does_get s t ls k slab r x z q =
      let f : Result (Option ℕ) Refusal → Happening K = λ y. SaidGet k y in
      record { call = Some (gets k slab.now (seen slab r)); makes = (seen slab r, refl, refl); leads = z; told = ap f (q ∙ lengths_seen slab r) }

  pub does_keep : (s t : State K) (ls : List Lease) (k : K) (c : ℕ) (v : Vec ℕ Global) (w slab slab' : List ℕ) (r : Result (Kept (Evicted K)) Refusal)
      → w ≡ vec_items v → Step same s (keeps k c w slab r slab') t → Does same s (hand ls slab) (AskKeep k c v) (SaidKeep k c r) t (hand ls slab')
  does_keep s t ls k c v w slab slab' r q z =
      record { call = Some (keeps k c (vec_items v) slab r slab'); makes = (r, refl, refl); leads = subst (λ (y : List ℕ). Step same s (keeps k c y slab r slab') t) q z; told = refl }

  pub does_drop : (s t : State K) (h : Hand) (k : K) (r : Result (Unit {0}) Refusal) → Step same s (drops k r) t → Does same s h (AskDrop k) (SaidDrop k r) t h
  does_drop s t h k r z = record { call = Some (drops k r); makes = (r, refl, refl); leads = z; told = refl }

  pub does_lease : (s t : State K) (ls after : List Lease) (slab : List ℕ) (k : K) (l : Lease) (x : Ticket)
      → Step same s (leases k (Ok (ticket_of l))) t → x ≡ ticket_of l → after ≡ ls ++ l ∷ [] → Does same s (hand ls slab) (AskLease k) (SaidLease k (Ok x)) t (hand after slab)
  does_lease s t ls after slab k l x z d a =
      let f : Ticket → Happening K = λ y. SaidLease k (Ok y) in
      record { call = Some (leases k (Ok (ticket_of l))); makes = (Ok l, refl, ap (λ (y : List Lease). hand y slab) a); leads = z; told = ap f d }

  pub does_refuse : (s t : State K) (ls : List Lease) (slab : List ℕ) (k : K) (e : Refusal)
      → Step same s (leases k (Err e)) t → Does same s (hand ls slab) (AskLease k) (SaidLease k (Err e)) t (hand ls slab)
  does_refuse s t ls slab k e z =
      record { call = Some (leases k (Err e)); makes = (Err e, refl, ap (λ (y : List Lease). hand y slab) (sym (append-nil ls))); leads = z; told = refl }

  pub idle_write : (s : State K) (ls : List Lease) (slab : List ℕ) (v : Vec ℕ Global) (n : ℕ) → length ls ≤ n → Does same s (hand ls slab) (AskWrite n v) Idle s (hand ls slab)
  idle_write s ls slab v n b =
      record { call = None; makes = subst (λ (o : Option Lease). MakesWrite {K = K} (hand ls slab) o (vec_items v) None (hand ls slab)) (sym (nth_past ls n b)) (refl, refl); leads = refl; told = refl }

  pub does_write : (s t : State K) (ls : List Lease) (slab slab' w : List ℕ) (v : Vec ℕ Global) (n : ℕ) (d : Lease) (r : Result (Unit {0}) Refusal) (x : Ticket)
      → w ≡ vec_items v → n < length ls → Step same s (writes (ticket_of (get_or ls n d)) w slab r slab') t → x ≡ ticket_of (get_or ls n d)
      → Does same s (hand ls slab) (AskWrite n v) (SaidWrite x r) t (hand ls slab')
  does_write s t ls slab slab' w v n d r x y b z q =
      let f : Ticket → Happening K = λ y. SaidWrite y r in
      let e : Event K = writes (ticket_of (get_or ls n d)) (vec_items v) slab r slab' in
      record {
        call = Some e;
        makes = subst (λ (o : Option Lease). MakesWrite {K = K} (hand ls slab) o (vec_items v) (Some e) (hand ls slab')) (sym (nth_at ls n d b)) (r, refl, refl);
        leads = subst (λ (u : List ℕ). Step same s (writes (ticket_of (get_or ls n d)) u slab r slab') t) y z;
        told = ap f q;
      }

  pub idle_give : (s : State K) (ls : List Lease) (slab : List ℕ) (n : ℕ) → length ls ≤ n → Does same s (hand ls slab) (AskGive n) Idle s (hand ls slab)
  idle_give s ls slab n b =
      record { call = None; makes = subst (λ (o : Option Lease). MakesGive {K = K} (hand ls slab) n o None (hand ls slab)) (sym (nth_past ls n b)) (refl, refl); leads = refl; told = refl }

  pub does_give : (s t : State K) (ls after : List Lease) (slab : List ℕ) (n : ℕ) (l : Lease) (r : Result (Unit {0}) Refusal) (x : Ticket)
      → n < length ls → l ≡ get_or ls n l → Step same s (gives_back (ticket_of l) r) t → x ≡ ticket_of l → after ≡ remove ls n ++ handed_back l r
      → Does same s (hand ls slab) (AskGive n) (SaidGive x r) t (hand after slab)
  does_give s t ls after slab n l r x b i z d a =
      let f : Ticket → Happening K = λ y. SaidGive y r in
      let e : Event K = gives_back (ticket_of l) r in
      let q : nth ls n ≡ Some l = nth_at ls n l b ∙ ap (λ (m : Lease). Some m) (sym i) in
      record {
        call = Some e;
        makes = subst (λ (o : Option Lease). MakesGive {K = K} (hand ls slab) n o (Some e) (hand after slab)) (sym q) (r, refl, ap (λ (y : List Lease). hand y slab) a);
        leads = z;
        told = ap f d;
      }
