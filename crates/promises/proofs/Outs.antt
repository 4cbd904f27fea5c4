-- Who is out by the events is who is out by the state: a ticket is lent exactly while its slot is out, to the key that the slot holds.
use Rattle.std.proofs.Common.{◌≡◌, ℕ, min, Bool, true, false, cond, eqb, List, [], ◌∷◌, get_or, replicate, Some, None, Option, sym, refl, ap, ◌∙◌, subst, ⊎_elim, arith}
use lib.ListN.{length-replicate}
use Rattle.std.proofs.lemmas.Bool.{cases_eq, cases_Bool, cases_lt, eq-eqb, ne_eqb, eqb-true, and_from, and_right, and_parts, cond-true, cond-false}
use Rattle.std.proofs.lemmas.List.{get_or_past, get_or-replicate}
use Rattle.keys.specs.Sameness.{SameLaws}
use Rattle.directories.specs.Meaning.{key_at}
use Rattle.promises.specs.declared.records.Ticket.{Ticket}
use Rattle.promises.specs.State.{State, out_at, Sound}
use Rattle.promises.specs.Events.{Event, Effect, effect, same_ticket, lent_after, lent}
use Rattle.promises.specs.Steps.{ticket_for}
use Rattle.promises.specs.Lines.{Making, made, Line}
use Rattle.promises.specs.History.{slab_in, slab_out}
use Rattle.promises.proofs.Cells.{Cell, cell, Alike, Only, Comes, Goes, Shift, rests, finds, renews, comes, evicts, lends, rewrites, takes_back, removes, none_some, shifts, frames}

-- the key that a slot lends
abbrev pub lent_cell : {K : Type 0} → Option K → Bool → Option K
lent_cell None b = None
lent_cell (Some k) b = cond b (Some k) None

abbrev pub lent_in : {K : Type 0} → Cell K → Option K
lent_in c = lent_cell c.key c.out

abbrev pub Match : {K : Type 0} → (K → K → Bool) → Option K → Option K → Type 0
Match same None None = Unit {0}
Match same None (Some k) = ⊥
Match same (Some l) None = ⊥
Match same (Some l) (Some k) = same k l ≡ true

abbrev ticket : ℕ → ℕ → Ticket
ticket m i = record { mark = m; slot = i }

-- the keys that are out under tickets of this mark are those of the slots, and there are no others
pub record Agree {K : Type 0} (same : K → K → Bool) (mark : ℕ) (by : Ticket → Option K) (s : State K) : Type 0 where
  pub matches : (i : ℕ) → Match same (by (ticket mark i)) (lent_in (cell s i))
  pub marks : (t : Ticket) (l : K) → by t ≡ Some l → t.mark ≡ mark

module _ {K : Type 0} {i : ℕ} {c : Cell K} {s t : State K} where
  -- what holds of the changed slot, and of the others
  pub only_all : Only i c s t → (Q : ℕ → Cell K → Type 0) → Q i c → ((j : ℕ) → (j ≡ i → ⊥) → Q j (cell s j)) → (j : ℕ) → Q j (cell t j)
  only_all o Q a f j = ⊎_elim (λ e. subst (λ (x : ℕ). Q x (cell t x)) (sym e) (subst (Q i) (sym o.here) a)) (λ d. subst (Q j) (sym (o.others j d)) (f j d)) (cases_eq j i)

pub own_ticket : (m i : ℕ) → same_ticket (ticket m i) (ticket m i) ≡ true
own_ticket m i = and_from (eqb m m) (eqb i i) (eq-eqb m m refl) (eq-eqb i i refl)

pub other_ticket : (m n i j : ℕ) → (j ≡ i → ⊥) → same_ticket (ticket m i) (ticket n j) ≡ false
other_ticket m n i j ne = and_right (eqb m n) (eqb i j) (ne_eqb i j (λ e. ne (sym e)))

module _ {K : Type 0} (same : K → K → Bool) (mark : ℕ) (by : Ticket → Option K) where
  agree_only : {s t : State K} {i : ℕ} {c : Cell K} → Only i c s t → lent_in c ≡ lent_in (cell s i) → Agree same mark by s → Agree same mark by t
  agree_only {i = i} o e a = record {
    matches = only_all o (λ (j : ℕ) (x : Cell K). Match same (by (ticket mark j)) (lent_in x)) (subst (Match same (by (ticket mark i))) (sym e) (a.matches i)) (λ j ne. a.matches j);
    marks = a.marks;
  }

  agree_alike : (s t : State K) → Alike s t → Agree same mark by s → Agree same mark by t
  agree_alike s t h a = record { matches = λ i. subst (λ (x : Cell K). Match same (by (ticket mark i)) (lent_in x)) (sym (h i)) (a.matches i); marks = a.marks }

  -- a slot that is not out lends nothing
  idle_lends : (o : Option K) (b : Bool) → b ≡ false → lent_cell o b ≡ None
  idle_lends None b e = refl
  idle_lends (Some k) b e = cond-false b (Some k) None e

  agree_goes : {s t : State K} {k : K} → Goes same s k t → Agree same mark by s → Agree same mark by t
  agree_goes {s = s} g a = agree_only g.only (sym (idle_lends _ _ g.at.how)) a

  agree_comes : {s t : State K} {k : K} {v : List ℕ} {x y : Option (List ℕ)} → Comes same s k v t x y → Agree same mark by s → Agree same mark by t
  agree_comes g a = agree_only g.only (sym (idle_lends _ _ g.idle)) a

  -- a ticket is lent out, or comes back: what is out under it changes, and its slot with it
  agree_sets : {s t : State K} {i : ℕ} {c : Cell K} (o : Option K) → Only i c s t → Match same o (lent_in c) → Agree same mark by s → Agree same mark (λ (n : Ticket). cond (same_ticket (ticket mark i) n) o (by n)) t
  agree_sets {s} {t} {i} {c} o on h a = record {
    matches = only_all on (λ (j : ℕ) (x : Cell K). Match same (cond (same_ticket (ticket mark i) (ticket mark j)) o (by (ticket mark j))) (lent_in x))
        (subst (λ (z : Option K). Match same z (lent_in c)) (sym (cond-true _ o (by (ticket mark i)) (own_ticket mark i))) h)
        (λ j ne. subst (λ (z : Option K). Match same z (lent_in (cell s j))) (sym (cond-false _ o (by (ticket mark j)) (other_ticket mark mark i j ne))) (a.matches j));
    marks = λ n l e. ⊎_elim (λ q. sym (eqb-true mark n.mark (and_parts (eqb mark n.mark) (eqb i n.slot) q).0)) (λ q. a.marks n l (sym (cond-false _ o (by n) q) ∙ e)) (cases_Bool (same_ticket (ticket mark i) n));
  }

  pub agree_step : (s t : State K) (x y : Option (List ℕ)) (f : Effect K) → s.table.mark ≡ mark → Shift same s t x y f → Agree same mark by s → Agree same mark (λ (n : Ticket). lent_after f n (by n)) t
  agree_step s t x y f m (rests h q) a = agree_alike s t h a
  agree_step s t x y f m (finds h q) a = agree_alike s t h a
  agree_step s t x y f m (renews b o p) a = agree_only o (sym (idle_lends _ _ b.how)) a
  agree_step s t x y f m (comes g) a = agree_comes g a
  agree_step s t x y f m (evicts u fr g h) a = agree_comes h (agree_goes g a)
  agree_step s t x y f m (lends {k = k} {n = n} b e o q) a =
      let e' : ticket mark b.slot ≡ n = ap (λ (z : ℕ). ticket z b.slot) (sym m) ∙ sym e in
      subst (λ (z : Ticket). Agree same mark (λ (n : Ticket). cond (same_ticket z n) (Some k) (by n)) t) e' (agree_sets (Some k) o b.alike a)
  agree_step s t x y f m (rewrites {n = n} l e i th ou o p) a = agree_only o (sym (ap (λ (z : Option K). lent_cell z (out_at s.table n.slot)) th ∙ cond-true _ (Some l) None ou)) a
  agree_step s t x y f m (takes_back {n = n} l e th ou o q) a =
      let e' : ticket mark n.slot ≡ n = ap (λ (z : ℕ). ticket z n.slot) (sym (e ∙ m)) in
      subst (λ (z : Ticket). Agree same mark (λ (n : Ticket). cond (same_ticket z n) None (by n)) t) e' (agree_sets None o tt a)
  agree_step s t x y f m (removes g q) a = agree_goes g a

-- a list of one thing has it everywhere
pub slice_index_alike : {X : Type 0} (n i : ℕ) (x : X) → get_or (replicate n x) i x ≡ x
slice_index_alike n i x = ⊎_elim (λ l. get_or-replicate n i x x l) (λ g. get_or_past (replicate n x) i x (let z = length-replicate n x in omega arith)) (cases_lt i n)

-- a cache as it is made holds nothing
pub made_empty : {K : Type 0} (m : Making K) (i : ℕ) → key_at (made m).directory i ≡ None
made_empty m i = slice_index_alike (min (min 1024 m.order.size) m.directory.capacity) i None

module _ {K : Type 0} (same : K → K → Bool) (home : K → ℕ) (laws : SameLaws same home)
    (sounds : (m : Making K) (es : List (Event K)) (s : State K) → Line same m es s → Sound same s) (m : Making K) where
  pub line_mark : (es : List (Event K)) (s : State K) → Line same m es s → s.table.mark ≡ m.mark
  line_mark [] s l = ap (λ (x : State K). x.table.mark) l
  line_mark (e ∷ es) t (s, l, st) = (frames same s (sounds m es s l) e t st).mark ∙ line_mark es s l

  pub agree_line : (es : List (Event K)) (s : State K) → Line same m es s → Agree same m.mark (lent es) s
  agree_line [] s l = record {
    matches = λ i. subst (λ (o : Option K). Match same None (lent_cell o (out_at s.table i))) (sym (ap (λ (x : State K). key_at x.directory i) l ∙ made_empty m i)) tt;
    marks = λ t k h. absurd (none_some refl h);
  }
  agree_line (e ∷ es) t (s, l, st) = agree_step same m.mark (lent es) s t (slab_in e) (slab_out e) (effect e) (line_mark es s l) (shifts same s (sounds m es s l) laws e t st) (agree_line es s l)

-- the two ways of telling who is out, one by the other
pub record Agrees {K : Type 0} (same : K → K → Bool) (es : List (Event K)) (s : State K) : Type 0 where
  pub leased : (t : Ticket) (l : K) → lent es t ≡ Some l → (k : K) × (key_at s.directory t.slot ≡ Some k) × (same k l ≡ true) × (out_at s.table t.slot ≡ true) × (t.mark ≡ s.table.mark)
  pub out : (i : ℕ) (k : K) → key_at s.directory i ≡ Some k → out_at s.table i ≡ true → (l : K) × (lent es (ticket_for s.table i) ≡ Some l) × (same k l ≡ true)

module _ {K : Type 0} (same : K → K → Bool) where
  match_some : (l : K) (o : Option K) (b : Bool) → Match same (Some l) (lent_cell o b) → (k : K) × (o ≡ Some k) × (same k l ≡ true) × (b ≡ true)
  match_some l None b h = absurd h
  match_some l (Some k) true h = (k, refl, h, refl)
  match_some l (Some k) false h = absurd h

  match_out : (k : K) (o : Option K) → Match same o (Some k) → (l : K) × (o ≡ Some l) × (same k l ≡ true)
  match_out k None h = absurd h
  match_out k (Some l) h = (l, refl, h)

pub agrees : {K : Type 0} (same : K → K → Bool) (home : K → ℕ) → SameLaws same home → ((m : Making K) (es : List (Event K)) (s : State K) → Line same m es s → Sound same s)
    → (m : Making K) (es : List (Event K)) (s : State K) → Line same m es s → Agrees same es s
agrees {K} same home laws sounds m es s l =
    let a = agree_line same home laws sounds m es s l in
    let q = line_mark same home laws sounds m es s l in
    record {
      leased = λ t k h.
          let mk = a.marks t k h in
          let h' : lent es (ticket m.mark t.slot) ≡ Some k = ap (λ (z : ℕ). lent es (ticket z t.slot)) (sym mk) ∙ h in
          let f = match_some same k (key_at s.directory t.slot) (out_at s.table t.slot) (subst (λ (o : Option K). Match same o (lent_in (cell s t.slot))) h' (a.matches t.slot)) in
          (f.0, f.1, f.2, f.3, mk ∙ sym q);
      out = λ i k e h.
          let c : lent_in (cell s i) ≡ Some k = ap (λ (o : Option K). lent_cell o (out_at s.table i)) e ∙ cond-true _ (Some k) None h in
          let f = match_out same k (lent es (ticket m.mark i)) (subst (Match same (lent es (ticket m.mark i))) c (a.matches i)) in
          (f.0, ap (λ (z : ℕ). lent es (ticket z i)) q ∙ f.1, f.2);
    }
