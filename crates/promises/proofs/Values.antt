-- The value of each held region: the bytes that its slot's part of the slab begins with are those last accepted for its key.
use Rattle.std.proofs.Common.{◌≡◌, ℕ, ◌*◌, ◌<◌, ◌≤◌, Bool, true, false, cond, List, [], ◌∷◌, length, take, drop, Some, None, Ok, Err, Option, sym, refl, ap, ◌∙◌, subst, ⊎_elim, arith}
use Rattle.std.proofs.lemmas.Bool.{cases_eq, cases_Bool, both_ways, cond-true, cond-false}
use Rattle.keys.specs.Sameness.{SameLaws}
use Rattle.directories.specs.Meaning.{key_at}
use Rattle.promises.specs.declared.records.Ticket.{Ticket}
use Rattle.promises.specs.State.{State, slots, out_at, record_at, Sound}
use Rattle.promises.specs.Events.{Event, Part, gets, keeps, leases, writes, gives_back, drops, tells, Effect, nothing, hit, refreshed, took, took_evicting, lent_out, rewrote, came_back, removed, effect, Each, lent}
use Rattle.promises.specs.Steps.{Step, written, start}
use Rattle.promises.specs.Lines.{Making, chunk_size, Line}
use Rattle.promises.specs.History.{same_as, last_value, value_after, slab_in, slab_out, slab_left, or_else, writes_under, owned}
use Rattle.promises.specs.Promises.{Dutiful, AnswersValue, BytesKept}
use Rattle.promises.proofs.Cells.{Cell, Alike, Only, Framed, Pours, Comes, Goes, Shift, rests, finds, renews, comes, evicts, lends, rewrites, takes_back, removes, none_some, found_there, shifts, frames}
use Rattle.promises.proofs.Outs.{Agrees, agrees, only_all, made_empty}
use Rattle.promises.proofs.Leases.{untrue, one_slot, same_tickets}
use Rattle.promises.proofs.Chunks.{poured_length, poured_own, poured_other}

pub some_is : {X : Type 0} {a b : X} → ◌≡◌ {A = Option X} (Some a) (Some b) → a ≡ b
some_is e = cc

-- Same keys have one value.
module _ {K : Type 0} (same : K → K → Bool) {home : K → ℕ} (laws : SameLaws same home) where
  pub same_right : (k l a : K) → same k l ≡ true → same a k ≡ same a l
  same_right k l a h = ⊎_elim
      (λ e. e ∙ sym (laws.transitive a k l e h))
      (λ e. e ∙ sym (untrue (same a l) (λ f. both_ways _ e (laws.transitive a l k f (laws.symmetric k l h)))))
      (cases_Bool (same a k))

  same_as_right : (k l : K) (o : Option K) → same k l ≡ true → same_as same k o ≡ same_as same l o
  same_as_right k l None h = refl
  same_as_right k l (Some a) h = same_right k l a h

  value_alike : (f : Effect K) (es : List (Event K)) (k l : K) (v : List ℕ) → same k l ≡ true → value_after same f es k v ≡ value_after same f es l v
  value_alike nothing es k l v h = refl
  value_alike (hit a) es k l v h = refl
  value_alike (refreshed a c w) es k l v h = ap (λ (b : Bool). cond b w v) (same_right k l a h)
  value_alike (took a c w) es k l v h = ap (λ (b : Bool). cond b w v) (same_right k l a h)
  value_alike (took_evicting a c w x) es k l v h = ap (λ (b : Bool). cond b w v) (same_right k l a h)
  value_alike (lent_out a n) es k l v h = refl
  value_alike (rewrote n w) es k l v h = ap (λ (b : Bool). cond b w v) (same_as_right k l (lent es n) h)
  value_alike (came_back n) es k l v h = refl
  value_alike (removed a) es k l v h = refl

  pub last_alike : (es : List (Event K)) (k l : K) → same k l ≡ true → last_value same es k ≡ last_value same es l
  last_alike [] k l h = refl
  last_alike (e ∷ es) k l h = value_alike (effect e) es k l (last_value same es k) h ∙ ap (value_after same (effect e) es l) (last_alike es k l h)

-- P holds of every held slot, of the length that is remembered of it, and of the value of its key
abbrev pub OfHeld : {K : Type 0} → (ℕ → ℕ → List ℕ → Type 0) → (K → List ℕ) → State K → Type 0
OfHeld {K} P val s = (i : ℕ) (k : K) → key_at s.directory i ≡ Some k → P i (record_at s.table i).len (val k)

pub pours_framed : {K : Type 0} {s u : State K} {i : ℕ} {v : List ℕ} {x y : Option (List ℕ)} → Framed s u → Pours u i v x y → Pours s i v x y
pours_framed {i = i} {v = v} fr p = record {
  slab = p.slab;
  given = p.given;
  left = p.left ∙ ap (λ (c : ℕ). Some (written p.slab (i * c) v)) fr.chunk;
  enough = rw (fr.slots_same, fr.chunk) at p.enough;
  short = rw fr.chunk at p.short;
}

module _ {K : Type 0} (same : K → K → Bool) (P Q : ℕ → ℕ → List ℕ → Type 0) (val val' : K → List ℕ) where
  -- a slot is given the value of its key, and the other keys keep theirs
  held_set : {s t : State K} {i n : ℕ} {b : Bool} {l : K} → Only i (record { key = Some l; out = b; len = n }) s t
      → Q i n (val' l) → ((j m : ℕ) (w : List ℕ) → (j ≡ i → ⊥) → P j m w → Q j m w) → ((j : ℕ) (k : K) → (j ≡ i → ⊥) → key_at s.directory j ≡ Some k → val' k ≡ val k)
      → OfHeld P val s → OfHeld Q val' t
  held_set {s} {t} {i} {n} {b} {l} o here others vals h j k e = only_all o (λ (j : ℕ) (c : Cell K). (k : K) → c.key ≡ Some k → Q j c.len (val' k))
      (λ k e. subst (λ (a : K). Q i n (val' a)) (some_is e) here)
      (λ j ne k e. subst (Q j (record_at s.table j).len) (sym (vals j k ne e)) (others j _ (val k) ne (h j k e)))
      j k e

  held_alike : (s t : State K) → Alike s t → ((j m : ℕ) (w : List ℕ) → P j m w → Q j m w) → ((k : K) → val' k ≡ val k) → OfHeld P val s → OfHeld Q val' t
  held_alike s t a f vals h j k e =
      subst (λ (n : ℕ). Q j n (val' k)) (sym (ap (λ (c : Cell K). c.len) (a j)))
      (subst (Q j (record_at s.table j).len) (sym (vals k)) (f j _ (val k) (h j k (sym (ap (λ (c : Cell K). c.key) (a j)) ∙ e))))

  held_goes : {s t : State K} {l : K} → Goes same s l t → ((j m : ℕ) (w : List ℕ) → P j m w → Q j m w) → ((k : K) → val' k ≡ val k) → OfHeld P val s → OfHeld Q val' t
  held_goes {s} {t} g f vals h j k e = only_all g.only (λ (j : ℕ) (c : Cell K). (k : K) → c.key ≡ Some k → Q j c.len (val' k))
      (λ k e. absurd (none_some refl e))
      (λ j ne k e. subst (Q j (record_at s.table j).len) (sym (vals k)) (f j _ (val k) (h j k e)))
      j k e

  held_comes : {home : K → ℕ} → SameLaws same home → {s t : State K} {l : K} {v : List ℕ} {x y : Option (List ℕ)} (c : Comes same s l v t x y)
      → ((k : K) → val' k ≡ cond (same l k) v (val k)) → Q c.slot (length v) v → ((j m : ℕ) (w : List ℕ) → (j ≡ c.slot → ⊥) → P j m w → Q j m w) → OfHeld P val s → OfHeld Q val' t
  held_comes laws {l = l} {v = v} c vals here others h = held_set c.only
      (subst (Q c.slot (length v)) (sym (vals l ∙ cond-true (same l l) v (val l) (laws.reflexive l))) here) others
      (λ j k ne e. vals k ∙ cond-false (same l k) v (val k) (untrue (same l k) (λ f. both_ways _ (c.absent j k e) (laws.symmetric l k f)))) h

-- What holds of the held slots is carried over an event if it is carried over a value that is poured into a slot, and over a slab that stays.
module _ {K : Type 0} (same : K → K → Bool) {home : K → ℕ} (laws : SameLaws same home) (s : State K) (so : Sound same s) (es : List (Event K)) (ag : Agrees same es s)
    (t : State K) (x y : Option (List ℕ)) (P Q : ℕ → ℕ → List ℕ → Type 0)
    (own : (i : ℕ) (v : List ℕ) → i < slots s → Pours s i v x y → Q i (length v) v)
    (other : (i : ℕ) (v : List ℕ) → i < slots s → Pours s i v x y → (j n : ℕ) (w : List ℕ) → (j ≡ i → ⊥) → P j n w → Q j n w)
    (stay : y ≡ x → (j n : ℕ) (w : List ℕ) → P j n w → Q j n w) where
  carry : (f : Effect K) → Shift same s t x y f → OfHeld P (last_value same es) s → OfHeld Q (λ (k : K). value_after same f es k (last_value same es k)) t
  carry f (rests a q) h = held_alike same P Q (last_value same es) (last_value same es) s t a (stay q) (λ k. refl) h
  carry f (finds a q) h = held_alike same P Q (last_value same es) (last_value same es) s t a (stay q) (λ k. refl) h
  carry f (renews {k = k} {v = v} a o p) h =
      held_set same P Q (last_value same es) (λ (l : K). cond (same k l) v (last_value same es l)) o
      (subst (Q a.slot (length v)) (sym (cond-true (same k a.held) v _ (laws.symmetric a.held k a.alike))) (own a.slot v a.inside p))
      (other a.slot v a.inside p)
      (λ j l ne e. cond-false (same k l) v _ (untrue (same k l) (λ z. ne (one_slot same s so j a.slot l a.held e a.there (laws.transitive l k a.held (laws.symmetric k l z) (laws.symmetric a.held k a.alike))))))
      h
  carry f (comes c) h = held_comes same P Q (last_value same es) _ laws c (λ k. refl) (own c.slot _ c.inside c.pours) (other c.slot _ c.inside c.pours) h
  carry f (evicts u fr g c) h =
      let p = pours_framed fr c.pours in
      let i : c.slot < slots s = rw fr.slots_same at c.inside in
      held_comes same P Q (last_value same es) _ laws c (λ k. refl) (own c.slot _ i p) (other c.slot _ i p)
      (held_goes same P P (last_value same es) (last_value same es) g (λ j n w z. z) (λ k. refl) h)
  carry f (lends a e o q) h = held_set same P Q (last_value same es) (last_value same es) o (stay q a.slot _ _ (h a.slot a.held a.there)) (λ j n w ne z. stay q j n w z) (λ j k ne e. refl) h
  carry f (rewrites {n = n} {v = v} l m i th ou o p) h =
      let g = ag.out n.slot l th ou in
      let le : lent es n ≡ Some g.0 = ap (λ (z : ℕ). lent es (record { mark = z; slot = n.slot })) m ∙ g.1 in
      held_set same P Q (last_value same es) (λ (k : K). cond (same_as same k (lent es n)) v (last_value same es k)) o
      (subst (Q n.slot (length v)) (sym (cond-true _ v _ (ap (same_as same l) le ∙ laws.symmetric l g.0 g.2))) (own n.slot v i p))
      (other n.slot v i p)
      (λ j k ne e. cond-false _ v _ (ap (same_as same k) le ∙ untrue (same g.0 k) (λ z. ne (one_slot same s so j n.slot k l e th (laws.transitive k g.0 l (laws.symmetric g.0 k z) (laws.symmetric l g.0 g.2))))))
      h
  carry f (takes_back {n = n} l m th ou o q) h = held_set same P Q (last_value same es) (last_value same es) o (stay q n.slot _ _ (h n.slot l th)) (λ j n w ne z. stay q j n w z) (λ j k ne e. refl) h
  carry f (removes g q) h = held_goes same P Q (last_value same es) (last_value same es) g (stay q) (λ k. refl) h

-- the value at a slot, in the slab that the last call with a slab left: n slots of so many bytes
pub record Stored (n chunk : ℕ) (o : Option (List ℕ)) (i len : ℕ) (v : List ℕ) : Type 0 where
  pub slab : List ℕ
  pub left : o ≡ Some slab
  pub enough : n * chunk ≤ length slab
  pub short : len ≤ chunk
  pub bytes : take len (drop (i * chunk) slab) ≡ v

-- the host's duty at one event
abbrev pub Duty : Option (List ℕ) → Option (List ℕ) → Type 0
Duty given left = (x y : List ℕ) → given ≡ Some x → left ≡ Some y → x ≡ y

-- a slab that a call gives back as it came is the one that was left
pub left_same : (x y o : Option (List ℕ)) (z : List ℕ) → Duty x o → y ≡ x → o ≡ Some z → or_else y o ≡ Some z
left_same x None o z du q e = e
left_same x (Some w) o z du q e = ap (λ (a : List ℕ). Some a) (du w z (sym q) e)

module _ {K : Type 0} (s : State K) (x y o : Option (List ℕ)) (du : Duty x o) where
  stored_own : (i : ℕ) (v : List ℕ) → i < slots s → Pours s i v x y → Stored (slots s) s.table.chunk (or_else y o) i (length v) v
  stored_own i v h p = record {
    slab = written p.slab (start s i) v;
    left = ap (λ (a : Option (List ℕ)). or_else a o) p.left;
    enough = let e = poured_length (slots s) s.table.chunk p.slab p.enough i h v p.short in omega (arith, p.enough);
    short = p.short;
    bytes = poured_own (slots s) s.table.chunk p.slab p.enough i h v p.short;
  }

  stored_other : (i : ℕ) (v : List ℕ) → i < slots s → Pours s i v x y → (j n : ℕ) (w : List ℕ) → (j ≡ i → ⊥) → Stored (slots s) s.table.chunk o j n w → Stored (slots s) s.table.chunk (or_else y o) j n w
  stored_other i v h p j n w ne st = record {
    slab = written p.slab (start s i) v;
    left = ap (λ (a : Option (List ℕ)). or_else a o) p.left;
    enough = let e = poured_length (slots s) s.table.chunk p.slab p.enough i h v p.short in omega (arith, p.enough);
    short = st.short;
    bytes = poured_other (slots s) s.table.chunk p.slab p.enough i h v p.short j n ne st.short
        ∙ ap (λ (a : List ℕ). take n (drop (j * s.table.chunk) a)) (du p.slab st.slab p.given st.left) ∙ st.bytes;
  }

  stored_stay : y ≡ x → (j n : ℕ) (w : List ℕ) → Stored (slots s) s.table.chunk o j n w → Stored (slots s) s.table.chunk (or_else y o) j n w
  stored_stay q j n w st = record { slab = st.slab; left = left_same x y o st.slab du q st.left; enough = st.enough; short = st.short; bytes = st.bytes }

-- A region that is out: a call that is not a write under its ticket leaves the slab, or pours into another slot.
pub data Elsewhere {K : Type 0} (s : State K) (i : ℕ) (x y : Option (List ℕ)) : Type 0 where
  left_as_it_was : y ≡ x → Elsewhere s i x y
  poured_into : (j : ℕ) (v : List ℕ) → j < slots s → (i ≡ j → ⊥) → Pours s j v x y → Elsewhere s i x y

module _ {K : Type 0} (s t : State K) (x y : Option (List ℕ)) (n : Ticket) (out : out_at s.table n.slot ≡ true) (mark : n.mark ≡ s.table.mark) where
  -- a slot that is idle is another
  idle_other : (j : ℕ) → out_at s.table j ≡ false → n.slot ≡ j → ⊥
  idle_other j h e = both_ways _ h (ap (out_at s.table) (sym e) ∙ out)

  pub elsewhere : (same : K → K → Bool) (f : Effect K) → Shift same s t x y f → writes_under n f ≡ false → Elsewhere s n.slot x y
  elsewhere same f (rests a q) w = left_as_it_was q
  elsewhere same f (finds a q) w = left_as_it_was q
  elsewhere same f (renews {v = v} a o p) w = poured_into a.slot v a.inside (idle_other a.slot a.how) p
  elsewhere same f (comes {v = v} c) w = poured_into c.slot v c.inside (idle_other c.slot c.idle) c.pours
  elsewhere same f (evicts {v = v} u fr g c) w =
      let i : c.slot < slots s = rw fr.slots_same at c.inside in
      poured_into c.slot v i (idle_other c.slot idle) (pours_framed fr c.pours)
    where
      idle : out_at s.table c.slot ≡ false
      idle = ⊎_elim (λ e. ap (out_at s.table) e ∙ g.at.how) (λ ne. sym (ap (λ (z : Cell K). z.out) (g.only.others c.slot ne)) ∙ c.idle) (cases_eq c.slot g.at.slot)
  elsewhere same f (lends a e o q) w = left_as_it_was q
  elsewhere same f (rewrites {n = u} {v = v} l m i th ou o p) w = poured_into u.slot v i (λ e. both_ways _ w (same_tickets u n (m ∙ sym mark) (sym e))) p
  elsewhere same f (takes_back l m th ou o q) w = left_as_it_was q
  elsewhere same f (removes g q) w = left_as_it_was q

pub owned_kept : {K : Type 0} (s : State K) (i : ℕ) (x y o : Option (List ℕ)) → Duty x o → Elsewhere s i x y → (a b : List ℕ) → o ≡ Some a → or_else y o ≡ Some b → owned s.table.chunk i a ≡ owned s.table.chunk i b
owned_kept s i x y o du (left_as_it_was q) a b e f = ap (owned s.table.chunk i) (some_is (sym (left_same x y o a du q e) ∙ f))
owned_kept s i x y o du (poured_into j v h ne p) a b e f =
    let c : written p.slab (start s j) v ≡ b = some_is (sym (ap (λ (z : Option (List ℕ)). or_else z o) p.left) ∙ f) in
    ap (owned s.table.chunk i) (sym (du p.slab a p.given e))
    ∙ sym (poured_other (slots s) s.table.chunk p.slab p.enough j h v p.short i s.table.chunk ne (omega arith))
    ∙ ap (owned s.table.chunk i) c

-- The promises of a line.
module _ {K : Type 0} (same : K → K → Bool) (home : K → ℕ) (laws : SameLaws same home)
    (sounds : (m : Making K) (es : List (Event K)) (s : State K) → Line same m es s → Sound same s) (m : Making K) where
  pub line_chunk : (es : List (Event K)) (s : State K) → Line same m es s → s.table.chunk ≡ chunk_size m.chunk
  line_chunk [] s l = ap (λ (x : State K). x.table.chunk) l
  line_chunk (e ∷ es) t (s, l, st) = (frames same s (sounds m es s l) e t st).chunk ∙ line_chunk es s l

  pub lengths_kept : (es : List (Event K)) (s : State K) → Line same m es s → (i : ℕ) (k : K) → key_at s.directory i ≡ Some k → (record_at s.table i).len ≡ length (last_value same es k)
  lengths_kept [] s l = λ i k e. absurd (none_some (ap (λ (x : State K). key_at x.directory i) l ∙ made_empty m i) e)
  lengths_kept (e ∷ es) t (s, l, st) =
      let so = sounds m es s l in
      carry same laws s so es (agrees same home laws sounds m es s l) t (slab_in e) (slab_out e)
      (λ (i n : ℕ) (v : List ℕ). n ≡ length v) (λ (i n : ℕ) (v : List ℕ). n ≡ length v)
      (λ i v h p. refl) (λ i v h p j n w ne z. z) (λ q j n w z. z) (effect e) (shifts same s so laws e t st) (lengths_kept es s l)

  pub stored_line : (es : List (Event K)) (s : State K) → Line same m es s → Dutiful same es → OfHeld (Stored (slots s) s.table.chunk (slab_left es)) (last_value same es) s
  stored_line [] s l du i k e = absurd (none_some (ap (λ (x : State K). key_at x.directory i) l ∙ made_empty m i) e)
  stored_line (e ∷ es) t (s, l, st) du i k h =
      let so = sounds m es s l in
      let fr = frames same s so e t st in
      let z = carry same laws s so es (agrees same home laws sounds m es s l) t (slab_in e) (slab_out e)
      (Stored (slots s) s.table.chunk (slab_left es)) (Stored (slots s) s.table.chunk (slab_left (e ∷ es)))
      (stored_own s (slab_in e) (slab_out e) (slab_left es) du.0) (stored_other s (slab_in e) (slab_out e) (slab_left es) du.0) (stored_stay s (slab_in e) (slab_out e) (slab_left es) du.0)
      (effect e) (shifts same s so laws e t st) (stored_line es s l du.1) i k h in
      rw (fr.slots_same, fr.chunk) z

  answers_value : (es : List (Event K)) (s : State K) → Line same m es s → (e : Event K) (t : State K) → Step same s e t → Dutiful same (e ∷ es) → AnswersValue same e es
  answers_value es s l (gets k slab (Err r)) t st du = tt
  answers_value es s l (gets k slab (Ok None)) t st du = tt
  answers_value es s l (gets k slab (Ok (Some p))) t (f, g) du =
      let w = found_there same s (sounds m es s l) k g.slot g.held in
      let z = stored_line es s l du.1 g.slot w.0 w.1 in
      ap (λ (q : Part). q.bytes) g.part ∙ ap (λ (x : List ℕ). take (record_at s.table g.slot).len (drop (start s g.slot) x)) (du.0 slab z.slab refl z.left) ∙ z.bytes ∙ last_alike same laws es w.0 k w.2
  answers_value es s l (keeps k c v slab a after) t st du = tt
  answers_value es s l (leases k a) t st du = tt
  answers_value es s l (writes n v slab a after) t st du = tt
  answers_value es s l (gives_back n a) t st du = tt
  answers_value es s l (drops k a) t st du = tt
  answers_value es s l (tells k p) t st du = tt

  pub last_value_answered : (es : List (Event K)) (s : State K) → Line same m es s → Dutiful same es → Each (AnswersValue same) es
  last_value_answered [] s l du = tt
  last_value_answered (e ∷ es) t (s, l, st) du = (answers_value es s l e t st du, last_value_answered es s l du.1)

  pub bytes_kept : (es : List (Event K)) (s : State K) → Line same m es s → Dutiful same es → BytesKept same (chunk_size m.chunk) es
  bytes_kept [] s l du = tt
  bytes_kept (e ∷ es) t (s, l, st) du = (
    λ n k h w a b p q.
        let ag = (agrees same home laws sounds m es s l).leased n k h in
        let el = elsewhere s t (slab_in e) (slab_out e) n ag.3 ag.4 same (effect e) (shifts same s (sounds m es s l) laws e t st) w in
        subst (λ (c : ℕ). owned c n.slot a ≡ owned c n.slot b) (line_chunk es s l) (owned_kept s n.slot (slab_in e) (slab_out e) (slab_left es) du.0 el a b p q),
    bytes_kept es s l du.1,
  )
