-- What each step changes, slot by slot: the key, whether it is out, the length of its value; and what it does to the slab.
use Rattle.std.proofs.Common.{◌≡◌, ℕ, ◌*◌, ◌<◌, ◌≤◌, Bool, true, false, cond, eqb, List, length, is_some, Some, None, Ok, Err, Option, sym, refl, ap, ◌∙◌, subst, ⊎_elim, arith, length-set, get_or-set_other, get_or-set_same}
use Rattle.std.proofs.lemmas.Bool.{cases_eq, both_ways, eqb-true, ltb-false, and_parts}
use Rattle.keys.specs.Sameness.{SameLaws}
use Rattle.orders.specs.declared.Expelled.{Expelled}
use Rattle.orders.specs.Meaning.{OrderMeaning, leaver}
use Rattle.directories.specs.Meaning.{key_at, holds, entered, freed}
use Rattle.promises.specs.declared.answers.Refusal.TheVariants.{LongValue, ShortSlab}
use Rattle.promises.specs.declared.answers.Kept.TheVariants.{Refreshed, Taken, TakenEvicting}
use Rattle.promises.specs.declared.records.Lending.TheVariants.{Idle, Lent}
use Rattle.promises.specs.declared.records.Record.{Record}
use Rattle.promises.specs.declared.records.Ticket.{Ticket}
use Rattle.promises.specs.State.{State, slots, held_slot, blank, record_at, with_record, is_out, out_at, known, Sound}
use Rattle.promises.specs.Events.{Event, gets, keeps, leases, writes, gives_back, drops, tells, Effect, nothing, hit, refreshed, took, took_evicting, lent_out, rewrote, came_back, removed, effect}
use Rattle.promises.specs.Steps.{long_value, short_slab, out_slot, write_fault, touched, evicted, with_lending, rewritten, dropped, written, start, ticket_for, Takes, Evicts, Step}
use Rattle.promises.specs.History.{slab_in, slab_out}
use Rattle.promises.proofs.Waits.{leaver_waits}
use Rattle.promises.proofs.Seeks.{slot_in_holds, held_below, absent, key_freed, key_freed_other}
use Rattle.promises.proofs.Sounds.{clear, accepted, write_short, write_known, give_known, known_out, absence_idle, out_held, waiting_not_out, unheld_idle}

-- what a slot shows
pub record Cell (K : Type 0) : Type 0 where
  pub key : Option K
  pub out : Bool
  pub len : ℕ

abbrev pub cell_of : {K : Type 0} → Option K → Record → Cell K
cell_of o r = record { key = o; out = is_out r.lending; len = r.len }

abbrev pub cell : {K : Type 0} → State K → ℕ → Cell K
cell s i = cell_of (key_at s.directory i) (record_at s.table i)

abbrev pub Alike : {K : Type 0} → State K → State K → Type 0
Alike s t = (i : ℕ) → cell t i ≡ cell s i

-- t is s with what the slot i shows changed
pub record Only {K : Type 0} (i : ℕ) (c : Cell K) (s t : State K) : Type 0 where
  pub here : cell t i ≡ c
  pub others : (j : ℕ) → (j ≡ i → ⊥) → cell t j ≡ cell s j

-- what no step changes
pub record Framed {K : Type 0} (s t : State K) : Type 0 where
  pub mark : t.table.mark ≡ s.table.mark
  pub chunk : t.table.chunk ≡ s.table.chunk
  pub slots_same : slots t ≡ slots s

-- a value is written into the part of a slot; x and y are the slab before and after
pub record Pours {K : Type 0} (s : State K) (i : ℕ) (v : List ℕ) (x y : Option (List ℕ)) : Type 0 where
  pub slab : List ℕ
  pub given : x ≡ Some slab
  pub left : y ≡ Some (written slab (start s i) v)
  pub enough : slots s * s.table.chunk ≤ length slab
  pub short : length v ≤ s.table.chunk

-- a region whose key is the same as k, at a slot
pub record At {K : Type 0} (same : K → K → Bool) (s : State K) (k : K) (out : Bool) : Type 0 where
  pub slot : ℕ
  pub held : K
  pub inside : slot < slots s
  pub there : key_at s.directory slot ≡ Some held
  pub alike : same held k ≡ true
  pub how : out_at s.table slot ≡ out

-- no key that is the same as k is held
abbrev pub Absent : {K : Type 0} → (K → K → Bool) → State K → K → Type 0
Absent {K} same s k = (i : ℕ) (l : K) → key_at s.directory i ≡ Some l → same l k ≡ false

-- a new key comes to an unused slot
pub record Comes {K : Type 0} (same : K → K → Bool) (s : State K) (k : K) (v : List ℕ) (t : State K) (x y : Option (List ℕ)) : Type 0 where
  pub slot : ℕ
  pub inside : slot < slots s
  pub unused : key_at s.directory slot ≡ None
  pub idle : out_at s.table slot ≡ false
  pub absent : Absent same s k
  pub only : Only slot (record { key = Some k; out = false; len = length v }) s t
  pub pours : Pours s slot v x y

-- a waiting region goes
pub record Goes {K : Type 0} (same : K → K → Bool) (s : State K) (k : K) (t : State K) : Type 0 where
  pub at : At same s k false
  pub only : Only at.slot (record { key = None; out = false; len = (record_at s.table at.slot).len }) s t

-- what a step does, by its effect; x and y are the slab before and after
pub data Shift {K : Type 0} (same : K → K → Bool) (s t : State K) (x y : Option (List ℕ)) : Effect K → Type 0 where
  rests : Alike s t → y ≡ x → Shift same s t x y nothing
  finds : {k : K} → Alike s t → y ≡ x → Shift same s t x y (hit k)
  renews : {k : K} {c : ℕ} {v : List ℕ} (a : At same s k false) → Only a.slot (record { key = Some a.held; out = false; len = length v }) s t → Pours s a.slot v x y → Shift same s t x y (refreshed k c v)
  comes : {k : K} {c : ℕ} {v : List ℕ} → Comes same s k v t x y → Shift same s t x y (took k c v)
  evicts : {k l : K} {c : ℕ} {v : List ℕ} (u : State K) → Framed s u → Goes same s l u → Comes same u k v t x y → Shift same s t x y (took_evicting k c v l)
  lends : {k : K} {n : Ticket} (a : At same s k false) → n ≡ ticket_for s.table a.slot → Only a.slot (record { key = Some a.held; out = true; len = (record_at s.table a.slot).len }) s t → y ≡ x → Shift same s t x y (lent_out k n)
  rewrites : {n : Ticket} {v : List ℕ} (l : K) → n.mark ≡ s.table.mark → n.slot < slots s → key_at s.directory n.slot ≡ Some l → out_at s.table n.slot ≡ true
      → Only n.slot (record { key = Some l; out = true; len = length v }) s t → Pours s n.slot v x y → Shift same s t x y (rewrote n v)
  takes_back : {n : Ticket} (l : K) → n.mark ≡ s.table.mark → key_at s.directory n.slot ≡ Some l → out_at s.table n.slot ≡ true
      → Only n.slot (record { key = Some l; out = false; len = (record_at s.table n.slot).len }) s t → y ≡ x → Shift same s t x y (came_back n)
  removes : {k : K} → Goes same s k t → y ≡ x → Shift same s t x y (removed k)

pub none_some : {X : Type 0} {o : Option X} {a : X} → o ≡ None → o ≡ Some a → ⊥
none_some e f = let z : ◌≡◌ {A = ℕ} 0 1 = cc in omega arith

some_of : {K : Type 0} (o : Option K) → is_some o ≡ true → (k : K) × (o ≡ Some k)
some_of None h = absurd (both_ways false refl h)
some_of (Some k) h = (k, refl)

pub held_key : {K : Type 0} (same : K → K → Bool) (k : K) (o : Option K) → holds same k o ≡ true → (l : K) × (o ≡ Some l) × (same l k ≡ true)
held_key same k None h = absurd (both_ways false refl h)
held_key same k (Some l) h = (l, refl, h)

-- What the parts of a state show after a change.

pub only_to : {K : Type 0} {i : ℕ} {c : Cell K} {s t u : State K} → t ≡ u → Only i c s u → Only i c s t
only_to {i = i} {c = c} {s = s} e o = subst (Only i c s) (sym e) o

pub alike_to : {K : Type 0} (s t u : State K) → t ≡ u → Alike s u → Alike s t
alike_to {K} s t u e o i = ap (λ (x : State K). cell x i) e ∙ o i

pub framed_to : {K : Type 0} {s t u : State K} → t ≡ u → Framed s u → Framed s t
framed_to {s = s} e o = subst (Framed s) (sym e) o

-- a key is entered with a record at a slot that is in
key_set : {K : Type 0} (s : State K) (o : OrderMeaning) (i : ℕ) (k : K) (r : Record) → i < slots s → i < length s.table.records
    → Only i (cell_of (Some k) r) s (record { directory = entered s.directory i k; order = o; table = with_record s.table i r })
key_set s o i k r h f = record {
  here = let a = get_or-set_same s.table.records i r blank f in let b = get_or-set_same s.directory.keys i (Some k) None h in cc;
  others = λ j ne. let a = get_or-set_other s.table.records i j r blank ne in let b = get_or-set_other s.directory.keys i j (Some k) None ne in cc;
}

module _ {K : Type 0} (same : K → K → Bool) (s : State K) (so : Sound same s) where
  recorded_at : (i : ℕ) → i < slots s → i < length s.table.records
  recorded_at i h = omega (arith, so.few, so.recorded)

  -- a record is changed at a slot that is in
  pub record_set : (o : OrderMeaning) (i : ℕ) (r : Record) → i < slots s
      → Only i (cell_of (key_at s.directory i) r) s (record { directory = s.directory; order = o; table = with_record s.table i r })
  record_set o i r h = record {
    here = ap (cell_of (key_at s.directory i)) (get_or-set_same s.table.records i r blank (recorded_at i h));
    others = λ j ne. ap (cell_of (key_at s.directory j)) (get_or-set_other s.table.records i j r blank ne);
  }

  pub key_gone : (o : OrderMeaning) (i : ℕ)
      → Only i (cell_of None (record_at s.table i)) s (record { directory = freed s.directory (Some i); order = o; table = s.table })
  key_gone o i = record {
    here = ap (λ (k : Option K). cell_of k (record_at s.table i)) (key_freed same s.directory i);
    others = λ j ne. ap (λ (k : Option K). cell_of k (record_at s.table j)) (key_freed_other same s.directory i j ne);
  }

  pub touched_alike : (i : ℕ) → Alike s (touched s i)
  touched_alike i j = by (out_at s.table i) _
    where
      by : (b : Bool) (o : OrderMeaning) → cell (cond b s (record { directory = s.directory; order = o; table = s.table })) j ≡ cell s j
      by true o = refl
      by false o = refl

  pub touched_framed : (i : ℕ) → Framed s (touched s i)
  touched_framed i = by (out_at s.table i) _
    where
      by : (b : Bool) (o : OrderMeaning) → Framed s (cond b s (record { directory = s.directory; order = o; table = s.table }))
      by true o = record { mark = refl; chunk = refl; slots_same = refl }
      by false o = record { mark = refl; chunk = refl; slots_same = refl }

  -- a slot that is out has a key
  pub out_key : (i : ℕ) → out_at s.table i ≡ true → (k : K) × (key_at s.directory i ≡ Some k)
  out_key i h = some_of (key_at s.directory i) (out_held same s i so h)

  pub inside_of : (i : ℕ) (k : K) → key_at s.directory i ≡ Some k → i < slots s
  inside_of i k e = held_below same s.directory i (ap is_some e)

  -- what a look-up tells
  pub found_there : (k : K) (i : ℕ) → held_slot same s k ≡ Some i → (l : K) × (key_at s.directory i ≡ Some l) × (same l k ≡ true)
  found_there k i e = held_key same k (key_at s.directory i) (slot_in_holds same k s.directory.keys i e)

  pub found_none : (k : K) → held_slot same s k ≡ None → Absent same s k
  found_none k e i l h = sym (ap (holds same k) h) ∙ absent same k s.directory.keys i e

  abbrev pub waiting_at : (k : K) (i : ℕ) → held_slot same s k ≡ Some i → out_at s.table i ≡ false → At same s k false
  waiting_at k i e h = let f = found_there k i e in record { slot = i; held = f.0; inside = inside_of i f.0 f.1; there = f.1; alike = f.2; how = h }

  -- the first of the order is not out
  pub first_idle : (x : Expelled) → leaver s.order.waiting ≡ Some x → out_at s.table x.slot ≡ false
  first_idle x e = waiting_not_out same s x.slot so (leaver_waits s.order.waiting x e)

  pub known_ticket : (n : Ticket) → known s.table n ≡ true → (n.mark ≡ s.table.mark) × (out_at s.table n.slot ≡ true)
  known_ticket n h = (eqb-true _ _ (and_parts (eqb n.mark s.table.mark) (out_at s.table n.slot) h).0, known_out s.table n h)

  -- the slab of a write that is not refused
  write_room : (n : Ticket) (len m : ℕ) → write_fault s n len m ≡ None → slots s * s.table.chunk ≤ m
  write_room n len m h = ltb-false _ _ (clear (short_slab s m) ShortSlab _ (clear (long_value s len) LongValue _ h).1).0

-- Each step, in these terms.

module _ {K : Type 0} (same : K → K → Bool) (s : State K) (so : Sound same s) where
  -- a new key is taken, from a state u that has the frame of the sound state and an idle slot wherever no key is
  take_comes : (u : State K) → length u.table.records ≡ 1024 → slots u ≤ 1024 → ((i : ℕ) → key_at u.directory i ≡ None → out_at u.table i ≡ false)
      → (k : K) (c : ℕ) (v slab after : List ℕ) (t : State K) → Absent same u k → length v ≤ u.table.chunk → slots u * u.table.chunk ≤ length slab
      → Takes u k c v slab t after → Comes same u k v t (Some slab) (Some after)
  take_comes u recorded few idle k c v slab after t ab short enough ta = record {
    slot = ta.slot;
    inside = ta.below;
    unused = ta.unused;
    idle = idle ta.slot ta.unused;
    absent = ab;
    only = only_to ta.after (key_set u _ ta.slot k (record { cost = c; len = length v; lending = Idle }) ta.below (omega (arith, ta.below)));
    pours = record { slab = slab; given = refl; left = ap (λ (x : List ℕ). Some x) ta.bytes; enough = enough; short = short };
  }

  evicts_goes : {home : K → ℕ} → SameLaws same home → (l : K) (u : State K) → Evicts s l u → Goes same s l u
  evicts_goes laws l u ev =
      let idle = first_idle same s so ev.first ev.least in
      record {
        at = record { slot = ev.first.slot; held = l; inside = inside_of same s so ev.first.slot l ev.key; there = ev.key; alike = laws.reflexive l; how = idle };
        only = only_to ev.after (subst (λ (b : Bool). Only ev.first.slot (record { key = None; out = b; len = (record_at s.table ev.first.slot).len }) s (evicted s ev.first.slot)) idle (key_gone same s so _ ev.first.slot));
      }

  evicts_framed : (l : K) (u : State K) → Evicts s l u → Framed s u
  evicts_framed l u ev = framed_to ev.after (record { mark = refl; chunk = refl; slots_same = length-set s.directory.keys ev.first.slot None })

  goes_idle : {l : K} {u : State K} → Goes same s l u → (i : ℕ) → key_at u.directory i ≡ None → out_at u.table i ≡ false
  goes_idle {l} {u} g i e = ⊎_elim
      (λ q. subst (λ (j : ℕ). out_at u.table j ≡ false) (sym q) (ap (λ (c : Cell K). c.out) g.only.here))
      (λ ne. ap (λ (c : Cell K). c.out) (g.only.others i ne) ∙ (unheld_idle same s i so (sym (ap (λ (c : Cell K). c.key) (g.only.others i ne)) ∙ e)).1)
      (cases_eq i g.at.slot)

  goes_absent : (k : K) {l : K} {u : State K} → Goes same s l u → Absent same s k → Absent same u k
  goes_absent k {l} {u} g ab i a e = ⊎_elim
      (λ q. absurd (none_some (ap (λ (c : Cell K). c.key) g.only.here) (subst (λ (j : ℕ). key_at u.directory j ≡ Some a) q e)))
      (λ ne. ab i a (sym (ap (λ (c : Cell K). c.key) (g.only.others i ne)) ∙ e))
      (cases_eq i g.at.slot)

  only_key : {i : ℕ} {t : State K} {l : K} (b : Bool) (n : ℕ) → key_at s.directory i ≡ Some l → Only i (record { key = key_at s.directory i; out = b; len = n }) s t → Only i (record { key = Some l; out = b; len = n }) s t
  only_key {i} {t} b n e o = subst (λ (k : Option K). Only i (record { key = k; out = b; len = n }) s t) e o

  pub shifts : {home : K → ℕ} → SameLaws same home → (e : Event K) (t : State K) → Step same s e t → Shift same s t (slab_in e) (slab_out e) (effect e)
  shifts laws (gets k slab (Err r)) t (f, g) = rests (alike_to s t s g (λ i. refl)) refl
  shifts laws (gets k slab (Ok None)) t (f, h, g) = rests (alike_to s t s g (λ i. refl)) refl
  shifts laws (gets k slab (Ok (Some p))) t (f, g) = finds (alike_to s t (touched s g.slot) g.after (touched_alike same s so g.slot)) refl
  shifts laws (keeps k c v slab (Err r) after) t (f, g, h) = rests (alike_to s t s g (λ i. refl)) (ap (λ (x : List ℕ). Some x) h)
  shifts laws (keeps k c v slab (Ok Refreshed) after) t (f, g) =
      let p = accepted same s k c (length v) (length slab) f in
      let a = waiting_at same s so k g.slot g.held (ap (out_slot s.table) (sym g.held) ∙ p.idle) in
      renews a (only_to g.after (only_key false (length v) a.there (record_set same s so _ g.slot (record { cost = c; len = length v; lending = Idle }) a.inside)))
      (record { slab = slab; given = refl; left = ap (λ (x : List ℕ). Some x) g.bytes; enough = p.room; short = p.short })
  shifts laws (keeps k c v slab (Ok Taken) after) t (f, g, h, ta) =
      let p = accepted same s k c (length v) (length slab) f in
      comes (take_comes s so.recorded so.few (λ i e. (unheld_idle same s i so e).1) k c v slab after t (found_none same s so k g) p.short p.room ta)
  shifts laws (keeps k c v slab (Ok (TakenEvicting e)) after) t (f, g, h, (u, ev, ta)) =
      let p = accepted same s k c (length v) (length slab) f in
      let go = evicts_goes laws e.key u ev in
      let fr = evicts_framed e.key u ev in
      let short : length v ≤ u.table.chunk = omega (arith, p.short, fr.chunk) in
      let enough : slots u * u.table.chunk ≤ length slab = rw (fr.slots_same, fr.chunk) p.room in
      let few : slots u ≤ 1024 = omega (arith, so.few, fr.slots_same) in
      evicts u fr go (take_comes u (ap (λ (x : State K). length x.table.records) ev.after ∙ so.recorded) few (goes_idle go) k c v slab after t (goes_absent k go (found_none same s so k g)) short enough ta)
  shifts laws (leases k (Err r)) t (f, g) = rests (alike_to s t s g (λ i. refl)) refl
  shifts laws (leases k (Ok n)) t (f, g) =
      let a = waiting_at same s so k g.slot g.held (absence_idle same s k g.slot f g.held) in
      lends a g.names (only_to g.after (only_key true _ a.there (record_set same s so _ g.slot (with_lending (record_at s.table g.slot) Lent) a.inside))) refl
  shifts laws (writes n v slab (Err r) after) t (f, g, h) = rests (alike_to s t s g (λ i. refl)) (ap (λ (x : List ℕ). Some x) h)
  shifts laws (writes n v slab (Ok u) after) t (f, g, h) =
      let q = known_ticket same s so n (write_known s n (length v) (length slab) f) in
      let l = out_key same s so n.slot q.1 in
      let i = inside_of same s so n.slot l.0 l.1 in
      rewrites l.0 q.0 i l.1 q.1
      (only_to g (subst (λ (b : Bool). Only n.slot (record { key = Some l.0; out = b; len = length v }) s (rewritten s n.slot (length v))) q.1
      (only_key _ (length v) l.1 (record_set same s so _ n.slot (record { cost = (record_at s.table n.slot).cost; len = length v; lending = (record_at s.table n.slot).lending }) i))))
      (record { slab = slab; given = refl; left = ap (λ (x : List ℕ). Some x) h; enough = write_room same s so n (length v) (length slab) f; short = write_short s n (length v) (length slab) f })
  shifts laws (gives_back n (Err r)) t (f, g) = rests (alike_to s t s g (λ i. refl)) refl
  shifts laws (gives_back n (Ok u)) t (f, g) =
      let q = known_ticket same s so n (give_known s n f) in
      let l = out_key same s so n.slot q.1 in
      let i = inside_of same s so n.slot l.0 l.1 in
      takes_back l.0 q.0 l.1 q.1 (only_to g (only_key false _ l.1 (record_set same s so _ n.slot (with_lending (record_at s.table n.slot) Idle) i))) refl
  shifts laws (drops k (Err r)) t (f, g) = rests (alike_to s t s g (λ i. refl)) refl
  shifts laws (drops k (Ok u)) t (f, g) =
      let a = waiting_at same s so k g.slot g.held (absence_idle same s k g.slot f g.held) in
      removes (record { at = a; only = only_to g.after (subst (λ (b : Bool). Only g.slot (record { key = None; out = b; len = (record_at s.table g.slot).len }) s (dropped s g.slot)) a.how (key_gone same s so _ g.slot)) }) refl
  shifts laws (tells k p) t (f, g) = rests (alike_to s t s g (λ i. refl)) refl

  pub frames : (e : Event K) (t : State K) → Step same s e t → Framed s t
  frames (gets k slab (Err r)) t (f, g) = framed_to g (record { mark = refl; chunk = refl; slots_same = refl })
  frames (gets k slab (Ok None)) t (f, h, g) = framed_to g (record { mark = refl; chunk = refl; slots_same = refl })
  frames (gets k slab (Ok (Some p))) t (f, g) = framed_to g.after (touched_framed same s so g.slot)
  frames (keeps k c v slab (Err r) after) t (f, g, h) = framed_to g (record { mark = refl; chunk = refl; slots_same = refl })
  frames (keeps k c v slab (Ok Refreshed) after) t (f, g) = framed_to g.after (record { mark = refl; chunk = refl; slots_same = refl })
  frames (keeps k c v slab (Ok Taken) after) t (f, g, h, ta) = framed_to ta.after (record { mark = refl; chunk = refl; slots_same = length-set s.directory.keys ta.slot (Some k) })
  frames (keeps k c v slab (Ok (TakenEvicting e)) after) t (f, g, h, (u, ev, ta)) =
      let fr = evicts_framed e.key u ev in
      framed_to ta.after (record { mark = fr.mark; chunk = fr.chunk; slots_same = length-set u.directory.keys ta.slot (Some k) ∙ fr.slots_same })
  frames (leases k (Err r)) t (f, g) = framed_to g (record { mark = refl; chunk = refl; slots_same = refl })
  frames (leases k (Ok n)) t (f, g) = framed_to g.after (record { mark = refl; chunk = refl; slots_same = refl })
  frames (writes n v slab (Err r) after) t (f, g, h) = framed_to g (record { mark = refl; chunk = refl; slots_same = refl })
  frames (writes n v slab (Ok u) after) t (f, g, h) = framed_to g (record { mark = refl; chunk = refl; slots_same = refl })
  frames (gives_back n (Err r)) t (f, g) = framed_to g (record { mark = refl; chunk = refl; slots_same = refl })
  frames (gives_back n (Ok u)) t (f, g) = framed_to g (record { mark = refl; chunk = refl; slots_same = refl })
  frames (drops k (Err r)) t (f, g) = framed_to g (record { mark = refl; chunk = refl; slots_same = refl })
  frames (drops k (Ok u)) t (f, g) = framed_to g.after (record { mark = refl; chunk = refl; slots_same = length-set s.directory.keys g.slot None })
  frames (tells k p) t (f, g) = framed_to g (record { mark = refl; chunk = refl; slots_same = refl })
