-- What the calls of the flat order come to, over the entries in placing order.
use Rattle.std.specs.Prelude.{◌≡◌, ℕ, zero, suc, ◌+◌, ◌-◌, ◌<◌, ◌≤◌, Bool, true, false, ◌&&◌, ◌||◌, List, [], ◌∷◌, ◌++◌, length, take, drop, Some, ◌==◌, ◌≢◌, nat_le, nat_lt, slice_range, slice_set, refl}
use Rattle.std.proofs.Common.{sym, ap, ap₂, subst, ◌∙◌, append_assoc, arith, length-append, length-drop, length-take, length-take-le}
use borrow.Rule.Slice.PartMut.{put_mid}
use Rattle.std.proofs.Math.Seq.{split_at}
use Rattle.std.specs.List.{remove, list_any, AllByRecursion}
use Rattle.std.proofs.ByRecursion.{All-weaker, All-push, All-append, All-get_or, All-from_get_or}
use Rattle.std.proofs.lemmas.List.{take_more, take_more_set, take-take, take_at, drop_more, drop-drop, drop-set-lt, get_or-take, get_or-drop}
use Rattle.std.proofs.lemmas.Slice.{between_is}
use Rattle.std.proofs.lemmas.Bool.{eq-eqb, ne_eqb, or_parts, or_from, or_left, or_right, eqb-false, both_ways, and_parts, ltb-true, leb-true}
use Rattle.orders.specs.declared.Entry.{Entry}
use Rattle.orders.specs.Meaning.{Lawful, joined, waits, without, fallen, leaver, rest, some_due, Apart}
use Rattle.orders.specs.Rings.{holds, Once}
use Rattle.orders.specs.Flat.{entry}
use Rattle.orders.specs.Wheels.{merged, Over}
use Rattle.orders.specs.FlatTable.{flat_order, permitted, Neat, entry_at, Found, FirstLeast}
use Rattle.orders.specs.Slots.{once_short}
use Rattle.orders.specs.Flats.{joined_front, waits_append, fallen_append, without_absent}
use Rattle.orders.specs.Merges.{join_all, join_apart, join_waits, without_all, without_apart, drop_same, drop_else, fallen_all, fallen_apart, merged_sorted, merged_waits, merged_due, merged_first, merged_without, merged_fallen}

-- ---- the stable merge of a list

pub merged_append : (acc xs ys : List Entry) → merged acc (xs ++ ys) ≡ merged (merged acc xs) ys
merged_append acc [] ys = refl
merged_append acc (x ∷ xs) ys = merged_append (joined x acc) xs ys

pub merged_all : (P : Entry → Type 0) (acc es : List Entry) → AllByRecursion P acc → AllByRecursion P es → AllByRecursion P (merged acc es)
merged_all P acc [] a b = a
merged_all P acc (e ∷ es) a b = merged_all P (joined e acc) es (join_all P e acc b.0 a) b.1

pub merged_apart : (acc es : List Entry) → Apart acc → Apart es → ((s : ℕ) → waits s es ≡ true → waits s acc ≡ false) → Apart (merged acc es)
merged_apart acc [] a b h = a
merged_apart acc (e ∷ es) a b h =
    merged_apart (joined e acc) es
    (join_apart e acc (h e.slot (or_left (e.slot == e.slot) (waits e.slot es) (eq-eqb e.slot e.slot refl))) a)
    b.1
    (λ s w. join_waits s e acc ∙ or_from (e.slot == s) (waits s acc)
    (ne_eqb e.slot s (λ z. both_ways (waits s es) (subst (λ (t : ℕ). waits t es ≡ false) z b.0) w))
    (h s (or_right (e.slot == s) (waits s es) w)))

-- ---- the laws

pub neat_lawful : (xs : List Entry) → Neat xs → Lawful (flat_order xs)
neat_lawful xs n = record {
  sorted = merged_sorted [] xs tt;
  apart = merged_apart [] xs tt n.apart (λ s w. refl);
  slots = merged_all (λ (y : Entry). y.slot < 1024) [] xs tt n.slots;
  credits = merged_all (λ (y : Entry). y.credit ≤ 65280) [] xs tt n.credits;
}

-- ---- place

pub permitted_yes : (s c : ℕ) → permitted s c ≡ true → (s < 1024) × (0 < c) × (c ≤ 65280)
permitted_yes s c e =
    let p = and_parts (nat_lt s 1024) (nat_lt 0 c && nat_le c 65280) e in
    let q = and_parts (nat_lt 0 c) (nat_le c 65280) p.1 in
    (ltb-true s 1024 p.0, ltb-true 0 c q.0, leb-true c 65280 q.1)

apart_push : (xs : List Entry) (e : Entry) → Apart xs → waits e.slot xs ≡ false → Apart (xs ++ e ∷ [])
apart_push [] e a w = (refl, tt)
apart_push (x ∷ xs) e a w =
    let p = or_parts (x.slot == e.slot) (waits e.slot xs) w in (
      waits_append x.slot xs (e ∷ []) ∙ or_from (waits x.slot xs) (waits x.slot (e ∷ [])) a.0
          (or_from (e.slot == x.slot) false (ne_eqb e.slot x.slot (λ z. eqb-false x.slot e.slot p.0 (sym z))) refl),
      apart_push xs e a.1 p.1,
    )

pub neat_push : (xs : List Entry) (s c : ℕ) → Neat xs → s < 1024 → waits s xs ≡ false → c ≤ 65280 → Neat (xs ++ entry s c ∷ [])
neat_push xs s c n a w d = record {
  apart = apart_push xs (entry s c) n.apart w;
  slots = All-push (λ (y : Entry). y.slot < 1024) xs (entry s c) n.slots a;
  credits = All-push (λ (y : Entry). y.credit ≤ 65280) xs (entry s c) n.credits d;
}

-- as many entries as there are slots, at most
slots_of : List Entry → List ℕ
slots_of [] = []
slots_of (x ∷ xs) = x.slot ∷ slots_of xs

slots_holds : (s : ℕ) (xs : List Entry) → holds s (slots_of xs) ≡ waits s xs
unfolding slots_of
slots_holds s [] = refl
slots_holds s (x ∷ xs) = ap (λ (b : Bool). (x.slot == s) || b) (slots_holds s xs)

slots_once : (xs : List Entry) → Apart xs → Once (slots_of xs)
unfolding slots_of
slots_once [] a = tt
slots_once (x ∷ xs) a = (slots_holds x.slot xs ∙ a.0, slots_once xs a.1)

slots_all : (xs : List Entry) → AllByRecursion (λ (y : Entry). y.slot < 1024) xs → AllByRecursion (λ y. y < 1024) (slots_of xs)
unfolding slots_of
slots_all [] a = tt
slots_all (x ∷ xs) a = (a.0, slots_all xs a.1)

slots_length : (xs : List Entry) → length (slots_of xs) ≡ length xs
unfolding slots_of
slots_length [] = refl
slots_length (x ∷ xs) = ap suc (slots_length xs)

neat_short : (xs : List Entry) → Neat xs → length xs ≤ 1024
neat_short xs n =
    let l = once_short 1024 (slots_of xs) (slots_once xs n.apart) (slots_all xs n.slots) in
    let e = slots_length xs in
    omega arith

-- where a slot is free, the table is not full
pub room : (xs : List Entry) (s : ℕ) → Neat xs → s < 1024 → waits s xs ≡ false → length xs < 1024
room xs s n a w =
    let l = neat_short (xs ++ entry s 0 ∷ []) (neat_push xs s 0 n a w (omega arith)) in
    let e = length-append xs (entry s 0 ∷ []) in
    omega arith

-- so a table has a place behind its first `n` entries, where the slot is free in these
pub place_room : (table : List Entry) (n s : ℕ) → n ≤ length table → Neat (take n table) → s < 1024 → waits s (take n table) ≡ false → n < 1024
place_room table n s h k a w = let l = length-take-le n table h in let r = room (take n table) s k a w in omega arith

-- ---- the loops

-- none of them is the slot
pub waits_none : (s : ℕ) (xs : List Entry) → ((k : ℕ) → k < length xs → (entry_at xs k).slot ≢ s) → waits s xs ≡ false
waits_none s [] h = refl
waits_none s (x ∷ xs) h = or_from (x.slot == s) (waits s xs) (ne_eqb x.slot s (h 0 (omega arith))) (waits_none s xs (λ k l. h (suc k) (omega arith)))

pub due_any : (xs : List Entry) → list_any (λ (y : Entry). y.credit == 0) xs ≡ some_due xs
due_any [] = refl
due_any (x ∷ xs) = ap (λ (b : Bool). (x.credit == 0) || b) (due_any xs)

module _ (by i : ℕ) (xs ys : List Entry) (hx : i < length xs) (hy : i < length ys) (back : drop i ys ≡ drop i xs) where
  same_at : entry_at ys i ≡ entry_at xs i
  same_at =
      let p = drop_more ys i (entry 0 0) hy in
      let q = drop_more xs i (entry 0 0) hx in
      cc

  pub lower_can : Over by xs → by ≤ (entry_at ys i).credit
  lower_can a = let e = same_at in let l = All-get_or (λ (y : Entry). by ≤ y.credit) xs i (entry 0 0) hx a in rw e l

  abbrev lowered : Entry
  lowered = entry (entry_at ys i).slot ((entry_at ys i).credit - by)

  pub lower_front : take i ys ≡ fallen by (take i xs) → take (i + 1) (slice_set ys i lowered) ≡ fallen by (take (i + 1) xs)
  lower_front front =
      take_more_set ys i lowered hy
      ∙ ap₂ (λ (us : List Entry) (x : Entry). us ++ entry x.slot (x.credit - by) ∷ []) front same_at
      ∙ sym (fallen_append by (take i xs) (entry_at xs i ∷ [])) ∙ ap (fallen by) (sym (take_more xs i (entry 0 0) hx))

  pub lower_back : drop (i + 1) (slice_set ys i lowered) ≡ drop (i + 1) xs
  lower_back =
      let a = drop-set-lt (i + 1) ys i lowered (omega arith) in
      let p = drop_more ys i (entry 0 0) hy in
      let q = drop_more xs i (entry 0 0) hx in
      cc

-- ---- withdraw

waits_here : (s : ℕ) (xs : List Entry) (i : ℕ) → i < length xs → (entry_at xs i).slot ≡ s → waits s xs ≡ true
waits_here s [] i h e = absurd (omega arith)
waits_here s (x ∷ xs) zero h e = or_left (x.slot == s) (waits s xs) (eq-eqb x.slot s e)
waits_here s (x ∷ xs) (suc i) h e = or_right (x.slot == s) (waits s xs) (waits_here s xs i (omega arith) e)

without_at : (s : ℕ) (xs : List Entry) (i : ℕ) → Apart xs → i < length xs → (entry_at xs i).slot ≡ s → without s xs ≡ remove xs i
without_at s [] i a h e = absurd (omega arith)
without_at s (x ∷ xs) zero a h e = drop_same s x xs e ∙ without_absent s xs (subst (λ (t : ℕ). waits t xs ≡ false) e a.0)
without_at s (x ∷ xs) (suc i) a h e =
    drop_else s x xs (λ z. both_ways (waits s xs) (subst (λ (t : ℕ). waits t xs ≡ false) z a.0) (waits_here s xs i (omega arith) e))
    ∙ ap (λ (zs : List Entry). x ∷ zs) (without_at s xs i a.1 (omega arith) e)

-- the first `n` entries of a table, of which those from `i` on were turned by one
pub gap_closed : (xs ys : List Entry) (n i : ℕ) → i < n → n ≤ length xs → ys ≡ drop 1 (slice_range xs i n) ++ take 1 (slice_range xs i n) →
    take (n - 1) (put_mid i (n - i) xs ys) ≡ remove (take n xs) i
gap_closed xs ys n i h k e =
    let mid : List Entry = take (n - i) (drop i xs) in
    let post : List Entry = drop (n - i) (drop i xs) in
    let kept : List Entry = take i xs ++ drop 1 mid in
    let long : length mid ≡ n - i = length-take-le (n - i) (drop i xs) (let d = length-drop i xs in omega arith) in
    let short : length kept ≡ n - 1 =
    (let a = length-append (take i xs) (drop 1 mid) in let b = length-take-le i xs (omega arith) in let d = length-drop 1 mid in omega arith) in
    let apart : take i xs ++ (ys ++ post) ≡ kept ++ (take 1 mid ++ post) =
    ap (λ (zs : List Entry). take i xs ++ (zs ++ post)) e ∙ simp append_assoc in
    let front : take i (take n xs) ≡ take i xs = take-take i n xs (omega arith) in
    let back : drop 1 mid ≡ drop (suc i) (take n xs) =
    ap (drop 1) (between_is xs i n) ∙ drop-drop 1 i (take n xs) ∙ ap (λ (z : ℕ). drop z (take n xs)) (let z : i + 1 ≡ suc i = omega arith in z) in
    ap (take (n - 1)) apart ∙ take_at kept (take 1 mid ++ post) (n - 1) short ∙ ap₂ (λ (us vs : List Entry). us ++ vs) (sym front) back

-- ---- expel

module _ (xs : List Entry) (i : ℕ) (l : FirstLeast xs i) where
  pub least_before : AllByRecursion (λ (y : Entry). (entry_at xs i).credit < y.credit) (take i xs)
  least_before =
      let h = l.inside in
      let n : length (take i xs) ≡ i = length-take-le i xs (omega arith) in
      All-from_get_or (λ (y : Entry). (entry_at xs i).credit < y.credit) (take i xs) (entry 0 0)
      (λ k b. let m : k < i = omega arith in rw get_or-take (l.before k m))

  pub least_after : AllByRecursion (λ (y : Entry). (entry_at xs i).credit ≤ y.credit) (drop (suc i) xs)
  least_after =
      let h = l.inside in
      let n : length (drop (suc i) xs) ≡ length xs - suc i = length-drop (suc i) xs in
      All-from_get_or (λ (y : Entry). (entry_at xs i).credit ≤ y.credit) (drop (suc i) xs) (entry 0 0)
      (λ k b. let m : suc i + k < length xs = omega arith in rw get_or-drop (l.least (suc i + k) m))

  pub least_over : Over (entry_at xs i).credit (remove xs i)
  least_over = All-append (λ (y : Entry). (entry_at xs i).credit ≤ y.credit) (take i xs) (drop (suc i) xs)
      (All-weaker (λ (y : Entry). (entry_at xs i).credit < y.credit) (λ (y : Entry). (entry_at xs i).credit ≤ y.credit) (λ y k. omega arith) (take i xs) least_before)
      least_after

  -- the first of the least leads the merge
  pub least_leads : merged [] xs ≡ entry_at xs i ∷ merged [] (remove xs i)
  least_leads =
      let e : Entry = entry_at xs i in
      let pre : List Entry = take i xs in
      let post : List Entry = drop (suc i) xs in
      ap (merged []) (split_at xs i (entry 0 0) l.inside) ∙ merged_append [] pre (e ∷ post)
      ∙ ap (λ (zs : List Entry). merged zs post) (joined_front e (merged [] pre) (merged_all (λ (y : Entry). e.credit < y.credit) [] pre tt least_before))
      ∙ merged_first e (merged [] pre) post least_after ∙ ap (λ (zs : List Entry). e ∷ zs) (sym (merged_append [] pre post))

  pub least_rest : rest (merged [] xs) ≡ merged [] (fallen (entry_at xs i).credit (remove xs i))
  least_rest = ap rest least_leads ∙ merged_fallen (entry_at xs i).credit [] (remove xs i) tt least_over

neat_without : (xs : List Entry) (s : ℕ) → Neat xs → Neat (without s xs)
neat_without xs s n = record {
  apart = without_apart s xs n.apart;
  slots = without_all (λ (y : Entry). y.slot < 1024) s xs n.slots;
  credits = without_all (λ (y : Entry). y.credit ≤ 65280) s xs n.credits;
}

fallen_length : (d : ℕ) (xs : List Entry) → length (fallen d xs) ≡ length xs
fallen_length d [] = refl
fallen_length d (x ∷ xs) = ap suc (fallen_length d xs)

neat_fallen : (xs : List Entry) (d : ℕ) → Neat xs → Neat (fallen d xs)
neat_fallen xs d n = record {
  apart = fallen_apart d xs n.apart;
  slots = fallen_all (λ (y : Entry). y.slot < 1024) (λ (y : Entry). y.slot < 1024) d xs (λ y k. k) n.slots;
  credits = fallen_all (λ (y : Entry). y.credit ≤ 65280) (λ (y : Entry). y.credit ≤ 65280) d xs (λ y k. omega arith) n.credits;
}

pub neat_removed : (xs : List Entry) (i : ℕ) → i < length xs → Neat xs → Neat (remove xs i)
neat_removed xs i h n = subst Neat (without_at (entry_at xs i).slot xs i n.apart h refl) (neat_without xs (entry_at xs i).slot n)

-- ---- the calls

pub flat_waits : (xs : List Entry) (s : ℕ) → waits s (flat_order xs).waiting ≡ waits s xs
flat_waits xs s = merged_waits s [] xs

pub flat_due : (xs : List Entry) → some_due (flat_order xs).waiting ≡ some_due xs
flat_due xs = merged_due [] xs

-- where a search found the slot, it waits, and only the entry there goes with it
module _ (xs : List Entry) (s i : ℕ) (found : Found xs s (Some i)) where
  pub found_waits : waits s (flat_order xs).waiting ≡ true
  found_waits = flat_waits xs s ∙ waits_here s xs i found.0 found.1

  pub found_gone : Neat xs → (flat_order (remove xs i)).waiting ≡ without s (flat_order xs).waiting
  found_gone n = ap (merged []) (sym (without_at s xs i n.apart found.0 found.1)) ∙ sym (merged_without s [] xs tt)

pub flat_placed : (xs : List Entry) (s c : ℕ) → (flat_order (xs ++ entry s c ∷ [])).waiting ≡ joined (entry s c) (flat_order xs).waiting
flat_placed xs s c = merged_append [] xs (entry s c ∷ [])

-- the first of the least leaves, and the others fall, where the entries are the first `count` of a table
module _ (table : List Entry) (count i : ℕ) (l : FirstLeast (take count table) i) where
  listed_at : entry_at (take count table) i ≡ entry_at table i
  listed_at = let h = l.inside in let n = length-take count table in get_or-take count table i (entry 0 0) (omega arith)

  pub expel_leaver : Some (record { slot = (entry_at table i).slot; credit = (entry_at table i).credit }) ≡ leaver (flat_order (take count table)).waiting
  expel_leaver = sym (ap leaver (least_leads (take count table) i l) ∙ ap (λ (e : Entry). Some (record { slot = e.slot; credit = e.credit })) listed_at)

  module _ (ys : List Entry) (gone : ys ≡ remove (take count table) i) where
    pub expel_over : Over (entry_at table i).credit ys
    expel_over = rw (gone, ← listed_at) (least_over (take count table) i l)

    module _ (zs : List Entry) (low : zs ≡ fallen (entry_at table i).credit ys) where
      low_gone : zs ≡ fallen (entry_at (take count table) i).credit (remove (take count table) i)
      low_gone = low ∙ ap₂ (λ (e : Entry) (us : List Entry). fallen e.credit us) (sym listed_at) gone

      pub expel_neat : Neat (take count table) → Neat zs
      expel_neat n = subst Neat (sym low_gone)
          (neat_fallen (remove (take count table) i) (entry_at (take count table) i).credit (neat_removed (take count table) i l.inside n))

      pub expel_waiting : (flat_order zs).waiting ≡ rest (flat_order (take count table)).waiting
      expel_waiting = ap (merged []) low_gone ∙ sym (least_rest (take count table) i l)
