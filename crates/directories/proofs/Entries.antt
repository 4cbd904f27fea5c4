-- What the calls on a table answer and leave.
use Rattle.std.proofs.Common.{◌≡◌, ℕ, ◌+◌, ◌-◌, ◌<◌, ◌≤◌, Bool, true, false, ◌≢◌, List, map, length, get_or, take, set, replicate, is_some, Some, None, Option, sym, refl, ap, ◌∙◌, ⊎_elim, arith}
use lib.Seq.{take-set-lt}
use Rattle.std.proofs.lemmas.List.{length-map, length-take-le, get_or-take, get_or-set_same, get_or-set_other, length-replicate, get_or-replicate, ext_get_or, get_or-map}
use Rattle.std.proofs.lemmas.Bool.{both_ways, cases_eq, eq-eqb, ne_eqb, or_right, or_left, or_from}
use Rattle.keys.specs.Sameness.{SameLaws}
use Rattle.directories.specs.declared.cells.Cell.{Cell}
use Rattle.directories.specs.Cells.{keys_of, heads_of, nexts_of, frees_of, key_in, Wrote}
use Rattle.directories.specs.Meaning.{with_keys, pairs, holds, slot_in, find, Enters, removed, freed}
use Rattle.directories.specs.Links.{in_bucket, stands}
use Rattle.directories.specs.Tables.{Sound, Held, Threaded, Located, table, vacant, Wiped}
use Rattle.directories.proofs.Counts.{pairs_none}
use Rattle.directories.proofs.Sounds.{popped, pushed, apart_in, apart_out, sought}

module _ {K : Type 0} {same : K → K → Bool} {home : K → ℕ} (laws : SameLaws same home) {cs : List (Cell K)} {m n : ℕ} (old : Sound same home cs m n) where
  pub long : m ≤ length (keys_of cs)
  long = rw (length-map cs (λ c. c.key)) old.within

  slots : length (take m (keys_of cs)) ≡ m
  slots = length-take-le m (keys_of cs) long

  pub size_means : m ≡ length (take m (keys_of cs))
  size_means = sym slots

  pub free_within : n ≤ length cs
  free_within =
      let cnt : n + pairs (take m (keys_of cs)) ≡ m = old.stacked.count in
      let within : m ≤ length cs = old.within in
      omega arith

  -- the slot on top of the stack is unused
  pub top_unused : (s : ℕ) → 0 < n → s ≡ get_or (frees_of cs) (n - 1) 0 → (s < m) × (key_in cs s ≡ None)
  top_unused s pos e =
      let u = old.stacked.unused (n - 1) (omega arith) in
      (rw e u.0, rw e u.1)

  pub enter_full : (key : K) (cap : ℕ) → n ≡ 0 → Enters same (table cs m cap) key None (table cs m cap)
  enter_full key cap z =
      let cnt : n + pairs (take m (keys_of cs)) ≡ m = old.stacked.count in
      let all : pairs (take m (keys_of cs)) ≡ length (take m (keys_of cs)) = (let q : pairs (take m (keys_of cs)) ≡ m = omega arith in q ∙ sym slots) in
      (or_right (is_some (slot_in same key (take m (keys_of cs)))) _ (eq-eqb _ _ all), refl)

  pub enter_there : (key : K) (cap : ℕ) (r : Option ℕ) → Located same cs m key r → is_some r ≡ true → Enters same (table cs m cap) key None (table cs m cap)
  enter_there key cap r least t =
      let at : slot_in same key (take m (keys_of cs)) ≡ r = sym (sought same m (keys_of cs) long key r least) in
      (or_left (is_some (slot_in same key (take m (keys_of cs)))) _ (ap is_some at ∙ t), refl)

  pub enter_sound : (key : K) (s : ℕ) (cs' : List (Cell K)) → 0 < n → s ≡ get_or (frees_of cs) (n - 1) 0 →
      Located same cs m key None →
      length cs' ≡ length cs → keys_of cs' ≡ set (keys_of cs) s (Some key) → frees_of cs' ≡ frees_of cs →
      Threaded home m cs' → Sound same home cs' m (n - 1)
  enter_sound key s cs' pos e none len ek ef ch =
      let pop = popped m (keys_of cs) (frees_of cs) n old.stacked long s key pos e in
      record {
        small = old.small;
        within = rw len old.within;
        chained = ch;
        stacked = rw (ek, ef) pop.2;
        apart = rw ek (apart_in same home laws m (keys_of cs) long old.apart s key pop.0 none);
      }

  pub enter_means : (key : K) (cap s : ℕ) (cs' : List (Cell K)) → 0 < n → s ≡ get_or (frees_of cs) (n - 1) 0 →
      Located same cs m key None →
      keys_of cs' ≡ set (keys_of cs) s (Some key) → Enters same (table cs m cap) key (Some s) (table cs' m cap)
  enter_means key cap s cs' pos e none ek =
      let pop = popped m (keys_of cs) (frees_of cs) n old.stacked long s key pos e in
      let sm : s < m = pop.0 in
      let cnt : n + pairs (take m (keys_of cs)) ≡ m = old.stacked.count in
      let absent : slot_in same key (take m (keys_of cs)) ≡ None = sym (sought same m (keys_of cs) long key None none) in
      let after : take m (keys_of cs') ≡ set (take m (keys_of cs)) s (Some key) = ap (take m) ek ∙ take-set-lt m (keys_of cs) s (Some key) sm in (
        or_from (is_some (slot_in same key (take m (keys_of cs)))) _ (ap is_some absent) (ne_eqb _ _ (λ q. let w = q ∙ slots in omega arith)),
        (rw slots sm, get_or-take m (keys_of cs) s None sm ∙ pop.1),
        ap (with_keys (table cs m cap)) after,
      )

  pub found_here : (key : K) (s : ℕ) → holds same key (get_or (keys_of cs) s None) ≡ true → (k : K) × (get_or (keys_of cs) s None ≡ Some k)
  found_here key s t = some_of (get_or (keys_of cs) s None) t
    where
      some_of : (o : Option K) → holds same key o ≡ true → (k : K) × (o ≡ Some k)
      some_of None t = absurd (both_ways false refl t)
      some_of (Some k) t = (k, refl)

  -- while a key is in, fewer slots are free than there are
  pub spare : (key : K) (s : ℕ) → Located same cs m key (Some s) → n < m
  spare key s least =
      let held = found_here key s least.1 in
      (pushed m (keys_of cs) (frees_of cs) n old.stacked long s held.0 least.0 held.1).0

  pub room : (key : K) (s : ℕ) → Located same cs m key (Some s) → n < length cs
  room key s least =
      let push : n < m = spare key s least in
      let within : m ≤ length cs = old.within in
      omega arith

  pub remove_sound : (key : K) (s : ℕ) (c1 c2 : List (Cell K)) →
      Located same cs m key (Some s) →
      length c1 ≡ length cs → length c2 ≡ length c1 →
      keys_of c1 ≡ set (keys_of cs) s None → frees_of c1 ≡ frees_of cs → Threaded home m c1 →
      Wrote n c1 c2 (keys_of c1) (heads_of c1) (nexts_of c1) (set (frees_of c1) n s) → Sound same home c2 m (n + 1)
  remove_sound key s c1 c2 least l1 l2 ek ef ch w =
      let held = found_here key s least.1 in
      let lf : m ≤ length (frees_of cs) = rw (length-map cs (λ c. c.free)) old.within in
      let push = pushed m (keys_of cs) (frees_of cs) n old.stacked long s held.0 least.0 held.1 in
      let nm : n < m = push.0 in
      record {
        small = old.small;
        within = rw (l2 ∙ l1) old.within;
        chained = rw (w.keys, w.heads, w.nexts) ch;
        stacked = rw (w.keys ∙ ek, w.frees ∙ ap (λ fs. set fs n s) ef)
            (push.1 (set (frees_of cs) n s) (get_or-set_same (frees_of cs) n s 0 (omega arith)) (λ j l. get_or-set_other (frees_of cs) n j s 0 (omega arith)));
        apart = rw (w.keys ∙ ek) (apart_out same home laws m (keys_of cs) long old.apart s least.0);
      }

  pub find_means : (key : K) (r : Option ℕ) (cap : ℕ) → Located same cs m key r → r ≡ find same (table cs m cap) key
  find_means key r cap least = sought same m (keys_of cs) long key r least

  pub remove_means : (key : K) (s cap : ℕ) (c2 : List (Cell K)) →
      Located same cs m key (Some s) → keys_of c2 ≡ set (keys_of cs) s None →
      table c2 m cap ≡ removed same (table cs m cap) key
  remove_means key s cap c2 least ek =
      ap (with_keys (table cs m cap)) (ap (take m) ek ∙ take-set-lt m (keys_of cs) s None least.0)
      ∙ ap (freed (table cs m cap)) (find_means key (Some s) cap least)

  pub stay_means : (key : K) (cap : ℕ) →
      Located same cs m key None → table cs m cap ≡ removed same (table cs m cap) key
  stay_means key cap least = ap (freed (table cs m cap)) (find_means key None cap least)

-- a cleared table
module _ {K : Type 0} where
  pub wiped_more : (m i : ℕ) (cs : List (Cell K)) → i < length cs → Wiped m i cs → Wiped m (i + 1) (set cs i (vacant m i))
  wiped_more m i cs l w j d lj = ⊎_elim
      (λ (e : j ≡ i). rw e (get_or-set_same cs i (vacant m i) d l))
      (λ (ne : j ≢ i). get_or-set_other cs i j (vacant m i) d ne ∙ w j d (omega arith))
      (cases_eq j i)

  module _ (cs : List (Cell K)) (m : ℕ) (within : m ≤ length cs) (w : Wiped m m cs) where
    column : {B : Type 0} (f : Cell K → B) (i : ℕ) (e : B) → i < m → get_or (map f cs) i e ≡ f (vacant m i)
    column f i e l = get_or-map f cs i (vacant m i) e (omega arith) ∙ ap f (w i (vacant m i) l)

    no_key : (i : ℕ) → i < m → get_or (keys_of cs) i None ≡ None
    no_key i l = column (λ c. c.key) i None l

    pub wiped_keys : take m (keys_of cs) ≡ replicate m None
    wiped_keys =
        let mk : m ≤ length (keys_of cs) = rw (length-map cs (λ c. c.key)) within in
        let long : length (take m (keys_of cs)) ≡ m = length-take-le m (keys_of cs) mk in
        ext_get_or None (take m (keys_of cs)) (replicate m None) (long ∙ sym (length-replicate m None))
        (λ i l. let im : i < m = rw long at l in get_or-take m (keys_of cs) i None im ∙ no_key i im ∙ sym (get_or-replicate m i None None im))

    pub wiped_sound : (same : K → K → Bool) (home : K → ℕ) → m ≤ 1024 → Sound same home cs m m
    wiped_sound same home small = record {
      small = small;
      within = within;
      chained = record {
        head = λ b bm. rw (column (λ c. c.head) b 0 bm) (record {
          from = omega arith;
          within = omega arith;
          passed = λ k a l. ap (stands home m b) (no_key k l);
          there = λ l. absurd (omega arith);
        });
        next = λ b i bm im t. absurd (both_ways (in_bucket home m (keys_of cs) b i) (ap (stands home m b) (no_key i im)) t);
      };
      stacked = record {
        unused = λ j l. rw (column (λ c. c.free) j 0 l) (l, no_key j l);
        once = λ i j a b e. sym (column (λ c. c.free) i 0 a) ∙ e ∙ column (λ c. c.free) j 0 b;
        count = (let z : pairs (take m (keys_of cs)) ≡ 0 = ap pairs wiped_keys ∙ pairs_none K m in omega arith);
      };
      apart = λ i j a b im jm ea eb t. let n : ◌≡◌ {A = ℕ} 0 1 = (let h = no_key i im in cc) in absurd (omega arith);
    }

-- the directory over its cells
module _ {K : Type 0} where
  pub held_still : {same : K → K → Bool} {home : K → ℕ} {cs cs' : List (Cell K)} {cap m n n' : ℕ} →
      Held same home cs cap m n → length cs' ≡ length cs → Sound same home cs' m n' → Held same home cs' cap m n'
  held_still old len sound = record {
    small = old.small;
    within = rw len old.within;
    size = old.size;
    sound = sound;
  }

  pub held_new : (same : K → K → Bool) (home : K → ℕ) (cs : List (Cell K)) (cap m : ℕ) → cap ≤ 1024 → cap ≤ length cs → m ≤ cap → Wiped m m cs → Held same home cs cap m m
  held_new same home cs cap m small within le w = record {
    small = small;
    within = within;
    size = le;
    sound = wiped_sound cs m (omega arith) w same home (omega arith);
  }

  pub means_new : (cs : List (Cell K)) (cap m : ℕ) → cap ≤ length cs → m ≤ cap → Wiped m m cs → table cs m cap ≡ with_keys (table cs m cap) (replicate m None)
  means_new cs cap m within le w = ap (with_keys (table cs m cap)) (wiped_keys cs m (omega arith) w)
