-- A wheel's expel: a slot of its own leaves, or slots come up from below.
use Rattle.std.proofs.Common.{◌≡◌, ℕ, suc, ◌+◌, ◌-◌, ◌*◌, ◌<◌, ◌≤◌, Bool, true, false, cond, ◌||◌, eqb, List, [], ◌∷◌, ◌++◌, length, set, Some, None, Option, sym, refl, ap, ◌∙◌, subst, ap₂, ⊎_elim, arith}
use Rattle.std.specs.List.{AllByRecursion}
use Rattle.std.specs.Option.{is_some}
use Rattle.std.proofs.ByRecursion.{All-weaker}
use Rattle.std.proofs.lemmas.List.{get_or-set_same, get_or-set_other, length-set}
use Rattle.std.proofs.lemmas.Bool.{cases_Bool, cases_eq, cases_lt, eq-eqb, ne_eqb, cond-true, cond-false, or_left, both_ways}
use Rattle.orders.specs.declared.Entry.{Entry}
use Rattle.orders.specs.declared.Expelled.{Expelled}
use Rattle.orders.specs.declared.queues.Queues.{Queues}
use Rattle.orders.specs.declared.own.OwnPart.{OwnPart}
use Rattle.orders.specs.Meaning.{OrderMeaning, Lawful, joined, waits, without, fallen, leaver, rest, some_due, Sorted, Apart, holding, expelled}
use Rattle.orders.specs.Rings.{queue, named, names, number, holds, sans, nexts}
use Rattle.orders.specs.Flat.{entry, tagged, flat}
use Rattle.orders.specs.Wheels.{Over, lifted, lift, merged, own, wheel, Linked, Sound}
use Rattle.orders.specs.Flats.{flat_joined, flat_without, flat_skip, flat_fallen, flat_from, without_first}
use Rattle.orders.specs.Laws.{flat_apart, none_due}
use Rattle.orders.specs.Facts.{member_of, once_of, lone_of, home_long_of, head_below, some_is, none_is}
use Rattle.orders.specs.Bottoms.{nothing}
use Rattle.orders.specs.Merges.{join_all, merged_first, merged_fallen, due_none, lift_over, lift_fall, lift_down, lift_set, fallen_waits, fallen_zero, fallen_twice}
use Rattle.orders.specs.Rows.{BareBetween, Joins, Loses}
use Rattle.orders.specs.Moved.{row, bound_for, forgotten, least, moved, stays}
use Rattle.orders.specs.Steps.{means, SoundWith}
use Rattle.orders.proofs.Migrations.{Climbs, climb}
use Rattle.orders.proofs.Tables.{named_in}
use Rattle.orders.proofs.Owns.{lawful_rest, lawful_fallen}

-- ---- the first of the wheel's own slots leaves

module _ (v : Queues) (later : List (Option ℕ)) (p : ℕ) (m : OrderMeaning) (k : Linked (nexts v.nodes) v.home later p m)
    (d x : ℕ) (ys : List ℕ) (d-in : p + d < 256) (head : queue (nexts v.nodes) (p + d) ≡ x ∷ ys) (before : (j : ℕ) → j < d → queue (nexts v.nodes) (p + j) ≡ []) where
  unfoldable pub left : List Entry
  left = flat (λ j. sans x (queue (nexts v.nodes) (p + j))) d (256 - p - d)

  from_d : own (nexts v.nodes) p ≡ flat (λ j. queue (nexts v.nodes) (p + j)) d (256 - p - d)
  from_d =
      let e : 256 - p ≡ d + (256 - p - d) = omega arith in
      let e' : 0 + d ≡ d = omega arith in
      ap (flat (λ j. queue (nexts v.nodes) (p + j)) 0) e ∙ flat_skip (λ j. queue (nexts v.nodes) (p + j)) 0 d (256 - p - d) (λ j a b. before j (omega arith)) ∙ ap (λ (z : ℕ). flat (λ j. queue (nexts v.nodes) (p + j)) z (256 - p - d)) e'

  opened : flat (λ j. queue (nexts v.nodes) (p + j)) d (256 - p - d) ≡ entry x d ∷ (tagged d ys ++ flat (λ j. queue (nexts v.nodes) (p + j)) (suc d) (255 - p - d))
  unfolding flat
  opened =
      let e : 256 - p - d ≡ suc (255 - p - d) = omega arith in
      ap (flat (λ j. queue (nexts v.nodes) (p + j)) d) e ∙ ap (λ (xs : List ℕ). tagged d xs ++ flat (λ j. queue (nexts v.nodes) (p + j)) (suc d) (255 - p - d)) head

  lone : waits x (tagged d ys ++ flat (λ j. queue (nexts v.nodes) (p + j)) (suc d) (255 - p - d)) ≡ false
  lone =
      let a : Apart (entry x d ∷ (tagged d ys ++ flat (λ j. queue (nexts v.nodes) (p + j)) (suc d) (255 - p - d))) = subst Apart opened
      (flat_apart (λ j. queue (nexts v.nodes) (p + j)) d (256 - p - d) (λ j a b. once_of v (p + j) (omega arith))
      (λ y i j a b e h. lone_of v (p + i) (p + j) y (omega arith) (omega arith) (omega arith) h)) in a.0

  own_first : own (nexts v.nodes) p ≡ entry x d ∷ left
  unfolding left
  own_first = from_d ∙ opened ∙ ap (λ (zs : List Entry). entry x d ∷ zs)
      (sym (without_first (entry x d) (tagged d ys ++ flat (λ j. queue (nexts v.nodes) (p + j)) (suc d) (255 - p - d)) lone) ∙ ap (without x) (sym opened) ∙ flat_without x (λ j. queue (nexts v.nodes) (p + j)) d (256 - p - d))

  module _ (ripe : some_due m.waiting ≡ false) where
    below_over : Over d (lift p later m.waiting)
    below_over = All-weaker (λ (y : Entry). 256 - p ≤ y.credit) (λ (y : Entry). d ≤ y.credit) (λ y z. omega arith) (lift p later m.waiting)
        (lift_over p later k.hand_in m.waiting (due_none m.waiting ripe))

    pub pop_first : (wheel (nexts v.nodes) p later m).waiting ≡ entry x d ∷ merged left (lift p later m.waiting)
    pop_first = ap (λ (zs : List Entry). merged zs (lift p later m.waiting)) own_first ∙ merged_first (entry x d) left (lift p later m.waiting) below_over

    module _ (next' : List ℕ) (queues : (j : ℕ) → j < 256 → queue next' j ≡ sans x (queue (nexts v.nodes) j)) where
      own_rest : own next' (p + d) ≡ fallen d left
      unfolding left
      own_rest =
          let e : 256 - (p + d) ≡ 256 - p - d = omega arith in
          ap (flat (λ j. queue next' (p + d + j)) 0) e
          ∙ sym (flat_fallen d (λ j. sans x (queue (nexts v.nodes) (p + j))) (λ j. queue next' (p + d + j)) d 0 (256 - p - d) (omega arith) (λ j a b.
          let i : p + d + j ≡ p + (d + j) = omega arith in sym (ap (queue next') i ∙ queues (p + (d + j)) (omega arith))))

      pub pop_rest : (wheel next' (p + d) later m).waiting ≡ rest (wheel (nexts v.nodes) p later m).waiting
      unfolding left
      pop_rest =
          ap₂ merged own_rest (sym (lift_fall p later d m.waiting))
          ∙ sym (merged_fallen d left (lift p later m.waiting) (flat_from d (λ j. sans x (queue (nexts v.nodes) (p + j))) d (256 - p - d) (omega arith)) below_over)
          ∙ sym (ap rest pop_first)

      pub pop_linked : x < 1024 → length v.home ≡ 1024 → Linked next' (set v.home x None) later (p + d) m
      pop_linked x-in hl = record {
        lawful = subst (λ (zs : List Entry). Lawful (holding (wheel (nexts v.nodes) p later m) zs)) (sym pop_rest) (lawful_rest (wheel (nexts v.nodes) p later m) (wheel (nexts v.nodes) p later m).waiting k.lawful);
        hand_in = d-in;
        later_long = k.later_long;
        later_in = k.later_in;
        spent = λ j z. queues j (omega arith) ∙ ap (sans x) (⊎_elim (k.spent j)
            (λ w. let e : p + (j - p) ≡ j = omega arith in ap (queue (nexts v.nodes)) (sym e) ∙ before (j - p) (omega arith)) (cases_lt j p));
        below_in = k.below_in;
        below_low = k.below_low;
        parted = λ y z w. ⊎_elim
            (λ e. absurd (both_ways (is_some (named (set v.home x None) y)) (ap is_some (ap (named (set v.home x None)) e ∙ get_or-set_same v.home x None None (omega arith))) w))
            (λ e. k.parted y z (sym (ap is_some (get_or-set_other v.home x y None None e)) ∙ w)) (cases_eq y x);
      }

-- ---- a slot comes up from below

own_joined : (next next' : List ℕ) (x r : ℕ) → r < 256 → ((j : ℕ) → j < 256 → queue next' j ≡ cond (eqb j r) (queue next j ++ x ∷ []) (queue next j)) →
    own next' 0 ≡ joined (entry x r) (own next 0)
own_joined next next' x r h q = sym (flat_joined (λ j. queue next (0 + j)) (λ j. queue next' (0 + j)) x r 0 256 (omega arith) (omega arith)
    (let z : 0 + r ≡ r = omega arith in
    ap (queue next') z ∙ q r h ∙ cond-true (eqb r r) (queue next r ++ x ∷ []) (queue next r) (eq-eqb r r refl) ∙ ap (λ (i : ℕ). queue next i ++ x ∷ []) (sym z))
    (λ j n b. let z : 0 + j ≡ j = omega arith in
    ap (queue next') z ∙ q j (omega arith) ∙ cond-false (eqb j r) (queue next j ++ x ∷ []) (queue next j) (ne_eqb j r n) ∙ ap (queue next) (sym z)))

merged_all : (P : Entry → Type 0) (acc es : List Entry) → AllByRecursion P acc → AllByRecursion P es → AllByRecursion P (merged acc es)
merged_all P acc [] a b = a
merged_all P acc (e ∷ es) a b = merged_all P (joined e acc) es (join_all P e acc b.0 a) b.1

lift_from : (p b : ℕ) (later : List (Option ℕ)) (es : List Entry) → Over b es → Over (256 * b - p) (lift p later es)
lift_from p b later [] a = tt
lift_from p b later (e ∷ es) a = let l : b ≤ e.credit = a.0 in (omega arith, lift_from p b later es a.1)

module _ (v : Queues) (later : List (Option ℕ)) (p : ℕ) (m : OrderMeaning) (k : Linked (nexts v.nodes) v.home later p m) (bl : Lawful m)
    (e : Entry) (es : List Entry) (is : m.waiting ≡ e ∷ es) where
  there : waits e.slot m.waiting ≡ true
  there = ap (waits e.slot) is ∙ or_left (eqb e.slot e.slot) (waits e.slot es) (eq-eqb e.slot e.slot refl)

  pub came_slot : e.slot < 1024
  came_slot = ⊎_elim (λ l. l) (λ l. absurd (both_ways (waits e.slot m.waiting) (k.below_low e.slot l) there)) (cases_lt e.slot 1024)

  pub came_later : named later e.slot ≡ Some (number (named later e.slot))
  came_later = some_is (named later e.slot) (sym (k.below_in e.slot came_slot) ∙ there)

  came_in : number (named later e.slot) < 256
  came_in = k.later_in e.slot came_slot

  pub came_home : named v.home e.slot ≡ None
  came_home = none_is (named v.home e.slot)
      (⊎_elim (λ l. absurd (both_ways (is_some (named later e.slot)) (ap is_some (k.parted e.slot came_slot l)) (ap is_some came_later))) (λ l. l) (cases_Bool (is_some (named v.home e.slot))))

  apart_here : waits e.slot es ≡ false
  apart_here = let a : Apart (e ∷ es) = subst Apart is bl.apart in a.0

  over_here : Over e.credit es
  over_here = let a : Sorted (e ∷ es) = subst Sorted is bl.sorted in a.0

  abbrev pub m' : OrderMeaning
  m' = holding m (fallen e.credit es)

  abbrev pub later' : List (Option ℕ)
  later' = set later e.slot None

  same_lift : lift 0 later' (fallen e.credit es) ≡ lift 0 later (fallen e.credit es)
  same_lift = lift_set 0 later e.slot None (fallen e.credit es) (fallen_waits e.slot e.credit es ∙ apart_here)

  -- all but the laws
  came_linked : (next' : List ℕ) → Lawful (wheel next' 0 later' m') → Linked next' (set v.home e.slot (named later e.slot)) later' 0 m'
  came_linked next' law =
      let ll = k.later_long in
      let xi = came_slot in
      let g : named later' e.slot ≡ None = get_or-set_same later e.slot None None (omega arith) in
      record {
        lawful = law;
        hand_in = omega arith;
        later_long = simp length-set ll;
        later_in = named_in later e.slot None ll k.later_in (omega arith);
        spent = λ j z. absurd (omega arith);
        below_in = λ y h. fallen_waits y e.credit es ∙ ⊎_elim
            (λ i. ap (λ (z : ℕ). waits z es) i ∙ apart_here ∙ sym (ap is_some (ap (named later') i ∙ g)))
            (λ i. sym (ap (λ (b : Bool). b || waits y es) (ne_eqb e.slot y (λ z. i (sym z)))) ∙ sym (ap (waits y) is) ∙ k.below_in y h ∙ ap is_some (sym (get_or-set_other later e.slot y None None i)))
            (cases_eq y e.slot);
        below_low = λ y h. fallen_waits y e.credit es ∙ sym (ap (λ (b : Bool). b || waits y es) (ne_eqb e.slot y (omega arith))) ∙ sym (ap (waits y) is) ∙ k.below_low y h;
        parted = λ y h w. ⊎_elim (λ i. ap (named later') i ∙ g)
            (λ i. get_or-set_other later e.slot y None None i ∙ k.parted y h (sym (ap is_some (get_or-set_other v.home e.slot y (named later e.slot) None i)) ∙ w))
            (cases_eq y e.slot);
      }

  module _ (next' : List ℕ) (queues : (j : ℕ) → j < 256 → queue next' j ≡ cond (eqb j (number (named later e.slot))) (queue (nexts v.nodes) j ++ e.slot ∷ []) (queue (nexts v.nodes) j)) where
    -- the first of a migration
    module _ (clear : (j : ℕ) → j < 256 → queue (nexts v.nodes) j ≡ []) (b1 : 1 ≤ e.credit) where
      clear_own : (q : ℕ) → q < 256 → own (nexts v.nodes) q ≡ []
      clear_own q h =
          let z : 256 - q ≡ (256 - q) + 0 = omega arith in
          ap (flat (λ c. queue (nexts v.nodes) (q + c)) 0) z ∙ nothing (λ c. queue (nexts v.nodes) (q + c)) 0 (256 - q) (λ j a b. clear (q + j) (omega arith))

      start_own : own next' 0 ≡ entry e.slot (number (named later e.slot)) ∷ []
      start_own = own_joined (nexts v.nodes) next' e.slot (number (named later e.slot)) came_in queues ∙ ap (joined (entry e.slot (number (named later e.slot)))) (clear_own 0 (omega arith))

      start_was : (wheel (nexts v.nodes) p later m).waiting ≡ merged (lifted p later e ∷ []) (lift p later es)
      start_was = ap₂ (λ (a b : List Entry). merged a (lift p later b)) (clear_own p k.hand_in) is

      pub start_enough : p ≤ 256 * e.credit
      start_enough = let hp = k.hand_in in omega arith

      start_one : Over (256 * e.credit - p) (lifted p later e ∷ [])
      start_one = (omega arith, tt)

      pub start_waiting : (wheel next' 0 later' m').waiting ≡ fallen (256 * e.credit - p) (wheel (nexts v.nodes) p later m).waiting
      start_waiting =
          let h = start_enough in
          let i : number (named later e.slot) ≡ 256 * e.credit + number (named later e.slot) - p - (256 * e.credit - p) = omega arith in
          ap₂ merged (start_own ∙ ap (λ (z : ℕ). entry e.slot z ∷ []) i) (same_lift ∙ sym (lift_down p later e.credit es h over_here))
          ∙ sym (merged_fallen (256 * e.credit - p) (lifted p later e ∷ []) (lift p later es) start_one (lift_from p e.credit later es over_here))
          ∙ ap (fallen (256 * e.credit - p)) (sym start_was)

      pub start_over : Over (256 * e.credit - p) (wheel (nexts v.nodes) p later m).waiting
      start_over = subst (Over (256 * e.credit - p)) (sym start_was)
          (merged_all (λ (y : Entry). 256 * e.credit - p ≤ y.credit) (lifted p later e ∷ []) (lift p later es) start_one (lift_from p e.credit later es over_here))

      pub start_linked : Linked next' (set v.home e.slot (named later e.slot)) later' 0 m'
      start_linked = came_linked next' (subst (λ (zs : List Entry). Lawful (holding (wheel (nexts v.nodes) p later m) zs)) (sym start_waiting)
          (lawful_fallen (wheel (nexts v.nodes) p later m) (256 * e.credit - p) k.lawful))

    -- each later one
    module _ (p0 : p ≡ 0) (due : e.credit ≡ 0) where
      pub step_waiting : (wheel next' 0 later' m').waiting ≡ (wheel (nexts v.nodes) p later m).waiting
      step_waiting =
          let i : number (named later e.slot) ≡ 256 * e.credit + number (named later e.slot) - 0 = omega arith in
          ap₂ merged (own_joined (nexts v.nodes) next' e.slot (number (named later e.slot)) came_in queues ∙ ap (λ (z : ℕ). joined (entry e.slot z) (own (nexts v.nodes) 0)) i)
          (same_lift ∙ ap (lift 0 later) (ap (λ (z : ℕ). fallen z es) due ∙ fallen_zero es))
          ∙ sym (ap (λ (zs : List Entry). merged (own (nexts v.nodes) 0) (lift 0 later zs)) is)
          ∙ ap (λ (z : ℕ). (wheel (nexts v.nodes) z later m).waiting) (sym p0)

      pub step_linked : Linked next' (set v.home e.slot (named later e.slot)) later' 0 m'
      step_linked = came_linked next' (subst (λ (zs : List Entry). Lawful (holding (wheel (nexts v.nodes) p later m) zs)) (sym step_waiting) k.lawful)

-- ---- as the calls have it

-- the entry of one that leaves
abbrev pub entry_of : Expelled → Entry
entry_of e = entry e.slot e.credit

abbrev pub gone_of : Entry → Expelled
gone_of y = record { slot = y.slot; credit = y.credit }

pub split_first : (e : Expelled) (ws : List Entry) → Some e ≡ leaver ws → (es : List Entry) × (ws ≡ entry_of e ∷ es)
split_first e [] h = let z : ◌≡◌ {A = ℕ} 0 1 = cc in absurd (omega arith)
split_first e (y ∷ ys) h = let z : e ≡ gone_of y = cc in (ys, ap (λ (u : Expelled). entry_of u ∷ ys) (sym z))

due_head : (e : Entry) (es : List Entry) → Sorted (e ∷ es) → some_due (e ∷ es) ≡ true → e.credit ≡ 0
due_head e es s d = ⊎_elim (λ z. z)
    (λ n. absurd (both_ways (some_due (e ∷ es)) (none_due (e ∷ es)
    (omega arith, All-weaker (λ (y : Entry). e.credit ≤ y.credit) (λ (y : Entry). 1 ≤ y.credit) (λ y w. omega arith) es s.0)) d))
    (cases_eq e.credit 0)

pub length_fallen : (d : ℕ) (es : List Entry) → length (fallen d es) ≡ length es
length_fallen d [] = refl
length_fallen d (e ∷ es) = ap suc (length_fallen d es)

pub less_rest : (e : Expelled) (ws : List Entry) → Some e ≡ leaver ws → length (rest ws) < length ws
less_rest e [] h = let z : ◌≡◌ {A = ℕ} 0 1 = cc in absurd (omega arith)
less_rest e (y ∷ ys) h = let z = length_fallen y.credit ys in omega arith

kept_home : (home : List (Option ℕ)) (x s : ℕ) (o : Option ℕ) → length home ≡ 1024 → x < 1024 → is_some o ≡ true → is_some (named home s) ≡ true → is_some (named (set home x o) s) ≡ true
kept_home home x s o l h k was = ⊎_elim
    (λ e. ap is_some (ap (named (set home x o)) e ∙ get_or-set_same home x o None (omega arith)) ∙ k)
    (λ e. ap is_some (get_or-set_other home x s o None e) ∙ was)
    (cases_eq s x)

module _ (v : Queues) (later : List (Option ℕ)) (p : ℕ) (m : OrderMeaning) (k : Linked (nexts v.nodes) v.home later p m) (bl : Lawful m)
    (x : Expelled) (fst : Some x ≡ leaver m.waiting) where
  abbrev e : Entry
  e = entry_of x

  pub raise_may : (e.slot < 1024) × (is_some (named later e.slot) ≡ true) × (named v.home e.slot ≡ None)
  raise_may = let s = split_first x m.waiting fst in
      (came_slot v later p m k bl e s.0 s.1, ap is_some (came_later v later p m k bl e s.0 s.1), came_home v later p m k bl e s.0 s.1)

  module _ (next'' : List ℕ) (home'' later'' : List (Option ℕ)) (p'' : ℕ) (m'' : OrderMeaning)
      (queues : (j : ℕ) → j < 256 → queue next'' j ≡ cond (eqb j (number (named later e.slot))) (queue (nexts v.nodes) j ++ e.slot ∷ []) (queue (nexts v.nodes) j))
      (homes : home'' ≡ set v.home e.slot (named later e.slot)) (laters : later'' ≡ set later e.slot None) (hands : p'' ≡ 0) (belows : m'' ≡ holding m (rest m.waiting)) where
    moved_all : (es : List Entry) → m.waiting ≡ e ∷ es → (P : List (Option ℕ) → List (Option ℕ) → ℕ → OrderMeaning → Type 0) →
        P (set v.home e.slot (named later e.slot)) (set later e.slot None) 0 (holding m (fallen e.credit es)) → P home'' later'' p'' m''
    moved_all es is P x =
        subst (λ (a : List (Option ℕ)). P a later'' p'' m'') (sym homes)
        (subst (λ (a : List (Option ℕ)). P (set v.home e.slot (named later e.slot)) a p'' m'') (sym laters)
        (subst (λ (a : ℕ). P (set v.home e.slot (named later e.slot)) (set later e.slot None) a m'') (sym hands)
        (subst (λ (a : OrderMeaning). P (set v.home e.slot (named later e.slot)) (set later e.slot None) 0 a) (sym (belows ∙ ap (λ (ws : List Entry). holding m (rest ws)) is)) x)))

    pub first_home : is_some (named home'' e.slot) ≡ true
    first_home = let hl = home_long_of v in let a = raise_may in let c = a.0 in
        ap is_some (ap (λ t. named t e.slot) homes ∙ get_or-set_same v.home e.slot (named later e.slot) None (omega arith)) ∙ a.1

    pub other_home : (s : ℕ) → is_some (named v.home s) ≡ true → is_some (named home'' s) ≡ true
    other_home s h = let a = raise_may in ap (λ t. is_some (named t s)) homes ∙ kept_home v.home e.slot s (named later e.slot) (home_long_of v) a.0 a.1 h

    module _ (clear : (j : ℕ) → j < 256 → queue (nexts v.nodes) j ≡ []) (ripe : some_due m.waiting ≡ false) where
      pub start_all : Linked next'' home'' later'' p'' m'' × (wheel next'' p'' later'' m'' ≡ holding (wheel (nexts v.nodes) p later m) (fallen (256 * e.credit - p) (wheel (nexts v.nodes) p later m).waiting))
          × Over (256 * e.credit - p) (wheel (nexts v.nodes) p later m).waiting × (p ≤ 256 * e.credit)
      start_all =
          let s = split_first x m.waiting fst in
          let es : List Entry = s.0 in
          let is : m.waiting ≡ e ∷ es = s.1 in
          let o : Over 1 (e ∷ es) = subst (Over 1) is (due_none m.waiting ripe) in
          let b1 : 1 ≤ e.credit = o.0 in (
            moved_all es is (λ a b c n. Linked next'' a b c n) (start_linked v later p m k bl e es is next'' queues clear b1),
            moved_all es is (λ a b c n. wheel next'' c b n ≡ holding (wheel (nexts v.nodes) p later m) (fallen (256 * e.credit - p) (wheel (nexts v.nodes) p later m).waiting))
                (ap (holding (wheel (nexts v.nodes) p later m)) (start_waiting v later p m k bl e es is next'' queues clear b1)),
            start_over v later p m k bl e es is next'' queues clear b1,
            start_enough v later p m k bl e es is next'' queues clear b1,
          )

    module _ (p0 : p ≡ 0) (due : some_due m.waiting ≡ true) where
      pub step_all : Linked next'' home'' later'' p'' m'' × (wheel next'' p'' later'' m'' ≡ wheel (nexts v.nodes) p later m)
      step_all =
          let s = split_first x m.waiting fst in
          let es : List Entry = s.0 in
          let is : m.waiting ≡ e ∷ es = s.1 in
          let z : e.credit ≡ 0 = due_head e es (subst Sorted is bl.sorted) (sym (ap some_due is) ∙ due) in (
            moved_all es is (λ a b c n. Linked next'' a b c n) (step_linked v later p m k bl e es is next'' queues p0 z),
            moved_all es is (λ a b c n. wheel next'' c b n ≡ wheel (nexts v.nodes) p later m)
                (ap (holding (wheel (nexts v.nodes) p later m)) (step_waiting v later p m k bl e es is next'' queues p0 z)),
          )

pub first_least : (x : Expelled) (ws : List Entry) → Some x ≡ leaver ws → x.credit ≡ least ws
first_least x ws h = let s = split_first x ws h in sym (ap least s.1)

-- ---- what a migration moves, as the calls have it

module _ (v : Queues) (later : List (Option ℕ)) (p : ℕ) (m : OrderMeaning) (k : Linked (nexts v.nodes) v.home later p m) (bl : Lawful m)
    (x : Expelled) (fst : Some x ≡ leaver m.waiting) (next'' : List ℕ) (later'' : List (Option ℕ)) (m'' : OrderMeaning)
    (joins : Joins (queue (nexts v.nodes)) (queue next'') (number (named later x.slot)) x.slot) (laters : later'' ≡ set later x.slot None) (belows : m'' ≡ holding m (rest m.waiting)) where
  -- from the first on
  one_up : (whole : ℕ → List ℕ) (last : List (Option ℕ)) (rests : List Entry) (c : ℕ) → x.credit ≡ c → Climbs whole last rests c (queue (nexts v.nodes)) later m.waiting →
      Climbs whole last rests 0 (queue next'') later'' m''.waiting
  one_up whole last rests c due h =
      let s = split_first x m.waiting fst in
      let es : List Entry = s.0 in
      let e : Entry = entry_of x in
      let is : m.waiting ≡ e ∷ es = s.1 in
      let a : Apart (e ∷ es) = subst Apart is bl.apart in
      let o : Sorted (e ∷ es) = subst Sorted is bl.sorted in
      let h' : Climbs whole last rests c (queue (nexts v.nodes)) later (e ∷ es) = subst (Climbs whole last rests c (queue (nexts v.nodes)) later) is h in
      let up : Climbs whole last rests 0 (queue next'') (set later x.slot None) (fallen c es) =
      climb whole last rests c (queue (nexts v.nodes)) (queue next'') later e es h' due (subst (λ (z : ℕ). Over z es) due o.0) a.0 (number (named later x.slot)) (came_later v later p m k bl e es is) joins in
      let ws : m''.waiting ≡ fallen c es = ap (λ (z : OrderMeaning). z.waiting) belows ∙ ap rest is ∙ ap (λ (z : ℕ). fallen z es) due in
      subst (λ (zs : List Entry). Climbs whole last rests 0 (queue next'') later'' zs) (sym ws)
      (subst (λ (t : List (Option ℕ)). Climbs whole last rests 0 (queue next'') t (fallen c es)) (sym laters) up)

  pub climbs_on : (whole : ℕ → List ℕ) (last : List (Option ℕ)) (rests : List Entry) → some_due m.waiting ≡ true → Climbs whole last rests 0 (queue (nexts v.nodes)) later m.waiting →
      Climbs whole last rests 0 (queue next'') later'' m''.waiting
  climbs_on whole last rests due h =
      let s = split_first x m.waiting fst in
      one_up whole last rests 0 (due_head (entry_of x) s.0 (subst Sorted s.1 bl.sorted) (sym (ap some_due s.1) ∙ due)) h

  pub climbs_first : ((j : ℕ) → j < 256 → queue (nexts v.nodes) j ≡ []) →
      Climbs (λ q. bound_for later q (moved m.waiting)) (forgotten later (moved m.waiting)) (stays m.waiting) 0 (queue next'') later'' m''.waiting
  climbs_first clear =
      let s = split_first x m.waiting fst in
      one_up (λ q. bound_for later q (moved m.waiting)) (forgotten later (moved m.waiting)) (stays m.waiting) (least m.waiting) (sym (ap least s.1))
      (record {
        queues = λ q h. ap (λ (zs : List ℕ). zs ++ bound_for later q (moved m.waiting)) (clear q h);
        memory = refl;
        past = refl;
      })

pub not_clear : (v : Queues) (s : ℕ) → s < 1024 → is_some (named v.home s) ≡ true → ((j : ℕ) → j < 256 → queue (nexts v.nodes) j ≡ []) → ⊥
not_clear v s h o clear =
    let q : ℕ = number (named v.home s) in
    let q-in : q < 256 = v.rings.home_in s h in
    both_ways (holds s (queue (nexts v.nodes) q)) (ap (holds s) (clear q q-in)) (member_of v q s q-in h ∙ ap (λ (z : Option ℕ). names z q) (some_is (named v.home s) o) ∙ eq-eqb q q refl)

-- two falls are one
pub falls_first : (d : ℕ) (e : Expelled) (ws : List Entry) → Over d ws → Some e ≡ leaver (fallen d ws) → Some (gone_of (entry e.slot (d + e.credit))) ≡ leaver ws
falls_first d e [] o h = let z : ◌≡◌ {A = ℕ} 0 1 = cc in absurd (omega arith)
falls_first d e (y ∷ ys) o h =
    let z : e ≡ gone_of (entry y.slot (y.credit - d)) = cc in
    let l : d ≤ y.credit = o.0 in
    let c : d + (y.credit - d) ≡ y.credit = omega arith in
    ap (λ (u : Expelled). Some (gone_of (entry u.slot (d + u.credit)))) z ∙ ap (λ (n : ℕ). Some (gone_of (entry y.slot n))) c

pub falls_rest : (d : ℕ) (ws : List Entry) → Over d ws → rest (fallen d ws) ≡ rest ws
falls_rest d [] o = refl
falls_rest d (y ∷ ys) o = let l : d ≤ y.credit = o.0 in let c : d + (y.credit - d) ≡ y.credit = omega arith in
    fallen_twice (y.credit - d) d ys ∙ ap (λ (n : ℕ). fallen n ys) c

pub first_credit : (e : Expelled) (ws : List Entry) (n : ℕ) → AllByRecursion (λ (y : Entry). y.credit ≤ n) ws → Some e ≡ leaver ws → e.credit ≤ n
first_credit e ws n a h = let s = split_first e ws h in let b : AllByRecursion (λ (y : Entry). y.credit ≤ n) (entry_of e ∷ s.0) = subst (AllByRecursion (λ (y : Entry). y.credit ≤ n)) s.1 a in b.0

pub none_first : (ws : List Entry) → None ≡ leaver ws → ws ≡ []
none_first [] h = refl
none_first (y ∷ ys) h = let z : ◌≡◌ {A = ℕ} 0 1 = cc in absurd (omega arith)

-- ---- a pop, as the call has it

module _ (w : OwnPart) (m : OrderMeaning) (k : SoundWith w m) (q x : ℕ) (ys : List ℕ) (onward : w.hand ≤ q) (q-in : q < 256) (head : queue (nexts w.queues.nodes) q ≡ x ∷ ys)
    (passed : BareBetween (row w) w.hand q) where
  reach_is : w.hand + (q - w.hand) ≡ q
  reach_is = omega arith

  head_is : queue (nexts w.queues.nodes) (w.hand + (q - w.hand)) ≡ x ∷ ys
  head_is = ap (queue (nexts w.queues.nodes)) reach_is ∙ head

  passed_by : (j : ℕ) → j < q - w.hand → queue (nexts w.queues.nodes) (w.hand + j) ≡ []
  passed_by j h = passed (w.hand + j) (omega arith) (omega arith)

  reach_in : w.hand + (q - w.hand) < 256
  reach_in = omega arith

  pub popped_answer : Some (record { slot = x; credit = q - w.hand }) ≡ leaver (means w m).waiting
  popped_answer = sym (ap leaver (pop_first w.queues w.later w.hand m k.linked (q - w.hand) x ys reach_in head_is passed_by k.ripe))

  module _ (next' : List ℕ) (lost : Loses (row w) (queue next') x) where
    pub popped_after : wheel next' q w.later m ≡ expelled (means w m)
    popped_after = ap (λ (z : ℕ). wheel next' z w.later m) (sym reach_is)
        ∙ ap (holding (means w m)) (pop_rest w.queues w.later w.hand m k.linked (q - w.hand) x ys reach_in head_is passed_by k.ripe next' lost)

    pub popped_sound : (home' : List (Option ℕ)) → home' ≡ set w.queues.home x None → Sound next' home' w.later q m
    popped_sound home' homes = record {
      linked = subst (λ (z : ℕ). Linked next' home' w.later z m) reach_is (subst (λ (h : List (Option ℕ)). Linked next' h w.later (w.hand + (q - w.hand)) m) (sym homes)
          (pop_linked w.queues w.later w.hand m k.linked (q - w.hand) x ys reach_in head_is passed_by k.ripe next' lost (head_below w.queues q x ys q-in head) (home_long_of w.queues)));
      ripe = k.ripe;
    }
