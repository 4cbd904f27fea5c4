-- A wheel's place, withdraw and due: its own queues, and the order below.
use Rattle.std.proofs.Common.{◌≡◌, ℕ, ◌+◌, ◌-◌, ◌*◌, ◌<◌, ◌≤◌, Bool, true, false, cond, ◌||◌, eqb, List, [], ◌∷◌, ◌++◌, length, set, Some, None, Option, sym, refl, ap, replicate, ◌∙◌, subst, ap₂, ⊎_elim, arith}
use Rattle.std.specs.Option.{is_some}
use Rattle.std.proofs.ByRecursion.{All-weaker}
use Rattle.std.proofs.lemmas.List.{get_or-set_same, get_or-set_other, get_or-replicate, length-replicate, length-set}
use Rattle.std.proofs.lemmas.Bool.Decides.{nat_tests}
use Rattle.std.proofs.lemmas.Bool.{cases_eq, cases_lt, eq-eqb, ne_eqb, cond-true, cond-false, or_from, or_left, both_ways}
use Rattle.orders.specs.declared.Entry.{Entry}
use Rattle.orders.specs.declared.queues.Queues.{Queues}
use Rattle.orders.specs.declared.own.OwnPart.{OwnPart}
use Rattle.orders.specs.Meaning.{OrderMeaning, Lawful, joined, waits, without, fallen, rest, some_due, holding}
use Rattle.orders.specs.Rings.{queue, named, names, number, holds, sans, nexts}
use Rattle.orders.specs.Rows.{Bare}
use Rattle.orders.specs.Flat.{entry, flat}
use Rattle.orders.specs.Wheels.{lift, merged, own, wheel, Linked}
use Rattle.orders.specs.Steps.{means, SoundWith, FreshPart}
use Rattle.orders.specs.Flats.{flat_joined, flat_same, flat_without, without_absent}
use Rattle.orders.specs.Laws.{flat_waits_none, flat_waits_some, flat_sorted, none_due}
use Rattle.orders.specs.Facts.{member_of, high_of}
use Rattle.orders.specs.Bottoms.{nothing}
use Rattle.orders.proofs.Tables.{named_in}
use Rattle.orders.specs.Merges.{join_all, join_sorted, join_apart, join_waits, join_due, without_all, without_sorted, without_apart, waits_without, merged_waits, merged_due, merged_join, merged_without, due_none, lift_waits, lift_over, lift_without, lift_set, lift_join, fallen_all, fallen_sorted, fallen_apart}

-- ---- the laws last

pub lawful_joined : (m : OrderMeaning) (s c : ℕ) → Lawful m → s < m.size → waits s m.waiting ≡ false → c ≤ m.span → Lawful (holding m (joined (entry s c) m.waiting))
lawful_joined m s c l a b d = record {
  sorted = join_sorted (entry s c) m.waiting l.sorted;
  apart = join_apart (entry s c) m.waiting b l.apart;
  slots = join_all (λ (y : Entry). y.slot < m.size) (entry s c) m.waiting a l.slots;
  credits = join_all (λ (y : Entry). y.credit ≤ m.span) (entry s c) m.waiting d l.credits;
}

pub lawful_without : (m : OrderMeaning) (s : ℕ) → Lawful m → Lawful (holding m (without s m.waiting))
lawful_without m s l = record {
  sorted = without_sorted s m.waiting l.sorted;
  apart = without_apart s m.waiting l.apart;
  slots = without_all (λ (y : Entry). y.slot < m.size) s m.waiting l.slots;
  credits = without_all (λ (y : Entry). y.credit ≤ m.span) s m.waiting l.credits;
}

pub lawful_fallen : (m : OrderMeaning) (d : ℕ) → Lawful m → Lawful (holding m (fallen d m.waiting))
lawful_fallen m d l = record {
  sorted = fallen_sorted d m.waiting l.sorted;
  apart = fallen_apart d m.waiting l.apart;
  slots = fallen_all (λ (y : Entry). y.slot < m.size) (λ (y : Entry). y.slot < m.size) d m.waiting (λ y k. k) l.slots;
  credits = fallen_all (λ (y : Entry). y.credit ≤ m.span) (λ (y : Entry). y.credit ≤ m.span) d m.waiting (λ y k. omega arith) l.credits;
}

lawful_tail : (m : OrderMeaning) (x : Entry) (xs : List Entry) → Lawful (holding m (x ∷ xs)) → Lawful (holding m xs)
lawful_tail m x xs l = record { sorted = l.sorted.1; apart = l.apart.1; slots = l.slots.1; credits = l.credits.1 }

pub lawful_rest : (m : OrderMeaning) (xs : List Entry) → Lawful (holding m xs) → Lawful (holding m (rest xs))
lawful_rest m [] l = l
lawful_rest m (x ∷ xs) l = lawful_fallen (holding m xs) x.credit (lawful_tail m x xs l)

-- ---- a wheel's own queues, and the order below

module _ (v : Queues) (later : List (Option ℕ)) (p : ℕ) (m : OrderMeaning) (k : Linked (nexts v.nodes) v.home later p m) where
  own_named : (s : ℕ) → s < 1024 → (o : Option ℕ) → named v.home s ≡ o → waits s (own (nexts v.nodes) p) ≡ is_some o
  own_named s h None is = flat_waits_none s (λ c. queue (nexts v.nodes) (p + c)) 0 (256 - p)
      (λ j a b. member_of v (p + j) s (let hp = k.hand_in in omega arith) h ∙ ap (λ (o : Option ℕ). names o (p + j)) is)
  own_named s h (Some q) is =
      let hp = k.hand_in in
      let l = v.rings.home_in s h in
      let same = ap number is in
      let q-in : q < 256 = omega arith in
      let there : holds s (queue (nexts v.nodes) q) ≡ true = member_of v q s q-in h ∙ ap (λ (o : Option ℕ). names o q) is ∙ eq-eqb q q refl in
      let past : p ≤ q = ⊎_elim (λ z. absurd (both_ways (holds s (queue (nexts v.nodes) q)) (ap (holds s) (k.spent q z)) there)) (λ z. z) (cases_lt q p) in
      let e : p + (q - p) ≡ q = omega arith in
      flat_waits_some s (q - p) (λ c. queue (nexts v.nodes) (p + c)) 0 (256 - p) (omega arith) (omega arith) (ap (λ (z : ℕ). holds s (queue (nexts v.nodes) z)) e ∙ there)

  pub own_waits : (s : ℕ) → s < 1024 → waits s (own (nexts v.nodes) p) ≡ is_some (named v.home s)
  own_waits s h = own_named s h (named v.home s) refl

  pub wheel_waits : (s : ℕ) → s < 1024 → waits s (wheel (nexts v.nodes) p later m).waiting ≡ (is_some (named v.home s) || is_some (named later s))
  wheel_waits s h = merged_waits s (own (nexts v.nodes) p) (lift p later m.waiting) ∙ ap₂ (λ (a b : Bool). a || b) (own_waits s h) (lift_waits p later s m.waiting ∙ k.below_in s h)

  pub wheel_waits_high : (s : ℕ) → 1024 ≤ s → waits s (wheel (nexts v.nodes) p later m).waiting ≡ false
  wheel_waits_high s h = merged_waits s (own (nexts v.nodes) p) (lift p later m.waiting) ∙ or_from (waits s (own (nexts v.nodes) p)) (waits s (lift p later m.waiting))
      (flat_waits_none s (λ c. queue (nexts v.nodes) (p + c)) 0 (256 - p) (λ j a b. let hp = k.hand_in in high_of v (p + j) s (omega arith) h))
      (lift_waits p later s m.waiting ∙ k.below_low s h)

  -- ---- place, within the round

  module _ (ripe : some_due m.waiting ≡ false) (next' : List ℕ) (x c : ℕ) (near : p + c < 256)
      (queues : (j : ℕ) → j < 256 → queue next' j ≡ cond (eqb j (p + c)) (queue (nexts v.nodes) j ++ x ∷ []) (queue (nexts v.nodes) j)) where
    near_else : (j : ℕ) → j < 256 → (j ≡ p + c → ⊥) → queue next' j ≡ queue (nexts v.nodes) j
    near_else j h n = queues j h ∙ cond-false (eqb j (p + c)) (queue (nexts v.nodes) j ++ x ∷ []) (queue (nexts v.nodes) j) (ne_eqb j (p + c) n)

    near_own : own next' p ≡ joined (entry x c) (own (nexts v.nodes) p)
    near_own = sym (flat_joined (λ j. queue (nexts v.nodes) (p + j)) (λ j. queue next' (p + j)) x c 0 (256 - p) (omega arith) (omega arith)
        (queues (p + c) near ∙ cond-true (eqb (p + c) (p + c)) (queue (nexts v.nodes) (p + c) ++ x ∷ []) (queue (nexts v.nodes) (p + c)) (eq-eqb (p + c) (p + c) refl))
        (λ j n b. near_else (p + j) (omega arith) (λ z. n (omega arith))))

    pub near_waiting : (wheel next' p later m).waiting ≡ joined (entry x c) (wheel (nexts v.nodes) p later m).waiting
    near_waiting = ap (λ (zs : List Entry). merged zs (lift p later m.waiting)) near_own
        ∙ merged_join (entry x c) (own (nexts v.nodes) p) (lift p later m.waiting)
        (All-weaker (λ (y : Entry). 256 - p ≤ y.credit) (λ (y : Entry). c < y.credit) (λ y z. omega arith) (lift p later m.waiting) (lift_over p later k.hand_in m.waiting (due_none m.waiting ripe)))

    pub near_linked : x < 1024 → named later x ≡ None → Lawful (holding (wheel (nexts v.nodes) p later m) (joined (entry x c) (wheel (nexts v.nodes) p later m).waiting)) →
        Linked next' (set v.home x (Some (p + c))) later p m
    near_linked h o l = record {
      lawful = subst (λ (zs : List Entry). Lawful (holding (wheel (nexts v.nodes) p later m) zs)) (sym near_waiting) l;
      hand_in = k.hand_in;
      later_long = k.later_long;
      later_in = k.later_in;
      spent = λ j z. near_else j (omega arith) (omega arith) ∙ k.spent j z;
      below_in = k.below_in;
      below_low = k.below_low;
      parted = λ y z w. ⊎_elim (λ e. ap (named later) e ∙ o)
          (λ e. k.parted y z (sym (ap is_some (get_or-set_other v.home x y (Some (p + c)) None e)) ∙ w)) (cases_eq y x);
    }

  -- ---- place, below

  module _ (bl : Lawful m) (x b r c : ℕ) (x-in : x < 1024) (r-in : r < 256) (b-in : 1 ≤ b) (reach : 256 * b + r ≡ p + c) (out : named later x ≡ None) where
    far_absent : waits x m.waiting ≡ false
    far_absent = k.below_in x x-in ∙ ap is_some out

    far_at : named (set later x (Some r)) x ≡ Some r
    far_at = let l = k.later_long in get_or-set_same later x (Some r) None (omega arith)

    far_number : number (named (set later x (Some r)) x) ≡ r
    far_number = ap number far_at

    pub far_waiting : (wheel (nexts v.nodes) p (set later x (Some r)) (holding m (joined (entry x b) m.waiting))).waiting ≡ joined (entry x c) (wheel (nexts v.nodes) p later m).waiting
    far_waiting =
        let e : 256 * b + number (named (set later x (Some r)) x) - p ≡ c = let f = far_number in omega arith in
        lift_join p (set later x (Some r)) (own (nexts v.nodes) p) (entry x b) m.waiting k.hand_in b-in (let f = far_number in omega arith) bl.sorted
        ∙ ap₂ (λ (z : ℕ) (zs : List Entry). joined (entry x z) (merged (own (nexts v.nodes) p) zs)) e (lift_set p later x (Some r) m.waiting far_absent)

    pub far_linked : named v.home x ≡ None → Lawful (holding (wheel (nexts v.nodes) p later m) (joined (entry x c) (wheel (nexts v.nodes) p later m).waiting)) →
        Linked (nexts v.nodes) v.home (set later x (Some r)) p (holding m (joined (entry x b) m.waiting))
    far_linked o l = record {
      lawful = subst (λ (zs : List Entry). Lawful (holding (wheel (nexts v.nodes) p later m) zs)) (sym far_waiting) l;
      hand_in = k.hand_in;
      later_long = simp length-set k.later_long;
      later_in = named_in later x (Some r) k.later_long k.later_in r-in;
      spent = k.spent;
      below_in = λ y h. join_waits y (entry x b) m.waiting ∙ ⊎_elim
          (λ e. or_left (eqb x y) (waits y m.waiting) (eq-eqb x y (sym e)) ∙ sym (ap is_some (ap (named (set later x (Some r))) e ∙ far_at)))
          (λ e. ap (λ (b' : Bool). b' || waits y m.waiting) (ne_eqb x y (λ z. e (sym z))) ∙ k.below_in y h ∙ ap is_some (sym (get_or-set_other later x y (Some r) None e)))
          (cases_eq y x);
      below_low = λ y h. join_waits y (entry x b) m.waiting ∙ or_from (eqb x y) (waits y m.waiting) (ne_eqb x y (omega arith)) (k.below_low y h);
      parted = λ y h w. ⊎_elim (λ e. absurd (both_ways (is_some (named v.home y)) (ap is_some (ap (named v.home) e ∙ o)) w))
          (λ e. get_or-set_other later x y (Some r) None e ∙ k.parted y h w) (cases_eq y x);
    }

    pub far_ripe : some_due m.waiting ≡ false → some_due (joined (entry x b) m.waiting) ≡ false
    far_ripe h = join_due (entry x b) m.waiting ∙ or_from (eqb b 0) (some_due m.waiting) (ne_eqb b 0 (omega arith)) h

  -- ---- due

  pub wheel_due : some_due m.waiting ≡ false → some_due (wheel (nexts v.nodes) p later m).waiting ≡ some_due (own (nexts v.nodes) p)
  wheel_due ripe = merged_due (own (nexts v.nodes) p) (lift p later m.waiting) ∙
      (let hp = k.hand_in in
      let z : some_due (lift p later m.waiting) ≡ false = none_due (lift p later m.waiting)
      (All-weaker (λ (y : Entry). 256 - p ≤ y.credit) (λ (y : Entry). 1 ≤ y.credit) (λ y w. omega arith) (lift p later m.waiting) (lift_over p later hp m.waiting (due_none m.waiting ripe))) in
      ap (λ (b : Bool). some_due (own (nexts v.nodes) p) || b) z ∙ grind (arith, nat_tests))

  -- ---- withdraw

  module _ (x : ℕ) (x-in : x < 1024) where
    module _ (next' : List ℕ) (here : is_some (named v.home x) ≡ true) (queues : (j : ℕ) → j < 256 → queue next' j ≡ sans x (queue (nexts v.nodes) j)) where
      gone_own : own next' p ≡ without x (own (nexts v.nodes) p)
      gone_own = let hp = k.hand_in in
          flat_same (λ j. queue next' (p + j)) (λ j. sans x (queue (nexts v.nodes) (p + j))) 0 (256 - p) (λ j a b. queues (p + j) (omega arith))
          ∙ sym (flat_without x (λ j. queue (nexts v.nodes) (p + j)) 0 (256 - p))

      pub gone_waiting : (wheel next' p later m).waiting ≡ without x (wheel (nexts v.nodes) p later m).waiting
      gone_waiting =
          let o = k.parted x x-in here in
          let out : waits x (lift p later m.waiting) ≡ false = lift_waits p later x m.waiting ∙ k.below_in x x-in ∙ ap is_some o in
          ap₂ merged gone_own (sym (without_absent x (lift p later m.waiting) out))
          ∙ sym (merged_without x (own (nexts v.nodes) p) (lift p later m.waiting) (flat_sorted (λ j. queue (nexts v.nodes) (p + j)) 0 (256 - p)))

      pub gone_linked : length v.home ≡ 1024 → Linked next' (set v.home x None) later p m
      gone_linked hl = record {
        lawful = subst (λ (zs : List Entry). Lawful (holding (wheel (nexts v.nodes) p later m) zs)) (sym gone_waiting) (lawful_without (wheel (nexts v.nodes) p later m) x k.lawful);
        hand_in = k.hand_in;
        later_long = k.later_long;
        later_in = k.later_in;
        spent = λ j z. let hp = k.hand_in in queues j (omega arith) ∙ ap (sans x) (k.spent j z);
        below_in = k.below_in;
        below_low = k.below_low;
        parted = λ y z w. ⊎_elim
            (λ e. absurd (both_ways (is_some (named (set v.home x None) y)) (ap is_some (ap (named (set v.home x None)) e ∙ get_or-set_same v.home x None None (omega arith))) w))
            (λ e. k.parted y z (sym (ap is_some (get_or-set_other v.home x y None None e)) ∙ w)) (cases_eq y x);
      }

    module _ (out : named v.home x ≡ None) where
      left_absent : waits x (without x m.waiting) ≡ false
      left_absent = waits_without x x m.waiting ∙ cond-true (eqb x x) false (waits x m.waiting) (eq-eqb x x refl)

      pub left_waiting : (wheel (nexts v.nodes) p (set later x None) (holding m (without x m.waiting))).waiting ≡ without x (wheel (nexts v.nodes) p later m).waiting
      left_waiting =
          let o : waits x (own (nexts v.nodes) p) ≡ false = own_waits x x-in ∙ ap is_some out in
          ap (merged (own (nexts v.nodes) p)) (lift_set p later x None (without x m.waiting) left_absent ∙ lift_without p later x m.waiting)
          ∙ ap (λ (zs : List Entry). merged zs (without x (lift p later m.waiting))) (sym (without_absent x (own (nexts v.nodes) p) o))
          ∙ sym (merged_without x (own (nexts v.nodes) p) (lift p later m.waiting) (flat_sorted (λ j. queue (nexts v.nodes) (p + j)) 0 (256 - p)))

      pub left_linked : Linked (nexts v.nodes) v.home (set later x None) p (holding m (without x m.waiting))
      left_linked =
          let ll = k.later_long in
          let f : named (set later x None) x ≡ None = get_or-set_same later x None None (omega arith) in
          record {
            lawful = subst (λ (zs : List Entry). Lawful (holding (wheel (nexts v.nodes) p later m) zs)) (sym left_waiting) (lawful_without (wheel (nexts v.nodes) p later m) x k.lawful);
            hand_in = k.hand_in;
            later_long = simp length-set ll;
            later_in = named_in later x None ll k.later_in (omega arith);
            spent = k.spent;
            below_in = λ y h. waits_without y x m.waiting ∙ ⊎_elim
                (λ e. cond-true (eqb y x) false (waits y m.waiting) (eq-eqb y x e) ∙ sym (ap is_some (ap (named (set later x None)) e ∙ f)))
                (λ e. cond-false (eqb y x) false (waits y m.waiting) (ne_eqb y x e) ∙ k.below_in y h ∙ ap is_some (sym (get_or-set_other later x y None None e)))
                (cases_eq y x);
            below_low = λ y h. waits_without y x m.waiting ∙ cond-false (eqb y x) false (waits y m.waiting) (ne_eqb y x (omega arith)) ∙ k.below_low y h;
            parted = λ y h w. ⊎_elim (λ e. ap (named (set later x None)) e ∙ f) (λ e. get_or-set_other later x y None None e ∙ k.parted y h w) (cases_eq y x);
          }

      pub left_ripe : some_due m.waiting ≡ false → some_due (without x m.waiting) ≡ false
      left_ripe h = none_due (without x m.waiting) (without_all (λ (y : Entry). 1 ≤ y.credit) x m.waiting (due_none m.waiting h))

-- ---- nothing waits

pub clear_waiting : (v : Queues) (later : List (Option ℕ)) (p : ℕ) (m : OrderMeaning) → p < 256 → Bare (queue (nexts v.nodes)) → m.waiting ≡ [] → (wheel (nexts v.nodes) p later m).waiting ≡ []
clear_waiting v later p m hp clear none =
    let z : 256 - p ≡ (256 - p) + 0 = omega arith in
    ap (λ (ws : List Entry). merged (own (nexts v.nodes) p) (lift p later ws)) none
    ∙ ap (flat (λ c. queue (nexts v.nodes) (p + c)) 0) z ∙ nothing (λ c. queue (nexts v.nodes) (p + c)) 0 (256 - p) (λ j a b. clear (p + j) (omega arith))

-- a part with no slot in any queue, the hand at 0 and nothing remembered
pub fresh_part : (q : Queues) → Bare (queue (nexts q.nodes)) → FreshPart (record { queues = q; hand = 0; later = replicate 1024 None })
fresh_part q bare = record {
  bare = bare;
  hand = refl;
  later_long = length-replicate {A = Option ℕ} 1024 None;
  forgets = λ x h. get_or-replicate {A = Option ℕ} 1024 x None None h;
}

module _ (w : OwnPart) (fresh : FreshPart w) (m : OrderMeaning) (none : m.waiting ≡ []) where
  pub fresh_waiting : (means w m).waiting ≡ []
  fresh_waiting = let p0 = fresh.hand in clear_waiting w.queues w.later w.hand m (omega arith) fresh.bare none

  pub fresh_sound : SoundWith w m
  fresh_sound = let p0 = fresh.hand in record {
    linked = record {
      lawful = subst (λ (zs : List Entry). Lawful (holding (means w m) zs)) (sym fresh_waiting) (record { sorted = tt; apart = tt; slots = tt; credits = tt });
      hand_in = omega arith;
      later_long = fresh.later_long;
      later_in = λ x h. let z = ap number (fresh.forgets x h) in omega arith;
      spent = λ k h. absurd (omega arith);
      below_in = λ x h. ap (waits x) none ∙ sym (ap is_some (fresh.forgets x h));
      below_low = λ x h. ap (waits x) none;
      parted = λ x h y. fresh.forgets x h;
    };
    ripe = ap some_due none;
  }
