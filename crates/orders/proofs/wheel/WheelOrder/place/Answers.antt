use Rattle.std.proofs.Common.{◌≡◌, ◌≢◌, ℕ, ◌+◌, ◌*◌, ◌/◌, ◌%◌, ◌<◌, ◌≤◌, min, true, false, List, set, Some, None, Option, sym, refl, ap, ◌∙◌, subst, arith}
use Rattle.std.specs.Option.{is_some}
use Rattle.std.proofs.lemmas.Bool.{or_from, or_left, or_right}
use Rattle.orders.specs.Facts.{none_is}
use Rattle.orders.specs.declared.own.OwnPart.{OwnPart}
use Rattle.orders.specs.Rings.{named, queue, nexts}
use Rattle.orders.specs.Rows.{Joins}
use Rattle.orders.specs.Flat.{entry}
use Rattle.orders.specs.Wheels.{wheel, Linked, Sound}
use Rattle.orders.specs.Moved.{row}
use Rattle.orders.specs.Steps.{means, SoundWith}
use Rattle.orders.specs.Meaning.{OrderMeaning, Lawful, takes, placed, waits, holding, joined}
use Rattle.orders.proofs.Meanings.{takes_yes, no_room, placed_yes, placed_no}
use Rattle.orders.proofs.Owns.{wheel_waits, lawful_joined, near_linked, near_waiting, far_linked, far_waiting, far_ripe}
use Rattle.orders.proofs.Turns.{goes_own, goes_below}
use Rattle.orders.proofs.wheel.WheelOrder.place.Goals as goal
use Rattle.orders.proofs.wheel.WheelOrder.place.Goals.{then-holds-via-then-holds, then-holds-via-else-holds+then-remembers}

pub returns-then-holds : goal.returns-then-holds
returns-then-holds g c =
    let w = c.args.self.now in
    let m : OrderMeaning = g.O.Order.meaning w.below in
    let W : OrderMeaning = means w.own m in
    let s = c.args.slot in
    let ww = wheel_waits w.own.queues w.own.later w.own.hand m w.sound.linked s c.if-slot-ge-SLOTS.false in
    let here : waits s W.waiting ≡ true = ww ∙ elim c.then-holds.branch [
      | then-holds-via-then-holds z ↦ or_left (is_some (named w.own.queues.home s)) (is_some (named w.own.later s)) (sym z.if-holds.ensures)
      | then-holds-via-else-holds+then-remembers z ↦ or_right (is_some (named w.own.queues.home s)) (is_some (named w.own.later s)) (sym z.if-remembers.ensures)
    ] in
    let no : takes W s c.args.credit ≡ false = no_room W s c.args.credit here in
    record { answer = sym no; after = sym (placed_no W s c.args.credit no); went = refl }

-- the slot is free, and the credit is within the span
module _ (w : OwnPart) (m : OrderMeaning) (k : SoundWith w m) (s c : ℕ) (s-in : s < 1024) (s-below : s < m.size) (c-some : c ≢ 0) (c-in : c ≤ 256 * min 16777215 m.span)
    (idle : false ≡ is_some (named w.queues.home s)) (forgot : false ≡ is_some (named w.later s)) where
  out : named w.later s ≡ None
  out = none_is (named w.later s) (sym forgot)

  free : waits s (means w m).waiting ≡ false
  free = wheel_waits w.queues w.later w.hand m k.linked s s-in ∙ or_from (is_some (named w.queues.home s)) (is_some (named w.later s)) (sym idle) (sym forgot)

  fits : s < (means w m).size
  fits = omega arith

  taken : takes (means w m) s c ≡ true
  taken = takes_yes (means w m) s c fits free (omega arith) c-in

  law : Lawful (holding (means w m) (joined (entry s c) (means w m).waiting))
  law = lawful_joined (means w m) s c k.linked.lawful fits free c-in

  module _ (near : w.hand + c < 256) (next' : List ℕ) (joins : Joins (row w) (queue next') (w.hand + c) s) where
    near_after : wheel next' w.hand w.later m ≡ placed (means w m) s c
    near_after = ap (holding (means w m)) (near_waiting w.queues w.later w.hand m k.linked k.ripe next' s c near joins) ∙ sym (placed_yes (means w m) s c taken)

    near_sound : (home' : List (Option ℕ)) → home' ≡ set w.queues.home s (Some (w.hand + c)) → Sound next' home' w.later w.hand m
    near_sound home' homes = record {
      linked = subst (λ (h : List (Option ℕ)). Linked next' h w.later w.hand m) (sym homes) (near_linked w.queues w.later w.hand m k.linked k.ripe next' s c near joins s-in out law);
      ripe = k.ripe;
    }

  module _ (far : 256 ≤ w.hand + c) (bl : Lawful m) (n : OrderMeaning) (after : n ≡ placed m s ((w.hand + c) / 256)) where
    abbrev b : ℕ
    b = (w.hand + c) / 256

    abbrev r : ℕ
    r = (w.hand + c) % 256

    some_turns : 1 ≤ b
    some_turns = omega arith

    reach_is : 256 * b + r ≡ w.hand + c
    reach_is = omega arith

    pub taken_below : takes m s b ≡ true
    taken_below = let hp = k.linked.hand_in in takes_yes m s b s-below (k.linked.below_in s s-in ∙ sym forgot) (omega arith) (omega arith)

    placed_below : n ≡ holding m (joined (entry s b) m.waiting)
    placed_below = after ∙ placed_yes m s b taken_below

    far_after : wheel (nexts w.queues.nodes) w.hand (set w.later s (Some r)) n ≡ placed (means w m) s c
    far_after = ap (wheel (nexts w.queues.nodes) w.hand (set w.later s (Some r))) placed_below
        ∙ ap (holding (means w m)) (far_waiting w.queues w.later w.hand m k.linked bl s b r c s-in (omega arith) some_turns reach_is out) ∙ sym (placed_yes (means w m) s c taken)

    far_sound : Sound (nexts w.queues.nodes) w.queues.home (set w.later s (Some r)) w.hand n
    far_sound = subst (Sound (nexts w.queues.nodes) w.queues.home (set w.later s (Some r)) w.hand) (sym placed_below) (record {
      linked = far_linked w.queues w.later w.hand m k.linked bl s b r c s-in (omega arith) some_turns reach_is out (none_is (named w.queues.home s) (sym idle)) law;
      ripe = far_ripe w.queues w.later w.hand m k.linked bl s b r c s-in (omega arith) some_turns reach_is out k.ripe;
    })

pub invariant_of-self : goal.invariant_of-self
invariant_of-self g c =
    let w = c.args.self.now in
    let ss = c.size.ensures in
    let sl = c.if-slot-size.false in
    let pe = c.span.ensures in
    let pl = c.if-credit-span.false in
    record {
      sound = near_sound w.own (g.O.Order.meaning w.below) w.sound c.args.slot c.args.credit c.if-slot-ge-SLOTS.false (omega arith) c.if-credit-eq0.false (omega arith)
          c.if-holds.ensures c.if-remembers.ensures c.if-reach-lt-QUEUES.true (nexts c.push.new.self.nodes) c.push.ensures.queues c.push.new.self.home c.push.ensures.homes;
    }

pub invariant_of-self-else-reach-lt-QUEUES : goal.invariant_of-self-else-reach-lt-QUEUES
invariant_of-self-else-reach-lt-QUEUES g c =
    let w = c.args.self.now in
    let ss = c.size.ensures in
    let sl = c.if-slot-size.false in
    let pe = c.span.ensures in
    let pl = c.if-credit-span.false in
    record {
      sound = far_sound w.own (g.O.Order.meaning w.below) w.sound c.args.slot c.args.credit c.if-slot-ge-SLOTS.false (omega arith) c.if-credit-eq0.false (omega arith)
          c.if-holds.ensures c.if-remembers.ensures c.if-reach-lt-QUEUES.false (g.met.O.Order.lawful w.below) (g.O.Order.meaning c.place.new.self) c.place.ensures.after;
    }

pub returns-then-reach-lt-QUEUES : goal.returns-then-reach-lt-QUEUES
returns-then-reach-lt-QUEUES g c =
    let w = c.args.self.now in
    let m : OrderMeaning = g.O.Order.meaning w.below in
    let s = c.args.slot in
    let n = c.args.credit in
    let ss = c.size.ensures in
    let sl = c.if-slot-size.false in
    let low : s < m.size = omega arith in
    let pe = c.span.ensures in
    let pl = c.if-credit-span.false in
    let span : n ≤ 256 * min 16777215 m.span = omega arith in
    let near = c.if-reach-lt-QUEUES.true in
    let joins = c.push.ensures.queues in
    record {
      answer = sym (taken w.own m w.sound s n c.if-slot-ge-SLOTS.false low c.if-credit-eq0.false span c.if-holds.ensures c.if-remembers.ensures);
      after = near_after w.own m w.sound s n c.if-slot-ge-SLOTS.false low c.if-credit-eq0.false span c.if-holds.ensures c.if-remembers.ensures near (nexts c.push.new.self.nodes) joins;
      went = goes_own g.row.O.Denot g.O.Order w.own.hand n s w _ near (record { joins = joins; hand = refl; later = refl; below = refl });
    }

pub returns-else-reach-lt-QUEUES : goal.returns-else-reach-lt-QUEUES
returns-else-reach-lt-QUEUES g c =
    let w = c.args.self.now in
    let m : OrderMeaning = g.O.Order.meaning w.below in
    let s = c.args.slot in
    let n = c.args.credit in
    let ss = c.size.ensures in
    let sl = c.if-slot-size.false in
    let low : s < m.size = omega arith in
    let pe = c.span.ensures in
    let pl = c.if-credit-span.false in
    let span : n ≤ 256 * min 16777215 m.span = omega arith in
    let far = c.if-reach-lt-QUEUES.false in
    let bl = g.met.O.Order.lawful w.below in
    let m' = g.O.Order.meaning c.place.new.self in
    let after = c.place.ensures.after in
    record {
      answer = sym (taken w.own m w.sound s n c.if-slot-ge-SLOTS.false low c.if-credit-eq0.false span c.if-holds.ensures c.if-remembers.ensures);
      after = far_after w.own m w.sound s n c.if-slot-ge-SLOTS.false low c.if-credit-eq0.false span c.if-holds.ensures c.if-remembers.ensures far bl m' after;
      went = goes_below g.row.O.Denot g.O.Order w.own.hand n s w _ far (record {
        taken = taken_below w.own m w.sound s n c.if-slot-ge-SLOTS.false low c.if-credit-eq0.false span c.if-holds.ensures c.if-remembers.ensures far bl m' after;
        below = after;
        later = refl;
        hand = refl;
        queues = refl;
      });
    }
