use Rattle.std.proofs.Common.{◌≡◌, ◌<◌, true, false, ℕ, List, set, None, Option, sym, refl, ap, ◌∙◌, subst, inl, inr}
use Rattle.std.specs.Option.{is_some}
use Rattle.std.proofs.lemmas.Bool.{or_from, or_left, or_right}
use Rattle.orders.specs.Rings.{named, nexts}
use Rattle.orders.specs.Wheels.{wheel, Linked, Sound}
use Rattle.orders.specs.Steps.{means}
use Rattle.orders.specs.Meaning.{OrderMeaning, waits, holding}
use Rattle.orders.proofs.Meanings.{withdrawn_no}
use Rattle.orders.specs.Facts.{home_long_of, none_is}
use Rattle.orders.proofs.Owns.{wheel_waits, wheel_waits_high, gone_waiting, gone_linked, left_waiting, left_linked, left_ripe}
use Rattle.orders.proofs.wheel.WheelOrder.withdraw.Goals as goal

pub returns-then-slot-ge-SLOTS : goal.returns-then-slot-ge-SLOTS
returns-then-slot-ge-SLOTS g c =
    let w = c.args.self.now in
    let m : OrderMeaning = g.O.Order.meaning w.below in
    let W : OrderMeaning = means w.own m in
    let out : waits c.args.slot W.waiting ≡ false = wheel_waits_high w.own.queues w.own.later w.own.hand m w.sound.linked c.args.slot c.if-slot-ge-SLOTS.true in
    record { answer = sym out; after = sym (withdrawn_no W c.args.slot out); went = refl }

-- the slot stands in a queue of the wheel's own

pub invariant_of-self : goal.invariant_of-self
invariant_of-self g c =
    let w = c.args.self.now in
    let m : OrderMeaning = g.O.Order.meaning w.below in
    let s = c.args.slot in
    let next' = (nexts c.remove.new.self.nodes) in
    record {
      sound = record {
        linked = subst (λ (z : List (Option ℕ)). Linked next' z w.own.later w.own.hand m) (sym c.remove.ensures.homes)
            (gone_linked w.own.queues w.own.later w.own.hand m w.sound.linked s c.if-slot-ge-SLOTS.false next' (sym c.if-holds.ensures) c.remove.ensures.queues (home_long_of w.own.queues));
        ripe = w.sound.ripe;
      };
    }

pub returns-then-holds : goal.returns-then-holds
returns-then-holds g c =
    let w = c.args.self.now in
    let m : OrderMeaning = g.O.Order.meaning w.below in
    let W : OrderMeaning = means w.own m in
    let s = c.args.slot in
    let l : s < 1024 = c.if-slot-ge-SLOTS.false in
    let there : waits s W.waiting ≡ true = wheel_waits w.own.queues w.own.later w.own.hand m w.sound.linked s l
    ∙ or_left (is_some (named w.own.queues.home s)) (is_some (named w.own.later s)) (sym c.if-holds.ensures) in
    record {
      answer = sym there;
      after = ap (holding W) (gone_waiting w.own.queues w.own.later w.own.hand m w.sound.linked s l (nexts c.remove.new.self.nodes)
          (sym c.if-holds.ensures) c.remove.ensures.queues);
      went = inl (record { loses = c.remove.ensures.queues; hand = refl; later = refl; below = refl });
    }

-- the slot waits below

pub invariant_of-self-then-remembers : goal.invariant_of-self-then-remembers
invariant_of-self-then-remembers g c =
    let w = c.args.self.now in
    let m : OrderMeaning = g.O.Order.meaning w.below in
    let s = c.args.slot in
    let l : s < 1024 = c.if-slot-ge-SLOTS.false in
    let h = none_is (named w.own.queues.home s) (sym c.if-holds.ensures) in
    record {
      sound = subst (Sound (nexts w.own.queues.nodes) w.own.queues.home (set w.own.later s None) w.own.hand) (sym c.withdraw.ensures.after) (record {
        linked = left_linked w.own.queues w.own.later w.own.hand m w.sound.linked s l h;
        ripe = left_ripe w.own.queues w.own.later w.own.hand m w.sound.linked s l h w.sound.ripe;
      });
    }

pub returns-then-remembers : goal.returns-then-remembers
returns-then-remembers g c =
    let w = c.args.self.now in
    let m : OrderMeaning = g.O.Order.meaning w.below in
    let W : OrderMeaning = means w.own m in
    let s = c.args.slot in
    let l : s < 1024 = c.if-slot-ge-SLOTS.false in
    let h = none_is (named w.own.queues.home s) (sym c.if-holds.ensures) in
    let there : waits s W.waiting ≡ true = wheel_waits w.own.queues w.own.later w.own.hand m w.sound.linked s l
    ∙ or_right (is_some (named w.own.queues.home s)) (is_some (named w.own.later s)) (sym c.if-remembers.ensures) in
    record {
      answer = sym there;
      after = ap (wheel (nexts w.own.queues.nodes) w.own.hand (set w.own.later s None)) c.withdraw.ensures.after
          ∙ ap (holding W) (left_waiting w.own.queues w.own.later w.own.hand m w.sound.linked s l h);
      went = inr (record { below = c.withdraw.ensures.after; later = refl; hand = refl; queues = refl });
    }

pub returns : goal.returns
returns g c =
    let w = c.args.self.now in
    let m : OrderMeaning = g.O.Order.meaning w.below in
    let W : OrderMeaning = means w.own m in
    let s = c.args.slot in
    let out : waits s W.waiting ≡ false = wheel_waits w.own.queues w.own.later w.own.hand m w.sound.linked s c.if-slot-ge-SLOTS.false
    ∙ or_from (is_some (named w.own.queues.home s)) (is_some (named w.own.later s)) (sym c.if-holds.ensures) (sym c.if-remembers.ensures) in
    record { answer = sym out; after = sym (withdrawn_no W s out); went = refl }
