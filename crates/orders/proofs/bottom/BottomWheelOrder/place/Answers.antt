use Rattle.std.proofs.Common.{◌≡◌, ◌<◌, true, false, sym, refl, ap, ◌∙◌, arith}
use Rattle.orders.specs.Facts.{none_is}
use Rattle.orders.specs.Rings.{named, nexts}
use Rattle.orders.specs.Flat.{bottom}
use Rattle.orders.specs.Meaning.{OrderMeaning, takes, waits, holding}
use Rattle.orders.proofs.Meanings.{takes_yes, no_room, placed_yes, placed_no}
use Rattle.orders.specs.Bottoms.{bottom_waits, bottom_placed}
use Rattle.orders.proofs.bottom.BottomWheelOrder.place.Goals as goal

pub returns-then-holds : goal.returns-then-holds
returns-then-holds c =
    let w = c.args.self.now in
    let m : OrderMeaning = bottom (nexts w.queues.nodes) w.hand in
    let here : waits c.args.slot m.waiting ≡ true = bottom_waits w.queues w.hand w.hand_in c.args.slot c.if-slot-ge-SLOTS.false ∙ sym c.if-holds.ensures in
    let no : takes m c.args.slot c.args.credit ≡ false = no_room m c.args.slot c.args.credit here in
    record { answer = sym no; after = sym (placed_no m c.args.slot c.args.credit no); went = refl }

pub push-requires : goal.push-requires
push-requires c = record { queue = omega arith; slot = c.if-slot-ge-SLOTS.false; idle = none_is (named c.args.self.now.queues.home c.args.slot) (sym c.if-holds.ensures) }

pub returns : goal.returns
returns c =
    let w = c.args.self.now in
    let m : OrderMeaning = bottom (nexts w.queues.nodes) w.hand in
    let s = c.args.slot in
    let k = c.args.credit in
    let l : s < 1024 = c.if-slot-ge-SLOTS.false in
    let z = c.if-credit-eq0.false in
    let h = c.if-credit-gt-BOTTOM_SPAN.false in
    let out : waits s m.waiting ≡ false = bottom_waits w.queues w.hand w.hand_in s l ∙ sym c.if-holds.ensures in
    let yes : takes m s k ≡ true = takes_yes m s k l out (omega arith) h in
    record {
      answer = sym yes;
      after = ap (holding m) (bottom_placed w.queues w.hand w.hand_in (nexts c.push.new.self.nodes) s k h c.push.ensures.queues) ∙ sym (placed_yes m s k yes);
      went = (c.push.ensures.queues, refl);
    }
