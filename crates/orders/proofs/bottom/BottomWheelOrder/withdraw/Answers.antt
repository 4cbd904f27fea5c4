use Rattle.std.proofs.Common.{◌≡◌, true, false, sym, refl, ap, ◌∙◌}
use Rattle.orders.specs.Rings.{nexts}
use Rattle.orders.specs.Flat.{bottom}
use Rattle.orders.specs.Meaning.{OrderMeaning, waits, holding}
use Rattle.orders.proofs.Meanings.{withdrawn_no}
use Rattle.orders.specs.Bottoms.{bottom_waits, bottom_waits_high, bottom_withdrawn}
use Rattle.orders.proofs.bottom.BottomWheelOrder.withdraw.Goals as goal

pub returns-then-slot-ge-SLOTS : goal.returns-then-slot-ge-SLOTS
returns-then-slot-ge-SLOTS c =
    let w = c.args.self.now in
    let m : OrderMeaning = bottom (nexts w.queues.nodes) w.hand in
    let out : waits c.args.slot m.waiting ≡ false = bottom_waits_high w.queues w.hand w.hand_in c.args.slot c.if-slot-ge-SLOTS.true in
    record { answer = sym out; after = sym (withdrawn_no m c.args.slot out); went = refl }

pub returns-then-not-holds : goal.returns-then-not-holds
returns-then-not-holds c =
    let w = c.args.self.now in
    let m : OrderMeaning = bottom (nexts w.queues.nodes) w.hand in
    let out : waits c.args.slot m.waiting ≡ false = bottom_waits w.queues w.hand w.hand_in c.args.slot c.if-slot-ge-SLOTS.false ∙ sym c.if-not-holds.ensures in
    record { answer = sym out; after = sym (withdrawn_no m c.args.slot out); went = refl }

pub returns : goal.returns
returns c =
    let w = c.args.self.now in
    let m : OrderMeaning = bottom (nexts w.queues.nodes) w.hand in
    let in' : waits c.args.slot m.waiting ≡ true = bottom_waits w.queues w.hand w.hand_in c.args.slot c.if-slot-ge-SLOTS.false ∙ sym c.if-not-holds.ensures in
    record { answer = sym in'; after = ap (holding m) (bottom_withdrawn w.queues w.hand w.hand_in (nexts c.remove.new.self.nodes) c.args.slot c.remove.ensures.queues); went = (c.remove.ensures.queues, refl) }
