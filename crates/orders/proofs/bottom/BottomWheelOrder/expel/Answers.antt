use Rattle.std.proofs.Common.{◌+◌, ◌%◌, drop, Option, sym, refl, ap, subst, ◌∙◌, arith}
use Rattle.orders.specs.Rings.{queue, nexts}
use Rattle.orders.specs.Flat.{bottom}
use Rattle.orders.specs.Meaning.{OrderMeaning, holding, leaver, rest}
use Rattle.orders.specs.Bottoms.{bottom_none, bottom_first, bottom_rest}
use Rattle.orders.specs.declared.Expelled.{Expelled}
use Rattle.orders.specs.Turns.{BottomExpel}
use Rattle.orders.proofs.Turns.{leaves_around}
use Rattle.orders.proofs.bottom.BottomWheelOrder.expel.Goals as goal

pub returns-in_err-far : goal.returns-in_err-far
returns-in_err-far c =
    let w = c.args.self.now in
    let m : OrderMeaning = bottom (nexts w.queues.nodes) w.hand in
    let e = bottom_none w.queues w.hand w.hand_in c.in_err-far.ensures in
    let none = c.from_residual.ensures in
    record {
      answer = none ∙ ap leaver (sym e);
      after = ap (holding m) (e ∙ ap rest (sym e));
      went = subst (λ (r : Option Expelled). BottomExpel r w w) (sym none) refl;
    }

pub returns : goal.returns
returns c =
    let w = c.args.self.now in
    let m : OrderMeaning = bottom (nexts w.queues.nodes) w.hand in
    let d = c.in_ok-far.far in
    let x = c.pop-slot.result in
    let q = (w.hand + d) % 256 in
    let ys = drop 1 (queue (nexts w.queues.nodes) q) in
    let told = c.in_ok-far.ensures in
    let head = c.pop-slot.ensures.front in
    let next' = (nexts c.pop-slot.new.self.nodes) in
    let lost = c.pop-slot.ensures.queues in
    let f = bottom_first w.queues w.hand w.hand_in d x ys told.0 head told.2 in
    record {
      answer = ap leaver (sym f);
      after = ap (holding m) (bottom_rest w.queues w.hand w.hand_in d x ys told.0 head told.2 next' lost ∙ ap rest (sym f));
      went = (refl, leaves_around w.queues next' q x ys (omega arith) head lost w.hand d w.hand_in told.0 refl told.2);
    }
