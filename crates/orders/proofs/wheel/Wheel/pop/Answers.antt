use Rattle.std.proofs.Common.{◌≤◌, drop, Option, sym, refl, subst, arith}
use Rattle.orders.specs.Rings.{queue, nexts}
use Rattle.orders.specs.declared.Expelled.{Expelled}
use Rattle.orders.specs.Turns.{WheelPop}
use Rattle.orders.proofs.Moves.{popped_answer, popped_after, popped_sound}
use Rattle.orders.proofs.Turns.{leaves_own}
use Rattle.orders.proofs.wheel.Wheel.pop.Goals as goal

pub invariant_of-self : goal.invariant_of-self
invariant_of-self g c =
    let w = c.args.self.now in
    let q = c.in_ok-q.q in
    let told = c.in_ok-q.ensures in
    let popped = c.pop-slot.ensures in
    record {
      sound = popped_sound w.own (g.O.Order.meaning w.below) w.sound q c.pop-slot.result (drop 1 (queue (nexts w.own.queues.nodes) q)) told.0 told.1 popped.front told.3
          (nexts c.pop-slot.new.self.nodes) popped.queues c.pop-slot.new.self.home popped.homes;
    }

pub returns-in_err-q : goal.returns-in_err-q
returns-in_err-q g c =
    let w = c.args.self.now in
    subst (λ (r : Option Expelled). WheelPop g.row.O.Denot g.O.Order r w w) (sym c.from_residual.ensures) (refl, c.in_err-q.ensures)

pub returns : goal.returns
returns g c =
    let w = c.args.self.now in
    let m = g.O.Order.meaning w.below in
    let q = c.in_ok-q.q in
    let told = c.in_ok-q.ensures in
    let x = c.pop-slot.result in
    let ys = drop 1 (queue (nexts w.own.queues.nodes) q) in
    let popped = c.pop-slot.ensures in
    let next' = (nexts c.pop-slot.new.self.nodes) in
    let onward : w.own.hand ≤ q = told.0 in
    record {
      answer = popped_answer w.own m w.sound q x ys told.0 told.1 popped.front told.3;
      after = popped_after w.own m w.sound q x ys told.0 told.1 popped.front told.3 next' popped.queues;
      own = record {
        leaves = leaves_own w.own.queues next' q x ys told.1 popped.front popped.queues w.own.hand told.0 told.3;
        far = omega arith;
        later = refl;
        below = refl;
      };
    }
