use Rattle.std.proofs.Common.{◌+◌, ◌%◌, ap, arith}
use Rattle.orders.specs.Rings.{nexts}
use Rattle.orders.specs.Flat.{bottom}
use Rattle.orders.specs.Meaning.{OrderMeaning, holding}
use Rattle.orders.specs.Bottoms.{bottom_none}
use Rattle.orders.proofs.bottom.BottomWheelOrder.empty.Goals as goal

pub returns-clause-after : goal.returns-clause-after
returns-clause-after c =
    let w = c.args.self.now in
    let m : OrderMeaning = bottom (nexts w.queues.nodes) w.hand in
    ap (holding m) (bottom_none c.new-self.result 0 (omega arith) (λ j h. c.new-self.ensures.queues ((0 + j) % 256) (omega arith)))
