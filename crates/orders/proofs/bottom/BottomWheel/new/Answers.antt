use Rattle.std.proofs.Common.{◌+◌, ◌%◌, refl, ap, arith}
use Rattle.orders.specs.Rings.{nexts}
use Rattle.orders.specs.Flat.{bottom}
use Rattle.orders.specs.Meaning.{OrderMeaning, holding}
use Rattle.orders.specs.Bottoms.{bottom_none}
use Rattle.orders.proofs.bottom.BottomWheel.new.Goals as goal

pub returns : goal.returns
returns c =
    let m : OrderMeaning = bottom (nexts c.new.result.nodes) 0 in
    record {
      meaning = ap (holding m) (bottom_none c.new.result 0 (omega arith) (λ j h. c.new.ensures.queues ((0 + j) % 256) (omega arith)));
      rested = refl;
    }
