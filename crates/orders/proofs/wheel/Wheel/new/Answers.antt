use Rattle.std.proofs.Common.{[], None, refl, ap, replicate, ◌∙◌}
use Rattle.orders.specs.declared.own.OwnPart.{OwnPart}
use Rattle.orders.specs.Steps.{means}
use Rattle.orders.specs.Meaning.{OrderMeaning, holding}
use Rattle.orders.proofs.Owns.{fresh_part, fresh_waiting, fresh_sound}
use Rattle.orders.proofs.wheel.Wheel.new.Goals as goal

pub invariant_of-result : goal.invariant_of-result
invariant_of-result g c =
    let q = c.new.result in
    let w : OwnPart = record { queues = q; hand = 0; later = replicate 1024 None } in
    record { sound = fresh_sound w (fresh_part q c.new.ensures.queues) (g.O.Order.meaning c.empty.new.self) (ap (λ (z : OrderMeaning). z.waiting) c.empty.ensures.after) }

pub returns : goal.returns
returns g c =
    let m : OrderMeaning = g.O.Order.meaning c.args.below in
    let q = c.new.result in
    let w : OwnPart = record { queues = q; hand = 0; later = replicate 1024 None } in
    record {
      meaning = ap (means w) c.empty.ensures.after ∙ ap (holding (means w m)) (fresh_waiting w (fresh_part q c.new.ensures.queues) (holding m []) refl);
      rested = (refl, c.empty.ensures.hands);
    }
