use Rattle.std.proofs.Common.{length, vec_items, ap, ◌∙◌, arith}
use Rattle.orders.specs.Meaning.{OrderMeaning, emptied}
use Rattle.forecasts.proofs.Leavings.{one_less, drain_more}
use Rattle.forecasts.proofs.leaving.drain.Goals as goal

pub loop-leaver-smaller : goal.loop-leaver-smaller
loop-leaver-smaller g c =
    let m : OrderMeaning = g.O.Order.meaning c.loop-leaver.order in
    let less = one_less m.waiting c.in-Some.leaver c.in-Some.ensures.answer in
    let after = ap (λ (k : OrderMeaning). length k.waiting) c.expel.ensures.after in
    omega arith

pub loop-leaver-preserved : goal.loop-leaver-preserved
loop-leaver-preserved g c =
    let m : OrderMeaning = g.O.Order.meaning c.loop-leaver.order in
    let m₀ : OrderMeaning = g.O.Order.meaning c.args.order.now in
    let m' : OrderMeaning = g.O.Order.meaning c.expel.new.self in
    let inv = c.loop-leaver.invariant in
    let first = c.in-Some.ensures.answer in
    let less = one_less m.waiting c.in-Some.leaver first in
    let after = ap (λ (k : OrderMeaning). length k.waiting) c.expel.ensures.after in
    let len = c.push_reserved.ensures.len in
    let cap = c.push_reserved.ensures.capacity in (
      ap emptied c.expel.ensures.after ∙ inv.0,
      drain_more m m₀ m' (vec_items c.loop-leaver.gone) (vec_items c.push_reserved.new.self) c.in-Some.leaver inv.1 first c.expel.ensures.after
          c.push_reserved.ensures.items,
      omega (arith, inv.2),
    )
