use Rattle.forecasts.proofs.Leavings.{place_more, place_done}
use Rattle.forecasts.proofs.leaving.place_all.Goals as goal

pub loop-row-preserved : goal.loop-row-preserved
loop-row-preserved g c =
    let m = g.O.Order.meaning in
    place_more (m c.loop-row.order) (m c.args.order.now) c.args.rows.now c.loop-row.row-index c.loop-row.invariant
    (m c.place.new.self) c.loop-row-test.true c.place.ensures.after

pub returns : goal.returns
returns g c =
    let m = g.O.Order.meaning in
    place_done (m c.loop-row.order) (m c.args.order.now) c.args.rows.now c.loop-row.row-index c.loop-row.invariant c.loop-row-test.false
