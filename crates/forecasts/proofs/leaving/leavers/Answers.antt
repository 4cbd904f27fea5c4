use Rattle.std.proofs.Common.{◌≡◌, length, ap, ◌∙◌, arith}
use Rattle.orders.specs.Meaning.{OrderMeaning, emptied}
use Rattle.forecasts.specs.Leaving.{all_placed, departures}
use Rattle.forecasts.proofs.Leavings.{all_placed_length, all_placed_emptied}
use Rattle.forecasts.proofs.leaving.leavers.Goals as goal

pub drain-requires : goal.drain-requires
drain-requires g c =
    let m : OrderMeaning = g.O.Order.meaning c.args.order.now in
    let rows = c.args.rows.now in
    let made = c.in_ok-gone.ensures in
    let most = all_placed_length (emptied m) rows in
    let all : length (g.O.Order.meaning c.place_all.new.order).waiting ≡ length (all_placed (emptied m) rows).waiting =
    ap (λ (k : OrderMeaning). length k.waiting) (c.place_all.ensures ∙ ap (λ (k : OrderMeaning). all_placed k rows) c.empty.ensures.after) in
    record { bare = made.items; room = omega (arith, made.len, made.capacity) }

pub returns : goal.returns
returns g c =
    let m : OrderMeaning = g.O.Order.meaning c.args.order.now in
    let rows = c.args.rows.now in
    let placed = c.place_all.ensures ∙ ap (λ (k : OrderMeaning). all_placed k rows) c.empty.ensures.after in
    record {
      after = c.drain.ensures.after ∙ ap emptied placed ∙ all_placed_emptied (emptied m) rows;
      answer = c.drain.ensures.answer ∙ ap departures placed;
    }
