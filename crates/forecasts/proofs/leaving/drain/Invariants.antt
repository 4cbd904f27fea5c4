use Rattle.std.proofs.Common.{◌≡◌, ◌+◌, ◌≤◌, ◌++◌, length, vec_items, vec_len, vec_capacity}
use Rattle.orders.specs.Meaning.{emptied}
use Rattle.forecasts.specs.Leaving.{departures}
use Rattle.forecasts.proofs.leaving.drain.Given as goal

abbrev pub invariant-loop-leaver : goal.invariant-loop-leaver
invariant-loop-leaver g l =
    let m = g.O.Order.meaning l.order in
    let m₀ = g.O.Order.meaning l.initial.order in
    (emptied m ≡ emptied m₀)
    × (vec_items l.gone ++ departures m ≡ departures m₀)
    × (vec_len l.gone + length m.waiting ≤ vec_capacity l.gone)

abbrev pub decreases-loop-leaver : goal.decreases-loop-leaver
decreases-loop-leaver g l = length (g.O.Order.meaning l.order).waiting
