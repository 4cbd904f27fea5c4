use Rattle.std.proofs.Common.{◌≡◌, drop}
use Rattle.forecasts.specs.Leaving.{all_placed}
use Rattle.forecasts.proofs.leaving.place_all.Given as goal

abbrev pub invariant-loop-row : goal.invariant-loop-row
invariant-loop-row g l =
    all_placed (g.O.Order.meaning l.order) (drop l.row-index l.rows) ≡ all_placed (g.O.Order.meaning l.initial.order) l.rows
