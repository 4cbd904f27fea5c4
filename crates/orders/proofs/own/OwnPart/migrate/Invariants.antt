use Rattle.std.proofs.Common.{◌≡◌, true, ◌++◌, length}
use Rattle.std.specs.Option.{is_some}
use Rattle.orders.specs.Meaning.{holding}
use Rattle.orders.specs.Rings.{queue, named, nexts}
use Rattle.orders.specs.Wheels.{Linked}
use Rattle.orders.specs.Steps.{means}
use Rattle.orders.specs.Moved.{of_credit, past_credit, bound_for, forgotten}
use Rattle.orders.proofs.Migrations.{Climbs}
use Rattle.orders.proofs.own.OwnPart.migrate.Given as goal

abbrev pub invariant-loop-below : goal.invariant-loop-below
invariant-loop-below g l =
    let m = g.O.Order.meaning l.below in
    let u = l.initial.self in
    let m₀ = g.O.Order.meaning l.initial.below in
    Linked (nexts l.self.queues.nodes) l.self.queues.home l.self.later l.self.hand m
    × (l.self.hand ≡ 0)
    × (means l.self m ≡ means u m₀)
    × (is_some (named l.self.queues.home l.first.slot) ≡ true)
    × (m ≡ holding m₀ m.waiting)
    × Climbs (λ q. queue (nexts u.queues.nodes) q ++ bound_for u.later q (of_credit 0 m₀.waiting)) (forgotten u.later (of_credit 0 m₀.waiting)) (past_credit 0 m₀.waiting)
    0 (queue (nexts l.self.queues.nodes)) l.self.later m.waiting

abbrev pub decreases-loop-below : goal.decreases-loop-below
decreases-loop-below g l = length (g.O.Order.meaning l.below).waiting
