use Rattle.std.proofs.Common.{◌≡◌, ℕ, ◌<◌, length}
use Rattle.orders.proofs.Tables.{node_at}
use Rattle.orders.proofs.queues.Queues.new.Given as goal

abbrev pub invariant-loop-i : goal.invariant-loop-i
invariant-loop-i l = (length l.node-items ≡ 1280) × ((k : ℕ) → k < l.i → node_at l.node-items k ≡ record { next = k; prev = k })
