use Rattle.std.proofs.Common.{ℕ, ◌^◌, ◌<◌, ◌≤◌}
use Rattle.traces.specs.Rendering.{cost_at, key_at}
use Rattle.traces.proofs.writer.check_fit.Given as goal

abbrev pub invariant-loop-i : goal.invariant-loop-i
invariant-loop-i l = (l.i ≤ 2048) × ((k : ℕ) → k < l.i → 1 ≤ cost_at l.rows k) × ((k : ℕ) → k < l.i → cost_at l.rows k ≤ 65280) × ((k : ℕ) → k < l.i → key_at l.rows k < 2 ^ 32)
