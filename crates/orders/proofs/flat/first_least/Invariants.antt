use Rattle.std.proofs.Common.{ℕ, ◌<◌, ◌≤◌, length}
use Rattle.orders.specs.FlatTable.{entry_at}
use Rattle.orders.proofs.flat.first_least.Given as goal

abbrev pub invariant-loop-i : goal.invariant-loop-i
invariant-loop-i l =
    (l.best ≤ l.i)
    × (l.best < length l.entries)
    × ((k : ℕ) → k < l.best → (entry_at l.entries l.best).credit < (entry_at l.entries k).credit)
    × ((k : ℕ) → k < l.i → (entry_at l.entries l.best).credit ≤ (entry_at l.entries k).credit)
