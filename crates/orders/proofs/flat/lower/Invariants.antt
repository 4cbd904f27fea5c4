use Rattle.std.proofs.Common.{◌≡◌, take, drop}
use Rattle.orders.specs.Meaning.{fallen}
use Rattle.orders.proofs.flat.lower.Given as goal

abbrev pub invariant-loop-entry : goal.invariant-loop-entry
invariant-loop-entry l =
    (take l.entry-index l.entries ≡ fallen l.by (take l.entry-index l.initial.entries))
    × (drop l.entry-index l.entries ≡ drop l.entry-index l.initial.entries)
