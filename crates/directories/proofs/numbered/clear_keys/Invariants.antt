use Rattle.std.proofs.Common.{◌≡◌, replicate, None}
use Rattle.directories.proofs.numbered.clear_keys.Given as goal

abbrev pub invariant-loop : goal.invariant-loop
invariant-loop l = l.keys.items ≡ replicate l.counter None
