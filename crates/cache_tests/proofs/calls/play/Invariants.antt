use Rattle.cache.specs.Whole.{state_of}
use Rattle.borrowers.specs.Loans.{KeepsLeases}
use Rattle.cache_tests.proofs.calls.play.Given as goal

abbrev pub invariant-loop-i : goal.invariant-loop-i
invariant-loop-i g l = KeepsLeases (state_of l.initial.cache) (state_of l.cache)
