use Rattle.std.proofs.Common.{◌≡◌, ℕ, ◌+◌, List, replicate, vec_items, vec_len, vec_capacity}
use Rattle.cache.specs.Whole.{state_of}
use Rattle.runs.specs.declared.asks.Ask.TheVariants.{GiveBack as AskGive}
use Rattle.runs.specs.Asks.{hand}
use Rattle.runs.specs.Runs.{Goes}
use Rattle.runs.proofs.serving.settle.Given as goal

abbrev pub invariant-loop-tried : goal.invariant-loop-tried
invariant-loop-tried g l =
    ((bytes : List ℕ) → Goes g.K.Key.sameness (vec_items l.initial.happenings) (state_of l.initial.cache) (hand (vec_items l.initial.leases) bytes) (replicate l.tried (AskGive 0)) (vec_items l.happenings) (state_of l.cache) (hand (vec_items l.leases) bytes))
    × (vec_len l.happenings ≡ vec_len l.initial.happenings + l.tried)
    × (vec_capacity l.happenings ≡ vec_capacity l.initial.happenings)
