use Rattle.std.proofs.Common.{◌≡◌, ◌+◌, ◌≤◌, take, vec_items, vec_len, vec_capacity}
use Rattle.cache.specs.Whole.{state_of}
use Rattle.runs.specs.Asks.{hand}
use Rattle.runs.specs.Runs.{Goes}
use Rattle.runs.proofs.serving.serve.Given as goal

abbrev pub invariant-loop-ask : goal.invariant-loop-ask
invariant-loop-ask g l =
    Goes g.K.Key.sameness (vec_items l.initial.happenings) (state_of l.initial.cache) (hand (vec_items l.initial.leases) l.initial.slab) (take l.ask-index l.asks) (vec_items l.happenings) (state_of l.cache) (hand (vec_items l.leases) l.slab)
    × (vec_len l.leases ≤ vec_len l.initial.leases + l.ask-index)
    × (vec_capacity l.leases ≡ vec_capacity l.initial.leases)
    × (vec_len l.happenings ≡ vec_len l.initial.happenings + l.ask-index)
    × (vec_capacity l.happenings ≡ vec_capacity l.initial.happenings)
