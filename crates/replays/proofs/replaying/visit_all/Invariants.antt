use Rattle.std.proofs.Common.{◌≡◌, length, take, vec_items, vec_capacity}
use Rattle.keys.specs.declared.region.RegionNumber.{RegionNumber}
use Rattle.promises.specs.Lines.{Making, made}
use Rattle.cache.specs.Whole.{state_of}
use Rattle.replays.specs.Standing.{Sofar}
use Rattle.replays.proofs.replaying.visit_all.Given as goal

abbrev pub invariant-loop-i : goal.invariant-loop-i
invariant-loop-i g l =
    (l.report.slots ≡ l.initial.report.slots)
    × (vec_capacity l.report.evicted ≡ vec_capacity l.initial.report.evicted)
    × ((m : Making RegionNumber) → state_of l.initial.cache ≡ made m
    → Sofar m (length l.initial.slab) (take l.i l.rows) (state_of l.cache) l.report.counts (vec_items l.report.evicted) × (l.slab ≡ l.initial.slab))
