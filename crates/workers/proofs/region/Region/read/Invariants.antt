use Rattle.std.proofs.Common.{◌≡◌, map, take}
use Rattle.workers.specs.Few.{items_of}
use Rattle.workers.proofs.Meshes.{triangle_of}
use Rattle.workers.proofs.region.Region.read.Given as goal

abbrev pub invariant-loop-a : goal.invariant-loop-a
invariant-loop-a l = items_of l.triangles ≡ map triangle_of (take l.a-index l.threes)
