use Rattle.std.proofs.Common.{◌≡◌, ◌≤◌, length, take}
use Rattle.workers.specs.Few.{items_of}
use Rattle.workers.specs.Meshes.{triangles_of, collapsed}
use Rattle.workers.proofs.region.Region.merged.Given as goal

abbrev pub invariant-loop-t : goal.invariant-loop-t
invariant-loop-t l = record { few : length (items_of l.triangles) ≤ l.t-index; merged : items_of l.triangles ≡ collapsed l.edge (take l.t-index (triangles_of l.self)) }
