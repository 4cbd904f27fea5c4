use Rattle.std.proofs.Common.{◌≡◌, ◌*◌, length, take}
use Rattle.workers.specs.Meshes.{triangles_of, bytes_of}
use Rattle.workers.proofs.region.Region.pack.Given as goal

abbrev pub invariant-loop-t : goal.invariant-loop-t
invariant-loop-t l = record { len : length l.bytes.items ≡ 3 * l.t-index; packed : l.bytes.items ≡ bytes_of (take l.t-index (triangles_of l.self)) }
