use Rattle.std.proofs.Common.{◌≡◌, ◌-◌, ◌<◌, true}
use Rattle.directories.specs.Cells.{keys_of}
use Rattle.directories.specs.Links.{in_bucket, Last, Below}
use Rattle.directories.proofs.hashed.HashedDirectory.before.Given as goal

abbrev pub invariant-loop-i : goal.invariant-loop-i
invariant-loop-i g l =
    (l.i < l.self.size → in_bucket g.K.Key.place l.self.size (keys_of l.self.cells.now) l.bucket l.i ≡ true)
    × Last (in_bucket g.K.Key.place l.self.size (keys_of l.self.cells.now) l.bucket) l.i l.last
    × Below l.s l.last

abbrev pub decreases-loop-i : goal.decreases-loop-i
decreases-loop-i g l = l.self.size - l.i
