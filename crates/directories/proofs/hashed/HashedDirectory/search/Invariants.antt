use Rattle.std.proofs.Common.{◌≡◌, ℕ, ◌-◌, ◌<◌, ◌≤◌, true, false, get_or, None}
use Rattle.directories.specs.Cells.{keys_of}
use Rattle.directories.specs.Meaning.{holds}
use Rattle.directories.specs.Links.{in_bucket}
use Rattle.directories.proofs.hashed.HashedDirectory.search.Given as goal

abbrev pub invariant-loop-i : goal.invariant-loop-i
invariant-loop-i g l =
    (l.i ≤ l.self.size)
    × ((k : ℕ) → k < l.i → holds g.K.Key.sameness l.key (get_or (keys_of l.self.cells.now) k None) ≡ false)
    × (l.i < l.self.size → in_bucket g.K.Key.place l.self.size (keys_of l.self.cells.now) l.bucket l.i ≡ true)

abbrev pub decreases-loop-i : goal.decreases-loop-i
decreases-loop-i g l = l.self.size - l.i
