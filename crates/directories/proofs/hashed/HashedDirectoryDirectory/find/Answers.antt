use Rattle.directories.proofs.Entries.{find_means}
use Rattle.directories.proofs.hashed.HashedDirectoryDirectory.find.Goals as goal

pub returns : goal.returns
returns g c =
    find_means g.met.K.Key.laws c.args.self.now.held.sound
    c.args.key.now c.search.result c.args.self.now.capacity c.search.ensures
