use Rattle.std.proofs.Common.{◌≡◌, ◌-◌, ◌≤◌, get_or, length, arith}
use Rattle.directories.specs.Cells.{frees_of}
use Rattle.directories.proofs.Columns.{read}
use Rattle.directories.proofs.Entries.{top_unused, free_within}
use Rattle.directories.proofs.hashed.HashedDirectory.top.Goals as goal

pub returns : goal.returns
returns g c =
    let s = c.args.self.now in
    let few : c.args.self.now.free ≤ length c.args.self.now.cells.now = free_within g.met.K.Key.laws s.held.sound in
    let at : (get_or c.args.self.now.cells.now (c.args.self.now.free - 1) c.index-self-self.result).free ≡ get_or (frees_of c.args.self.now.cells.now) (c.args.self.now.free - 1) 0 =
    read (λ x. x.free) s.cells.now (s.free - 1) c.index-self-self.result 0 (omega (arith, c.requires)) in
    let unused = top_unused g.met.K.Key.laws s.held.sound _ c.requires at in
    record { value = at; below = unused.0; unused = unused.1 }
