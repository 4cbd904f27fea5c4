use Rattle.std.proofs.Common.{◌<◌, ◌≤◌, length, arith, rules}
use borrow.Author.Rules.{scaled_Fits}
use Rattle.directories.specs.Cells.{keys_of, heads_of, nexts_of}
use Rattle.directories.proofs.Columns.{read}
use Rattle.directories.proofs.Moves.{last_below}
use Rattle.directories.proofs.Search.{near_start, near_next, near_end}
use Rattle.directories.proofs.hashed.HashedDirectory.before.Goals as goal

pub loop-i-init : goal.loop-i-init
loop-i-init g c =
    let s = c.args.self.now in
    let long : c.args.self.now.size ≤ length c.args.self.now.cells.now = s.held.sound.within in
    near_start g.K.Key.place s.size
    (keys_of s.cells.now) (heads_of s.cells.now) (nexts_of s.cells.now) s.held.sound.chained
    c.args.bucket c.args.s c.requires.bucket c.requires.below _
    (read (λ x. x.head) s.cells.now c.args.bucket c.index-self-bucket.result 0 (omega (arith, c.requires.bucket)))

pub loop-i-preserved : goal.loop-i-preserved
loop-i-preserved g c =
    let s = c.args.self.now in
    let long : c.args.self.now.size ≤ length c.args.self.now.cells.now = s.held.sound.within in
    let is : c.loop-i.i < c.args.s = omega (arith, c.loop-i-test.true) in
    near_next g.K.Key.place s.size
    (keys_of s.cells.now) (heads_of s.cells.now) (nexts_of s.cells.now) s.held.sound.chained
    c.args.bucket c.args.s c.requires.bucket c.requires.below
    c.loop-i.i _ c.loop-i.last c.loop-i.invariant is
    (read (λ x. x.next) s.cells.now c.loop-i.i c.index-self-i.result 0 (omega (arith, c.requires.below)))

pub offset_bounds-self-i : goal.offset_bounds-self-i
offset_bounds-self-i g c =
    let long : c.args.self.now.size ≤ length c.args.self.now.cells.now = c.args.self.now.held.sound.within in
    let il : c.loop-i.i < length c.args.self.now.cells.now = omega (arith, c.loop-i-test.true, c.requires.below) in
    scaled_Fits c.loop-i.i (length c.args.self.now.cells.now) _ il (search rules)

pub returns : goal.returns
returns g c =
    let s = c.args.self.now in
    let last = near_end g.K.Key.place s.size
    (keys_of s.cells.now) (heads_of s.cells.now) (nexts_of s.cells.now) s.held.sound.chained
    c.args.bucket c.args.s c.requires.bucket c.requires.below
    c.loop-i.i c.loop-i.last c.loop-i.invariant c.loop-i-test.false in
    record {
      last = last;
      within = last_below _ c.args.s s.size c.loop-i.last last (omega (arith, c.requires.below));
    }
