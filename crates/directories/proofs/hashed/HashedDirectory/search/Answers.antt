use Rattle.std.proofs.Common.{◌%◌, ◌<◌, ◌≤◌, length, sym, ap, arith, rules}
use borrow.Author.Rules.{scaled_Fits}
use Rattle.directories.specs.Cells.{keys_of, heads_of, nexts_of}
use Rattle.directories.proofs.Columns.{read}
use Rattle.directories.proofs.Search.{seek_start, seek_next}
use Rattle.directories.proofs.hashed.HashedDirectory.search.Goals as goal

pub loop-i-init : goal.loop-i-init
loop-i-init g c =
    let s = c.args.self.now in
    let long : c.args.self.now.size ≤ length c.args.self.now.cells.now = s.held.sound.within in
    let bm : c.home.result % s.size < s.size = search rules in
    seek_start g.K.Key.sameness g.K.Key.place g.met.K.Key.laws s.size c.args.key.now
    (keys_of s.cells.now) (heads_of s.cells.now) (nexts_of s.cells.now) s.held.sound.chained
    (c.home.result % s.size) (ap (λ h. h % s.size) c.home.ensures) bm _
    (read (λ x. x.head) s.cells.now (c.home.result % s.size) c.index-self-bucket.result 0 (omega (arith, bm)))

pub loop-i-preserved : goal.loop-i-preserved
loop-i-preserved g c =
    let s = c.args.self.now in
    let long : c.args.self.now.size ≤ length c.args.self.now.cells.now = s.held.sound.within in
    let im : c.loop-i.i < c.args.self.now.size = omega (arith, c.loop-i-test.true) in
    let bm : c.home.result % s.size < s.size = search rules in
    seek_next g.K.Key.sameness g.K.Key.place g.met.K.Key.laws s.size c.args.key.now
    (keys_of s.cells.now) (heads_of s.cells.now) (nexts_of s.cells.now) s.held.sound.chained
    (c.home.result % s.size) (ap (λ h. h % s.size) c.home.ensures) bm
    c.loop-i.i _ c.loop-i.invariant im (sym c.if-holds.ensures)
    (read (λ x. x.next) s.cells.now c.loop-i.i c.index-self-i.result 0 (omega arith))

pub offset_bounds-self-i : goal.offset_bounds-self-i
offset_bounds-self-i g c =
    let long : c.args.self.now.size ≤ length c.args.self.now.cells.now = c.args.self.now.held.sound.within in
    let il : c.loop-i.i < length c.args.self.now.cells.now = omega (arith, c.loop-i-test.true) in
    scaled_Fits c.loop-i.i (length c.args.self.now.cells.now) _ il (search rules)
