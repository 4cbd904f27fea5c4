use Rattle.std.proofs.Common.{◌≡◌, ◌<◌, ◌≤◌, true, length, is_some, None, refl, arith, rules}
use borrow.Author.Rules.{scaled_Fits}
use Rattle.directories.specs.Tables.{Located}
use Rattle.directories.proofs.Entries.{enter_full, enter_there}
use Rattle.directories.proofs.Changes.{put}
use Rattle.directories.proofs.hashed.HashedDirectoryDirectory.enter.Goals as goal

pub returns-then-self-eq0 : goal.returns-then-self-eq0
returns-then-self-eq0 g c =
    let s = c.args.self.now in
    record { means = enter_full g.met.K.Key.laws s.held.sound c.args.key s.capacity c.if-self-eq0.true; rest = refl }

pub returns-then-known : goal.returns-then-known
returns-then-known g c =
    let s = c.args.self.now in
    let known : is_some c.search.result ≡ true = search rules in
    record { means = enter_there g.met.K.Key.laws s.held.sound c.args.key s.capacity c.search.result c.search.ensures known; rest = refl }

pub offset_bounds-cells-slot : goal.offset_bounds-cells-slot
offset_bounds-cells-slot g c =
    let long : c.args.self.now.size ≤ length c.args.self.now.cells.now = c.args.self.now.held.sound.within in
    let l : c.top-slot.result < length c.args.self.now.cells.now = omega (arith, c.top-slot.ensures.below) in
    scaled_Fits c.top-slot.result (length c.args.self.now.cells.now) _ l (search rules)

pub invariant_of-self : goal.invariant_of-self
invariant_of-self g c =
    let s = c.args.self.now in
    let absent : c.search.result ≡ None = search rules in
    let none : Located g.K.Key.sameness c.args.self.now.cells.now c.args.self.now.size c.args.key None = rw absent at c.search.ensures in
    record {
      held = (put g.met.K.Key.laws s.held c.args.key c.top-slot.result c.bucket-bucket.result c.relink-next.result c.before-before.result c.relink-next.new.cells c.index-cells-slot.result
          (omega (arith, c.if-self-eq0.false)) c.top-slot.ensures.value none c.bucket-bucket.ensures.value c.bucket-bucket.ensures.below c.before-before.ensures.last
          c.relink-next.auto.cells c.relink-next.ensures.led c.relink-next.ensures.leads).0;
    }

pub returns : goal.returns
returns g c =
    let s = c.args.self.now in
    let absent : c.search.result ≡ None = search rules in
    let none : Located g.K.Key.sameness c.args.self.now.cells.now c.args.self.now.size c.args.key None = rw absent at c.search.ensures in
    let done = put g.met.K.Key.laws s.held c.args.key c.top-slot.result c.bucket-bucket.result c.relink-next.result c.before-before.result c.relink-next.new.cells c.index-cells-slot.result
    (omega (arith, c.if-self-eq0.false)) c.top-slot.ensures.value none c.bucket-bucket.ensures.value c.bucket-bucket.ensures.below c.before-before.ensures.last
    c.relink-next.auto.cells c.relink-next.ensures.led c.relink-next.ensures.leads in
    record { means = done.1; rest = done.2 }
