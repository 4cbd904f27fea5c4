use Rattle.std.proofs.Common.{◌<◌, ◌≤◌, length, None, is_some, refl, ap, arith, rules}
use Rattle.std.proofs.lemmas.List.{length-set}
use borrow.Author.Rules.{scaled_Fits}
use Rattle.directories.proofs.Entries.{room, find_means, stay_means}
use Rattle.directories.proofs.Changes.{taken}
use Rattle.directories.proofs.hashed.HashedDirectoryDirectory.remove.Goals as goal

pub returns-in_default : goal.returns-in_default
returns-in_default g c =
    let s = c.args.self.now in
    record {
      answer = ap is_some (find_means g.met.K.Key.laws s.held.sound c.args.key.now None s.capacity c.in_default.ensures);
      means = stay_means g.met.K.Key.laws s.held.sound c.args.key.now s.capacity c.in_default.ensures;
      rest = refl;
    }

pub offset_bounds-cells-slot-2 : goal.offset_bounds-cells-slot-2
offset_bounds-cells-slot-2 g c =
    let long : c.args.self.now.size ≤ length c.args.self.now.cells.now = c.args.self.now.held.sound.within in
    let l : c.in-Some.slot < length c.args.self.now.cells.now = omega (arith, c.in-Some.ensures.0) in
    scaled_Fits c.in-Some.slot (length c.args.self.now.cells.now) _ l (search rules)

pub offset_bounds-cells-free : goal.offset_bounds-cells-free
offset_bounds-cells-free g c =
    let l : c.args.self.now.free < length c.args.self.now.cells.now = room g.met.K.Key.laws c.args.self.now.held.sound c.args.key.now c.in-Some.slot c.in-Some.ensures in
    scaled_Fits c.args.self.now.free (length c.args.self.now.cells.now) _ l (search rules)

pub bounds-cells-free : goal.bounds-cells-free
bounds-cells-free g c = rw (length-set, c.relink.auto.cells) (room g.met.K.Key.laws c.args.self.now.held.sound c.args.key.now c.in-Some.slot c.in-Some.ensures)

pub bounds-cells-free-in-Some : goal.bounds-cells-free-in-Some
bounds-cells-free-in-Some g c = bounds-cells-free g c

pub invariant_of-self : goal.invariant_of-self
invariant_of-self g c =
    record {
      held = (taken g.met.K.Key.laws c.args.self.now.held c.args.key.now c.in-Some.slot c.bucket-bucket.result c.before-before.result
          c.relink.new.cells c.index-cells-slot-2.result c.index-cells-free.result c.index-cells-slot.result c.in-Some.ensures
          c.bucket-bucket.ensures.value c.bucket-bucket.ensures.below c.before-before.ensures.last c.relink.auto.cells c.relink.ensures.leads).0;
    }

pub returns : goal.returns
returns g c =
    let done = taken g.met.K.Key.laws c.args.self.now.held c.args.key.now c.in-Some.slot c.bucket-bucket.result c.before-before.result
    c.relink.new.cells c.index-cells-slot-2.result c.index-cells-free.result c.index-cells-slot.result c.in-Some.ensures
    c.bucket-bucket.ensures.value c.bucket-bucket.ensures.below c.before-before.ensures.last c.relink.auto.cells c.relink.ensures.leads in
    record { answer = done.1; means = done.2; rest = done.3 }
