use Rattle.std.proofs.Common.{◌<◌, length, is_some, None, sym, ap, ◌∙◌, arith}
use Rattle.directories.specs.Meaning.{freed}
use Rattle.directories.specs.Numbers.{register}
use Rattle.directories.specs.Numbered.{numbered_meaning}
use Rattle.directories.proofs.Registers.{rank_out, refilled, bounds}
use Rattle.directories.proofs.numbered.NumberedDirectoryDirectoryRegionNumber.remove.Goals as goal

pub offset_bounds-deref_mut-slot : goal.offset_bounds-deref_mut-slot
offset_bounds-deref_mut-slot c = let b = bounds c.args.self.now.ranked c.args.key.now c.in-Some.slot (sym c.in-Some.ensures) in omega arith

pub bounds-deref_mut-slot : goal.bounds-deref_mut-slot
bounds-deref_mut-slot c = rw c.deref_mut.ensures.value ((bounds c.args.self.now.ranked c.args.key.now c.in-Some.slot (sym c.in-Some.ensures)).0)

pub bounds-self-key : goal.bounds-self-key
bounds-self-key c = (bounds c.args.self.now.ranked c.args.key.now c.in-Some.slot (sym c.in-Some.ensures)).2

pub overflow_cast-slot : goal.overflow_cast-slot
overflow_cast-slot c = let b = bounds c.args.self.now.ranked c.args.key.now c.in-Some.slot (sym c.in-Some.ensures) in omega arith

pub push-requires : goal.push-requires
push-requires c = let b = bounds c.args.self.now.ranked c.args.key.now c.in-Some.slot (sym c.in-Some.ensures) in (omega arith, b.3)

pub invariant_of-self : goal.invariant_of-self
invariant_of-self c =
    let s = c.args.self.now in
    let k = c.args.key.now in
    let b = bounds s.ranked k c.in-Some.slot (sym c.in-Some.ensures) in
    let long : c.args.key.now.number < length c.args.self.now.slots = omega arith in
    record {
      ranked = rw (refilled s.keys.items c.deref_mut.result.now c.in-Some.slot None c.deref_mut.ensures.value, c.push.ensures.items)
          (rank_out s.ranked k c.in-Some.slot (sym c.in-Some.ensures) long);
    }

pub returns : goal.returns
returns c =
    let s = c.args.self.now in
    record {
      answer = ap is_some c.in-Some.ensures;
      means = ap (λ ks. register ks s.capacity) (refilled s.keys.items c.deref_mut.result.now c.in-Some.slot None c.deref_mut.ensures.value)
          ∙ ap (freed (numbered_meaning s)) c.in-Some.ensures;
    }
