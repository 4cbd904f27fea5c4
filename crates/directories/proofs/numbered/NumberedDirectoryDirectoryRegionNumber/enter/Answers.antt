use Rattle.std.proofs.Common.{◌≡◌, ◌<◌, ◌++◌, [], ◌∷◌, length, Some, None, sym, ap, ◌∙◌, arith, rules}
use Rattle.std.specs.Option.{option_to_list}
use Rattle.directories.specs.Numbers.{register}
use Rattle.directories.proofs.Registers.{rank_in, refilled, accepts, top_unused}
use Rattle.directories.proofs.numbered.NumberedDirectoryDirectoryRegionNumber.enter.Goals as goal

pub invariant_of-self-2 : goal.invariant_of-self-2
invariant_of-self-2 c =
    let s = c.args.self.now in
    let low : c.args.key.number < 4096 = search rules in
    let long : c.args.key.number < length c.args.self.now.slots = omega arith in
    let absent : c.find.result ≡ None = search rules in
    let top : c.args.self.now.frees.items ≡ c.pop.new.self.items ++ c.in_ok-slot.slot ∷ [] =
    c.pop.ensures.items ∙ ap (λ o. c.pop.new.self.items ++ option_to_list o) c.in_ok-slot.was in
    record {
      ranked = rw (refilled s.keys.items c.deref_mut.result.now c.in_ok-slot.slot (Some c.args.key) c.deref_mut.ensures.value)
          (rank_in s.ranked c.args.key c.in_ok-slot.slot c.pop.new.self.items top low long (sym c.find.ensures ∙ absent));
    }

pub returns : goal.returns
returns c =
    let s = c.args.self.now in
    let low : c.args.key.number < 4096 = search rules in
    let absent : c.find.result ≡ None = search rules in
    let top : c.args.self.now.frees.items ≡ c.pop.new.self.items ++ c.in_ok-slot.slot ∷ [] =
    c.pop.ensures.items ∙ ap (λ o. c.pop.new.self.items ++ option_to_list o) c.in_ok-slot.was in
    record {
      means = (
        accepts s.ranked c.args.key c.in_ok-slot.slot c.pop.new.self.items top low (sym c.find.ensures ∙ absent),
        top_unused s.ranked c.args.key c.in_ok-slot.slot c.pop.new.self.items top,
        ap (λ ks. register ks s.capacity) (refilled s.keys.items c.deref_mut.result.now c.in_ok-slot.slot (Some c.args.key) c.deref_mut.ensures.value),
      );
    }
