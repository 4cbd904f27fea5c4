use Rattle.std.proofs.Common.{◌≤◌, length, arith}
use Rattle.directories.proofs.Registers.{rank_new, none_at}
use Rattle.directories.proofs.numbered.NumberedDirectoryDirectoryRegionNumber.empty.Goals as goal

pub invariant_of-self : goal.invariant_of-self
invariant_of-self c =
    let s = c.args.self.now in
    let small : c.args.self.now.capacity ≤ 1024 = s.ranked.small in
    record {
      ranked = rw c.clear_keys.ensures (rank_new c.free_all.new.frees.items c.clear.new.places s.capacity c.min-least.result small (omega arith) c.free_all.ensures
          (λ r. rw c.clear.ensures (none_at (length s.slots) r)));
    }
