use Rattle.std.proofs.Common.{◌≡◌, replicate, None, ap, arith}
use Rattle.directories.specs.Numbers.{register}
use Rattle.directories.proofs.Registers.{rank_new, first_none, none_at}
use Rattle.directories.proofs.numbered.NumberedDirectory.sized.Goals as goal

pub invariant_of-result : goal.invariant_of-result
invariant_of-result c =
    let keys : c.truncate.new.self.items ≡ replicate c.args.size None = first_none c.args.size 1024 _ _ _ (omega arith) c.truncate.ensures.items c.from-keys.ensures.0 c.nothing.ensures in
    record {
      ranked = rw keys (rank_new c.free_all.new.frees.items c.nothing-2.result c.args.capacity c.args.size c.requires.small c.requires.within c.free_all.ensures
          (λ r. rw c.nothing-2.ensures (none_at 4096 r)));
    }

pub returns : goal.returns
returns c = ap (λ ks. register ks c.args.capacity)
    (first_none c.args.size 1024 _ _ _ (omega arith) c.truncate.ensures.items c.from-keys.ensures.0 c.nothing.ensures)
