use Rattle.keys.specs.Regions.{same_number}
use Rattle.borrowers.proofs.Loans.{keep_keeps}
use Rattle.workers.proofs.shift.Shift.keep.Goals as goal

pub returns-clause-leases : goal.returns-clause-leases
returns-clause-leases g c =
    keep_keeps same_number _ _ c.args.key c.args.cost c.args.bytes.now c.args.self.now.slab.now c.keep-kept.new.slab c.keep-kept.result c.args.self.now.cache.now.sound c.keep-kept.ensures.step
