use Rattle.keys.specs.Regions.{same_number}
use Rattle.borrowers.proofs.Loans.{keeps_all, loan_keeps, taken_back}
use Rattle.workers.proofs.shift.Shift.ask_for.Goals as goal

pub returns-in-Some-clause-leases : goal.returns-in-Some-clause-leases
returns-in-Some-clause-leases g c =
    loan_keeps same_number _ _ _ _ c.args.key _ c.lease.new.self.cache.now.sound c.in-Some.ensures.lends.0 (keeps_all same_number _)
    (taken_back same_number _ _ _ _ c.unwrap.ensures c.give_back.ensures.step)
