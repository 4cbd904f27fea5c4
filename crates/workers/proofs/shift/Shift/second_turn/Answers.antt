use Rattle.std.proofs.Common.{◌∙◌}
use Rattle.keys.specs.Regions.{same_number}
use Rattle.borrowers.proofs.Loans.{loan_keeps}
use Rattle.workers.proofs.shift.Shift.second_turn.Goals as goal

pub give_back-requires : goal.give_back-requires
give_back-requires g c = c.collapse.ensures.leases.kept _ ∙ c.in-Some.ensures.lends.1

pub returns-in-Some-clause-leases : goal.returns-in-Some-clause-leases
returns-in-Some-clause-leases g c =
    loan_keeps same_number _ _ _ _ _ _ c.collapse.new.self.cache.now.sound c.in-Some.ensures.lends.0 c.collapse.ensures.leases c.give_back.ensures.step
