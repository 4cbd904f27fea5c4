use Rattle.runs.proofs.Arms.{does_lease, does_refuse}
use Rattle.runs.proofs.calls.lend.Goals as goal

pub returns-in-Ok-clause-does : goal.returns-in-Ok-clause-does
returns-in-Ok-clause-does g c = λ slab. does_lease g.K.Key.sameness _ _ _ _ slab c.args.key _ _ c.in-Ok.ensures.step c.ticket-ticket.ensures c.push_reserved.ensures.items

pub returns-in-Err-clause-does : goal.returns-in-Err-clause-does
returns-in-Err-clause-does g c = λ slab. does_refuse g.K.Key.sameness _ _ _ slab c.args.key _ c.in-Err.ensures.step
