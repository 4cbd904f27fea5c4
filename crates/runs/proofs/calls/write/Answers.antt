use Rattle.std.proofs.Common.{sym, arith}
use Rattle.runs.proofs.Arms.{does_write, idle_write}
use Rattle.runs.proofs.calls.write.Goals as goal

pub returns-then-place-leases : goal.returns-then-place-leases
returns-then-place-leases g c = λ whole e. idle_write g.K.Key.sameness _ _ _ whole c.args.place c.if-place-leases.true

pub returns : goal.returns
returns g c = λ whole e.
    does_write g.K.Key.sameness _ _ _ _ _ _ whole c.args.place _ _ _ (sym e) (omega (arith, c.if-place-leases.false)) c.write-answer.ensures.step c.ticket.ensures
