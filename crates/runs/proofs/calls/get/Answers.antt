use Rattle.std.proofs.Common.{rules}
use Rattle.runs.proofs.Arms.{does_get}
use Rattle.runs.proofs.calls.get.Goals as goal

pub returns : goal.returns
returns g c = λ held. does_get g.K.Key.sameness _ _ held c.args.key c.args.slab c.get-found.result _ c.get-found.ensures.step (search rules)
