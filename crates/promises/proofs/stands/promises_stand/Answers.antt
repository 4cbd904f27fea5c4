use Rattle.promises.proofs.Every.{every_line}
use Rattle.promises.proofs.stands.promises_stand.Goals as goal

pub returns : goal.returns
returns g c = every_line g.K.Key.sameness g.K.Key.place g.met.K.Key.laws
