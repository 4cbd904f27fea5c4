use Rattle.replays.proofs.Piles.{pile_refuses}
use Rattle.replays.proofs.regtrace.pile_stands.Goals as goal

pub returns : goal.returns
returns c = pile_refuses
