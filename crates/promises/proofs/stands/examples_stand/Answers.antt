use Rattle.promises.proofs.Examples.{examples}
use Rattle.promises.proofs.stands.examples_stand.Goals as goal

pub returns : goal.returns
returns c = examples
