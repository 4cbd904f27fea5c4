use Rattle.cache.proofs.States.{found_small}
use Rattle.cache.proofs.cache.Cache.find.Goals as goal

pub returns-clause-below : goal.returns-clause-below
returns-clause-below g c = found_small g.K.Key.sameness _ _ _ c.args.self.now.sound c.find.ensures
