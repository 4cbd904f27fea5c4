use Rattle.promises.proofs.Every.{goes_on}
use Rattle.cache.proofs.cache.Cache.get.Goals as goal

pub returns-clause-promise : goal.returns-clause-promise
returns-clause-promise g c = goes_on g.K.Key.sameness g.K.Key.place g.met.K.Key.laws _ _ _ c.fetch.ensures.step
