use Rattle.borrowers.proofs.Loans.{keep_keeps}
use Rattle.cache_tests.proofs.calls.agrees.Goals as goal

pub returns-in-Keep : goal.returns-in-Keep
returns-in-Keep g c = keep_keeps g.K.Key.sameness _ _ _ _ _ _ _ c.keep-kept.result c.args.cache.now.sound c.keep-kept.ensures.step
