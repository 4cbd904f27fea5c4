use Rattle.std.proofs.Common.{vec_items}
use Rattle.runs.specs.Asks.{hand}
use Rattle.runs.specs.Runs.{scene}
use Rattle.runs.proofs.Ran.{ran}
use Rattle.runs.proofs.whole.run_in.Goals as goal

pub returns-clause-ended : goal.returns-clause-ended
returns-clause-ended g c =
    ran g.K.Key g.D.Directory g.O.Order c.args.mark c.args.chunk c.args.asks.now
    (scene c.args.directory c.args.order (hand (vec_items c.args.leases.now) c.args.slab.now) (vec_items c.args.happenings.now))
    (hand (vec_items c.settle.new.leases) c.serve.new.slab) c.into_parts.result.0 c.into_parts.result.1 (vec_items c.settle.new.happenings) (vec_items c.serve.new.happenings) _
    (hand (vec_items c.serve.new.leases) c.serve.new.slab) c.new-cache.result c.settle.new.cache
    c.new-cache.ensures.promise c.new-cache.ensures.made c.serve.ensures.goes (c.settle.ensures c.serve.new.slab) c.into_parts.ensures.directory c.into_parts.ensures.order
