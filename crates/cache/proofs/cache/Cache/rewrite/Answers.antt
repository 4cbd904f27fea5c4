use Rattle.cache.specs.Leases.{ticket_of}
use Rattle.cache.proofs.Slabs.{write_fits}
use Rattle.cache.proofs.cache.Cache.rewrite.Goals as goal

pub fill-requires : goal.fill-requires
fill-requires g c =
    write_fits g.K.Key.sameness g.met.K.Key.laws _ c.args.self.now.sound (ticket_of c.args.lease.now) _ _ _ _ c.is_short.ensures c.if-is_short.false c.knows.ensures.answer c.if-not-knows.false c.if-value-self.false
