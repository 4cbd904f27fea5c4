use Rattle.cache.specs.Leases.{ticket_of}
use Rattle.cache.proofs.Lends.{give_done}
use Rattle.cache.proofs.cache.Cache.take_back.Goals as goal

pub invariant_of-self : goal.invariant_of-self
invariant_of-self g c =
    record { sound = (give_done g.K.Key.sameness g.met.K.Key.laws _ c.args.self.now.sound (ticket_of c.args.lease) _ _ c.knows.ensures.answer c.if-not-knows.false c.place.ensures.after).1 }
