use Rattle.cache.proofs.Slabs.{drop_done}
use Rattle.cache.proofs.cache.Cache.remove.Goals as goal

pub invariant_of-self : goal.invariant_of-self
invariant_of-self g c = record {
  sound = (drop_done g.K.Key.sameness g.met.K.Key.laws _ c.args.self.now.sound c.args.key.now _ _ _ c.in_ok-slot.ensures c.withdraw.ensures.after c.remove.ensures.means).1;
}
