use Rattle.std.proofs.Common.{sym}
use Rattle.cache.proofs.Slabs.{touch_sound}
use Rattle.cache.proofs.cache.Cache.touch.Goals as goal

pub invariant_of-self : goal.invariant_of-self
invariant_of-self g c = record {
  sound = touch_sound g.K.Key.sameness g.met.K.Key.laws _ c.args.self.now.sound c.args.slot _ _ c.requires (sym c.if-is_out.ensures) c.withdraw.ensures.after c.place.ensures.after;
}
