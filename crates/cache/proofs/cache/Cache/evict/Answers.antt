use Rattle.std.proofs.Common.{sym}
use Rattle.cache.proofs.Keeps.{evict_done, evict_sound}
use Rattle.cache.proofs.cache.Cache.evict.Goals as goal

pub invariant_of-self-2 : goal.invariant_of-self-2
invariant_of-self-2 g c = record {
  sound = evict_sound g.K.Key.sameness g.met.K.Key.laws _ c.args.self.now.sound _ _
      (evict_done g.K.Key.sameness g.met.K.Key.laws _ c.args.self.now.sound _ _ _ _ (sym c.in_ok-first.ensures.answer) (sym c.in-Some.ensures) c.remove.ensures.means c.expel.ensures.after);
}

pub returns : goal.returns
returns g c =
    evict_done g.K.Key.sameness g.met.K.Key.laws _ c.args.self.now.sound _ _ _ _ (sym c.in_ok-first.ensures.answer) (sym c.in-Some.ensures) c.remove.ensures.means c.expel.ensures.after
