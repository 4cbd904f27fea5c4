use Rattle.std.proofs.Common.{sym}
use Rattle.promises.proofs.Seeks.{found_held}
use Rattle.cache.proofs.Slabs.{get_fits}
use Rattle.cache.proofs.cache.Cache.fetch.Goals as goal

pub touch-requires : goal.touch-requires
touch-requires g c = found_held g.K.Key.sameness (g.D.Directory.meaning c.args.self.now.directory) c.args.key.now _ (sym c.in-Some.ensures.slot)

pub slice_bounds-result-end : goal.slice_bounds-result-end
slice_bounds-result-end g c = get_fits g.K.Key.sameness g.met.K.Key.laws _ c.args.self.now.sound c.args.key.now _ _ _ _ c.is_short.ensures c.if-is_short.false c.find.ensures.slot c.in-Some.is
