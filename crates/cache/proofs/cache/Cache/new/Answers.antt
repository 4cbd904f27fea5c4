use Rattle.std.proofs.Common.{sym, subst}
use Rattle.promises.specs.State.{Sound}
use Rattle.promises.proofs.Every.{every_line}
use Rattle.promises.proofs.Sounds.{sound_made}
use Rattle.cache.specs.Whole.{making}
use Rattle.cache.proofs.States.{new_made}
use Rattle.cache.proofs.cache.Cache.new.Goals as goal

pub invariant_of-result : goal.invariant_of-result
invariant_of-result g c =
    let same_as_made = new_made (g.D.Directory.meaning c.args.directory) _ (g.O.Order.meaning c.args.order) _ c.args.mark c.args.chunk _ _ _ _
    c.empty.ensures.after c.size.ensures c.min.ensures c.empty-2.ensures.means c.clamp.ensures c.blank_records-records.ensures in
    record { sound = subst (λ x. Sound g.K.Key.sameness x) (sym same_as_made) (sound_made g.K.Key.sameness (making g.D.Directory g.O.Order c.args.directory c.args.order c.args.mark c.args.chunk)) }

pub returns-clause-promise : goal.returns-clause-promise
returns-clause-promise g c = every_line g.K.Key.sameness g.K.Key.place g.met.K.Key.laws _
