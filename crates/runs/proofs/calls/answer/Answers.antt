use Rattle.std.proofs.Common.{vec_items}
use Rattle.runs.specs.Asks.{hand}
use Rattle.runs.proofs.Arms.{does_as, does_state, does_keep, does_drop}
use Rattle.runs.proofs.calls.answer.Goals as goal

pub returns-in-State-clause-does : goal.returns-in-State-clause-does
returns-in-State-clause-does g c =
    does_as g.K.Key.sameness _ _ _ _ _ _ _ c.in-State.is (does_state g.K.Key.sameness _ (hand (vec_items c.args.leases.now) c.args.slab.now) _ _ c.state.ensures.step)

pub returns-in-Keep-clause-does : goal.returns-in-Keep-clause-does
returns-in-Keep-clause-does g c =
    does_as g.K.Key.sameness _ _ _ _ _ _ _ c.in-Keep.is (does_keep g.K.Key.sameness _ _ (vec_items c.args.leases.now) _ _ _ _ _ _ _ c.as_slice.ensures.value c.keep.ensures.step)

pub returns-in-Drop-clause-does : goal.returns-in-Drop-clause-does
returns-in-Drop-clause-does g c =
    does_as g.K.Key.sameness _ _ _ _ _ _ _ c.in-Drop.is (does_drop g.K.Key.sameness _ _ (hand (vec_items c.args.leases.now) c.args.slab.now) _ _ c.drop.ensures.step)
