use Rattle.std.proofs.Common.{sym}
use Rattle.cache.proofs.Keeps.{refresh_room, keep_refreshes, keep_takes, keep_all_out, left_room, keep_evicts}
use Rattle.cache.proofs.cache.Cache.store.Goals as goal

pub settle-requires-clause-room : goal.settle-requires-clause-room
settle-requires-clause-room g c =
    refresh_room g.K.Key.sameness g.met.K.Key.laws _ c.args.self.now.sound c.args.key c.args.cost c.args.value.now c.args.slab.now (sym c.in_ok-check.ensures) _ c.in-Some.ensures.slot

pub invariant_of-self : goal.invariant_of-self
invariant_of-self g c =
    let kept = keep_refreshes g.K.Key.sameness g.met.K.Key.laws _ c.args.self.now.sound c.args.key c.args.cost c.args.value.now c.args.slab.now (sym c.in_ok-check.ensures)
    _ _ _ _ _ (sym c.in-Some.ensures.slot) c.withdraw.ensures.after c.settle.ensures.order c.settle.ensures.table c.settle.ensures.bytes in
    record { sound = kept.1 }

pub invariant_of-self-in-Some-enter : goal.invariant_of-self-in-Some-enter
invariant_of-self-in-Some-enter g c =
    let e = c.settle-in-Some-enter.ensures in
    let kept = keep_takes g.K.Key.sameness g.met.K.Key.laws _ c.args.self.now.sound c.args.key c.args.cost c.args.value.now c.args.slab.now (sym c.in_ok-check.ensures)
    (sym c.in_default.ensures.slot) _ _ _ _ _ c.in-Some-enter.ensures.means e.order e.table e.bytes in
    record { sound = kept.1 }

pub returns-in-Some-enter : goal.returns-in-Some-enter
returns-in-Some-enter g c =
    let e = c.settle-in-Some-enter.ensures in
    (keep_takes g.K.Key.sameness g.met.K.Key.laws _ c.args.self.now.sound c.args.key c.args.cost c.args.value.now c.args.slab.now (sym c.in_ok-check.ensures)
    (sym c.in_default.ensures.slot) _ _ _ _ _ c.in-Some-enter.ensures.means e.order e.table e.bytes).0

pub returns-in_default-evict : goal.returns-in_default-evict
returns-in_default-evict g c =
    keep_all_out g.K.Key.sameness g.met.K.Key.laws _ c.args.self.now.sound c.args.key c.args.cost c.args.value.now c.args.slab.now (sym c.in_ok-check.ensures)
    (sym c.in_default.ensures.slot) _ c.in_default-enter.ensures.means _ c.in_default-evict.ensures

pub unreachable-requires : goal.unreachable-requires
unreachable-requires g c =
    left_room g.K.Key.sameness g.met.K.Key.laws _ c.args.self.now.sound c.args.key c.args.cost c.args.value.now c.args.slab.now (sym c.in_ok-check.ensures)
    (sym c.in_default.ensures.slot) _ c.in_default-enter.ensures.means _ _ c.in-Some-evict.ensures _ c.in_default-enter-2.ensures.means

pub invariant_of-self-2 : goal.invariant_of-self-2
invariant_of-self-2 g c =
    let e = c.settle-2.ensures in
    let kept = keep_evicts g.K.Key.sameness g.met.K.Key.laws _ c.args.self.now.sound c.args.key c.args.cost c.args.value.now c.args.slab.now (sym c.in_ok-check.ensures)
    (sym c.in_default.ensures.slot) _ c.in_default-enter.ensures.means _ _ c.in-Some-evict.ensures _ _ _ _ _ c.in-Some-enter-2.ensures.means e.order e.table e.bytes in
    record { sound = kept.1 }

pub returns : goal.returns
returns g c =
    let e = c.settle-2.ensures in
    (keep_evicts g.K.Key.sameness g.met.K.Key.laws _ c.args.self.now.sound c.args.key c.args.cost c.args.value.now c.args.slab.now (sym c.in_ok-check.ensures)
    (sym c.in_default.ensures.slot) _ c.in_default-enter.ensures.means _ _ c.in-Some-evict.ensures _ _ _ _ _ c.in-Some-enter-2.ensures.means e.order e.table e.bytes).0
