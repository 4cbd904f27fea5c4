use Rattle.std.proofs.Common.{◌≡◌, false, take, sym, ap, subst, ◌∙◌, arith}
use Rattle.orders.specs.Meaning.{OrderMeaning, waits, holding}
use Rattle.orders.specs.FlatTable.{flat_order, Neat}
use Rattle.orders.proofs.Meanings.{withdrawn_no}
use Rattle.orders.specs.FlatTables.{flat_waits, found_waits, found_gone, neat_removed}
use Rattle.orders.proofs.flat.FlatOrderOrder.withdraw.Goals as goal

pub invariant_of-self : goal.invariant_of-self
invariant_of-self c =
    let o = c.args.self.now in
    record {
      few = omega arith;
      neat = subst Neat (sym c.close_gap.ensures) (neat_removed (take o.count o.entries) c.in-Some.at c.in-Some.ensures.0 o.neat);
    }

pub returns-in-None : goal.returns-in-None
returns-in-None c =
    let o = c.args.self.now in
    let xs = take o.count o.entries in
    let s = c.args.slot in
    let m : OrderMeaning = flat_order xs in
    let out : waits s m.waiting ≡ false = flat_waits xs s ∙ c.in-None.ensures in
    record { answer = sym out; after = sym (withdrawn_no m s out) }

pub returns-in-Some : goal.returns-in-Some
returns-in-Some c =
    let o = c.args.self.now in
    let xs = take o.count o.entries in
    let s = c.args.slot in
    let i = c.in-Some.at in
    let m : OrderMeaning = flat_order xs in
    record {
      answer = sym (found_waits xs s i c.in-Some.ensures);
      after = ap flat_order c.close_gap.ensures ∙ ap (holding m) (found_gone xs s i c.in-Some.ensures o.neat);
    }
