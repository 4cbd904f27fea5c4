use Rattle.std.proofs.Common.{◌-◌, take, ap, arith}
use Rattle.orders.specs.Meaning.{OrderMeaning, holding}
use Rattle.orders.specs.FlatTable.{flat_order}
use Rattle.orders.specs.FlatTables.{expel_over, expel_neat, expel_leaver, expel_waiting}
use Rattle.orders.proofs.flat.FlatOrderOrder.expel.Goals as goal

pub lower_first-requires-clause-over : goal.lower_first-requires-clause-over
lower_first-requires-clause-over c =
    let o = c.args.self.now in
    expel_over o.entries o.count c.first_least-i.result c.first_least-i.ensures (take (o.count - 1) c.close_gap.new.entries) c.close_gap.ensures

pub invariant_of-self : goal.invariant_of-self
invariant_of-self c =
    let o = c.args.self.now in
    let n = o.count - 1 in
    record {
      few = omega arith;
      neat = expel_neat o.entries o.count c.first_least-i.result c.first_least-i.ensures (take n c.close_gap.new.entries) c.close_gap.ensures
          (take n c.lower_first.new.entries) c.lower_first.ensures o.neat;
    }

pub returns : goal.returns
returns c =
    let o = c.args.self.now in
    let i = c.first_least-i.result in
    let m : OrderMeaning = flat_order (take o.count o.entries) in
    let n = o.count - 1 in
    record {
      answer = expel_leaver o.entries o.count i c.first_least-i.ensures;
      after = ap (holding m) (expel_waiting o.entries o.count i c.first_least-i.ensures (take n c.close_gap.new.entries) c.close_gap.ensures
          (take n c.lower_first.new.entries) c.lower_first.ensures);
    }
