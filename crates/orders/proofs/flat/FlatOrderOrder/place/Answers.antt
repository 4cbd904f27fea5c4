use Rattle.std.proofs.Common.{◌≡◌, ◌<◌, true, false, take, sym, ap, subst, ◌∙◌, arith}
use Rattle.std.proofs.lemmas.List.{take_more_set}
use Rattle.orders.specs.Meaning.{OrderMeaning, takes, holding}
use Rattle.orders.specs.Flat.{entry}
use Rattle.orders.specs.FlatTable.{flat_order, Neat}
use Rattle.orders.proofs.Meanings.{takes_yes, no_room, placed_yes, placed_no}
use Rattle.orders.specs.FlatTables.{permitted_yes, flat_waits, found_waits, flat_placed, place_room, neat_push}
use Rattle.orders.proofs.flat.FlatOrderOrder.place.Goals as goal

pub bounds-self-count : goal.bounds-self-count
bounds-self-count c =
    let o = c.args.self.now in
    let fit = permitted_yes c.args.slot c.args.credit (sym c.if-not-within_limits.ensures) in
    place_room o.entries o.count c.args.slot (omega arith) o.neat fit.0 c.in-None.ensures

pub invariant_of-self : goal.invariant_of-self
invariant_of-self c =
    let o = c.args.self.now in
    let s = c.args.slot in
    let fit = permitted_yes s c.args.credit (sym c.if-not-within_limits.ensures) in
    let inside : o.count < 1024 = place_room o.entries o.count s (omega arith) o.neat fit.0 c.in-None.ensures in
    record {
      few = omega arith;
      neat = subst Neat (sym (take_more_set o.entries o.count (entry s c.args.credit) (omega arith)))
          (neat_push (take o.count o.entries) s c.args.credit o.neat fit.0 c.in-None.ensures fit.2);
    }

pub returns-in-Some : goal.returns-in-Some
returns-in-Some c =
    let o = c.args.self.now in
    let s = c.args.slot in
    let m : OrderMeaning = flat_order (take o.count o.entries) in
    let out : takes m s c.args.credit ≡ false = no_room m s c.args.credit (found_waits (take o.count o.entries) s c.in-Some.field-0 c.in-Some.ensures) in
    record { answer = sym out; after = sym (placed_no m s c.args.credit out) }

pub returns-in-None : goal.returns-in-None
returns-in-None c =
    let o = c.args.self.now in
    let xs = take o.count o.entries in
    let s = c.args.slot in
    let k = c.args.credit in
    let m : OrderMeaning = flat_order xs in
    let fit = permitted_yes s k (sym c.if-not-within_limits.ensures) in
    let in' : takes m s k ≡ true = takes_yes m s k fit.0 (flat_waits xs s ∙ c.in-None.ensures) fit.1 fit.2 in
    let inside : o.count < 1024 = place_room o.entries o.count s (omega arith) o.neat fit.0 c.in-None.ensures in
    record {
      answer = sym in';
      after = ap flat_order (take_more_set o.entries o.count (entry s k) (omega arith)) ∙ ap (holding m) (flat_placed xs s k) ∙ sym (placed_yes m s k in');
    }
