use Rattle.std.proofs.Common.{◌≡◌, ◌<◌, false, [], length, sym, refl, ap, ◌∙◌, subst, ap₂, Option}
use Rattle.orders.specs.Rings.{queue, nexts}
use Rattle.orders.specs.Steps.{SoundWith, Migrate}
use Rattle.orders.specs.Meaning.{OrderMeaning, holding, rest, some_due}
use Rattle.orders.proofs.Owns.{clear_waiting}
use Rattle.orders.proofs.Moves.{raise_may, start_all, step_all, first_home, other_home, not_clear, less_rest, none_first}
use Rattle.orders.specs.Merges.{due_none}
use Rattle.orders.proofs.Migrations.{kept_sizes, up_queues, up_memory, up_past}
use Rattle.orders.proofs.Moves.{first_least, climbs_first, climbs_on}
use Rattle.orders.proofs.own.OwnPart.migrate.Goals as goal

pub raise-requires : goal.raise-requires
raise-requires g c =
    let w = c.args.self.now in
    let b = c.args.below.now in
    let m : OrderMeaning = g.O.Order.meaning b in
    let may = raise_may w.queues w.later w.hand m c.requires.sound.linked (g.met.O.Order.lawful b) c.in_ok-first.first c.in_ok-first.ensures.answer in
    record { slot = may.0; below = may.1; idle = may.2 }

pub loop-below-init : goal.loop-below-init
loop-below-init g c =
    let w = c.args.self.now in
    let b = c.args.below.now in
    let m : OrderMeaning = g.O.Order.meaning b in
    let bl = g.met.O.Order.lawful b in
    let x = c.in_ok-first.first in
    let fst = c.in_ok-first.ensures.answer in
    let u = c.raise.new.self in
    let n : OrderMeaning = g.O.Order.meaning c.expel.new.self in
    let r = c.raise.ensures in
    let all = start_all w.queues w.later w.hand m c.requires.sound.linked bl x fst (nexts u.queues.nodes) u.queues.home u.later u.hand n
    r.queues r.homes r.later r.hand c.expel.ensures.after c.requires.bare c.requires.sound.ripe in (
      all.0,
      r.hand,
      refl,
      first_home w.queues w.later w.hand m c.requires.sound.linked bl x fst (nexts u.queues.nodes) u.queues.home u.later u.hand n r.queues r.homes r.later r.hand c.expel.ensures.after,
      refl,
      record { queues = λ q h. refl; memory = refl; past = refl },
    )

pub raise-requires-in-Some : goal.raise-requires-in-Some
raise-requires-in-Some g c =
    let w = c.loop-below.self in
    let b = c.loop-below.below in
    let i = c.loop-below.invariant in
    let may = raise_may w.queues w.later w.hand (g.O.Order.meaning b) i.0 (g.met.O.Order.lawful b) c.in-Some.next c.in-Some.ensures.answer in
    record { slot = may.0; below = may.1; idle = may.2 }

pub loop-below-smaller-in-Some : goal.loop-below-smaller-in-Some
loop-below-smaller-in-Some g c =
    let m : OrderMeaning = g.O.Order.meaning c.loop-below.below in
    subst (λ (n : OrderMeaning). length n.waiting < length m.waiting) (sym c.expel-in-loop-below.ensures.after) (less_rest c.in-Some.next m.waiting c.in-Some.ensures.answer)

pub loop-below-preserved-in-Some : goal.loop-below-preserved-in-Some
loop-below-preserved-in-Some g c =
    let w = c.loop-below.self in
    let b = c.loop-below.below in
    let i = c.loop-below.invariant in
    let m : OrderMeaning = g.O.Order.meaning b in
    let m₀ : OrderMeaning = g.O.Order.meaning c.expel.new.self in
    let bl = g.met.O.Order.lawful b in
    let x = c.in-Some.next in
    let fst = c.in-Some.ensures.answer in
    let u = c.raise-in-Some.new.self in
    let n : OrderMeaning = g.O.Order.meaning c.expel-in-loop-below.new.self in
    let after = c.expel-in-loop-below.ensures.after in
    let s = c.raise-in-Some.ensures in
    let p0 = s.hand ∙ i.1 in
    let due = sym c.loop-below-test.ensures in
    let all = step_all w.queues w.later w.hand m i.0 bl x fst (nexts u.queues.nodes) u.queues.home u.later u.hand n s.queues s.homes s.later p0 after i.1 due in (
      all.0,
      p0,
      all.1 ∙ i.2,
      other_home w.queues w.later w.hand m i.0 bl x fst (nexts u.queues.nodes) u.queues.home u.later u.hand n s.queues s.homes s.later p0 after c.in_ok-first.first.slot i.3,
      kept_sizes m₀ m n after i.4,
      climbs_on w.queues w.later w.hand m i.0 bl x fst (nexts u.queues.nodes) u.later n s.queues s.later after _ _ _ due i.5,
    )

pub returns-in_err-first : goal.returns-in_err-first
returns-in_err-first g c =
    let w = c.args.self.now in
    let m : OrderMeaning = g.O.Order.meaning c.args.below.now in
    let n : OrderMeaning = g.O.Order.meaning c.expel.new.self in
    let none : m.waiting ≡ [] = none_first m.waiting c.in_err-first.ensures.answer in
    let same : n ≡ m = c.expel.ensures.after ∙ ap (λ ws. holding m (rest ws)) none ∙ ap (holding m) (sym none) in
    record {
      sound = subst (SoundWith w) (sym same) c.requires.sound;
      cases = subst (λ (r : Option _). Migrate r w w m n) (sym c.from_residual.ensures) (record {
        nothing = clear_waiting w.queues w.later w.hand m c.requires.sound.linked.hand_in c.requires.bare none;
        none = none;
        own = refl;
        below = same;
      });
    }

pub returns : goal.returns
returns g c =
    let w = c.args.self.now in
    let b = c.args.below.now in
    let m : OrderMeaning = g.O.Order.meaning b in
    let bl = g.met.O.Order.lawful b in
    let x = c.in_ok-first.first in
    let fst = c.in_ok-first.ensures.answer in
    let sound = c.requires.sound in
    let u = c.raise.new.self in
    let i = c.loop-below.invariant in
    let m₀ : OrderMeaning = g.O.Order.meaning c.expel.new.self in
    let r = c.raise.ensures in
    let after = c.expel.ensures.after in
    let all = start_all w.queues w.later w.hand m sound.linked bl x fst (nexts u.queues.nodes) u.queues.home u.later u.hand m₀
    r.queues r.homes r.later r.hand after c.requires.bare sound.ripe in
    let may = raise_may w.queues w.later w.hand m sound.linked bl x fst in
    let v = c.loop-below.self in
    let n : OrderMeaning = g.O.Order.meaning c.loop-below.below in
    let ripe : some_due n.waiting ≡ false = sym c.loop-below-test.ensures in
    let start = climbs_first w.queues w.later w.hand m sound.linked bl x fst (nexts u.queues.nodes) u.later m₀ r.queues r.later after c.requires.bare in
    record {
      sound = record { linked = i.0; ripe = ripe };
      cases = record {
        falls = record { falls = i.2 ∙ all.1; over = all.2 };
        enough = all.3;
        least_is = first_least x m.waiting fst;
        some = not_clear v.queues x.slot may.0 i.3;
        migrated = record {
          hand = i.1;
          queues = λ q h. up_queues _ _ _ (queue (nexts v.queues.nodes)) v.later n.waiting i.5 (due_none n.waiting ripe) q h ∙ start.queues q h;
          moved_up = record {
            later = up_memory _ _ _ (queue (nexts v.queues.nodes)) v.later n.waiting i.5 (due_none n.waiting ripe) ∙ start.memory;
            below = i.4 ∙ ap₂ holding after (up_past _ _ _ (queue (nexts v.queues.nodes)) v.later n.waiting i.5 (due_none n.waiting ripe) ∙ start.past);
          };
        };
      };
    }
