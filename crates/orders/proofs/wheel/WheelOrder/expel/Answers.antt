use Rattle.std.proofs.Common.{◌≡◌, ℕ, ◌+◌, ◌-◌, ◌*◌, ◌^◌, ◌<◌, ◌≤◌, Some, sym, ap, ◌∙◌, subst, inr, arith, rules}
use Rattle.orders.specs.declared.Expelled.{Expelled}
use Rattle.orders.specs.declared.Order.{Ghosts}
use Rattle.orders.specs.declared.wheel.Wheel.{Wheel}
use Rattle.orders.specs.Flat.{entry}
use Rattle.orders.specs.Steps.{means}
use Rattle.orders.specs.Meaning.{OrderMeaning, holding, fallen, leaver, expelled}
use Rattle.orders.proofs.Moves.{gone_of, falls_first, falls_rest, first_credit}
use Rattle.orders.specs.Rows.{Bare, BareBetween}
use Rattle.orders.specs.Moved.{row}
use Rattle.orders.specs.Turns.{ExpelledBelow}
use Rattle.orders.proofs.Migrations.{bare_of, expelled_below}
use Rattle.orders.proofs.wheel.WheelOrder.expel.Goals as goal

-- the first pop has changed nothing, and found nothing from the hand on
bare : (O : Type 0) (g : Ghosts O) (w u : Wheel O g) → u ≡ w → BareBetween (row w.own) w.own.hand 256 → Bare (row u.own)
bare O g w u same passed = subst (λ (z : Wheel O g). Bare (row z.own)) (sym same) (bare_of (row w.own) w.own.hand w.sound.linked.spent passed)

pub migrate-requires : goal.migrate-requires
migrate-requires g c =
    let u = c.pop.new.self in
    record { sound = u.sound; bare = bare g.row.O.Denot g.O.Order c.args.self.now u c.in_default.ensures.0 c.in_default.ensures.1 }

pub overflow_cast-result-3 : goal.overflow_cast-result-3
overflow_cast-result-3 g c =
    let u = c.pop.new.self in
    let w = c.args.self.now in
    let W : OrderMeaning = means u.own (g.O.Order.meaning u.below) in
    let W₀ : OrderMeaning = means w.own (g.O.Order.meaning w.below) in
    let es : W ≡ W₀ = ap (λ z. means z.own (g.O.Order.meaning z.below)) c.in_default.ensures.0 in
    let mig = c.in_ok-turns.ensures.cases in
    let d : ℕ = 256 * c.in_ok-turns.turns - u.own.hand in
    let e : Expelled = c.in_ok-entry.entry in
    let f : Some e ≡ leaver (fallen d W.waiting) = c.in_ok-entry.ensures.answer ∙ ap (λ (n : OrderMeaning). leaver n.waiting) mig.falls.falls in
    let top : Some (gone_of (entry e.slot (d + e.credit))) ≡ leaver W₀.waiting = falls_first d e W.waiting mig.falls.over f ∙ ap (λ (n : OrderMeaning). leaver n.waiting) es in
    let l : d + e.credit ≤ W₀.span = first_credit (gone_of (entry e.slot (d + e.credit))) W₀.waiting W₀.span w.sound.linked.lawful.credits top in
    let r : d + e.credit < 2 ^ 32 = omega arith in
    search rules

pub returns : goal.returns
returns g c =
    let u = c.pop.new.self in
    let w = c.args.self.now in
    let W : OrderMeaning = means u.own (g.O.Order.meaning u.below) in
    let same : u ≡ w = c.in_default.ensures.0 in
    let es : W ≡ means w.own (g.O.Order.meaning w.below) = ap (λ z. means z.own (g.O.Order.meaning z.below)) same in
    let mig = c.in_ok-turns.ensures.cases in
    let d : ℕ = 256 * c.in_ok-turns.turns - u.own.hand in
    let e : Expelled = c.in_ok-entry.entry in
    let got = c.in_ok-entry.ensures in
    let f : Some e ≡ leaver (fallen d W.waiting) = got.answer ∙ ap (λ (n : OrderMeaning). leaver n.waiting) mig.falls.falls in
    record {
      answer = falls_first d e W.waiting mig.falls.over f ∙ ap (λ (n : OrderMeaning). leaver n.waiting) es;
      after = got.after ∙ ap expelled mig.falls.falls ∙ ap (holding W) (falls_rest d W.waiting mig.falls.over) ∙ ap expelled es;
      went = inr (subst (λ (z : Wheel g.row.O.Denot g.O.Order). ExpelledBelow g.row.O.Denot g.O.Order (gone_of (entry e.slot (d + e.credit))) z c.pop-2.new.self) same
          (expelled_below g.row.O.Denot g.O.Order u _ c.pop-2.new.self e (d + e.credit) (bare g.row.O.Denot g.O.Order w u same c.in_default.ensures.1) mig.migrated got.own
          (let l = mig.least_is in let h = mig.enough in omega arith)));
    }
