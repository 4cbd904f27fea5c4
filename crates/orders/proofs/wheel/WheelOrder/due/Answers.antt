use Rattle.std.proofs.Common.{◌≡◌, ℕ, suc, ◌+◌, ◌-◌, ◌<◌, Bool, true, false, List, [], ◌∷◌, drop, MatchBool, sym, ap, ◌∙◌, arith}
use Rattle.orders.specs.Rings.{queue, at, nexts}
use Rattle.orders.specs.Meaning.{some_due}
use Rattle.orders.specs.Flat.{flat}
use Rattle.orders.specs.Wheels.{own}
use Rattle.orders.specs.Laws.{flat_due_none, flat_due_some}
use Rattle.orders.proofs.Owns.{wheel_due}
use Rattle.orders.proofs.wheel.WheelOrder.due.Goals as goal

told : (t : List ℕ) (p : ℕ) → p < 256 → (b : Bool) → MatchBool b (queue t p ≡ at t (1024 + p) ∷ drop 1 (queue t p)) (queue t p ≡ []) → b ≡ some_due (own t p)
told t p h true e = let z : p + 0 ≡ p = omega arith in let n : 256 - p ≡ suc (255 - p) = omega arith in
    sym (ap (λ (k : ℕ). some_due (flat (λ c. queue t (p + c)) 0 k)) n ∙ flat_due_some (λ c. queue t (p + c)) (255 - p) (at t (1024 + p)) (drop 1 (queue t p)) (ap (queue t) z ∙ e))
told t p h false e = let z : p + 0 ≡ p = omega arith in let n : 256 - p ≡ suc (255 - p) = omega arith in
    sym (ap (λ (k : ℕ). some_due (flat (λ c. queue t (p + c)) 0 k)) n ∙ flat_due_none (λ c. queue t (p + c)) (255 - p) (ap (queue t) z ∙ e))

pub returns : goal.returns
returns g c =
    let w = c.args.self.now in
    told (nexts w.own.queues.nodes) w.own.hand w.sound.linked.hand_in c.filled.result c.filled.ensures
    ∙ sym (wheel_due w.own.queues w.own.later w.own.hand (g.O.Order.meaning w.below) w.sound.linked w.sound.ripe)
