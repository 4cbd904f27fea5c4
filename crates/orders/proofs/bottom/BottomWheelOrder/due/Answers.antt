use Rattle.std.proofs.Common.{◌≡◌, ℕ, ◌+◌, ◌%◌, ◌<◌, Bool, true, false, List, [], ◌∷◌, drop, MatchBool, sym, ap, ◌∙◌, arith}
use Rattle.orders.specs.Rings.{queue, at, nexts}
use Rattle.orders.specs.Meaning.{some_due}
use Rattle.orders.specs.Flat.{flat, turned}
use Rattle.orders.specs.Laws.{flat_due_none, flat_due_some}
use Rattle.orders.proofs.bottom.BottomWheelOrder.due.Goals as goal

told : (t : List ℕ) (p : ℕ) → p < 256 → (b : Bool) → MatchBool b (queue t p ≡ at t (1024 + p) ∷ drop 1 (queue t p)) (queue t p ≡ []) → b ≡ some_due (flat (turned t p) 0 256)
told t p h true e = let z : (p + 0) % 256 ≡ p = omega arith in sym (flat_due_some (turned t p) 255 (at t (1024 + p)) (drop 1 (queue t p)) (ap (queue t) z ∙ e))
told t p h false e = let z : (p + 0) % 256 ≡ p = omega arith in sym (flat_due_none (turned t p) 255 (ap (queue t) z ∙ e))

pub returns : goal.returns
returns c = told (nexts c.args.self.now.queues.nodes) c.args.self.now.hand c.args.self.now.hand_in c.filled.result c.filled.ensures
