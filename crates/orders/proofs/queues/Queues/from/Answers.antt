use Rattle.std.proofs.Common.{◌≡◌, ℕ, ◌+◌, ◌<◌, ◌≤◌, true, false, [], ◌∷◌, drop, Some, None, Option, sym, ◌∙◌, arith, MatchOption}
use Rattle.orders.specs.Bits.{marked}
use Rattle.orders.specs.Rings.{queue, at, nexts}
use Rattle.orders.specs.declared.queues.Queues.{Queues}
use Rattle.orders.proofs.Tables.{unsigned_empty, signed_head}
use Rattle.orders.proofs.queues.Queues.from.Goals as goal

empty_at : (v : Queues) (k : ℕ) → k < 256 → marked v.marks.words k ≡ false → queue (nexts v.nodes) k ≡ []
empty_at v k h m = unsigned_empty v.rings k h (sym (v.signs k h) ∙ m)

head_at : (v : Queues) (k : ℕ) → k < 256 → marked v.marks.words k ≡ true → queue (nexts v.nodes) k ≡ at (nexts v.nodes) (1024 + k) ∷ drop 1 (queue (nexts v.nodes) k)
head_at v k h m = signed_head v.rings k h (sym (v.signs k h) ∙ m)

told : (v : Queues) (p : ℕ) (o : Option ℕ) →
    MatchOption o ((k : ℕ) → p ≤ k → k < 256 → marked v.marks.words k ≡ false) (λ q. (p ≤ q) × (q < 256) × (marked v.marks.words q ≡ true) × ((k : ℕ) → p ≤ k → k < q → marked v.marks.words k ≡ false)) →
    MatchOption o ((k : ℕ) → p ≤ k → k < 256 → queue (nexts v.nodes) k ≡ []) (λ q. (p ≤ q) × (q < 256) × (queue (nexts v.nodes) q ≡ at (nexts v.nodes) (1024 + q) ∷ drop 1 (queue (nexts v.nodes) q)) × ((k : ℕ) → p ≤ k → k < q → queue (nexts v.nodes) k ≡ []))
told v p None e = λ k h l. empty_at v k l (e k h l)
told v p (Some q) e = (e.0, e.1, head_at v q e.1 e.2, λ k h l. let m : q < 256 = e.1 in empty_at v k (omega arith) (e.3 k h l))

pub returns : goal.returns
returns c = told c.args.self.now c.args.p c.from.result c.from.ensures
