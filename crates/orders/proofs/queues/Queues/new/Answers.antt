use Rattle.std.proofs.Common.{◌≡◌, ℕ, ◌<◌, List, length, set, replicate, None, Option, sym, ap, ◌∙◌, arith, below_more, []}
use Rattle.std.proofs.lemmas.List.{length-set, length-map, get_or-set_same, get_or-set_other, length-replicate, get_or-replicate}
use Rattle.orders.specs.declared.queues.Node.{Node}
use Rattle.orders.specs.Rings.{Rings, at, nexts, prevs}
use Rattle.orders.proofs.Tables.{node_at, next_at, prev_at, as_walked, queue_is, rings_none, sign_none}
use Rattle.orders.proofs.queues.Queues.new.Goals as goal

pub loop-i-preserved : goal.loop-i-preserved
loop-i-preserved c =
    let t = c.loop-i.node-items in
    let i = c.loop-i.i in
    let n : Node = record { next = i; prev = i } in
    let len : length t ≡ 1280 = c.loop-i.invariant.0 in
    let lt : i < 1280 = c.loop-i-test.true in (
      simp length-set len,
      below_more (λ k. node_at (set t i n) k ≡ record { next = k; prev = k }) i
          (λ k h. get_or-set_other t i k n (record { next = 0; prev = 0 }) (λ e. omega arith) ∙ c.loop-i.invariant.1 k h)
          (get_or-set_same t i n (record { next = 0; prev = 0 }) (omega arith)),
    )

-- each node alone
module _ (t : List Node) (long : length t ≡ 1280) (alone : (k : ℕ) → k < 1280 → node_at t k ≡ record { next = k; prev = k }) where
  next_is : (k : ℕ) → k < 1280 → at (nexts t) k ≡ k
  next_is k h = next_at t k ∙ ap (λ (n : Node). n.next) (alone k h)

  rings_new : Rings (nexts t) (prevs t) (replicate 1024 None) (λ _. [])
  rings_new = rings_none (nexts t) (prevs t) (replicate 1024 None) (length-map t (λ (n : Node). n.next) ∙ long) (length-map t (λ (n : Node). n.prev) ∙ long)
      next_is (λ k h. prev_at t k ∙ ap (λ (n : Node). n.prev) (alone k h))
      (length-replicate {A = Option ℕ} 1024 None) (λ x h. get_or-replicate {A = Option ℕ} 1024 x None None h)

pub invariant_of-result : goal.invariant_of-result
invariant_of-result c =
    let t = c.loop-i.node-items in
    let all : (k : ℕ) → k < 1280 → node_at t k ≡ record { next = k; prev = k } = λ k h. c.loop-i.invariant.1 k (omega arith) in
    record {
      rings = as_walked (rings_new t c.loop-i.invariant.0 all);
      signs = λ k h. c.none-marks.ensures k (omega arith) h ∙ sym (sign_none (nexts t) (next_is t c.loop-i.invariant.0 all) k h);
    }

pub returns : goal.returns
returns c =
    let t = c.loop-i.node-items in
    let all : (k : ℕ) → k < 1280 → node_at t k ≡ record { next = k; prev = k } = λ k h. c.loop-i.invariant.1 k (omega arith) in
    record {
      queues = queue_is (rings_new t c.loop-i.invariant.0 all);
      homes = λ x h. get_or-replicate {A = Option ℕ} 1024 x None None h;
    }
