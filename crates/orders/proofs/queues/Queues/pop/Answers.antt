use Rattle.std.proofs.Common.{ℕ, ◌+◌, ◌<◌, ◌∷◌, drop, ap, subst, ◌∙◌}
use Rattle.orders.specs.Rings.{queue, at, nexts}
use Rattle.orders.specs.declared.queues.Queues.{Queues}
use Rattle.orders.specs.Rows.{Filled}
use Rattle.orders.specs.Facts.{head_below}
use Rattle.orders.proofs.Tables.{node_at, next_at}
use Rattle.orders.proofs.queues.Queues.pop.Goals as goal

below : (v : Queues) (q : ℕ) → q < 256 → Filled (nexts v.nodes) q → (node_at v.nodes (1024 + q)).next < 1024
below v q h f = subst (λ (z : ℕ). z < 1024) (next_at v.nodes (1024 + q)) (head_below v q (at (nexts v.nodes) (1024 + q)) (drop 1 (queue (nexts v.nodes) q)) h f)

pub remove-requires : goal.remove-requires
remove-requires c = below c.args.self.now c.args.q c.requires.queue c.requires.filled

pub returns : goal.returns
returns c =
    let v = c.args.self.now in
    let q = c.args.q in
    record {
      front = c.requires.filled ∙ ap (λ (z : ℕ). z ∷ drop 1 (queue (nexts v.nodes) q)) (next_at v.nodes (1024 + q));
      slot = below v q c.requires.queue c.requires.filled;
      queues = c.remove.ensures.queues;
      homes = c.remove.ensures.homes;
    }
