use Rattle.std.proofs.Common.{◌≡◌, ℕ, ◌-◌, ◌<◌, ◌≤◌, Bool, true, not, ◌&&◌, eqb, List, set, None, sym, refl, ap, subst, ◌∙◌, arith}
use Rattle.orders.specs.Bits.{marked}
use Rattle.orders.proofs.queues.Queues.remove.Goals.{else-before-after-via-then-before-after+else-before-ge-PLACES, else-before-after-via-else-before-after}
use Rattle.orders.specs.Rings.{Rings, queue, at, sans, nexts, prevs}
use Rattle.orders.specs.declared.queues.Queues.{Queues}
use Rattle.orders.proofs.Tables.{node_at, next_at, prev_at, nodes_removed, nexts_removed, prevs_removed, rings_columns, as_walked, queue_is, rings_remove, sign, sign_last, sign_gone, sign_kept}
use Rattle.orders.proofs.queues.Queues.remove.Goals as goal

pub bounds-self-before : goal.bounds-self-before
bounds-self-before c =
    let v = c.args.self.now in
    let pre = c.requires in
    subst (λ (z : ℕ). z < 1280) (prev_at v.nodes c.args.slot) (v.rings.prev_in c.args.slot (omega arith))

pub bounds-self-after : goal.bounds-self-after
bounds-self-after c =
    let v = c.args.self.now in
    let pre = c.requires in
    subst (λ (z : ℕ). z < 1280) (next_at v.nodes c.args.slot) (v.rings.next_in c.args.slot (omega arith))

module _ (v : Queues) (x : ℕ) (x-in : x < 1024) where
  rings_after : Rings (nexts (nodes_removed v.nodes x)) (prevs (nodes_removed v.nodes x)) (set v.home x None) (queue (nexts (nodes_removed v.nodes x)))
  rings_after = rings_columns (nexts_removed v.nodes x) (prevs_removed v.nodes x) (as_walked (rings_remove v.rings x x-in))

  queues_after : (k : ℕ) → k < 256 → queue (nexts (nodes_removed v.nodes x)) k ≡ sans x (queue (nexts v.nodes) k)
  queues_after k l = ap (λ (t : List ℕ). queue t k) (nexts_removed v.nodes x) ∙ queue_is (rings_remove v.rings x x-in) k l

  signs_after : (at (prevs v.nodes) x ≡ at (nexts v.nodes) x → 1024 ≤ at (prevs v.nodes) x → ⊥) → (k : ℕ) → k < 256 → marked v.marks.words k ≡ sign (nexts (nodes_removed v.nodes x)) k
  signs_after n k l = v.signs k l ∙ sym (ap (λ (t : List ℕ). sign t k) (nexts_removed v.nodes x) ∙ sign_kept v.rings x x-in n k l)

  -- the slot was all of its ring
  module _ (alone : (node_at v.nodes x).prev ≡ (node_at v.nodes x).next) (anchor : 1024 ≤ (node_at v.nodes x).prev) where
    same : at (prevs v.nodes) x ≡ at (nexts v.nodes) x
    same = prev_at v.nodes x ∙ alone ∙ sym (next_at v.nodes x)

    high : 1024 ≤ at (prevs v.nodes) x
    high = subst (λ (z : ℕ). 1024 ≤ z) (sym (prev_at v.nodes x)) anchor

    sign_was : sign (nexts v.nodes) ((node_at v.nodes x).prev - 1024) ≡ true
    sign_was = ap (λ (z : ℕ). sign (nexts v.nodes) (z - 1024)) (sym (prev_at v.nodes x)) ∙ sign_last v.rings x x-in same high

    sign_is : (k : ℕ) → k < 256 → sign (nexts (nodes_removed v.nodes x)) k ≡ (not (eqb k ((node_at v.nodes x).prev - 1024)) && sign (nexts v.nodes) k)
    sign_is k h = ap (λ (t : List ℕ). sign t k) (nexts_removed v.nodes x) ∙ sign_gone v.rings x x-in same high k h
        ∙ ap (λ (z : ℕ). not (eqb k (z - 1024)) && sign (nexts v.nodes) k) (prev_at v.nodes x)

pub unmark-requires : goal.unmark-requires
unmark-requires c =
    let v = c.args.self.now in
    let x = c.args.slot in
    let pre = c.requires in
    let b = v.rings.prev_in x (omega arith) in
    let e = prev_at v.nodes x in
    let g = c.if-before-ge-PLACES.true in
    let q : (node_at v.nodes x).prev - 1024 < 256 = omega arith in
    (q, v.signs ((node_at v.nodes x).prev - 1024) q ∙ sign_was v x c.requires c.if-before-after.true g)

pub invariant_of-self : goal.invariant_of-self
invariant_of-self c =
    let v = c.args.self.now in
    let x = c.args.slot in
    record {
      rings = rings_after v x c.requires;
      signs = λ k h. c.unmark.ensures k h ∙ ap (λ (b : Bool). not (eqb k ((node_at v.nodes x).prev - 1024)) && b) (v.signs k h)
          ∙ sym (sign_is v x c.requires c.if-before-after.true c.if-before-ge-PLACES.true k h);
    }

pub invariant_of-self-else-before-ge-PLACES : goal.invariant_of-self-else-before-ge-PLACES
invariant_of-self-else-before-ge-PLACES c =
    let v = c.args.self.now in
    let x = c.args.slot in
    let low = c.if-before-ge-PLACES.false in
    let p = prev_at v.nodes x in
    record { rings = rings_after v x c.requires; signs = signs_after v x c.requires (λ e g. omega arith) }

pub invariant_of-self-else-before-after : goal.invariant_of-self-else-before-after
invariant_of-self-else-before-after c =
    let v = c.args.self.now in
    let x = c.args.slot in
    record { rings = rings_after v x c.requires; signs = signs_after v x c.requires (λ e g. c.if-before-after.false (sym (prev_at v.nodes x) ∙ e ∙ next_at v.nodes x)) }

pub returns-then-before-ge-PLACES : goal.returns-then-before-ge-PLACES
returns-then-before-ge-PLACES c = record { queues = queues_after c.args.self.now c.args.slot c.requires; homes = refl }

pub returns-else-before-after : goal.returns-else-before-after
returns-else-before-after c =
    let v = c.args.self.now in
    let x = c.args.slot in
    elim c.else-before-after.branch [
      | else-before-after-via-then-before-after+else-before-ge-PLACES w ↦ record {
        queues = λ k h. ap (λ (u : Queues). queue (nexts u.nodes) k) w.self-is ∙ queues_after v x c.requires k h;
        homes = ap (λ (u : Queues). u.home) w.self-is;
      }
      | else-before-after-via-else-before-after w ↦ record {
        queues = λ k h. ap (λ (u : Queues). queue (nexts u.nodes) k) w.self-is ∙ queues_after v x c.requires k h;
        homes = ap (λ (u : Queues). u.home) w.self-is;
      }
    ]
