-- What a hand does in a row of queues.
use Rattle.std.proofs.Common.{◌≡◌, ℕ, ◌+◌, ◌/◌, ◌%◌, ◌<◌, ◌≤◌, true, eqb, ltb, List, [], ◌∷◌, sym, refl, ap, ◌∙◌, subst, arith}
use Rattle.std.proofs.lemmas.Bool.{lt-ltb, le-ltb, cond-true, cond-false, eq-eqb, or_left}
use Rattle.orders.specs.declared.queues.Queues.{Queues}
use Rattle.orders.specs.Rings.{queue, sans, holds, Once, nexts}
use Rattle.orders.specs.Rows.{BareBetween, Loses, Leaves}
use Rattle.orders.specs.Flat.{turned}
use Rattle.orders.specs.declared.Order.{Ghosts}
use Rattle.orders.specs.declared.wheel.Wheel.{Wheel}
use Rattle.orders.specs.Turns.{Destination, own_queue, below_with, goes_to, PlacedOwn, PlacedBelow, PlacedAt}
use Rattle.orders.specs.Slots.{sans_absent}
use Rattle.orders.specs.Paths.{sans_same}
use Rattle.orders.specs.Facts.{once_of, lone_of}

-- the slot at the front of queue q goes
module _ (v : Queues) (next' : List ℕ) (q x : ℕ) (ys : List ℕ) (q-in : q < 256) (head : queue (nexts v.nodes) q ≡ x ∷ ys)
    (loses : Loses (queue (nexts v.nodes)) (queue next') x) where
  front_gone : queue (nexts v.nodes) q ≡ x ∷ queue next' q
  front_gone =
      let o : Once (x ∷ ys) = subst Once head (once_of v q q-in) in
      head ∙ ap (λ (zs : List ℕ). x ∷ zs) (sym (loses q q-in ∙ ap (sans x) head ∙ sans_same x x ys refl ∙ sans_absent x ys o.0))

  front_there : holds x (queue (nexts v.nodes) q) ≡ true
  front_there = ap (holds x) head ∙ or_left (eqb x x) (holds x ys) (eq-eqb x x refl)

  others_stay : (k : ℕ) → k < 256 → (k ≡ q → ⊥) → queue next' k ≡ queue (nexts v.nodes) k
  others_stay k h n = loses k h ∙ sans_absent x (queue (nexts v.nodes) k) (lone_of v q k x q-in h (λ e. n (sym e)) front_there)

  pub leaves_own : (p : ℕ) → p ≤ q → BareBetween (queue (nexts v.nodes)) p q → Leaves (queue (nexts v.nodes)) (queue next') p q x
  leaves_own p h passed = record { onward = h; within = q-in; passed = passed; front = front_gone; others = others_stay }

  pub leaves_around : (p d : ℕ) → p < 256 → d < 256 → (p + d) % 256 ≡ q → ((j : ℕ) → j < d → turned (nexts v.nodes) p j ≡ []) →
      Leaves (turned (nexts v.nodes) p) (turned next' p) 0 d x
  leaves_around p d hp hd e passed = record {
    onward = omega arith;
    within = hd;
    passed = λ k a b. passed k b;
    front = ap (queue (nexts v.nodes)) e ∙ front_gone ∙ ap (λ (k : ℕ). x ∷ queue next' k) (sym e);
    others = λ k h n. others_stay ((p + k) % 256) (omega arith) (λ z. n (omega arith));
  }

-- where a placing goes
module _ (O : Type 0) (g : Ghosts O) (p c s : ℕ) (w v : Wheel O g) where
  pub goes_own : p + c < 256 → PlacedOwn O g (p + c) s w v → PlacedAt O g (goes_to p c) s w v
  goes_own h x = subst (λ (d : Destination). PlacedAt O g d s w v)
      (sym (cond-true (ltb (p + c) 256) (own_queue (p + c)) (below_with ((p + c) / 256) ((p + c) % 256)) (lt-ltb (p + c) 256 h))) x

  pub goes_below : 256 ≤ p + c → PlacedBelow O g ((p + c) / 256) ((p + c) % 256) s w v → PlacedAt O g (goes_to p c) s w v
  goes_below h x = subst (λ (d : Destination). PlacedAt O g d s w v)
      (sym (cond-false (ltb (p + c) 256) (own_queue (p + c)) (below_with ((p + c) / 256) ((p + c) % 256)) (le-ltb (p + c) 256 h))) x
