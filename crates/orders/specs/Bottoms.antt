-- A bottom wheel: its queues from the hand on are its entries.
use Rattle.std.specs.Prelude.{◌≡◌, ℕ, suc, ◌+◌, ◌-◌, ◌%◌, ◌<◌, ◌≤◌, false, cond, List, [], ◌∷◌, ◌++◌, Some, None, Option, ◌==◌, refl}
use Rattle.std.proofs.Math.Path.{sym, ap}
use Rattle.std.proofs.Common.{subst, ◌∙◌}
use native.Mathlib.Omega.{arith}
use Rattle.std.specs.List.{AllByRecursion}
use Rattle.std.specs.Option.{is_some}
use Rattle.std.proofs.lemmas.List.{append-nil}
use Rattle.std.proofs.lemmas.Bool.{eq-eqb, ne_eqb, cond-true, cond-false}
use Rattle.orders.specs.declared.Entry.{Entry}
use Rattle.orders.specs.declared.queues.Queues.{Queues}
use Rattle.orders.specs.Meaning.{Lawful, joined, waits, without, fallen, Apart}
use Rattle.orders.specs.Rings.{sans, queue, named, names, number, nexts}
use Rattle.orders.specs.Flat.{entry, tagged, flat, turned, bottom}
use Rattle.orders.specs.Flats.{flat_same, flat_all, flat_without, flat_fallen, flat_skip, flat_split, flat_joined, without_first}
use Rattle.orders.specs.Laws.{flat_waits_none, flat_waits_some, flat_sorted, flat_apart}
use Rattle.orders.specs.Facts.{member_of, once_of, slots_of, high_of, lone_of}

all_const : (P : Type 0) (xs : List ℕ) → P → AllByRecursion (λ _. P) xs
all_const P [] p = tt
all_const P (x ∷ xs) p = (p, all_const P xs p)

pub nothing : (g : ℕ → List ℕ) (c d : ℕ) → ((j : ℕ) → c ≤ j → j < c + d → g j ≡ []) → flat g c (d + 0) ≡ []
unfolding flat
nothing g c d h = flat_skip g c d 0 h

module _ (v : Queues) (p : ℕ) (p-in : p < 256) where
  bottom_named : (s : ℕ) → s < 1024 → (o : Option ℕ) → named v.home s ≡ o → waits s (flat (turned (nexts v.nodes) p) 0 256) ≡ is_some o
  bottom_named s h None is = flat_waits_none s (turned (nexts v.nodes) p) 0 256 (λ j a b. member_of v ((p + j) % 256) s (omega arith) h ∙ ap (λ (o : Option ℕ). names o ((p + j) % 256)) is)
  bottom_named s h (Some q) is =
      let l = v.rings.home_in s h in
      let same = ap number is in
      let q-in : q < 256 = omega arith in
      let d : ℕ = (q + 256 - p) % 256 in
      let e : (p + d) % 256 ≡ q = omega arith in
      flat_waits_some s d (turned (nexts v.nodes) p) 0 256 (omega arith) (omega arith)
      (member_of v ((p + d) % 256) s (omega arith) h ∙ ap (λ (o : Option ℕ). names o ((p + d) % 256)) is ∙ eq-eqb q ((p + d) % 256) (sym e))

  pub bottom_waits : (s : ℕ) → s < 1024 → waits s (flat (turned (nexts v.nodes) p) 0 256) ≡ is_some (named v.home s)
  bottom_waits s h = bottom_named s h (named v.home s) refl

  pub bottom_waits_high : (s : ℕ) → 1024 ≤ s → waits s (flat (turned (nexts v.nodes) p) 0 256) ≡ false
  bottom_waits_high s h = flat_waits_none s (turned (nexts v.nodes) p) 0 256 (λ j a b. high_of v ((p + j) % 256) s (omega arith) h)

  bottom_apart : (c n : ℕ) → c + n ≤ 256 → Apart (flat (turned (nexts v.nodes) p) c n)
  bottom_apart c n l = flat_apart (turned (nexts v.nodes) p) c n (λ j a b. once_of v ((p + j) % 256) (omega arith))
      (λ x i j a b d k. lone_of v ((p + i) % 256) ((p + j) % 256) x (omega arith) (omega arith) (omega arith) k)

  pub bottom_lawful : Lawful (bottom (nexts v.nodes) p)
  bottom_lawful = record {
    sorted = flat_sorted (turned (nexts v.nodes) p) 0 256;
    apart = bottom_apart 0 256 (omega arith);
    slots = flat_all (λ (y : Entry). y.slot < 1024) (turned (nexts v.nodes) p) 0 256 (λ j a b. slots_of v ((p + j) % 256) (omega arith));
    credits = flat_all (λ (y : Entry). y.credit ≤ 255) (turned (nexts v.nodes) p) 0 256 (λ j a b. all_const (j ≤ 255) (turned (nexts v.nodes) p j) (omega arith));
  }

  -- after `push`
  pub bottom_placed : (next' : List ℕ) (x c : ℕ) → c ≤ 255 →
      ((k : ℕ) → k < 256 → queue next' k ≡ cond (k == (p + c) % 256) (queue (nexts v.nodes) k ++ x ∷ []) (queue (nexts v.nodes) k)) →
      flat (turned next' p) 0 256 ≡ joined (entry x c) (flat (turned (nexts v.nodes) p) 0 256)
  bottom_placed next' x c l h = sym (flat_joined (turned (nexts v.nodes) p) (turned next' p) x c 0 256 (omega arith) (omega arith)
      (h ((p + c) % 256) (omega arith) ∙ cond-true ((p + c) % 256 == (p + c) % 256) (turned (nexts v.nodes) p c ++ x ∷ []) (turned (nexts v.nodes) p c) (eq-eqb ((p + c) % 256) ((p + c) % 256) refl))
      (λ j n b. h ((p + j) % 256) (omega arith) ∙ cond-false ((p + j) % 256 == (p + c) % 256) (turned (nexts v.nodes) p j ++ x ∷ []) (turned (nexts v.nodes) p j) (ne_eqb ((p + j) % 256) ((p + c) % 256) (omega arith))))

  -- after `remove`
  pub bottom_withdrawn : (next' : List ℕ) (x : ℕ) → ((k : ℕ) → k < 256 → queue next' k ≡ sans x (queue (nexts v.nodes) k)) →
      flat (turned next' p) 0 256 ≡ without x (flat (turned (nexts v.nodes) p) 0 256)
  bottom_withdrawn next' x h =
      flat_same (turned next' p) (λ j. sans x (turned (nexts v.nodes) p j)) 0 256 (λ j a b. h ((p + j) % 256) (omega arith)) ∙ sym (flat_without x (turned (nexts v.nodes) p) 0 256)

  pub bottom_none : ((j : ℕ) → j < 256 → queue (nexts v.nodes) ((p + j) % 256) ≡ []) → flat (turned (nexts v.nodes) p) 0 256 ≡ []
  unfolding flat
  bottom_none h = flat_skip (turned (nexts v.nodes) p) 0 256 0 (λ j a b. h j (omega arith))

  module _ (d x : ℕ) (ys : List ℕ) (d-in : d < 256) (head : queue (nexts v.nodes) ((p + d) % 256) ≡ x ∷ ys) (before : (j : ℕ) → j < d → queue (nexts v.nodes) ((p + j) % 256) ≡ []) where
    unfoldable pub left : List Entry
    left = flat (λ j. sans x (turned (nexts v.nodes) p j)) d (256 - d)

    from_d : flat (turned (nexts v.nodes) p) 0 256 ≡ flat (turned (nexts v.nodes) p) d (256 - d)
    from_d =
        let e : 256 ≡ d + (256 - d) = omega arith in
        let e' : 0 + d ≡ d = omega arith in
        ap (flat (turned (nexts v.nodes) p) 0) e ∙ flat_skip (turned (nexts v.nodes) p) 0 d (256 - d) (λ j a b. before j (omega arith)) ∙ ap (λ (z : ℕ). flat (turned (nexts v.nodes) p) z (256 - d)) e'

    opened : flat (turned (nexts v.nodes) p) d (256 - d) ≡ entry x d ∷ (tagged d ys ++ flat (turned (nexts v.nodes) p) (suc d) (255 - d))
    unfolding flat
    opened =
        let e : 256 - d ≡ suc (255 - d) = omega arith in
        ap (flat (turned (nexts v.nodes) p) d) e ∙ ap (λ (xs : List ℕ). tagged d xs ++ flat (turned (nexts v.nodes) p) (suc d) (255 - d)) head

    lone : waits x (tagged d ys ++ flat (turned (nexts v.nodes) p) (suc d) (255 - d)) ≡ false
    lone = let a : Apart (entry x d ∷ (tagged d ys ++ flat (turned (nexts v.nodes) p) (suc d) (255 - d))) = subst Apart opened (bottom_apart d (256 - d) (omega arith)) in a.0

    tail_is : tagged d ys ++ flat (turned (nexts v.nodes) p) (suc d) (255 - d) ≡ left
    unfolding left
    tail_is = sym (without_first (entry x d) (tagged d ys ++ flat (turned (nexts v.nodes) p) (suc d) (255 - d)) lone) ∙ ap (without x) (sym opened) ∙ flat_without x (turned (nexts v.nodes) p) d (256 - d)

    pub bottom_first : flat (turned (nexts v.nodes) p) 0 256 ≡ entry x d ∷ left
    bottom_first = from_d ∙ opened ∙ ap (λ (zs : List Entry). entry x d ∷ zs) tail_is

    pub bottom_rest : (next' : List ℕ) → ((k : ℕ) → k < 256 → queue next' k ≡ sans x (queue (nexts v.nodes) k)) → flat (turned next' ((p + d) % 256)) 0 256 ≡ fallen d left
    unfolding left
    bottom_rest next' h =
        let g : ℕ → List ℕ = turned next' ((p + d) % 256) in
        let e : 256 ≡ (256 - d) + (d + 0) = omega arith in
        let past : flat g (0 + (256 - d)) (d + 0) ≡ [] = nothing g (0 + (256 - d)) d (λ j a b.
        let i : ((p + d) % 256 + j) % 256 ≡ (p + (d + j - 256)) % 256 = omega arith in
        ap (queue next') i ∙ h ((p + (d + j - 256)) % 256) (omega arith) ∙ ap (sans x) (before (d + j - 256) (omega arith))) in
        ap (flat g 0) e ∙ flat_split g 0 (256 - d) (d + 0) ∙ ap (λ (zs : List Entry). flat g 0 (256 - d) ++ zs) past ∙ append-nil (flat g 0 (256 - d))
        ∙ sym (flat_fallen d (λ j. sans x (turned (nexts v.nodes) p j)) g d 0 (256 - d) (omega arith) (λ j a b.
        let i : ((p + d) % 256 + j) % 256 ≡ (p + (d + j)) % 256 = omega arith in
        sym (ap (queue next') i ∙ h ((p + (d + j)) % 256) (omega arith))))
