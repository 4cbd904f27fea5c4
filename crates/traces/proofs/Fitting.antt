-- The first fault of what is to be written.
use Rattle.std.proofs.Common.{◌≡◌, ℕ, ◌+◌, ◌<◌, ◌≤◌, ◌⊎◌, List, length, refl, ap, inl, inr, ⊎_elim, arith}
use Rattle.std.proofs.lemmas.Bool.{cases_order}
use Rattle.traces.specs.declared.rows.Row.{Row}
use Rattle.traces.specs.Faults.{fault_of, value_fault, rows_fault, precedence, Before, Least}
use Rattle.traces.specs.declared.faults.FaultKind.{FaultKind}
use Rattle.traces.specs.declared.faults.FaultKind.TheVariants.{Value, Rows}
use Rattle.traces.specs.Tables.{numeral_of}
use Rattle.traces.specs.Rendering.{cost_at, key_at, Unfit}
use Rattle.traces.specs.Rendering.Unfit.{many_slots, no_cost, high_cost, past_rows}

module _ (slots : ℕ) (rows : List Row) (i : ℕ) (few : slots ≤ 1024) (here : i < length rows)
    (least : (k : ℕ) → k < i → 1 ≤ cost_at rows k) (most_of : (k : ℕ) → k < i → cost_at rows k ≤ 65280) (room : i ≤ 2048) where
  -- a fault of a row from i on is not before one of row i that is no greater in number and column
  from : (n m : FaultKind) (c d k : ℕ) → (k < i → ⊥) → (k ≡ i → (precedence n < precedence m) ⊎ ((precedence n ≡ precedence m) × (c ≤ d))) → Before (fault_of n (i + 4) c) (fault_of m (k + 4) d)
  from n m c d k not-below same =
      ⊎_elim (λ (z : k ≡ i). inr (omega arith, same z)) (λ z. ⊎_elim (λ (y : k < i). absurd (not-below y)) (λ (y : i < k). inl (omega arith)) z) (cases_order k i)

  width_at : (k : ℕ) → k ≡ i → length (numeral_of 16 (key_at rows k)) ≡ length (numeral_of 16 (key_at rows i))
  width_at k z = ap (λ m. length (numeral_of 16 (key_at rows m))) z

  pub least_cost : (w : ℕ) → w ≡ length (numeral_of 16 (key_at rows i)) → (cost_at rows i < 1) ⊎ (65280 < cost_at rows i) → Least (Unfit slots rows) (value_fault (i + 4) (w + 2))
  least_cost w is bad = (
    ⊎_elim (λ h. no_cost i (ap (λ m. value_fault (i + 4) (m + 2)) is) here h) (λ h. high_cost i (ap (λ m. value_fault (i + 4) (m + 2)) is) here h) bad,
    λ g a. elim a [
      | many_slots e h ↦ absurd (omega arith)
      | no_cost k e in' h ↦ rw e (from Value Value (w + 2) _ k (λ b. omega (arith, least k b)) (λ z. inr (refl, omega (arith, width_at k z))))
      | high_cost k e in' h ↦ rw e (from Value Value (w + 2) _ k (λ b. omega (arith, most_of k b)) (λ z. inr (refl, omega (arith, width_at k z))))
      | past_rows k e in' h ↦ rw e (from Value Rows (w + 2) _ k (λ b. omega arith) (λ z. inl (omega arith)))
    ],
  )

  pub least_past : 1 ≤ cost_at rows i → cost_at rows i ≤ 65280 → 2048 ≤ i → Least (Unfit slots rows) (rows_fault (i + 4))
  least_past low_of high_of late = (
    past_rows i refl here late,
    λ g a. elim a [
      | many_slots e h ↦ absurd (omega arith)
      | no_cost k e in' h ↦ rw e (from Rows Value 1 _ k (λ b. omega (arith, least k b)) (λ z. absurd (omega (arith, ap (cost_at rows) z))))
      | high_cost k e in' h ↦ rw e (from Rows Value 1 _ k (λ b. omega (arith, most_of k b)) (λ z. absurd (omega (arith, ap (cost_at rows) z))))
      | past_rows k e in' h ↦ rw e (from Rows Rows 1 1 k (λ b. omega arith) (λ z. inr (refl, omega arith)))
    ],
  )
