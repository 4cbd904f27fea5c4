-- The parts of a slab: two slots' bytes never overlap, and a value written into one part leaves the others.
use Rattle.std.proofs.Common.{◌≡◌, ℕ, ◌+◌, ◌-◌, ◌*◌, ◌<◌, ◌≤◌, ◌⊎◌, List, ◌++◌, length, take, drop, sym, refl, ap, ◌∙◌, inl, inr, ⊎_elim, append_assoc, mul-le-mul_right, arith, length-append, length-drop, length-take-le, take-take, drop-drop, take_at, drop_at}
use lib.Seq.{take-append-le, drop-append-le}
use Rattle.std.proofs.lemmas.List.{drop-take}
use Rattle.std.proofs.lemmas.Bool.{cases_order}
use Rattle.promises.specs.Steps.{written}

-- a slot's part ends where the next one begins, or before a later one
pub part_before : (chunk i j : ℕ) → i < j → i * chunk + chunk ≤ j * chunk
part_before chunk i j h = let p : i + 1 ≤ j = omega arith in let q = mul-le-mul_right chunk p in omega arith

pub parts_apart : (chunk i j : ℕ) → (i ≡ j → ⊥) → (i * chunk + chunk ≤ j * chunk) ⊎ (j * chunk + chunk ≤ i * chunk)
parts_apart chunk i j ne = ⊎_elim (λ e. absurd (ne e)) (⊎_elim (λ l. inl (part_before chunk i j l)) (λ l. inr (part_before chunk j i l))) (cases_order i j)

module _ (slab : List ℕ) (from : ℕ) (v : List ℕ) (inside : from + length v ≤ length slab) where
  front : length (take from slab) ≡ from
  front = length-take-le from slab (omega arith)

  pub written_length : length (written slab from v) ≡ length slab
  written_length =
      let a = length-append (take from slab) (v ++ drop (from + length v) slab) in
      let b = length-append v (drop (from + length v) slab) in
      let c = length-drop (from + length v) slab in
      let d = front in
      omega arith

  -- what was written is there
  pub written_own : take (length v) (drop from (written slab from v)) ≡ v
  written_own = ap (take (length v)) (drop_at (take from slab) (v ++ drop (from + length v) slab) from front) ∙ take_at v (drop (from + length v) slab) (length v) refl

  -- bytes before it
  pub written_before : (at n : ℕ) → at + n ≤ from → take n (drop at (written slab from v)) ≡ take n (drop at slab)
  written_before at n h =
      let more : List ℕ = v ++ drop (from + length v) slab in
      let f = front in
      let d : drop at (take from slab) ≡ take (from - at) (drop at slab) = let e : at + (from - at) ≡ from = omega arith in ap (λ (x : ℕ). drop at (take x slab)) (sym e) ∙ drop-take at (from - at) slab in
      let g : n ≤ length (drop at (take from slab)) = omega (arith, length-drop at (take from slab)) in
      ap (take n) (drop-append-le at (take from slab) more (omega arith)) ∙ take-append-le n (drop at (take from slab)) more g ∙ ap (take n) d ∙ take-take n (from - at) (drop at slab) (omega arith)

  -- bytes behind it
  pub written_behind : (at : ℕ) → from + length v ≤ at → drop at (written slab from v) ≡ drop at slab
  written_behind at h =
      let w : ℕ = from + length v in
      let f : length (take from slab ++ v) ≡ w = length-append (take from slab) v ∙ ap (λ (x : ℕ). x + length v) front in
      let e : w + (at - w) ≡ at = omega arith in
      let a : written slab from v ≡ (take from slab ++ v) ++ drop w slab = sym (append_assoc (take from slab) v (drop w slab)) in
      ap (λ (x : ℕ). drop x (written slab from v)) (sym e) ∙ sym (drop-drop (at - w) w (written slab from v)) ∙ ap (λ (x : List ℕ). drop (at - w) (drop w x)) a
      ∙ ap (drop (at - w)) (drop_at (take from slab ++ v) (drop w slab) w f) ∙ drop-drop (at - w) w slab ∙ ap (λ (x : ℕ). drop x slab) e

-- a value written into the part of a slot: that part, and those of the others
module _ (slots chunk : ℕ) (slab : List ℕ) (enough : slots * chunk ≤ length slab) (i : ℕ) (inside : i < slots) (v : List ℕ) (short : length v ≤ chunk) where
  within : i * chunk + length v ≤ length slab
  within = let p = part_before chunk i slots inside in omega arith

  pub poured_length : length (written slab (i * chunk) v) ≡ length slab
  poured_length = written_length slab (i * chunk) v within

  pub poured_own : take (length v) (drop (i * chunk) (written slab (i * chunk) v)) ≡ v
  poured_own = written_own slab (i * chunk) v within

  pub poured_other : (j n : ℕ) → (j ≡ i → ⊥) → n ≤ chunk → take n (drop (j * chunk) (written slab (i * chunk) v)) ≡ take n (drop (j * chunk) slab)
  poured_other j n ne h = ⊎_elim
      (λ b. written_before slab (i * chunk) v within (j * chunk) n (omega arith))
      (λ b. ap (take n) (written_behind slab (i * chunk) v within (j * chunk) (omega arith)))
      (parts_apart chunk j i ne)
