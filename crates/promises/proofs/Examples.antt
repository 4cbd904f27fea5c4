-- The worked lines are lines.
use Rattle.std.proofs.Common.{◌≡◌, ℕ, eqb, [], ◌∷◌, Some, None, Ok, refl, arith}
use Rattle.promises.specs.State.{State}
use Rattle.promises.specs.Events.{gets}
use Rattle.promises.specs.Steps.{touched, settled, with_key, evicted, lent_slot}
use Rattle.promises.specs.Lines.{made, Line}
use Rattle.promises.specs.Rivals.{Rival, starts, discards, has_it, pays, unmoved}
use Rattle.promises.specs.Examples.{small, slab, look, take_in, take_for, rows, cost_of, leased, Examples}

abbrev s₀ : State ℕ
s₀ = made (small 2)

abbrev s₁ : State ℕ
s₁ = settled (with_key s₀ 0 10) 0 3 0

abbrev s₂ : State ℕ
s₂ = settled (with_key s₁ 1 11) 1 1 0

abbrev s₃ : State ℕ
s₃ = touched s₂ 0

abbrev s₄ : State ℕ
s₄ = settled (with_key (evicted s₃ 1) 1 12) 1 2 0

abbrev s₅ : State ℕ
s₅ = settled (with_key (evicted s₄ 0) 0 11) 0 1 0

the_rows : Line eqb (small 2) rows s₅
the_rows = (
  s₄,
  (
    s₄,
    (
      s₃,
      (
        s₃,
        (
          s₂,
          (
            s₁,
            (
              s₁,
              (
                s₀,
                (s₀, refl, (refl, refl, refl)),
                (refl, refl, refl, record { slot = 0; below = omega arith; unused = refl; after = refl; bytes = refl }),
              ),
              (refl, refl, refl),
            ),
            (refl, refl, refl, record { slot = 1; below = omega arith; unused = refl; after = refl; bytes = refl }),
          ),
          (refl, record { slot = 0; held = refl; part = refl; after = refl }),
        ),
        (refl, refl, refl),
      ),
      (refl, refl, refl, (evicted s₃ 1, record { first = record { slot = 1; credit = 1 }; least = refl; key = refl; after = refl }, record { slot = 1; below = omega arith; unused = refl; after = refl; bytes = refl })),
    ),
    (refl, refl, refl),
  ),
  (refl, refl, refl, (evicted s₄ 0, record { first = record { slot = 0; credit = 2 }; least = refl; key = refl; after = refl }, record { slot = 0; below = omega arith; unused = refl; after = refl; bytes = refl })),
)

none_some : {A : Type 0} (a : A) → None ≡ Some a → ⊥
none_some a e = let z : ◌≡◌ {A = ℕ} 0 1 = cc in omega arith

-- it gives up A for C
the_rival : Rival eqb cost_of 2 rows (12 ∷ 11 ∷ []) 6
the_rival =
    has_it (take_for 11 1 10) 11 (unmoved (look 11)
    (pays (take_for 12 2 11) 12 (discards 10 (unmoved (look 12)
    (has_it (gets 10 slab (Ok (Some (record { from = 0; bytes = [] })))) 10
    (pays (take_in 11 1) 11 (unmoved (look 11)
    (pays (take_in 10 3) 10 (unmoved (look 10) starts refl refl) refl refl (omega arith))
    refl refl) refl refl (omega arith))
    refl refl)
    refl refl) (λ t l e. absurd (none_some l e))) refl refl (omega arith))
    refl refl) refl refl

abbrev l₃ : State ℕ
l₃ = lent_slot s₂ 1

abbrev l₄ : State ℕ
l₄ = settled (with_key (evicted l₃ 0) 0 12) 0 2 0

the_lease : Line eqb (small 2) leased l₄
the_lease = (
  l₄,
  (
    l₄,
    (
      l₃,
      (
        s₂,
        (
          s₁,
          (
            s₀,
            refl,
            (refl, refl, refl, record { slot = 0; below = omega arith; unused = refl; after = refl; bytes = refl }),
          ),
          (refl, refl, refl, record { slot = 1; below = omega arith; unused = refl; after = refl; bytes = refl }),
        ),
        (refl, record { slot = 1; held = refl; names = refl; after = refl }),
      ),
      (refl, refl, refl, (evicted l₃ 0, record { first = record { slot = 0; credit = 3 }; least = refl; key = refl; after = refl }, record { slot = 0; below = omega arith; unused = refl; after = refl; bytes = refl })),
    ),
    (refl, refl, refl),
  ),
  (refl, refl),
)

pub examples : Examples
examples = record {
  rows_end = s₅;
  rows_line = the_rows;
  rows_paid = refl;
  rows_evict = refl;
  rows_priced = (refl, (tt, (refl, (tt, (tt, (refl, (tt, (refl, (tt, tt)))))))));
  rival_keys = 12 ∷ 11 ∷ [];
  rival = the_rival;
  leased_end = l₄;
  leased_line = the_lease;
  no_slot = refl;
}
