-- The derived equality of two that have left says whether they are the same.
use Rattle.std.proofs.Common.{◌≡◌, ℕ, true, Decides, ◌==◌, refl, subst, ap₂}
use Rattle.std.proofs.lemmas.Bool.{eq-eqb, eqb-true, and_parts, and_from}
use Rattle.orders.specs.declared.Expelled.{Expelled}
use Rattle.orders.specs.contracts.ExpelledPartialEq.TheImpl.{ghosts}

pub eq_decides : (x y : Expelled) → Decides (ghosts.eq x y) (x ≡ y)
eq_decides x y = (
  λ t. let p = and_parts (x.slot == y.slot) (x.credit == y.credit) t in ap₂ (λ (s c : ℕ). record { slot = s; credit = c }) (eqb-true _ _ p.0) (eqb-true _ _ p.1),
  λ e. subst (λ (z : Expelled). ghosts.eq x z ≡ true) e (and_from (x.slot == x.slot) (x.credit == x.credit) (eq-eqb x.slot x.slot refl) (eq-eqb x.credit x.credit refl)),
)
