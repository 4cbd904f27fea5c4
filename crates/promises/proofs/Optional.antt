-- Options: none is not some, and some of two things makes them one.
use Rattle.std.proofs.Common.{◌≡◌, ℕ, true, false, is_some, Some, None, Option, refl, arith}
use Rattle.std.proofs.lemmas.Bool.{both_ways}

module _ {A : Type 0} where
  pub none_some : (x : A) → None ≡ Some x → ⊥
  none_some x e = let z : ◌≡◌ {A = ℕ} 0 1 = cc in omega arith

  pub some_eq : (a b : A) → Some a ≡ Some b → a ≡ b
  some_eq a b e = cc

  pub some_same : (o : Option A) (a b : A) → o ≡ Some a → o ≡ Some b → a ≡ b
  some_same o a b p q = cc

  pub some_of : (o : Option A) → is_some o ≡ true → (a : A) × (o ≡ Some a)
  some_of None e = absurd (both_ways false refl e)
  some_of (Some a) e = (a, refl)
