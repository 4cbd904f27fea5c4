-- Members of a list of keys, told apart by sameness.
use Rattle.std.proofs.Common.{◌≡◌, ℕ, ◌+◌, Bool, true, false, cond, ◌⊎◌, List, [], ◌∷◌, sym, refl, inl, inr}
use Rattle.std.proofs.lemmas.Bool.{cases_Bool}
use Rattle.keys.specs.Sameness.{SameLaws}
use Rattle.promises.specs.Rivals.{has, without}

-- the sum of the keys' costs
abbrev pub total : {K : Type 0} → (K → ℕ) → List K → ℕ
total cost [] = 0
total cost (r ∷ rs) = cost r + total cost rs

-- two tests that hold together
pub test_iff : (x y : Bool) → (x ≡ true → y ≡ true) → (y ≡ true → x ≡ true) → x ≡ y
test_iff true y f g = sym (f refl)
test_iff false true f g = g refl
test_iff false false f g = refl

module _ {K : Type 0} (same : K → K → Bool) {home : K → ℕ} (laws : SameLaws same home) where
  pub same_flip : (a b : K) → same a b ≡ same b a
  same_flip a b = test_iff _ _ (laws.symmetric a b) (laws.symmetric b a)

  -- same keys are told apart from the others alike
  pub same_alike : (a b c : K) → same a b ≡ true → same a c ≡ same b c
  same_alike a b c e = test_iff _ _ (λ p. laws.transitive b a c (laws.symmetric a b e) p) (λ p. laws.transitive a b c e p)

  pub has_alike : (rs : List K) (a b : K) → same a b ≡ true → has same rs a ≡ has same rs b
  has_alike [] a b e = refl
  has_alike (r ∷ rs) a b e = let p = same_alike a b r e in let q = has_alike rs a b e in cc

  -- what is left without k
  pub has_without : (k : K) (rs : List K) (a : K) → has same (without same k rs) a ≡ cond (same k a) false (has same rs a)
  has_without k [] a = elim (same k a) as (λ t. false ≡ cond t false false) [ true ↦ refl | false ↦ refl ]
  has_without k (r ∷ rs) a = go (cases_Bool (same k r)) (cases_Bool (same k a)) (has_without k rs a)
    where
      go : (same k r ≡ true) ⊎ (same k r ≡ false) → (same k a ≡ true) ⊎ (same k a ≡ false) → has same (without same k rs) a ≡ cond (same k a) false (has same rs a) → has same (without same k (r ∷ rs)) a ≡ cond (same k a) false (has same (r ∷ rs) a)
      go (inl p) (inl q) ih = cc
      go (inl p) (inr q) ih = let d = same_alike k r a p in let f = same_flip a r in cc
      go (inr p) (inl q) ih = let d = same_alike k a r q in cc
      go (inr p) (inr q) ih = cc
