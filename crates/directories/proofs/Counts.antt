-- The slots of a list of keys: how many are used, and where a key stands.
use Rattle.std.proofs.Common.{◌≡◌, ℕ, zero, suc, ◌+◌, ◌<◌, Bool, true, false, List, [], ◌∷◌, length, get_or, set, replicate, Some, None, Option, refl, ap, ◌∙◌, arith}
use Rattle.std.proofs.lemmas.Bool.{cond-true, cond-false}
use Rattle.std.specs.Option.{option_map}
use Rattle.directories.specs.Meaning.{pairs, holds, slot_in}

pub pairs_none : (K : Type 0) (n : ℕ) → pairs {K = K} (replicate n None) ≡ 0
pairs_none K zero = refl
pairs_none K (suc n) = pairs_none K n

module _ {K : Type 0} where
  pub pairs_in : (ks : List (Option K)) (i : ℕ) (k : K) → i < length ks → get_or ks i None ≡ None → pairs (set ks i (Some k)) ≡ pairs ks + 1
  pairs_in [] i k l e = absurd (omega arith)
  pairs_in (None ∷ ks) zero k l e = omega arith
  pairs_in (Some a ∷ ks) zero k l e = let z : ◌≡◌ {A = ℕ} 0 1 = cc in absurd (omega arith)
  pairs_in (None ∷ ks) (suc i) k l e = pairs_in ks i k (omega arith) e
  pairs_in (Some a ∷ ks) (suc i) k l e = let h = pairs_in ks i k (omega arith) e in omega arith

  pub pairs_out : (ks : List (Option K)) (i : ℕ) (k : K) → i < length ks → get_or ks i None ≡ Some k → pairs (set ks i None) + 1 ≡ pairs ks
  pairs_out [] i k l e = absurd (omega arith)
  pairs_out (None ∷ ks) zero k l e = let z : ◌≡◌ {A = ℕ} 0 1 = cc in absurd (omega arith)
  pairs_out (Some a ∷ ks) zero k l e = omega arith
  pairs_out (None ∷ ks) (suc i) k l e = pairs_out ks i k (omega arith) e
  pairs_out (Some a ∷ ks) (suc i) k l e = let h = pairs_out ks i k (omega arith) e in omega arith

  module _ (same : K → K → Bool) (key : K) where
    pub slot_at : (ks : List (Option K)) (i : ℕ) → i < length ks → holds same key (get_or ks i None) ≡ true →
        ((j : ℕ) → j < i → holds same key (get_or ks j None) ≡ false) → slot_in same key ks ≡ Some i
    slot_at [] i l t b = absurd (omega arith)
    slot_at (o ∷ ks) zero l t b = cond-true (holds same key o) (Some 0) (option_map suc (slot_in same key ks)) t
    slot_at (o ∷ ks) (suc i) l t b =
        cond-false (holds same key o) (Some 0) (option_map suc (slot_in same key ks)) (b 0 (omega arith))
        ∙ ap (option_map suc) (slot_at ks i (omega arith) t (λ j z. b (suc j) (omega arith)))

    pub slot_absent : (ks : List (Option K)) → ((j : ℕ) → j < length ks → holds same key (get_or ks j None) ≡ false) → slot_in same key ks ≡ None
    slot_absent [] b = refl
    slot_absent (o ∷ ks) b =
        cond-false (holds same key o) (Some 0) (option_map suc (slot_in same key ks)) (b 0 (omega arith))
        ∙ ap (option_map suc) (slot_absent ks (λ j z. b (suc j) (omega arith)))
