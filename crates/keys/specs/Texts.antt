-- The bytes of names, compared, checked and mixed one by one.
use Rattle.std.specs.Prelude.{◌≡◌, ℕ, ◌+◌, ◌<◌, ◌≤◌, Bool, true, false, ◌&&◌, ◌≢◌, List, [], ◌∷◌, length, drop, ◌==◌, slice_index, refl}
use Rattle.std.proofs.Common.{ap, subst, ◌∙◌, ⊎_elim}
use Rattle.std.proofs.lemmas.List.{drop_more, drop_all}
use Rattle.std.proofs.lemmas.Bool.{both_ways, cases_Bool, eq-eqb, eqb-true, and_parts, and_from}
use Rattle.keys.specs.Homes.{stirred, stirred_all}
use Rattle.keys.specs.Names.{plain, all_plain, same_bytes}

pub bytes_refl : (a : List ℕ) → same_bytes a a ≡ true
bytes_refl [] = refl
bytes_refl (x ∷ a) = and_from (x == x) (same_bytes a a) (eq-eqb x x refl) (bytes_refl a)

pub bytes_eq : (a b : List ℕ) → same_bytes a b ≡ true → a ≡ b
bytes_eq [] [] t = refl
bytes_eq [] (y ∷ b) t = absurd (both_ways false refl t)
bytes_eq (x ∷ a) [] t = absurd (both_ways false refl t)
bytes_eq (x ∷ a) (y ∷ b) t =
    let p = and_parts (x == y) (same_bytes a b) t in
    let h : x ≡ y = eqb-true x y p.0 in
    let r : a ≡ b = bytes_eq a b p.1 in
    cc

pub bytes_sym : (a b : List ℕ) → same_bytes a b ≡ true → same_bytes b a ≡ true
bytes_sym a b t = subst (λ (x : List ℕ). same_bytes x a ≡ true) (bytes_eq a b t) (bytes_refl a)

pub bytes_trans : (a b c : List ℕ) → same_bytes a b ≡ true → same_bytes b c ≡ true → same_bytes a c ≡ true
bytes_trans a b c t u = subst (λ (x : List ℕ). same_bytes a x ≡ true) (bytes_eq b c u) t

pub bytes_apart : (a b : List ℕ) → length a ≢ length b → same_bytes a b ≡ false
bytes_apart a b ne = ⊎_elim (λ t. absurd (ne (ap length (bytes_eq a b t)))) (λ f. f) (cases_Bool (same_bytes a b))

pub bytes_step : (a b : List ℕ) (i : ℕ) → i < length a → i < length b → same_bytes (drop i a) (drop i b) ≡ (slice_index a i == slice_index b i && same_bytes (drop (i + 1) a) (drop (i + 1) b))
bytes_step a b i la lb = ap (λ (x : List ℕ). same_bytes x (drop i b)) (drop_more a i 0 la) ∙ ap (same_bytes (slice_index a i ∷ drop (i + 1) a)) (drop_more b i 0 lb)

pub bytes_end : (a b : List ℕ) (i : ℕ) → length a ≤ i → length b ≤ i → same_bytes (drop i a) (drop i b) ≡ true
bytes_end a b i la lb = ap (λ (x : List ℕ). same_bytes x (drop i b)) (drop_all i a la) ∙ ap (same_bytes []) (drop_all i b lb)

pub plain_step : (t : List ℕ) (i : ℕ) → i < length t → all_plain (drop i t) ≡ (plain (slice_index t i) && all_plain (drop (i + 1) t))
plain_step t i l = ap all_plain (drop_more t i 0 l)

pub plain_end : (t : List ℕ) (i : ℕ) → length t ≤ i → all_plain (drop i t) ≡ true
plain_end t i l = ap all_plain (drop_all i t l)

pub stirred_step : (h : ℕ) (t : List ℕ) (i : ℕ) → i < length t → stirred_all h (drop i t) ≡ stirred_all (stirred h (slice_index t i)) (drop (i + 1) t)
stirred_step h t i l = ap (stirred_all h) (drop_more t i 0 l)

pub stirred_end : (h : ℕ) (t : List ℕ) (i : ℕ) → length t ≤ i → stirred_all h (drop i t) ≡ h
stirred_end h t i l = ap (stirred_all h) (drop_all i t l)

pub and_true : (x y : Bool) → x ≡ true → (x && y) ≡ y
and_true x y e = ap (λ z. z && y) e
