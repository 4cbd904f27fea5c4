-- How a text is cut.
use Rattle.std.specs.List.{position, position_or_len}
use Rattle.std.proofs.Common.{◌≡◌, ℕ, suc, ◌+◌, ◌<◌, ◌≤◌, true, false, cond, eqb, ltb, ◌⊎◌, List, [], ◌∷◌, length, take, drop, not, Some, None, Option, MatchOption, sym, refl, ap, ◌∙◌, subst, ⊎_elim, add-one, arith}
use Rattle.std.proofs.lemmas.Bool.{cond-true, cond-false, cases_lt, le-ltb, lt-ltb, ltb-true}
use Rattle.std.proofs.lemmas.Bool.Decides.{nat_tests}
use Rattle.std.proofs.lemmas.List.{length-take-le}
use Rattle.traces.specs.Cut.{line_of, before, cut, upto, Begins}

pub upto_le : (b : ℕ) (xs : List ℕ) → upto b xs ≤ length xs
upto_le b [] = omega arith
upto_le b (x ∷ xs) =
    elim (eqb x b) as (λ t. cond t 0 (suc (upto b xs)) ≤ suc (length xs)) [ true ↦ omega arith | false ↦ omega (arith, upto_le b xs) ]

-- what a search for a byte finds
upto_is : (b : ℕ) (xs : List ℕ) → position_or_len (λ x. eqb x b) xs ≡ upto b xs
upto_is b [] = refl
upto_is b (x ∷ xs) = elim (eqb x b) as (λ t. cond (not t) (1 + position_or_len (λ y. eqb y b) xs) 0 ≡ cond t 0 (suc (upto b xs))) [ true ↦ refl | false ↦ omega (arith, upto_is b xs) ]

pub upto_found : (b : ℕ) (xs : List ℕ) (r : Option ℕ) → r ≡ position (λ x. eqb x b) xs → MatchOption r (upto b xs ≡ length xs) (λ i. (i ≡ upto b xs) × (i < length xs))
upto_found b xs r e =
    ⊎_elim
    (λ (h : upto b xs < length xs). rw (e ∙ found h) (upto_is b xs, omega (arith, upto_is b xs)))
    (λ (h : length xs ≤ upto b xs). rw (e ∙ missed h) (omega (arith, upto_le b xs)))
    (cases_lt (upto b xs) (length xs))
  where
    found : upto b xs < length xs → position (λ x. eqb x b) xs ≡ Some (position_or_len (λ x. eqb x b) xs)
    found h = cond-true (ltb (position_or_len (λ x. eqb x b) xs) (length xs)) _ _ (lt-ltb _ _ (omega (arith, upto_is b xs)))

    missed : length xs ≤ upto b xs → position (λ x. eqb x b) xs ≡ None
    missed h = cond-false (ltb (position_or_len (λ x. eqb x b) xs) (length xs)) _ _ (le-ltb _ _ (omega (arith, upto_is b xs)))

ltb_suc : (m n : ℕ) → ltb (suc m) (suc n) ≡ ltb m n
ltb_suc m n = grind (arith, nat_tests)

-- the first line of a text
pub cut_first : (bs : List ℕ) → 0 < length bs → cut bs ≡ line_of (take (upto 10 bs) bs) (ltb (upto 10 bs) (length bs)) ∷ cut (drop (suc (upto 10 bs)) bs)
cut_first [] h = absurd (omega arith)
cut_first (b ∷ []) h =
    elim (eqb b 10) as (λ t. cond t (line_of [] true ∷ []) (line_of (b ∷ []) false ∷ []) ≡ line_of (take (cond t 0 1) (b ∷ [])) (ltb (cond t 0 1) 1) ∷ cut (drop (cond t 0 1) []))
    [ true ↦ refl | false ↦ refl ]
cut_first (b ∷ c ∷ cs) h =
    let rest = c ∷ cs in
    let u = upto 10 rest in
    elim (eqb b 10) as (λ t. cond t (line_of [] true ∷ cut rest) (before b (cut rest)) ≡ line_of (take (cond t 0 (suc u)) (b ∷ rest)) (ltb (cond t 0 (suc u)) (suc (length rest))) ∷ cut (drop (cond t 0 (suc u)) rest)) [
      | true ↦ ap (λ t. line_of [] t ∷ cut rest) (sym (lt-ltb 0 (suc (length rest)) (omega arith)))
      | false ↦ ap (before b) (cut_first (c ∷ cs) (omega arith)) ∙ ap (λ t. line_of (b ∷ take u rest) t ∷ cut (drop (suc u) rest)) (sym (ltb_suc u (length rest)))
    ]

-- what the place of the first LF says of the first line
pub first_whole : (bs : List ℕ) (i : ℕ) → i ≡ upto 10 bs → i < length bs → cut bs ≡ line_of (take i bs) true ∷ cut (drop (i + 1) bs)
first_whole bs i e h =
    cut_first bs (omega arith)
    ∙ (λ j. line_of (take (sym e j) bs) (lt-ltb (upto 10 bs) (length bs) (omega arith) j) ∷ cut (drop (suc (sym e j)) bs))
    ∙ ap (λ k. line_of (take i bs) true ∷ cut (drop k bs)) (sym (add-one i))

pub first_unsound : (bs : List ℕ) (i : ℕ) → i ≡ upto 10 bs → (i ≡ length bs) ⊎ (80 < i) → Begins (cut bs) → ⊥
first_unsound [] i e h s = s
first_unsound (b ∷ bs) i e h s =
    let t : Begins (line_of (take (upto 10 (b ∷ bs)) (b ∷ bs)) (ltb (upto 10 (b ∷ bs)) (length (b ∷ bs))) ∷ cut (drop (suc (upto 10 (b ∷ bs))) (b ∷ bs))) = subst Begins (cut_first (b ∷ bs) (omega arith)) s in
    ⊎_elim
    (λ (z : i ≡ length (b ∷ bs)). absurd (omega (arith, ltb-true (upto 10 (b ∷ bs)) (length (b ∷ bs)) t.0)))
    (λ (z : 80 < i). absurd (omega (arith, t.1, length-take-le (upto 10 (b ∷ bs)) (b ∷ bs) (upto_le 10 (b ∷ bs)))))
    h

pub cut_some : (bs : List ℕ) → 0 < length bs → 0 < length (cut bs)
cut_some bs h = rw (cut_first bs h) (omega arith)
