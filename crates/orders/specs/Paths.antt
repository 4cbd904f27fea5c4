-- Paths through a table of successors, when a node joins and when one goes.
use Rattle.std.specs.Prelude.{◌≡◌, ℕ, ◌<◌, ◌≤◌, cond, List, [], ◌∷◌, ◌++◌, ◌==◌, ◌≢◌}
use Rattle.std.proofs.Common.{sym, subst, ◌∙◌, ⊎_elim, arith}
use Rattle.std.specs.List.{AllByRecursion}
use Rattle.std.proofs.lemmas.Bool.{cases_eq, eq-eqb, ne_eqb, cond-true, cond-false}
use Rattle.orders.specs.Rings.{Path, sans}

pub sans_same : (x y : ℕ) (ys : List ℕ) → y ≡ x → sans x (y ∷ ys) ≡ sans x ys
sans_same x y ys k = cond-true (y == x) (sans x ys) (y ∷ sans x ys) (eq-eqb y x k)

pub sans_other : (x y : ℕ) (ys : List ℕ) → (y ≢ x) → sans x (y ∷ ys) ≡ y ∷ sans x ys
sans_other x y ys k = cond-false (y == x) (sans x ys) (y ∷ sans x ys) (ne_eqb y x k)

-- x, alone so far, comes in between l and b
module _ (f f' g : ℕ → ℕ) (l x b : ℕ) (inv : (i : ℕ) → i < 1280 → g (f i) ≡ i) (x-in : x < 1024) (l-in : l < 1280)
    (fl : f l ≡ b) (fx : f x ≡ x) (fl' : f' l ≡ x) (fx' : f' x ≡ b)
    (fo : (i : ℕ) → (i ≢ l) → (i ≢ x) → f' i ≡ f i) where
  not_x : (a y : ℕ) → a < 1280 → (a ≢ x) → f a ≡ y → y ≢ x
  not_x a y h n e k = let p = inv a h in let q : g (f x) ≡ x = inv x (omega arith) in let r : a ≡ x = cc in n r

  pub push_here : (xs : List ℕ) (a : ℕ) → a < 1280 → (a ≢ x) → AllByRecursion (λ y. y < 1024) xs → 1024 ≤ b → Path f a xs b → Path f' a (xs ++ x ∷ []) b
  push_here [] a h n s bb p =
      let u = inv a h in
      let v = inv l l-in in
      let w : a ≡ l = cc in
      (cc, fx')
  push_here (y ∷ ys) a h n s bb p =
      let e : f a ≡ y = p.0 in
      let lo : y < 1024 = s.0 in
      (fo a (λ k. let z : y ≡ b = cc in omega arith) n ∙ e, push_here ys y (omega arith) (not_x a y h n e) s.1 bb p.1)

  pub push_other : (xs : List ℕ) (a c : ℕ) → a < 1280 → (a ≢ x) → AllByRecursion (λ y. y < 1024) xs → 1024 ≤ b → (c ≢ b) → Path f a xs c → Path f' a xs c
  push_other [] a c h n s bb d p = fo a (λ k. let z : c ≡ b = cc in d z) n ∙ p
  push_other (y ∷ ys) a c h n s bb d p =
      let e : f a ≡ y = p.0 in
      let lo : y < 1024 = s.0 in
      (fo a (λ k. let z : y ≡ b = cc in omega arith) n ∙ e, push_other ys y c (omega arith) (not_x a y h n e) s.1 bb d p.1)

-- x goes out between p and n
module _ (f f' g : ℕ → ℕ) (p x n : ℕ) (inv : (i : ℕ) → i < 1280 → g (f i) ≡ i) (x-in : x < 1024) (p-in : p < 1280)
    (fp : f p ≡ x) (fx : f x ≡ n) (fp' : (p ≢ x) → f' p ≡ n)
    (fo : (i : ℕ) → (i ≢ p) → (i ≢ x) → f' i ≡ f i) where
  -- where a path stands once x is out
  pub here : ℕ → ℕ
  here a = cond (a == x) p a

  here_same : (a : ℕ) → a ≡ x → here a ≡ p
  unfolding here
  here_same a k = cond-true (a == x) p a (eq-eqb a x k)

  pub here_other : (a : ℕ) → (a ≢ x) → here a ≡ a
  unfolding here
  here_other a k = cond-false (a == x) p a (ne_eqb a x k)

  moved : (a y : ℕ) → a < 1280 → f a ≡ y → (y ≢ x) → f' (here a) ≡ y
  moved a y h e d =
      ⊎_elim
      (λ k. let t = here_same a k in let u : f' p ≡ n = fp' (λ z. let w : y ≡ x = cc in d w) in cc)
      (λ k. let t = here_other a k in let u : f' a ≡ f a = fo a (λ z. let w : y ≡ x = cc in d w) k in cc)
      (cases_eq a x)

  pub out : (xs : List ℕ) (a b : ℕ) → a < 1280 → AllByRecursion (λ y. y < 1024) xs → 1024 ≤ b → Path f a xs b → Path f' (here a) (sans x xs) b
  out [] a b h s bb e = moved a b h e (omega arith)
  out (y ∷ ys) a b h s bb e =
      let ey : f a ≡ y = e.0 in
      let lo : y < 1024 = s.0 in
      let more : Path f' (here y) (sans x ys) b = out ys y b (omega arith) s.1 bb e.1 in
      ⊎_elim
      (λ k.
      let ip = inv p p-in in
      let ia = inv a h in
      let ap' : a ≡ p = cc in
      let hy : here y ≡ p = here_same y k in
      let ha : here a ≡ p = ⊎_elim (here_same a) (λ z. here_other a z ∙ ap') (cases_eq a x) in
      subst (λ (zs : List ℕ). Path f' (here a) zs b) (sym (sans_same x y ys k))
      (subst (λ (z : ℕ). Path f' z (sans x ys) b) (hy ∙ sym ha) more))
      (λ k.
      subst (λ (zs : List ℕ). Path f' (here a) zs b) (sym (sans_other x y ys k))
      (moved a y h ey k, subst (λ (z : ℕ). Path f' z (sans x ys) b) (here_other y k) more))
      (cases_eq y x)
