-- Runs grow at their end.
use Rattle.std.proofs.Common.{◌≡◌, ℕ, ◌+◌, ◌<◌, Bool, List, [], ◌∷◌, ◌++◌, map, length, get_or, take, replicate, Option, sym, refl, ap, ◌∙◌, subst, append_assoc, append-nil}
use lib.ListN.{replicate-append-replicate}
use Rattle.std.proofs.lemmas.List.{take_more}
use Rattle.promises.specs.State.{State}
use Rattle.promises.specs.Events.{Event}
use Rattle.runs.specs.declared.asks.Ask.{Ask}
use Rattle.runs.specs.declared.asks.Happening.{Happening}
use Rattle.runs.specs.Asks.{Hand, Makes, Leads, shown, Does}
use Rattle.runs.specs.Runs.{Asked, Passes, Goes}

asked_more : {K : Type 0} (h i g : Hand) (asks : List (Ask K)) (cs : List (Option (Event K))) (a : Ask K) (c : Option (Event K)) → Asked h asks cs i → Makes i a c g → Asked h (asks ++ a ∷ []) (cs ++ c ∷ []) g
asked_more h i g [] [] a c r m = (g, subst (λ (y : Hand). Makes y a c g) r m, refl)
asked_more h i g [] (d ∷ cs) a c r m = absurd r
asked_more h i g (b ∷ asks) [] a c r m = absurd r
asked_more h i g (b ∷ asks) (d ∷ cs) a c r m = (r.0, r.1, asked_more r.0 i g asks cs a c r.2 m)

passes_more : {K : Type 0} (same : K → K → Bool) (s m t : State K) (cs : List (Option (Event K))) (c : Option (Event K)) → Passes same s cs m → Leads same m c t → Passes same s (cs ++ c ∷ []) t
passes_more {K} same s m t [] c p l = (t, subst (λ (y : State K). Leads same y c t) p l, refl)
passes_more same s m t (d ∷ cs) c p l = (p.0, p.1, passes_more same p.0 m t cs c p.2 l)

map_more : {A B : Type 0} (f : A → B) (xs : List A) (x : A) → map f (xs ++ x ∷ []) ≡ map f xs ++ f x ∷ []
map_more f [] x = refl
map_more {A} {B} f (y ∷ xs) x = ap (λ (r : List B). f y ∷ r) (map_more f xs x)

module _ {K : Type 0} (same : K → K → Bool) where
  pub goes_none : (x : List (Happening K)) (s : State K) (h : Hand) → Goes same x s h [] x s h
  goes_none x s h = record { calls = []; asked = refl; passes = refl; told = sym (append-nil x) }

  pub goes_more : (x y z : List (Happening K)) (s m t : State K) (h i g : Hand) (asks : List (Ask K)) (a : Ask K) (e : Happening K)
      → z ≡ y ++ e ∷ [] → Goes same x s h asks y m i → Does same m i a e t g → Goes same x s h (asks ++ a ∷ []) z t g
  goes_more x y z s m t h i g asks a e q r d =
      let w : z ≡ (x ++ map shown r.calls) ++ e ∷ [] = q ∙ ap (λ (u : List (Happening K)). u ++ e ∷ []) r.told in
      let v : map shown (r.calls ++ d.call ∷ []) ≡ map shown r.calls ++ shown d.call ∷ [] = map_more shown r.calls d.call in
      let u : map shown (r.calls ++ d.call ∷ []) ≡ map shown r.calls ++ e ∷ [] = v ∙ ap (λ (f : Happening K). map shown r.calls ++ f ∷ []) (sym d.told) in
      record {
        calls = r.calls ++ d.call ∷ [];
        asked = asked_more h i g asks r.calls a d.call r.asked d.makes;
        passes = passes_more same s m t r.calls d.call r.passes d.leads;
        told = w ∙ append_assoc x (map shown r.calls) (e ∷ []) ∙ ap (λ (f : List (Happening K)). x ++ f) (sym u);
      }

  -- one more ask of a list
  pub serve_more : (x y z : List (Happening K)) (s m t : State K) (h i g : Hand) (all : List (Ask K)) (n : ℕ) (a : Ask K) (e : Happening K)
      → n < length all → a ≡ get_or all n a → z ≡ y ++ e ∷ [] → Goes same x s h (take n all) y m i → Does same m i a e t g → Goes same x s h (take (n + 1) all) z t g
  serve_more x y z s m t h i g all n a e b p q r d =
      let w : take (n + 1) all ≡ take n all ++ a ∷ [] = take_more all n a b ∙ ap (λ (f : Ask K). take n all ++ f ∷ []) (sym p) in
      subst (λ (f : List (Ask K)). Goes same x s h f z t g) (sym w) (goes_more x y z s m t h i g (take n all) a e q r d)

  -- one more time the same ask
  pub again_more : (x y z : List (Happening K)) (s m t : State K) (h i g : Hand) (n : ℕ) (a : Ask K) (e : Happening K)
      → z ≡ y ++ e ∷ [] → Goes same x s h (replicate n a) y m i → Does same m i a e t g → Goes same x s h (replicate (n + 1) a) z t g
  again_more x y z s m t h i g n a e q r d =
      subst (λ (f : List (Ask K)). Goes same x s h f z t g) (replicate-append-replicate n 1 a) (goes_more x y z s m t h i g (replicate n a) a e q r d)

  pub again_done : (x y : List (Happening K)) (s t : State K) (h g : Hand) (n k : ℕ) (a : Ask K) → n ≡ k → Goes same x s h (replicate n a) y t g → Goes same x s h (replicate k a) y t g
  again_done x y s t h g n k a e r = subst (λ (f : ℕ). Goes same x s h (replicate f a) y t g) e r
