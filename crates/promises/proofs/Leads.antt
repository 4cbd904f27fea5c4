-- The first of least rank: the region that GreedyDual evicts is at the slot that leaves the order.
use Rattle.std.proofs.Common.{◌≡◌, ℕ, ◌-◌, ◌<◌, ◌≤◌, Bool, cond, leb, List, [], ◌∷◌, map, Some, None, Option, sym, refl, ap, ◌∙◌, subst, ⊎_elim, arith}
use Rattle.std.specs.Option.{option_map}
use Rattle.std.specs.List.{AllByRecursion}
use Rattle.std.proofs.ByRecursion.{All-weaker}
use Rattle.std.proofs.lemmas.Bool.{cases_Bool, cases_lt, le-leb, lt-leb, cond-true, cond-false}
use Rattle.orders.specs.declared.Entry.{Entry}
use Rattle.orders.specs.declared.Expelled.{Expelled}
use Rattle.orders.specs.Meaning.{joined, leaver}
use Rattle.promises.specs.GreedyDual.{Region, lower, least}
use Rattle.promises.proofs.Merges.{entry, merged, sooner, sooner_assoc, leaver_join}
use Rattle.promises.proofs.Seats.{Seat, seat, region, queue, Ranked}

-- a seat with a rank
pub record First (K : Type 0) : Type 0 where
  pub slot : ℕ
  pub key : K
  pub cost : ℕ
  pub rank : ℕ

module _ {K : Type 0} where
  abbrev pub sat : First K → Seat K
  sat f = seat f.slot f.key f.cost (Some f.rank)

  -- of two, the one of less rank, and the one before among equals
  abbrev pub better : First K → Option (First K) → Option (First K)
  better f None = Some f
  better f (Some q) = cond (leb f.rank q.rank) (Some f) (Some q)

  -- the first of least rank
  abbrev pub lead : List (Seat K) → Option (First K)
  lead [] = None
  lead (seat i k c None ∷ xs) = lead xs
  lead (seat i k c (Some r) ∷ xs) = better (record { slot = i; key = k; cost = c; rank = r }) (lead xs)

  better_here : (f q : First K) → f.rank ≤ q.rank → better f (Some q) ≡ Some f
  better_here f q h = cond-true (leb f.rank q.rank) (Some f) (Some q) (le-leb f.rank q.rank h)

  better_past : (f q : First K) → q.rank < f.rank → better f (Some q) ≡ Some q
  better_past f q h = cond-false (leb f.rank q.rank) (Some f) (Some q) (lt-leb f.rank q.rank h)

  -- it is one of them
  better_has : (P : First K → Type 0) (f : First K) (o : Option (First K)) → P f → ((q : First K) → o ≡ Some q → P q) → (q : First K) → better f o ≡ Some q → P q
  better_has P f None p g q e = let z : f ≡ q = cc in subst P z p
  better_has P f (Some x) p g q e = ⊎_elim
      (λ h. let w = better_past f x h in let z : x ≡ q = cc in subst P z (g x refl))
      (λ h. let w = better_here f x h in let z : f ≡ q = cc in subst P z p)
      (cases_lt x.rank f.rank)

  pub lead_has : (P : Seat K → Type 0) (xs : List (Seat K)) → AllByRecursion P xs → (f : First K) → lead xs ≡ Some f → P (sat f)
  lead_has P [] a f e = let z : ◌≡◌ {A = ℕ} 0 1 = cc in absurd (omega arith)
  lead_has P (seat i k c None ∷ xs) a f e = lead_has P xs a.1 f e
  lead_has P (seat i k c (Some r) ∷ xs) a f e = better_has (λ (q : First K). P (sat q)) (record { slot = i; key = k; cost = c; rank = r }) (lead xs) a.0 (λ q. lead_has P xs a.1 q) f e

  -- and none has less
  none_ranked : (n : ℕ) (xs : List (Seat K)) → lead xs ≡ None → AllByRecursion (Ranked n) xs
  none_ranked n [] e = tt
  none_ranked n (seat i k c None ∷ xs) e = (tt, none_ranked n xs e)
  none_ranked n (seat i k c (Some r) ∷ xs) e = absurd (never (record { slot = i; key = k; cost = c; rank = r }) (lead xs) e)
    where
      never : (f : First K) (o : Option (First K)) → better f o ≡ None → ⊥
      never f None h = let z : ◌≡◌ {A = ℕ} 0 1 = cc in omega arith
      never f (Some q) h = ⊎_elim
          (λ l. let w = better_past f q l in let z : ◌≡◌ {A = ℕ} 0 1 = cc in omega arith)
          (λ l. let w = better_here f q l in let z : ◌≡◌ {A = ℕ} 0 1 = cc in omega arith)
          (cases_lt q.rank f.rank)

  weaker : (m n : ℕ) → m ≤ n → (x : Seat K) → Ranked n x → Ranked m x
  weaker m n h (seat i k c None) a = tt
  weaker m n h (seat i k c (Some r)) a = let l : n ≤ r = a in omega arith

  pub lead_ranked : (xs : List (Seat K)) (f : First K) → lead xs ≡ Some f → AllByRecursion (Ranked f.rank) xs
  lead_ranked [] f e = tt
  lead_ranked (seat i k c None ∷ xs) f e = (tt, lead_ranked xs f e)
  lead_ranked (seat i k c (Some r) ∷ xs) f e = by (lead xs) refl (lead_ranked xs) e
    where
      x : First K
      x = record { slot = i; key = k; cost = c; rank = r }

      by : (o : Option (First K)) → lead xs ≡ o → ((q : First K) → lead xs ≡ Some q → AllByRecursion (Ranked q.rank) xs) → better x o ≡ Some f → (f.rank ≤ r) × AllByRecursion (Ranked f.rank) xs
      by None p g h = let z : r ≡ f.rank = cc in (omega arith, none_ranked f.rank xs p)
      by (Some q) p g h = ⊎_elim
          (λ l. let w = better_past x q l in let z : q.rank ≡ f.rank = cc in
          (omega arith, All-weaker (Ranked q.rank) (Ranked f.rank) (weaker f.rank q.rank (omega arith)) xs (g q p)))
          (λ l. let w = better_here x q l in let z : r ≡ f.rank = cc in
          (omega arith, All-weaker (Ranked q.rank) (Ranked f.rank) (weaker f.rank q.rank (omega arith)) xs (g q p)))
          (cases_lt q.rank r)

  -- ---- GreedyDual's choice

  abbrev pub region_first : First K → Region K
  region_first f = region (sat f)

  pub least_lead : (same : K → K → Bool) (xs : List (Seat K)) → least same (map region xs) ≡ option_map region_first (lead xs)
  least_lead same [] = refl
  least_lead same (seat i k c None ∷ xs) = least_lead same xs
  least_lead same (seat i k c (Some r) ∷ xs) = ap (lower same (region_first x) (Some r)) (least_lead same xs) ∙ by (lead xs)
    where
      x : First K
      x = record { slot = i; key = k; cost = c; rank = r }

      by : (o : Option (First K)) → lower same (region_first x) (Some r) (option_map region_first o) ≡ option_map region_first (better x o)
      by None = refl
      by (Some q) = ⊎_elim (λ p. cc) (λ p. cc) (cases_Bool (leb r q.rank))

  -- ---- the order's choice

  abbrev pub expels : ℕ → First K → Expelled
  expels l f = record { slot = f.slot; credit = f.rank - l }

  sooner_better : (l : ℕ) (f : First K) (o : Option (First K)) → l ≤ f.rank → ((q : First K) → o ≡ Some q → l ≤ q.rank)
      → sooner (Some (expels l f)) (option_map (expels l) o) ≡ option_map (expels l) (better f o)
  sooner_better l f None h g = refl
  sooner_better l f (Some q) h g =
      let m : l ≤ q.rank = g q refl in
      ⊎_elim
      (λ p. cond-false (leb (f.rank - l) (q.rank - l)) (Some (expels l f)) (Some (expels l q)) (lt-leb (f.rank - l) (q.rank - l) (omega arith)) ∙ ap (option_map (expels l)) (sym (better_past f q p)))
      (λ p. cond-true (leb (f.rank - l) (q.rank - l)) (Some (expels l f)) (Some (expels l q)) (le-leb (f.rank - l) (q.rank - l) (omega arith)) ∙ ap (option_map (expels l)) (sym (better_here f q p)))
      (cases_lt q.rank f.rank)

  leaver_merged : (l : ℕ) (xs : List (Seat K)) (acc : List Entry) → AllByRecursion (Ranked l) xs → leaver (merged acc (queue l xs)) ≡ sooner (leaver acc) (option_map (expels l) (lead xs))
  leaver_merged l [] acc a = none (leaver acc)
    where
      none : (o : Option Expelled) → o ≡ sooner o None
      none None = refl
      none (Some x) = refl
  leaver_merged l (seat i k c None ∷ xs) acc a = leaver_merged l xs acc a.1
  leaver_merged l (seat i k c (Some r) ∷ xs) acc a =
      let x : First K = record { slot = i; key = k; cost = c; rank = r } in
      leaver_merged l xs (joined (entry i (r - l)) acc) a.1
      ∙ ap (λ (o : Option Expelled). sooner o (option_map (expels l) (lead xs))) (leaver_join (entry i (r - l)) acc)
      ∙ sooner_assoc (leaver acc) (Some (expels l x)) (option_map (expels l) (lead xs))
      ∙ ap (sooner (leaver acc)) (sooner_better l x (lead xs) a.0 (λ q e. lead_has (Ranked l) xs a.1 q e))

  -- the first of the order is the first of least rank
  pub leaver_lead : (l : ℕ) (xs : List (Seat K)) → AllByRecursion (Ranked l) xs → leaver (merged [] (queue l xs)) ≡ option_map (expels l) (lead xs)
  leaver_lead l xs a = leaver_merged l xs [] a
