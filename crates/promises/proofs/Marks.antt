-- The regions of GreedyDual by key, against the seats by slot: where just one slot has the key, and where none has.
use Rattle.std.proofs.Common.{◌≡◌, ℕ, Bool, false, eqb, List, [], ◌∷◌, map, None, refl, ⊎_elim}
use Rattle.std.specs.Option.{option_map}
use Rattle.std.specs.List.{AllByRecursion}
use Rattle.std.proofs.lemmas.Bool.{cases_Bool}
use Rattle.promises.specs.GreedyDual.{region_of, others, unranked}
use Rattle.promises.proofs.Seats.{Seat, seat, region, sans, lending, seat_at}

module _ {K : Type 0} (same : K → K → Bool) where
  -- the seat has the key exactly if it is the slot
  abbrev pub Marks : K → ℕ → Seat K → Type 0
  Marks k i (seat j l c r) = same l k ≡ eqb j i

  -- the seat has another key
  abbrev pub Differs : K → Seat K → Type 0
  Differs k (seat j l c r) = same l k ≡ false

  pub others_sans : (k : K) (i : ℕ) (xs : List (Seat K)) → AllByRecursion (Marks k i) xs → others same k (map region xs) ≡ map region (sans i xs)
  others_sans k i [] a = refl
  others_sans k i (seat j l c r ∷ xs) a =
      let m : same l k ≡ eqb j i = a.0 in
      let ih = others_sans k i xs a.1 in
      ⊎_elim (λ p. cc) (λ p. cc) (cases_Bool (eqb j i))

  pub region_seat : (k : K) (i : ℕ) (xs : List (Seat K)) → AllByRecursion (Marks k i) xs → region_of same k (map region xs) ≡ option_map region (seat_at i xs)
  region_seat k i [] a = refl
  region_seat k i (seat j l c r ∷ xs) a =
      let m : same l k ≡ eqb j i = a.0 in
      let ih = region_seat k i xs a.1 in
      ⊎_elim (λ p. cc) (λ p. cc) (cases_Bool (eqb j i))

  pub unranked_lending : (k : K) (i : ℕ) (xs : List (Seat K)) → AllByRecursion (Marks k i) xs → unranked same k (map region xs) ≡ map region (lending i xs)
  unranked_lending k i [] a = refl
  unranked_lending k i (seat j l c r ∷ xs) a =
      let m : same l k ≡ eqb j i = a.0 in
      let ih = unranked_lending k i xs a.1 in
      ⊎_elim (λ p. cc) (λ p. cc) (cases_Bool (eqb j i))

  pub region_none : (k : K) (xs : List (Seat K)) → AllByRecursion (Differs k) xs → region_of same k (map region xs) ≡ None
  region_none k [] a = refl
  region_none k (seat j l c r ∷ xs) a = let m : same l k ≡ false = a.0 in let ih = region_none k xs a.1 in cc

  pub others_none : (k : K) (xs : List (Seat K)) → AllByRecursion (Differs k) xs → others same k (map region xs) ≡ map region xs
  others_none k [] a = refl
  others_none k (seat j l c r ∷ xs) a = let m : same l k ≡ false = a.0 in let ih = others_none k xs a.1 in cc
