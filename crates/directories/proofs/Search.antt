-- The search along a chain, and the last slot of a chain below another.
use Rattle.std.proofs.Common.{◌≡◌, ℕ, ◌+◌, ◌%◌, ◌<◌, ◌≤◌, Bool, true, false, ◌≢◌, List, get_or, Some, None, Option, refl, ap, ⊎_elim, arith}
use Rattle.std.proofs.lemmas.Bool.{both_ways, cases_eq, cases_lt, cases_Bool, eq-eqb}
use Rattle.keys.specs.Sameness.{SameLaws}
use Rattle.directories.specs.Meaning.{holds}
use Rattle.directories.specs.Links.{First, Last, Below, Chained, stands, in_bucket}

module _ {K : Type 0} (same : K → K → Bool) (home : K → ℕ) (laws : SameLaws same home) (m : ℕ) (key : K) where
  held_stands : (o : Option K) → holds same key o ≡ true → stands home m (home key % m) o ≡ true
  held_stands None t = absurd (both_ways false refl t)
  held_stands (Some a) t = eq-eqb (home a % m) (home key % m) (ap (λ h. h % m) (laws.one_home a key t))

  unheld : (b : ℕ) → b ≡ home key % m → (o : Option K) → stands home m b o ≡ false → holds same key o ≡ false
  unheld b e o f =
      ⊎_elim
      (λ t. absurd (both_ways (stands home m (home key % m) o) (rw e at f) (held_stands o t)))
      (λ f. f)
      (cases_Bool (holds same key o))

  module _ (ks : List (Option K)) (hs ns : List ℕ) (old : Chained home m ks hs ns) (b : ℕ) (e : b ≡ home key % m) (bm : b < m) where
    abbrev Seeking : ℕ → Type 0
    Seeking i = (i ≤ m) × ((k : ℕ) → k < i → holds same key (get_or ks k None) ≡ false) × (i < m → in_bucket home m ks b i ≡ true)

    pub seek_start : (r : ℕ) → r ≡ get_or hs b 0 → Seeking r
    seek_start r q =
        let first : First (in_bucket home m ks b) m 0 r = rw q (old.head b bm) in
        (first.within, (λ k l. unheld b e (get_or ks k None) (first.passed k (omega arith) l)), first.there)

    pub seek_next : (i r : ℕ) → Seeking i → i < m → holds same key (get_or ks i None) ≡ false → r ≡ get_or ns i 0 → Seeking r
    seek_next i r s im no_key q =
        let first : First (in_bucket home m ks b) m (i + 1) r = rw q (old.next b i bm im (s.2 im)) in (
          first.within,
          (λ k l. ⊎_elim
              (λ (lt : k < i). s.1 k lt)
              (λ (ge : i ≤ k). ⊎_elim
              (λ (q : k ≡ i). rw q no_key)
              (λ (n : k ≢ i). unheld b e (get_or ks k None) (first.passed k (omega arith) l))
              (cases_eq k i))
              (cases_lt k i)),
          first.there,
        )

module _ {K : Type 0} (home : K → ℕ) (m : ℕ) (ks : List (Option K)) (hs ns : List ℕ) (old : Chained home m ks hs ns) (b s : ℕ) (bm : b < m) (sm : s < m) where
  abbrev Nearing : ℕ → Option ℕ → Type 0
  Nearing i o = (i < m → in_bucket home m ks b i ≡ true) × Last (in_bucket home m ks b) i o × Below s o

  pub near_start : (r : ℕ) → r ≡ get_or hs b 0 → Nearing r None
  near_start r q =
      let first : First (in_bucket home m ks b) m 0 r = rw q (old.head b bm) in
      (first.there, (λ k l. first.passed k (omega arith) l), tt)

  pub near_next : (i r : ℕ) (o : Option ℕ) → Nearing i o → i < s → r ≡ get_or ns i 0 → Nearing r (Some i)
  near_next i r o near l q =
      let here : in_bucket home m ks b i ≡ true = near.0 (omega arith) in
      let first : First (in_bucket home m ks b) m (i + 1) r = rw q (old.next b i bm (omega arith) here) in
      let ir : i + 1 ≤ r = first.from in
      (first.there, (omega arith, here, (λ k a z. first.passed k (omega arith) z)), l)

  pub near_end : (i : ℕ) (o : Option ℕ) → Nearing i o → s ≤ i → Last (in_bucket home m ks b) s o
  near_end i None near l = λ k z. near.1 k (omega arith)
  near_end i (Some p) near l = (near.2, near.1.1, λ k a z. near.1.2 k a (omega arith))
