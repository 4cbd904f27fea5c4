-- One link of a chain is led elsewhere, as slot s comes into bucket b or goes.
use Rattle.std.proofs.Common.{◌≡◌, ℕ, ◌+◌, ◌%◌, ◌<◌, ◌≤◌, Bool, true, false, ◌≢◌, ◌⊎◌, List, length, get_or, set, Some, None, Option, sym, refl, ap, ◌∙◌, subst, ⊎_elim, arith}
use Rattle.std.proofs.lemmas.List.{get_or-set_same, get_or-set_other, length-set}
use Rattle.std.proofs.lemmas.Bool.{both_ways, cases_eq, cases_lt, cases_order, eqb-true, ne_eqb, eq-eqb}
use Rattle.directories.specs.Links.{First, Last, Linked, Chained, stands, in_bucket, link_at, heads_with, nexts_with, start_of}
use Rattle.directories.proofs.Firsts.{not_past, first_ext, first_before, first_after, first_here, first_gone, first_past}

module _ (f g : ℕ → ℕ → Bool) (m s b : ℕ) (hs ns : List ℕ)
    (old : Linked f m hs ns) (bm : b < m) (sm : s < m) (mh : m ≤ length hs) (mn : m ≤ length ns)
    (elsewhere : (a k : ℕ) → a ≢ b → g a k ≡ f a k)
    (away : (k : ℕ) → k ≢ s → g b k ≡ f b k)
    (apart : (a c k : ℕ) → f a k ≡ true → f c k ≡ true → a ≡ c)
  where
    pub relinked_head : (p : Option ℕ) (v : ℕ) → Last (f b) s p → First (g b) m (start_of p) v →
        (a : ℕ) → a < m → First (g a) m 0 (get_or (heads_with hs b p v) a 0)
    relinked_head None v last new a am =
        ⊎_elim
        (λ (e : a ≡ b). rw e (rw (get_or-set_same hs b v 0 (omega arith)) new))
        (λ (ne : a ≢ b). rw (get_or-set_other hs b a v 0 ne) (first_ext (f a) (g a) m 0 _ (λ k. elsewhere a k ne) (old.head a am)))
        (cases_eq a b)
    relinked_head (Some p) v last new a am =
        ⊎_elim
        (λ (e : a ≡ b).
        let h = old.head b bm in
        let le : get_or hs b 0 ≤ p = not_past (f b) m 0 (get_or hs b 0) p h (omega arith) last.1 in
        let ps : p < s = last.0 in
        rw e (first_before (f b) (g b) m s away 0 (get_or hs b 0) h (omega arith)))
        (λ (ne : a ≢ b). first_ext (f a) (g a) m 0 _ (λ k. elsewhere a k ne) (old.head a am))
        (cases_eq a b)

    pub relinked_next : (p : Option ℕ) (v : ℕ) → Last (f b) s p → First (g b) m (start_of p) v →
        (a i : ℕ) → a < m → i < m → i ≢ s → f a i ≡ true → First (g a) m (i + 1) (get_or (nexts_with ns p v) i 0)
    relinked_next None v last new a i am im is t =
        ⊎_elim
        (λ (e : a ≡ b).
        let tb : f b i ≡ true = rw e at t in
        ⊎_elim
        (λ (lt : i < s). absurd (both_ways (f b i) (last i lt) tb))
        (λ (le : s ≤ i). rw e (first_after (f b) (g b) m s away (i + 1) _ (old.next b i bm im tb) (omega arith)))
        (cases_lt i s))
        (λ (ne : a ≢ b). first_ext (f a) (g a) m (i + 1) _ (λ k. elsewhere a k ne) (old.next a i am im t))
        (cases_eq a b)
    relinked_next (Some p) v last new a i am im is t =
        let ps : p < s = last.0 in
        ⊎_elim
        (λ (e : a ≡ b).
        let tb : f b i ≡ true = rw e at t in
        let h = old.next b i bm im tb in
        ⊎_elim
        (λ (ip : i ≡ p). rw e (rw ip (rw (get_or-set_same ns p v 0 (omega arith)) new)))
        (λ (o : (i < p) ⊎ (p < i)).
        let np : i ≢ p = (λ q. ⊎_elim (λ l. omega arith) (λ l. omega arith) o) in
        rw e (rw (get_or-set_other ns p i v 0 np)
        (⊎_elim
        (λ (l : i < p).
        let le : get_or ns i 0 ≤ p = not_past (f b) m (i + 1) (get_or ns i 0) p h (omega arith) last.1 in
        first_before (f b) (g b) m s away (i + 1) (get_or ns i 0) h (omega arith))
        (λ (l : p < i).
        ⊎_elim
        (λ (lt : i < s). absurd (both_ways (f b i) (last.2 i l lt) tb))
        (λ (le : s ≤ i). first_after (f b) (g b) m s away (i + 1) _ h (omega arith))
        (cases_lt i s))
        o)))
        (cases_order i p))
        (λ (ne : a ≢ b).
        let np : i ≢ p = (λ q. ne (apart a b i t (rw q last.1))) in
        rw (get_or-set_other ns p i v 0 np) (first_ext (f a) (g a) m (i + 1) _ (λ k. elsewhere a k ne) (old.next a i am im t)))
        (cases_eq a b)

module _ {K : Type 0} (home : K → ℕ) (m : ℕ) where
  stands_apart : (a c : ℕ) (o : Option K) → stands home m a o ≡ true → stands home m c o ≡ true → a ≡ c
  stands_apart a c None t u = absurd (both_ways false refl t)
  stands_apart a c (Some k) t u = sym (eqb-true (home k % m) a t) ∙ eqb-true (home k % m) c u

  -- a link's first place, of any link
  link_first : (ks : List (Option K)) (hs ns : List ℕ) (b s : ℕ) (p : Option ℕ) → Chained home m ks hs ns → b < m → s < m →
      Last (in_bucket home m ks b) s p → First (in_bucket home m ks b) m (start_of p) (link_at hs ns b p)
  link_first ks hs ns b s None old bm sm last = old.head b bm
  link_first ks hs ns b s (Some p) old bm sm last = let ps : p < s = last.0 in old.next b p bm (omega arith) last.1

  start_below : (f : ℕ → Bool) (s : ℕ) (p : Option ℕ) → Last f s p → start_of p ≤ s
  start_below f s None last = omega arith
  start_below f s (Some p) last = let ps : p < s = last.0 in omega arith

  none_between : (f : ℕ → Bool) (s : ℕ) (p : Option ℕ) → Last f s p → (k : ℕ) → start_of p ≤ k → k < s → f k ≡ false
  none_between f s None last k a l = last k l
  none_between f s (Some p) last k a l = last.2 k (omega arith) l

  length_nexts : (ns : List ℕ) (p : Option ℕ) (v : ℕ) → length (nexts_with ns p v) ≡ length ns
  length_nexts ns None v = refl
  length_nexts ns (Some p) v = length-set ns p v

  module _ (ks : List (Option K)) (hs ns : List ℕ) (s : ℕ) (k : K) (p : Option ℕ)
      (old : Chained home m ks hs ns) (sm : s < m) (mk : m ≤ length ks) (mh : m ≤ length hs) (mn : m ≤ length ns)
      (bm : home k % m < m) (last : Last (in_bucket home m ks (home k % m)) s p)
    where
      pub chained_in : get_or ks s None ≡ None →
          Chained home m (set ks s (Some k)) (heads_with hs (home k % m) p s) (set (nexts_with ns p s) s (link_at hs ns (home k % m) p))
      chained_in free =
          let b : ℕ = home k % m in
          let f : ℕ → ℕ → Bool = in_bucket home m ks in
          let g : ℕ → ℕ → Bool = in_bucket home m (set ks s (Some k)) in
          let here : (a : ℕ) → g a s ≡ stands home m a (Some k) = (λ a. ap (stands home m a) (get_or-set_same ks s (Some k) None (omega arith))) in
          let there : (a i : ℕ) → i ≢ s → g a i ≡ f a i = (λ a i ne. ap (stands home m a) (get_or-set_other ks s i (Some k) None ne)) in
          let gone : (a : ℕ) → f a s ≡ false = (λ a. ap (stands home m a) free) in
          let elsewhere : (a i : ℕ) → a ≢ b → g a i ≡ f a i = (λ a i ne. ⊎_elim
          (λ (e : i ≡ s). rw e (here a ∙ ne_eqb b a (λ q. ne (sym q)) ∙ sym (gone a)))
          (λ (n : i ≢ s). there a i n)
          (cases_eq i s)) in
          let apart : (a c i : ℕ) → f a i ≡ true → f c i ≡ true → a ≡ c = (λ a c i t u. stands_apart a c (get_or ks i None) t u) in
          let before : First (f b) m (start_of p) (link_at hs ns b p) = link_first ks hs ns b s p old bm sm last in
          let below : start_of p ≤ s = start_below (f b) s p last in
          let between : (i : ℕ) → start_of p ≤ i → i < s → f b i ≡ false = none_between (f b) s p last in
          let new : First (g b) m (start_of p) s = first_here (f b) (g b) m s (there b) (start_of p) below sm (here b ∙ eq-eqb b b refl) between in
          let upto : (i : ℕ) → start_of p ≤ i → i < s + 1 → f b i ≡ false = (λ i a l. ⊎_elim
          (λ (e : i ≡ s). rw e (gone b))
          (λ (n : i ≢ s). between i a (omega arith))
          (cases_eq i s)) in
          let past : First (g b) m (s + 1) (link_at hs ns b p) =
          first_after (f b) (g b) m s (there b) (s + 1) _ (first_past (f b) m (start_of p) _ s (omega arith) sm upto before) (omega arith) in
          let long : s < length (nexts_with ns p s) = rw (length_nexts ns p s) (omega arith) in
          record {
            head = relinked_head f g m s b hs ns old bm sm mh mn elsewhere (there b) apart p s last new;
            next = λ a i am im t. ⊎_elim
                (λ (e : i ≡ s).
                let ab : b ≡ a = eqb-true b a (sym (here a) ∙ (rw e at t)) in
                rw e (rw (get_or-set_same (nexts_with ns p s) s (link_at hs ns b p) 0 long) (subst (λ (x : ℕ). First (g x) m (s + 1) (link_at hs ns b p)) ab past)))
                (λ (n : i ≢ s). rw (get_or-set_other (nexts_with ns p s) s i (link_at hs ns b p) 0 n)
                (relinked_next f g m s b hs ns old bm sm mh mn elsewhere (there b) apart p s last new a i am im n (sym (there a i n) ∙ t)))
                (cases_eq i s);
          }

      pub chained_out : get_or ks s None ≡ Some k →
          Chained home m (set ks s None) (heads_with hs (home k % m) p (get_or ns s 0)) (nexts_with ns p (get_or ns s 0))
      chained_out held =
          let b : ℕ = home k % m in
          let v : ℕ = get_or ns s 0 in
          let f : ℕ → ℕ → Bool = in_bucket home m ks in
          let g : ℕ → ℕ → Bool = in_bucket home m (set ks s None) in
          let here : (a : ℕ) → g a s ≡ false = (λ a. ap (stands home m a) (get_or-set_same ks s None None (omega arith))) in
          let there : (a i : ℕ) → i ≢ s → g a i ≡ f a i = (λ a i ne. ap (stands home m a) (get_or-set_other ks s i None None ne)) in
          let was : (a : ℕ) → f a s ≡ stands home m a (Some k) = (λ a. ap (stands home m a) held) in
          let elsewhere : (a i : ℕ) → a ≢ b → g a i ≡ f a i = (λ a i ne. ⊎_elim
          (λ (e : i ≡ s). rw e (here a ∙ sym (was a ∙ ne_eqb b a (λ q. ne (sym q)))))
          (λ (n : i ≢ s). there a i n)
          (cases_eq i s)) in
          let apart : (a c i : ℕ) → f a i ≡ true → f c i ≡ true → a ≡ c = (λ a c i t u. stands_apart a c (get_or ks i None) t u) in
          let below : start_of p ≤ s = start_below (f b) s p last in
          let between : (i : ℕ) → start_of p ≤ i → i < s → f b i ≡ false = none_between (f b) s p last in
          let new : First (g b) m (start_of p) v =
          first_gone (f b) (g b) m s (there b) (start_of p) v below (here b) between (old.next b s bm sm (was b ∙ eq-eqb b b refl)) in
          record {
            head = relinked_head f g m s b hs ns old bm sm mh mn elsewhere (there b) apart p v last new;
            next = λ a i am im t. ⊎_elim
                (λ (e : i ≡ s). absurd (both_ways (g a s) (here a) (rw e at t)))
                (λ (n : i ≢ s). relinked_next f g m s b hs ns old bm sm mh mn elsewhere (there b) apart p v last new a i am im n (sym (there a i n) ∙ t))
                (cases_eq i s);
          }
