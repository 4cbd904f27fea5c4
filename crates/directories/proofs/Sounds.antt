-- The table of a hashed directory, as a key comes in or goes.
use Rattle.std.proofs.Common.{◌≡◌, ℕ, ◌+◌, ◌-◌, ◌<◌, ◌≤◌, Bool, true, false, ◌≢◌, List, length, get_or, take, set, Some, None, Option, sym, ap, ◌∙◌, subst, ⊎_elim, arith}
use lib.Seq.{take-set-lt}
use Rattle.std.proofs.lemmas.List.{length-take-le, get_or-take, get_or-set_same, get_or-set_other}
use Rattle.std.proofs.lemmas.Bool.{both_ways, cases_eq}
use Rattle.keys.specs.Sameness.{SameLaws}
use Rattle.directories.specs.Meaning.{pairs, holds, slot_in}
use Rattle.directories.specs.Links.{Least, Stacked, Apart}
use Rattle.directories.proofs.Counts.{pairs_in, pairs_out, slot_at, slot_absent}

some_none : {K : Type 0} (o : Option K) (a : K) → o ≡ Some a → o ≡ None → ⊥
some_none o a p q = let z : ◌≡◌ {A = ℕ} 0 1 = cc in omega arith

-- keys in m slots, and the stack of n free slots
module _ {K : Type 0} (m : ℕ) (ks : List (Option K)) (fs : List ℕ) (n : ℕ) (old : Stacked m ks fs n) (mk : m ≤ length ks) where
  pub length_slots : length (take m ks) ≡ m
  length_slots = length-take-le m ks mk

  pub popped : (s : ℕ) (k : K) → 0 < n → s ≡ get_or fs (n - 1) 0 → (s < m) × (get_or ks s None ≡ None) × Stacked m (set ks s (Some k)) fs (n - 1)
  popped s k pos e =
      let top = old.unused (n - 1) (omega arith) in
      let sm : s < m = rw e top.0 in
      let su : get_or ks s None ≡ None = rw e top.1 in
      let at-s : get_or (take m ks) s None ≡ None = get_or-take m ks s None sm ∙ su in
      let more : pairs (set (take m ks) s (Some k)) ≡ pairs (take m ks) + 1 = pairs_in (take m ks) s k (rw length_slots sm) at-s in
      let swap : pairs (take m (set ks s (Some k))) ≡ pairs (set (take m ks) s (Some k)) = ap pairs (take-set-lt m ks s (Some k) sm) in
      let cnt : n + pairs (take m ks) ≡ m = old.count in (
        sm,
        su,
        record {
          unused = λ j l.
              let u = old.unused j (omega arith) in
              let ne : get_or fs j 0 ≢ s = (λ q. let w : j ≡ n - 1 = old.once j (n - 1) (omega arith) (omega arith) (q ∙ e) in omega arith) in
              (u.0, get_or-set_other ks s (get_or fs j 0) (Some k) None ne ∙ u.1);
          once = λ i j a b q. old.once i j (omega arith) (omega arith) q;
          count = omega arith;
        },
      )

  -- another stack with the same slots in use
  pub restacked : (fs' : List ℕ) → ((j : ℕ) → j < n → get_or fs' j 0 ≡ get_or fs j 0) → Stacked m ks fs' n
  restacked fs' there = record {
    unused = λ j l. rw (there j l) (old.unused j l);
    once = λ i j a b q. old.once i j a b (sym (there i a) ∙ q ∙ there j b);
    count = old.count;
  }

  -- a slot on top of the stack, whose other places are as they were
  pub pushed : (s : ℕ) (k : K) → s < m → get_or ks s None ≡ Some k → (n < m)
      × ((fs' : List ℕ) → get_or fs' n 0 ≡ s → ((j : ℕ) → j < n → get_or fs' j 0 ≡ get_or fs j 0) → Stacked m (set ks s None) fs' (n + 1))
  pushed s k sm held =
      let at-s : get_or (take m ks) s None ≡ Some k = get_or-take m ks s None sm ∙ held in
      let less : pairs (set (take m ks) s None) + 1 ≡ pairs (take m ks) = pairs_out (take m ks) s k (rw length_slots sm) at-s in
      let swap : pairs (take m (set ks s None)) ≡ pairs (set (take m ks) s None) = ap pairs (take-set-lt m ks s None sm) in
      let cnt : n + pairs (take m ks) ≡ m = old.count in
      let nm : n < m = omega arith in
      let gone : get_or (set ks s None) s None ≡ None = get_or-set_same ks s None None (omega arith) in
      let not-s : (j : ℕ) → j < n → get_or fs j 0 ≢ s = (λ j l q. some_none (get_or ks s None) k held (subst (λ (x : ℕ). get_or ks x None ≡ None) q (old.unused j l).1)) in (
        nm,
        λ fs' here there. record {
          unused = λ j l. ⊎_elim
              (λ (e : j ≡ n). rw e (rw here (sm, gone)))
              (λ (ne : j ≢ n).
              let u = old.unused j (omega arith) in
              rw (there j (omega arith)) (u.0, get_or-set_other ks s (get_or fs j 0) None None (not-s j (omega arith)) ∙ u.1))
              (cases_eq j n);
          once = λ i j a b q. ⊎_elim
              (λ (e : i ≡ n). ⊎_elim
              (λ (f : j ≡ n). e ∙ sym f)
              (λ (nf : j ≢ n). absurd (not-s j (omega arith) (sym (there j (omega arith)) ∙ sym q ∙ ap (λ x. get_or fs' x 0) e ∙ here)))
              (cases_eq j n))
              (λ (ne : i ≢ n). ⊎_elim
              (λ (f : j ≡ n). absurd (not-s i (omega arith) (sym (there i (omega arith)) ∙ q ∙ ap (λ x. get_or fs' x 0) f ∙ here)))
              (λ (nf : j ≢ n). old.once i j (omega arith) (omega arith) (sym (there i (omega arith)) ∙ q ∙ there j (omega arith)))
              (cases_eq j n))
              (cases_eq i n);
          count = omega arith;
        },
      )

module _ {K : Type 0} (same : K → K → Bool) (m : ℕ) (ks : List (Option K)) (mk : m ≤ length ks) where
  -- what stands in the slots
  pub absent : (key : K) → ((k : ℕ) → k < m → holds same key (get_or ks k None) ≡ false) → slot_in same key (take m ks) ≡ None
  absent key none = slot_absent same key (take m ks) (λ j l.
      let jm : j < m = rw (length-take-le m ks mk) at l in
      ap (holds same key) (get_or-take m ks j None jm) ∙ none j jm)

  pub present : (key : K) (i : ℕ) → i < m → holds same key (get_or ks i None) ≡ true → ((k : ℕ) → k < i → holds same key (get_or ks k None) ≡ false) → slot_in same key (take m ks) ≡ Some i
  present key i im t none = slot_at same key (take m ks) i (rw (length-take-le m ks mk) im)
      (ap (holds same key) (get_or-take m ks i None im) ∙ t)
      (λ j l. ap (holds same key) (get_or-take m ks j None (omega arith)) ∙ none j l)

  pub sought : (key : K) (r : Option ℕ) → Least (λ i. holds same key (get_or ks i None)) m r → r ≡ slot_in same key (take m ks)
  sought key None least = sym (absent key least)
  sought key (Some i) least = sym (present key i least.0 least.1 least.2)

module _ {K : Type 0} (same : K → K → Bool) (home : K → ℕ) (laws : SameLaws same home) (m : ℕ) (ks : List (Option K)) (mk : m ≤ length ks) (old : Apart same m ks) where
  pub apart_in : (s : ℕ) (key : K) → s < m → ((k : ℕ) → k < m → holds same key (get_or ks k None) ≡ false) → Apart same m (set ks s (Some key))
  apart_in s key sm none i j a b im jm ea eb t =
      let here : get_or (set ks s (Some key)) s None ≡ Some key = get_or-set_same ks s (Some key) None (omega arith) in
      let other : (x : ℕ) → x ≢ s → get_or (set ks s (Some key)) x None ≡ get_or ks x None = (λ x ne. get_or-set_other ks s x (Some key) None ne) in
      let at : (x : ℕ) (c : K) → x ≡ s → get_or (set ks s (Some key)) x None ≡ Some c → c ≡ key =
      (λ x c q ec. let h : get_or (set ks s (Some key)) x None ≡ Some key = rw q here in cc) in
      let clash : (x : ℕ) (c : K) → x < m → x ≢ s → get_or (set ks s (Some key)) x None ≡ Some c → same c key ≡ true → ⊥ =
      (λ x c xm ne ec tc. both_ways (holds same key (get_or ks x None)) (none x xm) (ap (holds same key) (sym (other x ne) ∙ ec) ∙ tc)) in
      ⊎_elim
      (λ (e : i ≡ s). ⊎_elim
      (λ (f : j ≡ s). e ∙ sym f)
      (λ (nf : j ≢ s). absurd (clash j b jm nf eb (laws.symmetric key b (subst (λ (x : K). same x b ≡ true) (at i a e ea) t))))
      (cases_eq j s))
      (λ (ne : i ≢ s). ⊎_elim
      (λ (f : j ≡ s). absurd (clash i a im ne ea (subst (λ (x : K). same a x ≡ true) (at j b f eb) t)))
      (λ (nf : j ≢ s). old i j a b im jm (sym (other i ne) ∙ ea) (sym (other j nf) ∙ eb) t)
      (cases_eq j s))
      (cases_eq i s)

  pub apart_out : (s : ℕ) → s < m → Apart same m (set ks s None)
  apart_out s sm i j a b im jm ea eb t =
      let here : get_or (set ks s None) s None ≡ None = get_or-set_same ks s None None (omega arith) in
      let back : (x : ℕ) (c : K) → get_or (set ks s None) x None ≡ Some c → get_or ks x None ≡ Some c =
      (λ x c ec. ⊎_elim
      (λ (e : x ≡ s). absurd (some_none (get_or (set ks s None) x None) c ec (rw e here)))
      (λ (ne : x ≢ s). sym (get_or-set_other ks s x None None ne) ∙ ec)
      (cases_eq x s)) in
      old i j a b im jm (back i a ea) (back j b eb) t
