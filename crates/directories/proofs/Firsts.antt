-- The first place at which a test is true, where the test changes at one place s.
use Rattle.std.proofs.Common.{◌≡◌, ℕ, ◌+◌, ◌<◌, ◌≤◌, Bool, true, false, ◌≢◌, ◌∙◌, ⊎_elim, arith}
use Rattle.std.proofs.lemmas.Bool.{both_ways, cases_eq, cases_lt}
use Rattle.directories.specs.Links.{First}

-- a place at which the test is true is not passed
pub not_past : (f : ℕ → Bool) (m j r p : ℕ) → First f m j r → j ≤ p → f p ≡ true → r ≤ p
not_past f m j r p first jp t =
    ⊎_elim (λ lt. absurd (both_ways (f p) (first.passed p jp lt) t)) (λ le. le) (cases_lt p r)

pub first_ext : (f g : ℕ → Bool) (m j r : ℕ) → ((k : ℕ) → g k ≡ f k) → First f m j r → First g m j r
first_ext f g m j r e h = record {
  from = h.from;
  within = h.within;
  passed = λ k a b. e k ∙ h.passed k a b;
  there = λ l. e r ∙ h.there l;
}

module _ (f g : ℕ → Bool) (m s : ℕ) (away : (k : ℕ) → k ≢ s → g k ≡ f k) where
  pub first_before : (j r : ℕ) → First f m j r → r < s → First g m j r
  first_before j r h lt = record {
    from = h.from;
    within = h.within;
    passed = λ k a b. away k (omega arith) ∙ h.passed k a b;
    there = λ l. away r (omega arith) ∙ h.there l;
  }

  pub first_after : (j r : ℕ) → First f m j r → s < j → First g m j r
  first_after j r h lt = record {
    from = h.from;
    within = h.within;
    passed = λ k a b. away k (omega arith) ∙ h.passed k a b;
    there = λ l. (let ge : j ≤ r = h.from in away r (omega arith)) ∙ h.there l;
  }

  -- s has come in
  pub first_here : (j : ℕ) → j ≤ s → s < m → g s ≡ true → ((k : ℕ) → j ≤ k → k < s → f k ≡ false) → First g m j s
  first_here j js sm t none = record {
    from = js;
    within = omega arith;
    passed = λ k a b. away k (omega arith) ∙ none k a b;
    there = λ _. t;
  }

  -- s has gone
  pub first_gone : (j r : ℕ) → j ≤ s → g s ≡ false → ((k : ℕ) → j ≤ k → k < s → f k ≡ false) → First f m (s + 1) r → First g m j r
  first_gone j r js gs none h = record {
    from = (let ge : s + 1 ≤ r = h.from in omega arith);
    within = h.within;
    passed = λ k a b. ⊎_elim
        (λ e. rw e gs)
        (λ ne. away k ne ∙ ⊎_elim (λ l. none k a l) (λ l. h.passed k (omega arith) b) (cases_lt k s))
        (cases_eq k s);
    there = λ l. (let ge : s + 1 ≤ r = h.from in away r (omega arith)) ∙ h.there l;
  }

-- nothing up to s: the first from j on is the first past s
pub first_past : (f : ℕ → Bool) (m j r s : ℕ) → j ≤ s + 1 → s < m → ((k : ℕ) → j ≤ k → k < s + 1 → f k ≡ false) → First f m j r → First f m (s + 1) r
first_past f m j r s js sm none h = record {
  from = ⊎_elim
      (λ lt. absurd (both_ways (f r) (none r h.from lt) (h.there (omega arith))))
      (λ le. le)
      (cases_lt r (s + 1));
  within = h.within;
  passed = λ k a b. h.passed k (omega arith) b;
  there = h.there;
}
