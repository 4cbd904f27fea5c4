-- When the chains and the stack of free slots are in order.
use Rattle.std.specs.Prelude.{◌≡◌, ℕ, ◌+◌, ◌%◌, ◌<◌, ◌≤◌, Bool, true, false, List, take, Some, None, Option, ◌==◌, slice_index, slice_index_or, slice_set}
use Rattle.directories.specs.Meaning.{pairs}

-- r is the first from j on, below m, at which f is true; or m if there is none.
pub record First (f : ℕ → Bool) (m j r : ℕ) : Type 0 where
  pub from : j ≤ r
  pub within : r ≤ m
  pub passed : (k : ℕ) → j ≤ k → k < r → f k ≡ false
  pub there : r < m → f r ≡ true

-- the last below s at which f is true, if any
abbrev pub Last : (ℕ → Bool) → ℕ → Option ℕ → Type 0
Last f s None = (k : ℕ) → k < s → f k ≡ false
Last f s (Some p) = (p < s) × (f p ≡ true) × ((k : ℕ) → p < k → k < s → f k ≡ false)

abbrev pub Below : ℕ → Option ℕ → Type 0
Below s None = Unit {0}
Below s (Some p) = p < s

-- the least below m at which f is true, if any
abbrev pub Least : (ℕ → Bool) → ℕ → Option ℕ → Type 0
Least f m None = (k : ℕ) → k < m → f k ≡ false
Least f m (Some i) = (i < m) × (f i ≡ true) × ((k : ℕ) → k < i → f k ≡ false)

-- Each chain goes through the places of its bucket, upwards.
pub record Linked (f : ℕ → ℕ → Bool) (m : ℕ) (hs ns : List ℕ) : Type 0 where
  pub head : (b : ℕ) → b < m → First (f b) m 0 (slice_index hs b)
  pub next : (b i : ℕ) → b < m → i < m → f b i ≡ true → First (f b) m (i + 1) (slice_index ns i)

-- The link behind slot p in the chain of bucket b, or the chain's head: where it leads, and what it leaves to lead it to v.
abbrev pub link_at : List ℕ → List ℕ → ℕ → Option ℕ → ℕ
link_at hs ns b None = slice_index hs b
link_at hs ns b (Some p) = slice_index ns p

abbrev pub heads_with : List ℕ → ℕ → Option ℕ → ℕ → List ℕ
heads_with hs b None v = slice_set hs b v
heads_with hs b (Some p) v = hs

abbrev pub nexts_with : List ℕ → Option ℕ → ℕ → List ℕ
nexts_with ns None v = ns
nexts_with ns (Some p) v = slice_set ns p v

-- the cell that holds the link
abbrev pub link_cell : ℕ → Option ℕ → ℕ
link_cell b None = b
link_cell b (Some p) = p

-- the first slot that the link may lead to
abbrev pub start_of : Option ℕ → ℕ
start_of None = 0
start_of (Some p) = p + 1

module _ {K : Type 0} where
  -- whether a key stands here whose home is in bucket b of m
  abbrev pub stands : (K → ℕ) → ℕ → ℕ → Option K → Bool
  stands home m b None = false
  stands home m b (Some k) = home k % m == b

  abbrev pub in_bucket : (K → ℕ) → ℕ → List (Option K) → ℕ → ℕ → Bool
  in_bucket home m ks b i = stands home m b (slice_index_or ks i None)

  -- The chains of the buckets of these keys.
  abbrev pub Chained : (K → ℕ) → ℕ → List (Option K) → List ℕ → List ℕ → Type 0
  Chained home m ks hs ns = Linked (in_bucket home m ks) m hs ns

  -- The first n places of fs are the unused slots of the m, each once.
  pub record Stacked (m : ℕ) (ks : List (Option K)) (fs : List ℕ) (n : ℕ) : Type 0 where
    pub unused : (j : ℕ) → j < n → (slice_index fs j < m) × (slice_index_or ks (slice_index fs j) None ≡ None)
    pub once : (i j : ℕ) → i < n → j < n → slice_index fs i ≡ slice_index fs j → i ≡ j
    pub count : n + pairs (take m ks) ≡ m

  -- no key stands in the first m slots twice
  abbrev pub Apart : (K → K → Bool) → ℕ → List (Option K) → Type 0
  Apart same m ks = (i j : ℕ) (a b : K) → i < m → j < m → slice_index_or ks i None ≡ Some a → slice_index_or ks j None ≡ Some b → same a b ≡ true → i ≡ j
