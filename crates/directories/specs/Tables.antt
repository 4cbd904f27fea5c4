-- When a row of cells is the table of a hashed directory, and what it means.
use Rattle.std.specs.Prelude.{◌≡◌, ℕ, ◌<◌, ◌≤◌, Bool, true, List, length, take, None, Option, slice_index_or}
use Rattle.directories.specs.declared.cells.Cell.{Cell}
use Rattle.directories.specs.Cells.{keys_of, heads_of, nexts_of, frees_of, key_in}
use Rattle.directories.specs.Meaning.{DirectoryMeaning, holds}
use Rattle.directories.specs.Links.{Chained, Stacked, Apart, Least}

module _ {K : Type 0} where
  -- the chains of the m buckets run through the cells
  abbrev pub Threaded : (K → ℕ) → ℕ → List (Cell K) → Type 0
  Threaded home m cs = Chained home m (keys_of cs) (heads_of cs) (nexts_of cs)

  -- the least of the first m slots that holds a key that is the same as k
  abbrev pub Located : (K → K → Bool) → List (Cell K) → ℕ → K → Option ℕ → Type 0
  Located same cs m k r = Least (λ i. holds same k (key_in cs i)) m r

  -- m slots are in use or free, n of them free
  pub record Sound (same : K → K → Bool) (home : K → ℕ) (cs : List (Cell K)) (m n : ℕ) : Type 0 where
    pub small : m ≤ 1024
    pub within : m ≤ length cs
    pub chained : Threaded home m cs
    pub stacked : Stacked m (keys_of cs) (frees_of cs) n
    pub apart : Apart same m (keys_of cs)

  -- a hashed directory over its cells
  pub record Held (same : K → K → Bool) (home : K → ℕ) (cs : List (Cell K)) (cap m n : ℕ) : Type 0 where
    pub small : cap ≤ 1024
    pub within : cap ≤ length cs
    pub size : m ≤ cap
    pub sound : Sound same home cs m n

  abbrev pub table : List (Cell K) → ℕ → ℕ → DirectoryMeaning K
  table cs m cap = record { keys = take m (keys_of cs); capacity = cap; admitted = λ _. true }

  -- a cleared cell: no key, the end of every chain, and slot i at its place on the stack
  abbrev pub vacant : ℕ → ℕ → Cell K
  vacant m i = record { key = None; head = m; next = m; free = i }

  -- the first n cells are cleared
  abbrev pub Wiped : ℕ → ℕ → List (Cell K) → Type 0
  Wiped m n cs = (i : ℕ) (d : Cell K) → i < n → slice_index_or cs i d ≡ vacant m i
