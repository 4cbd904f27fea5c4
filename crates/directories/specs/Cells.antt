-- A row of cells, by its four columns, and what one write leaves of it.
use Rattle.std.specs.Prelude.{◌≡◌, ℕ, ◌<◌, List, map, drop, None, Option, slice_index_or}
use Rattle.directories.specs.declared.cells.Cell.{Cell}
use Rattle.directories.specs.Links.{heads_with, nexts_with, link_cell}

module _ {K : Type 0} where
  -- a cell that no directory has used yet
  abbrev pub blank : Cell K
  blank = record { key = None; head = 0; next = 0; free = 0 }

  abbrev pub keys_of : List (Cell K) → List (Option K)
  keys_of cs = map (λ c. c.key) cs

  abbrev pub heads_of : List (Cell K) → List ℕ
  heads_of cs = map (λ c. c.head) cs

  abbrev pub nexts_of : List (Cell K) → List ℕ
  nexts_of cs = map (λ c. c.next) cs

  abbrev pub frees_of : List (Cell K) → List ℕ
  frees_of cs = map (λ c. c.free) cs

  -- the key in cell i
  abbrev pub key_in : List (Cell K) → ℕ → Option K
  key_in cs i = slice_index_or (keys_of cs) i None

  -- the cells from m on are as they were
  abbrev pub Beyond : ℕ → List (Cell K) → List (Cell K) → Type 0
  Beyond m old new = drop m new ≡ drop m old

  -- what one write into cell i leaves: the four columns, and the cells past i
  pub record Wrote (i : ℕ) (old new : List (Cell K)) (ks : List (Option K)) (hs ns fs : List ℕ) : Type 0 where
    pub keys : keys_of new ≡ ks
    pub heads : heads_of new ≡ hs
    pub nexts : nexts_of new ≡ ns
    pub frees : frees_of new ≡ fs
    pub rest : (m : ℕ) → i < m → Beyond m old new

  -- the link behind slot p of the chain of bucket b, or the chain's head, leads to v
  abbrev pub WroteLink : List (Cell K) → List (Cell K) → ℕ → Option ℕ → ℕ → Type 0
  WroteLink old new b p v = Wrote (link_cell b p) old new (keys_of old) (heads_with (heads_of old) b p v) (nexts_with (nexts_of old) p v) (frees_of old)
