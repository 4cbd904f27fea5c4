-- Lines of calls: the making of an empty cache, then any number of events, each a step from the state that the one before left.
use Rattle.std.specs.Prelude.{◌≡◌, ℕ, min, max, Bool, List, [], ◌∷◌, replicate}
use Rattle.orders.specs.Meaning.{OrderMeaning, emptied}
use Rattle.directories.specs.Meaning.{DirectoryMeaning, emptied as emptied_directory}
use Rattle.promises.specs.State.{State, blank}
use Rattle.promises.specs.Events.{Event}
use Rattle.promises.specs.Steps.{Step}

-- what a cache is made of: the parts as they came, the mark and the chunk size that was asked for
pub record Making (K : Type 0) : Type 0 where
  pub directory : DirectoryMeaning K
  pub order : OrderMeaning
  pub mark : ℕ
  pub chunk : ℕ

-- a chunk size outside 1 to 4,096 is taken as the nearer end
abbrev pub chunk_size : ℕ → ℕ
chunk_size n = max (min n 4096) 1

-- The order is emptied, and the directory is emptied at the lesser of 1,024 and the order's size.
abbrev pub made : {K : Type 0} → Making K → State K
made m = record {
  directory = emptied_directory m.directory (min 1024 m.order.size);
  order = emptied m.order;
  table = record { mark = m.mark; chunk = chunk_size m.chunk; records = replicate 1024 blank };
}

-- the events, the newest first, lead from the making to the state
abbrev pub Line : {K : Type 0} → (K → K → Bool) → Making K → List (Event K) → State K → Type 0
Line same m [] t = t ≡ made m
Line {K} same m (e ∷ es) t = (s : State K) × Line same m es s × Step same s e t
