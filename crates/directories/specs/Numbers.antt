-- When the tables of a numbered directory are in order.
use Rattle.std.specs.Prelude.{◌≡◌, ℕ, ◌<◌, ◌≤◌, Bool, List, length, Some, None, Option, nat_lt, slice_index, slice_index_or}
use Rattle.keys.specs.declared.region.RegionNumber.{RegionNumber}
use Rattle.directories.specs.Meaning.{DirectoryMeaning}
use Rattle.directories.specs.Links.{Stacked}

-- The table of slots leads each number to its slot, and no other number to any.
pub record Looked (ks : List (Option RegionNumber)) (ls : List (Option ℕ)) : Type 0 where
  pub out : (r s : ℕ) → slice_index_or ls r None ≡ Some s → (s < length ks) × (slice_index_or ks s None ≡ Some (record { number = r }))
  pub back : (s : ℕ) (k : RegionNumber) → slice_index_or ks s None ≡ Some k → (k.number < 4096) × (slice_index_or ls k.number None ≡ Some s)

-- The tables of a directory of this capacity, where fs are the free slots.
pub record Ranked (ks : List (Option RegionNumber)) (fs : List ℕ) (ls : List (Option ℕ)) (cap : ℕ) : Type 0 where
  pub small : cap ≤ 1024
  pub size : length ks ≤ cap
  pub looked : Looked ks ls
  pub stacked : Stacked (length ks) ks fs (length fs)

-- the numbers that are admitted
abbrev pub below : RegionNumber → Bool
below k = nat_lt k.number 4096

abbrev pub register : List (Option RegionNumber) → ℕ → DirectoryMeaning RegionNumber
register ks cap = record { keys = ks; capacity = cap; admitted = below }

-- all of m slots, in order
abbrev pub EverySlot : ℕ → List ℕ → Type 0
EverySlot m fs = (length fs ≡ m) × ((k : ℕ) → k < m → slice_index fs k ≡ k)
