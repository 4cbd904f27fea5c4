-- What a directory means, and what each call answers and leaves.
use Rattle.std.specs.Prelude.{◌≡◌, ℕ, suc, ◌<◌, min, Bool, true, false, cond, not, ◌||◌, List, [], ◌∷◌, length, replicate, is_some, Some, None, Option, ◌==◌, slice_index_or, slice_set}
use Rattle.std.specs.Option.{option_map}

-- The key at each slot (M is the list's length), the capacity, and the admitted keys.
pub record DirectoryMeaning (K : Type 0) : Type 0 where
  pub keys : List (Option K)
  pub capacity : ℕ
  pub admitted : K → Bool

module _ {K : Type 0} where
  abbrev pub size : DirectoryMeaning K → ℕ
  size d = length d.keys

  abbrev pub key_at : DirectoryMeaning K → ℕ → Option K
  key_at d i = slice_index_or d.keys i None

  -- the same directory with other keys at its slots
  abbrev pub with_keys : DirectoryMeaning K → List (Option K) → DirectoryMeaning K
  with_keys d ks = record { keys = ks; capacity = d.capacity; admitted = d.admitted }

  -- a directory as it is made: its size is its capacity, and no pair is in
  abbrev pub fresh : ℕ → (K → Bool) → DirectoryMeaning K
  fresh n admits = record { keys = replicate n None; capacity = n; admitted = admits }

  -- how many pairs are in
  abbrev pub pairs : List (Option K) → ℕ
  pairs [] = 0
  pairs (None ∷ ks) = pairs ks
  pairs (Some k ∷ ks) = suc (pairs ks)

  -- whether a slot holds a key that is the same as k
  abbrev pub holds : (K → K → Bool) → K → Option K → Bool
  holds same k None = false
  holds same k (Some a) = same a k

  -- the slot of k
  abbrev pub slot_in : (K → K → Bool) → K → List (Option K) → Option ℕ
  slot_in same k [] = None
  slot_in same k (o ∷ os) = cond (holds same k o) (Some 0) (option_map suc (slot_in same k os))

  abbrev pub find : (K → K → Bool) → DirectoryMeaning K → K → Option ℕ
  find same d k = slot_in same k d.keys

  -- no key stands in it twice
  unfoldable pub Distinct : (K → K → Bool) → DirectoryMeaning K → Type 0
  Distinct same d = (i j : ℕ) (a b : K) → key_at d i ≡ Some a → key_at d j ≡ Some b → same a b ≡ true → i ≡ j

  -- the admitted keys are told apart by sameness alone
  unfoldable pub Respects : (K → K → Bool) → DirectoryMeaning K → Type 0
  Respects same d = (a b : K) → same a b ≡ true → d.admitted a ≡ d.admitted b

  -- each key that stands in it is admitted
  unfoldable pub AllAdmitted : DirectoryMeaning K → Type 0
  AllAdmitted d = (i : ℕ) (a : K) → key_at d i ≡ Some a → d.admitted a ≡ true

  -- a slot that Enter may choose: one of the directory's that holds no key
  abbrev pub Unused : DirectoryMeaning K → ℕ → Type 0
  Unused d i = (i < size d) × (key_at d i ≡ None)

  -- Empty: no pair is left, and the size is the lesser of the one asked for and the capacity
  abbrev pub emptied : DirectoryMeaning K → ℕ → DirectoryMeaning K
  emptied d n = with_keys d (replicate (min n d.capacity) None)

  -- Enter declines a key that is not admitted, a key that is there already, and any if each slot is used
  abbrev pub declines : (K → K → Bool) → DirectoryMeaning K → K → Bool
  declines same d k = not (d.admitted k) || (is_some (find same d k) || pairs d.keys == size d)

  abbrev pub entered : DirectoryMeaning K → ℕ → K → DirectoryMeaning K
  entered d i k = with_keys d (slice_set d.keys i (Some k))

  -- Enter answers None and leaves all as it was exactly if it declines; else the key stands at an unused slot, whichever
  abbrev pub Enters : (K → K → Bool) → DirectoryMeaning K → K → Option ℕ → DirectoryMeaning K → Type 0
  Enters same d k None e = (declines same d k ≡ true) × (e ≡ d)
  Enters same d k (Some i) e = (declines same d k ≡ false) × Unused d i × (e ≡ entered d i k)

  -- Remove: the slot of the key is freed; nothing changes if it has none
  abbrev pub freed : DirectoryMeaning K → Option ℕ → DirectoryMeaning K
  freed d None = d
  freed d (Some i) = with_keys d (slice_set d.keys i None)

  abbrev pub removed : (K → K → Bool) → DirectoryMeaning K → K → DirectoryMeaning K
  removed same d k = freed d (find same d k)
