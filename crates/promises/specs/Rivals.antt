-- A rival with h slots, fed the calls with our answers. It sees nothing of our state.
use Rattle.std.specs.Prelude.{◌≡◌, ℕ, ◌+◌, ◌≤◌, Bool, true, false, cond, ◌||◌, List, [], ◌∷◌, length, Some, None}
use Rattle.promises.specs.declared.records.Ticket.{Ticket}
use Rattle.promises.specs.Events.{Event, effect, request_of, removal_of, lent}

-- whether a list has a key that is the same as k
abbrev pub has : {K : Type 0} → (K → K → Bool) → List K → K → Bool
has same [] k = false
has same (r ∷ rs) k = same k r || has same rs k

-- the list without the keys that are the same as k
abbrev pub without : {K : Type 0} → (K → K → Bool) → K → List K → List K
without same k [] = []
without same k (r ∷ rs) = cond (same k r) (without same k rs) (r ∷ without same k rs)

-- no key that is the same as k is out: not from an accepted lease until the accepted give-back of its mark and slot
abbrev pub NotOut : {K : Type 0} → (K → K → Bool) → List (Event K) → K → Type 0
NotOut {K} same es k = (t : Ticket) (l : K) → lent es t ≡ Some l → same k l ≡ false

-- `Rival same cost h es keys paid`: after the events es a rival with h slots may hold these keys, having paid so much. It starts with no
-- key and nothing paid; before each call it may discard keys that are not out; a request for a key that it lacks makes it add the
-- key and pay its cost, within its h slots; an accepted drop takes the key from it; any other event changes nothing.
pub data Rival {K : Type 0} (same : K → K → Bool) (cost : K → ℕ) (h : ℕ) : List (Event K) → List K → ℕ → Type 0 where
  starts : Rival same cost h [] [] 0
  discards : {es : List (Event K)} {keys : List K} {p : ℕ} (k : K) → Rival same cost h es keys p → NotOut same es k → Rival same cost h es (without same k keys) p
  has_it : {es : List (Event K)} {keys : List K} {p : ℕ} (e : Event K) (k : K) → Rival same cost h es keys p → request_of (effect e) ≡ Some k → has same keys k ≡ true → Rival same cost h (e ∷ es) keys p
  pays : {es : List (Event K)} {keys : List K} {p : ℕ} (e : Event K) (k : K) → Rival same cost h es keys p → request_of (effect e) ≡ Some k → has same keys k ≡ false
      → length (k ∷ keys) ≤ h → Rival same cost h (e ∷ es) (k ∷ keys) (cost k + p)
  loses : {es : List (Event K)} {keys : List K} {p : ℕ} (e : Event K) (k : K) → Rival same cost h es keys p → removal_of (effect e) ≡ Some k → Rival same cost h (e ∷ es) (without same k keys) p
  unmoved : {es : List (Event K)} {keys : List K} {p : ℕ} (e : Event K) → Rival same cost h es keys p → request_of (effect e) ≡ None → removal_of (effect e) ≡ None → Rival same cost h (e ∷ es) keys p
