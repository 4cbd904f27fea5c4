-- The steps inside a keep.
use Rattle.std.specs.Prelude.{◌≡◌, ℕ, Bool, not, [], ◌∷◌, Some, None, Option}
use Rattle.orders.specs.Meaning.{leaver}
use Rattle.promises.specs.declared.answers.Refusal.{Refusal}
use Rattle.promises.specs.declared.answers.Refusal.TheVariants.{BadCost, LongValue, ShortSlab, OnLease, NotAdmitted}
use Rattle.promises.specs.State.{State, held_slot}
use Rattle.promises.specs.Steps.{first_of, bad_cost, long_value, short_slab, out_slot, Evicts}

-- the tests of a keep but the last, by the lengths of the value and the slab
abbrev pub early_fault : {K : Type 0} → (K → K → Bool) → State K → K → ℕ → ℕ → ℕ → Option Refusal
early_fault same s k c n m = first_of (
    (bad_cost s c, BadCost) ∷ (long_value s n, LongValue) ∷ (short_slab s m, ShortSlab)
    ∷ (out_slot s.table (held_slot same s k), OnLease) ∷ (not (s.directory.admitted k), NotAdmitted) ∷ [])

-- the first of the order leaves with its key, unless nobody waits
abbrev pub Leaves : {K : Type 0} → State K → Option K → State K → Type 0
Leaves s None t = (leaver s.order.waiting ≡ None) × (t ≡ s)
Leaves s (Some k) t = Evicts s k t
