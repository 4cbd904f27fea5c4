-- Where a key is held.
use Rattle.std.specs.Prelude.{◌≡◌, ℕ, ◌<◌, Bool, Some, None, Ok, Err, Result}
use Rattle.promises.specs.declared.answers.Refusal.{Refusal}
use Rattle.promises.specs.State.{State, held_slot}
use Rattle.promises.specs.Steps.{absence_fault}

-- the slot of a key that is held and not out, or why there is none
abbrev pub FindsWaiting : {K : Type 0} → (K → K → Bool) → State K → K → Result ℕ Refusal → Type 0
FindsWaiting same s k (Err e) = absence_fault same s k ≡ Some e
FindsWaiting same s k (Ok i) = (absence_fault same s k ≡ None) × (held_slot same s k ≡ Some i) × (i < 1024)
