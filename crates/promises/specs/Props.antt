-- That a state is sound has one proof at most.
use Rattle.std.specs.Prelude.{ℕ, Bool}
use Rattle.std.proofs.Props.{props}
use Rattle.orders.specs.Props.{lawful_prop}
use Rattle.directories.specs.Meaning.{DirectoryMeaning, Distinct}
use Rattle.promises.specs.declared.records.Record.{Record}
use Rattle.promises.specs.State.{State, SoundSlot, Sound}

distinct_prop : {K : Type 0} (same : K → K → Bool) (d : DirectoryMeaning K) → IsProp (Distinct same d)
unfolding Distinct
distinct_prop same d = hlevel props

slot_prop : (h w : Bool) (r : Record) (chunk span : ℕ) → IsProp (SoundSlot h w r chunk span)
slot_prop h w r chunk span = hlevel props

pub sound_prop : {K : Type 0} (same : K → K → Bool) (s : State K) → IsProp (Sound same s)
sound_prop same s = hlevel (props, lawful_prop, distinct_prop, slot_prop)
