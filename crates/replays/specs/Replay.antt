-- What a replay of rows comes to, in GreedyDual's own words: an outcome for each row, and the first row that the cache refuses.
use Rattle.std.specs.Prelude.{ℕ, ◌+◌, ◌*◌, Bool, true, false, cond, not, ◌&&◌, List, [], ◌∷◌, ◌++◌, is_some, Some, None, Option, ◌==◌, nat_lt}
use Rattle.keys.specs.Regions.{same_number}
use Rattle.keys.specs.declared.region.RegionNumber.{RegionNumber}
use Rattle.promises.specs.declared.answers.Refusal.{Refusal}
use Rattle.promises.specs.declared.answers.Refusal.TheVariants.{BadCost, ShortSlab, NotAdmitted, AllOut}
use Rattle.promises.specs.State.{slots}
use Rattle.promises.specs.Steps.{first_of}
use Rattle.promises.specs.Events.{Event, Effect, nothing, hit, refreshed, took, took_evicting, lent_out, rewrote, came_back, removed, effect}
use Rattle.promises.specs.Lines.{Making, made}
use Rattle.promises.specs.GreedyDual.{Dual, Use, look, keep, after, outcome, region_of}
use Rattle.promises.specs.GreedyDual.{Outcome as Comes}
use Rattle.traces.specs.declared.faults.Fault.{Fault}
use Rattle.traces.specs.declared.outcomes.Outcome.{Outcome}
use Rattle.traces.specs.declared.outcomes.Outcome.TheVariants.{Hit, Taken, Evicting}
use Rattle.traces.specs.declared.rows.Row.{Row}
use Rattle.traces.specs.Faults.{cache_fault}

-- GreedyDual before the first row
abbrev pub empty : Dual RegionNumber
empty = record { inflation = 0; regions = [] }

-- A row.

abbrev pub is_held : Dual RegionNumber → Row → Bool
is_held g r = is_some (region_of same_number r.key g.regions)

-- a row looks for its key where that is held, and else keeps it at its cost
abbrev pub use_for : Bool → Row → Use RegionNumber
use_for true r = look r.key
use_for false r = keep r.key r.cost

abbrev pub row_after : ℕ → Dual RegionNumber → Row → Dual RegionNumber
row_after n g r = after same_number n g (use_for (is_held g r) r)

abbrev pub row_outcome : ℕ → Dual RegionNumber → Row → Comes RegionNumber
row_outcome n g r = outcome same_number n g (use_for (is_held g r) r)

-- an outcome as a report counts it
abbrev pub paying : ℕ → Option RegionNumber → Outcome
paying c None = Taken c
paying c (Some k) = Evicting c k

abbrev pub noted : Comes RegionNumber → Outcome
noted o = cond o.hit Hit (paying o.charge o.victim)

-- what a row does to a cache, by its outcome; its value is empty
abbrev pub row_effect : Row → Outcome → Effect RegionNumber
row_effect r Hit = hit r.key
row_effect r (Taken c) = took r.key c []
row_effect r (Evicting c k) = took_evicting r.key c [] k

-- Rows, one after another.

-- one outcome a row
abbrev pub outcomes : ℕ → Dual RegionNumber → List Row → List Outcome
outcomes n g [] = []
outcomes n g (r ∷ rs) = noted (row_outcome n g r) ∷ outcomes n (row_after n g r) rs

abbrev pub rows_after : ℕ → Dual RegionNumber → List Row → Dual RegionNumber
rows_after n g [] = g
rows_after n g (r ∷ rs) = rows_after n (row_after n g r) rs

abbrev pub row_effects : ℕ → Dual RegionNumber → List Row → List (Effect RegionNumber)
row_effects n g [] = []
row_effects n g (r ∷ rs) = row_effect r (noted (row_outcome n g r)) ∷ row_effects n (row_after n g r) rs

-- Refusals.

-- Why the cache refuses a row, by its parts and a slab of so many bytes: the slab is short; or the key is not held and its cost is above
-- the span, it is not admitted, or there is no slot.
abbrev pub row_fault : Making RegionNumber → ℕ → Dual RegionNumber → Row → Option Refusal
row_fault m slab g r = first_of (
    (nat_lt slab (slots (made m) * (made m).table.chunk), ShortSlab)
    ∷ (not (is_held g r) && nat_lt (made m).order.span r.cost, BadCost)
    ∷ (not (is_held g r) && not ((made m).directory.admitted r.key), NotAdmitted)
    ∷ (not (is_held g r) && (slots (made m) == 0), AllOut) ∷ [])

-- the fault of a row on a line, or else that of the rows after it
abbrev pub fault_or : ℕ → Option Refusal → Option Fault → Option Fault
fault_or line None later = later
fault_or line (Some e) later = Some (cache_fault line e)

-- the first row that is refused, where the first row stands on a line
abbrev pub first_fault : Making RegionNumber → ℕ → Dual RegionNumber → ℕ → List Row → Option Fault
first_fault m slab g line [] = None
first_fault m slab g line (r ∷ rs) = fault_or line (row_fault m slab g r) (first_fault m slab (row_after (slots (made m)) g r) (line + 1) rs)

-- the rows before it
abbrev pub accepted : Making RegionNumber → ℕ → Dual RegionNumber → List Row → List Row
accepted m slab g [] = []
accepted m slab g (r ∷ rs) = cond (is_some (row_fault m slab g r)) [] (r ∷ accepted m slab (row_after (slots (made m)) g r) rs)

-- What events did, the oldest first, without the calls that did nothing.

abbrev pub deed : {K : Type 0} → Effect K → List (Effect K)
deed nothing = []
deed (hit k) = hit k ∷ []
deed (refreshed k c v) = refreshed k c v ∷ []
deed (took k c v) = took k c v ∷ []
deed (took_evicting k c v l) = took_evicting k c v l ∷ []
deed (lent_out k t) = lent_out k t ∷ []
deed (rewrote t v) = rewrote t v ∷ []
deed (came_back t) = came_back t ∷ []
deed (removed k) = removed k ∷ []

abbrev pub deeds : {K : Type 0} → List (Event K) → List (Effect K)
deeds [] = []
deeds (e ∷ es) = deeds es ++ deed (effect e)
