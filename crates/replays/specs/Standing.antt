-- A cache on its way through the rows.
use Rattle.std.specs.Prelude.{◌≡◌, ℕ, ◌*◌, ◌<◌, ◌≤◌, false, List, [], ◌∷◌, ◌++◌, length, Some, None, Ok, Err, Result, nat_lt}
use Rattle.keys.specs.Regions.{same_number}
use Rattle.keys.specs.declared.region.RegionNumber.{RegionNumber}
use Rattle.promises.specs.declared.answers.Refusal.{Refusal}
use Rattle.promises.specs.declared.answers.Kept.{Kept}
use Rattle.promises.specs.declared.answers.Kept.TheVariants.{Refreshed, Taken, TakenEvicting}
use Rattle.promises.specs.declared.answers.Evicted.{Evicted}
use Rattle.promises.specs.State.{State, slots, held_slot, out_at}
use Rattle.promises.specs.Events.{Event}
use Rattle.promises.specs.Lines.{Making, made, Line}
use Rattle.promises.specs.GreedyDual.{Dual, dual}
use Rattle.traces.specs.declared.faults.RowFault.{RowFault}
use Rattle.traces.specs.declared.outcomes.Counts.{Counts}
use Rattle.traces.specs.declared.outcomes.Eviction.{Eviction}
use Rattle.traces.specs.declared.outcomes.Outcome.{Outcome}
use Rattle.traces.specs.declared.outcomes.Outcome.TheVariants.{Hit, Taken as TakenIn, Evicting}
use Rattle.traces.specs.declared.rows.Row.{Row}
use Rattle.traces.specs.Faults.{cache_fault}
use Rattle.traces.specs.Outcomes.{Tallied}
use Rattle.traces.specs.Rendering.{cost_at}
use Rattle.replays.specs.Replay.{empty, is_held, row_outcome, noted, outcomes, rows_after, row_effects, row_fault, first_fault, accepted, deeds}

-- A cache has done the work of the rows: some line of events leads from its making to its state, the events did what GreedyDual does
-- with the rows, and GreedyDual over the events stands where it stands after the rows.
pub record Worked (m : Making RegionNumber) (rows : List Row) (s : State RegionNumber) : Type 0 where
  pub events : List (Event RegionNumber)
  pub line : Line same_number m events s
  pub dual_is : dual same_number (slots (made m)) events ≡ rows_after (slots (made m)) empty rows
  pub deeds_are : deeds events ≡ row_effects (slots (made m)) empty rows

-- what no row changes, and that no slot is out
pub record Steady (m : Making RegionNumber) (s : State RegionNumber) : Type 0 where
  pub slots_are : slots s ≡ slots (made m)
  pub span_is : s.order.span ≡ (made m).order.span
  pub chunk_is : s.table.chunk ≡ (made m).table.chunk
  pub admits : s.directory.admitted ≡ (made m).directory.admitted
  pub idle : (i : ℕ) → out_at s.table i ≡ false

pub record Stands (m : Making RegionNumber) (rows : List Row) (s : State RegionNumber) : Type 0 where
  pub worked : Worked m rows s
  pub steady : Steady m s

-- GreedyDual after the rows
abbrev pub dual_at : Making RegionNumber → List Row → Dual RegionNumber
dual_at m rows = rows_after (slots (made m)) empty rows

-- what a row led to, by what its keep did
abbrev pub kept_as : Kept (Evicted RegionNumber) → ℕ → Outcome
kept_as Refreshed c = Hit
kept_as Taken c = TakenIn c
kept_as (TakenEvicting e) c = Evicting c e.key

-- the key of the next row was sought and not found
pub record Missed (m : Making RegionNumber) (slab : ℕ) (before : List Row) (r : Row) (s : State RegionNumber) : Type 0 where
  pub stands : Stands m before s
  pub absent : is_held (dual_at m before) r ≡ false
  pub unheld : held_slot same_number s r.key ≡ None
  pub enough : nat_lt slab (slots (made m) * (made m).table.chunk) ≡ false

-- what the next row answers and leaves
abbrev pub Goes : Making RegionNumber → ℕ → List Row → Row → State RegionNumber → Result Outcome Refusal → Type 0
Goes m slab before r t (Ok o) =
    (row_fault m slab (dual_at m before) r ≡ None) × (o ≡ noted (row_outcome (slots (made m)) (dual_at m before) r)) × Stands m (before ++ (r ∷ [])) t
Goes m slab before r t (Err e) = (row_fault m slab (dual_at m before) r ≡ Some e) × Stands m before t

-- the rows so far were accepted, and are counted
pub record Sofar (m : Making RegionNumber) (slab : ℕ) (rows : List Row) (s : State RegionNumber) (counts : Counts) (left : List Eviction) : Type 0 where
  pub stands : Stands m rows s
  pub fine : first_fault m slab empty 4 rows ≡ None
  pub tallied : Tallied (outcomes (slots (made m)) empty rows) counts left

-- what all the rows answer and leave
abbrev pub Went : Making RegionNumber → ℕ → List Row → State RegionNumber → Counts → List Eviction → Result (Unit {0}) RowFault → Type 0
Went m slab rows s counts left (Ok u) = Sofar m slab rows s counts left
Went m slab rows s counts left (Err e) = (first_fault m slab empty 4 rows ≡ Some (cache_fault e.line e.refusal)) × Worked m (accepted m slab empty rows) s

-- each row costs 1 to 65280
abbrev pub Priced : List Row → Type 0
Priced rows = (k : ℕ) → k < length rows → (1 ≤ cost_at rows k) × (cost_at rows k ≤ 65280)
