-- What a replay answers, and what it leaves.
use Rattle.std.specs.Prelude.{◌≡◌, ℕ, List, [], length, Some, None, Ok, Err, vec_items, Result}
use Rattle.keys.specs.declared.region.RegionNumber.{RegionNumber}
use Rattle.promises.specs.State.{State, slots}
use Rattle.promises.specs.Lines.{Making, made}
use Rattle.traces.specs.declared.faults.TraceError.{TraceError}
use Rattle.traces.specs.declared.faults.TraceError.TheVariants.{Found, Memory}
use Rattle.traces.specs.declared.report.Report.{Report}
use Rattle.traces.specs.declared.rows.Row.{Row}
use Rattle.traces.specs.Outcomes.{Tallied}
use Rattle.replays.specs.Replay.{empty, outcomes, first_fault, accepted}
use Rattle.replays.specs.Standing.{Worked}

-- a report tells the number of slots, and the counts and the evictions of the rows' outcomes
pub record Reports (n : ℕ) (rows : List Row) (x : Report) : Type 0 where
  pub slots_are : x.slots ≡ n
  pub tallied : Tallied (outcomes n empty rows) x.counts (vec_items x.evicted)

-- A replay reports the rows if none is refused, and else answers the first that is. Rows stand from line 4 on.
abbrev pub Answers : Making RegionNumber → ℕ → List Row → Result Report TraceError → Type 0
Answers m slab rows (Ok x) = (first_fault m slab empty 4 rows ≡ None) × Reports (slots (made m)) rows x
Answers m slab rows (Err (Found f)) = first_fault m slab empty 4 rows ≡ Some f
Answers m slab rows (Err Memory) = Unit {0}

-- The rows whose work the cache has done: all, or those before the one that is refused. For want of memory none was begun.
abbrev pub done_rows : Making RegionNumber → ℕ → List Row → Result Report TraceError → List Row
done_rows m slab rows (Ok x) = rows
done_rows m slab rows (Err (Found f)) = accepted m slab empty rows
done_rows m slab rows (Err Memory) = []

-- What a replay of rows answers, and the state and the slab that it leaves: the slab is as it was, since the values are empty.
pub record Replays (m : Making RegionNumber) (slab : List ℕ) (rows : List Row) (x : Result Report TraceError) (s : State RegionNumber) (later : List ℕ) : Type 0 where
  pub answers : Answers m (length slab) rows x
  pub worked : Worked m (done_rows m (length slab) rows x) s
  pub same_slab : later ≡ slab
