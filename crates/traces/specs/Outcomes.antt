-- What a run over a trace tells: an outcome for each row, and the counts of the outcomes.
use Rattle.std.specs.Prelude.{◌≡◌, ℕ, ◌+◌, ◌<◌, ◌≤◌, Bool, true, false, ◌&&◌, List, [], ◌∷◌, ◌++◌, nat_le, nat_lt}
use Rattle.keys.specs.declared.region.RegionNumber.{RegionNumber}
use Rattle.traces.specs.declared.outcomes.Counts.{Counts}
use Rattle.traces.specs.declared.outcomes.Eviction.{Eviction}
use Rattle.traces.specs.declared.outcomes.Outcome.{Outcome}
use Rattle.traces.specs.declared.outcomes.Outcome.TheVariants.{Hit, Taken, Evicting}
use Rattle.traces.specs.declared.report.NoteError.{NoteError}
use Rattle.traces.specs.declared.report.NoteError.TheVariants.{ManyRows, HighCost, NoRoom}

-- what a row costs
abbrev pub cost_in : Outcome → ℕ
cost_in Hit = 0
cost_in (Taken c) = c
cost_in (Evicting c k) = c

abbrev pub no_counts : Counts
no_counts = record { rows = 0; hits = 0; evictions = 0; paid = 0 }

-- one more row
abbrev pub counted : Counts → Outcome → Counts
counted n Hit = record { rows = n.rows + 1; hits = n.hits + 1; evictions = n.evictions; paid = n.paid }
counted n (Taken c) = record { rows = n.rows + 1; hits = n.hits; evictions = n.evictions; paid = n.paid + c }
counted n (Evicting c k) = record { rows = n.rows + 1; hits = n.hits; evictions = n.evictions + 1; paid = n.paid + c }

abbrev pub eviction_of : ℕ → RegionNumber → Eviction
eviction_of n k = record { row = n; key = k }

-- what leaves at row n
abbrev pub leaving : ℕ → Outcome → List Eviction
leaving n Hit = []
leaving n (Taken c) = []
leaving n (Evicting c k) = eviction_of n k ∷ []

-- a list of so many, with room for so many, has room for what leaves
abbrev pub has_room : ℕ → ℕ → Outcome → Bool
has_room len cap Hit = true
has_room len cap (Taken c) = true
has_room len cap (Evicting c k) = nat_lt len cap

-- a report of so many rows can note one more
abbrev pub takes_row : ℕ → ℕ → ℕ → Outcome → Bool
takes_row rows len cap o = nat_lt rows 2048 && (nat_le (cost_in o) 65280 && has_room len cap o)

-- why it declines one
abbrev pub Declines : ℕ → ℕ → ℕ → Outcome → NoteError → Type 0
Declines rows len cap o ManyRows = 2048 ≤ rows
Declines rows len cap o HighCost = 65280 < cost_in o
Declines rows len cap o NoRoom = has_room len cap o ≡ false

-- the counts of a whole run, after those of the rows before it
abbrev pub tally : Counts → List Outcome → Counts
tally n [] = n
tally n (o ∷ os) = tally (counted n o) os

-- all that leave in a run whose first row is row n
abbrev pub leavers : ℕ → List Outcome → List Eviction
leavers n [] = []
leavers n (o ∷ os) = leaving n o ++ leavers (n + 1) os

-- counts and list are those of a run
pub record Tallied (run : List Outcome) (counts : Counts) (left : List Eviction) : Type 0 where
  pub counts_are : counts ≡ tally no_counts run
  pub left_are : left ≡ leavers 1 run
