-- The worked example: five rows over two slots.
use Rattle.std.specs.Prelude.{◌≡◌, ℕ, List, [], ◌∷◌, ◌++◌, codes}
use Rattle.traces.specs.declared.outcomes.Counts.{Counts}
use Rattle.traces.specs.declared.outcomes.Eviction.{Eviction}
use Rattle.traces.specs.declared.rows.Row.{Row}
use Rattle.traces.specs.Outcomes.{no_counts, tally, leavers, eviction_of}
use Rattle.traces.specs.Reports.{run_text}
use Rattle.replays.specs.Replay.{empty, outcomes}

abbrev pub row : ℕ → ℕ → Row
row k c = record { key = record { number = k }; cost = c }

-- A 3, B 1, A 3, C 2, B 1
abbrev pub five : List Row
five = row 10 3 ∷ row 11 1 ∷ row 10 3 ∷ row 12 2 ∷ row 11 1 ∷ []

-- rows 5, hits 1, evictions 2, paid 7
abbrev pub five_counts : Counts
five_counts = record { rows = 5; hits = 1; evictions = 2; paid = 7 }

-- row 4 evicts B, and row 5 evicts A
abbrev pub five_left : List Eviction
five_left = eviction_of 4 (record { number = 11 }) ∷ eviction_of 5 (record { number = 10 }) ∷ []

abbrev pub line : List ℕ → List ℕ
line bs = bs ++ (10 ∷ [])

abbrev pub five_text : List ℕ
five_text =
    line (codes "slots rows hits evictions paid") ++ (line (codes "2 5 1 2 7")
    ++ (line (codes "row evicted") ++ (line (codes "4 B") ++ line (codes "5 A"))))

pub record Example : Type 0 where
  pub counted : tally no_counts (outcomes 2 empty five) ≡ five_counts
  pub left : leavers 1 (outcomes 2 empty five) ≡ five_left
  pub printed : run_text 2 five_counts five_left ≡ five_text
