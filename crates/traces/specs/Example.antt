-- The example of the documentation: its text, its rows, the outcome of each row, and its report.
use Rattle.std.specs.Prelude.{◌≡◌, List, [], ◌∷◌, codes}
use Rattle.traces.specs.declared.outcomes.Outcome.{Outcome}
use Rattle.traces.specs.declared.outcomes.Outcome.TheVariants.{Hit, Taken, Evicting}
use Rattle.traces.specs.declared.rows.Row.{Row}
use Rattle.traces.specs.Layout.{row_of}
use Rattle.traces.specs.Outcomes.{no_counts, tally, leavers}
use Rattle.traces.specs.Reports.{run_text}
use Rattle.traces.specs.Words.{Says}

abbrev pub example_rows : List Row
example_rows = row_of 10 3 ∷ row_of 11 1 ∷ row_of 10 3 ∷ row_of 12 2 ∷ row_of 11 1 ∷ []

abbrev pub example_run : List Outcome
example_run = Taken 3 ∷ Taken 1 ∷ Hit ∷ Evicting 2 (record { number = 11 }) ∷ Evicting 1 (record { number = 10 }) ∷ []

-- the text says the rows
abbrev pub ExampleReads : Type 0
ExampleReads = Says (codes "slots\n2\nkey cost\nA 3\nB 1\nA 3\nC 2\nB 1\n") 2 example_rows

-- the outcomes print as the report
abbrev pub ExamplePrints : Type 0
ExamplePrints = run_text 2 (tally no_counts example_run) (leavers 1 example_run) ≡ codes "slots rows hits evictions paid\n2 5 1 2 7\nrow evicted\n4 B\n5 A\n"
