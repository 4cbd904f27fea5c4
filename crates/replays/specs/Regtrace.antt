-- What the program decides: the text that it prints for an input, and whether it ends well.
use Rattle.std.specs.Prelude.{◌≡◌, ℕ, ◌≤◌, true, cond, ◌⊎◌, List, [], ◌∷◌, Some, None, Ok, Err, vec_items, Option, Result, ◌==◌}
use Rattle.keys.specs.declared.region.RegionNumber.{RegionNumber}
use Rattle.directories.specs.Meaning.{fresh}
use Rattle.promises.specs.declared.answers.Refusal.TheVariants.{AllOut}
use Rattle.promises.specs.Lines.{Making}
use Rattle.traces.specs.declared.faults.Fault.{Fault}
use Rattle.traces.specs.declared.faults.TraceError.{TraceError}
use Rattle.traces.specs.declared.faults.TraceError.TheVariants.{Found, Memory}
use Rattle.traces.specs.declared.report.Report.{Report}
use Rattle.traces.specs.declared.rows.Row.{Row}
use Rattle.traces.specs.Faults.{Least, cache_fault}
use Rattle.traces.specs.Layout.{Faulty}
use Rattle.traces.specs.Outcomes.{no_counts, tally, leavers}
use Rattle.traces.specs.Reports.{run_text, report_text, fault_text}
use Rattle.traces.specs.Words.{Says}
use Rattle.replays.specs.declared.regtrace.Printout.{Printout}
use Rattle.replays.specs.declared.regtrace.Printout.TheVariants.{Report as OfReport, Fault as OfFault}
use Rattle.replays.specs.Replay.{empty, outcomes, first_fault}
use Rattle.replays.specs.Standing.{Priced}

-- the pile over a directory of so many slots that admits every key, with slots of one byte
abbrev pub pile_of : ℕ → Making RegionNumber
pile_of n = record { directory = fresh n (λ _. true); order = record { size = 1024; span = 65280; waiting = [] }; mark = 0; chunk = 1 }

-- the first row that is refused, over as many bytes as slots
abbrev pub RefusedRow : ℕ → List Row → Fault → Type 0
RefusedRow n rows f = first_fault (pile_of n) n empty 4 rows ≡ Some f

-- what a pile refuses: the first row where there is no slot, and else none
abbrev pub pile_fault : ℕ → List Row → Option Fault
pile_fault n [] = None
pile_fault n (r ∷ rs) = cond (n == 0) (Some (cache_fault 4 AllOut)) None

abbrev pub PileRefuses : Type 0
PileRefuses = (n : ℕ) (rows : List Row) → n ≤ 1024 → Priced rows → first_fault (pile_of n) n empty 4 rows ≡ pile_fault n rows

-- the report of rows over so many slots, as text
abbrev pub rows_report : ℕ → List Row → List ℕ
rows_report n rows = run_text n (tally no_counts (outcomes n empty rows)) (leavers 1 (outcomes n empty rows))

-- an input says slots and rows of which none is refused, and the text is their report
pub record Reported (input text : List ℕ) : Type 0 where
  pub slots : ℕ
  pub rows : List Row
  pub says : Says input slots rows
  pub fine : first_fault (pile_of slots) slots empty 4 rows ≡ None
  pub is : text ≡ rows_report slots rows

-- a fault of an input: the least of its text, or, where it says slots and rows, the first row that is refused
abbrev pub Told : List ℕ → Fault → Type 0
Told input f = Least (Faulty input) f ⊎ ((n : ℕ) × (rows : List Row) × Says input n rows × RefusedRow n rows f)

-- the bytes of a printout
abbrev pub text_in : Printout → List ℕ
text_in (OfReport text) = vec_items text
text_in (OfFault text) = vec_items text

-- what is printed: a report, and the program ends well; or else a fault
abbrev pub Prints : List ℕ → Printout → Type 0
Prints input (OfReport text) = Reported input (vec_items text)
Prints input (OfFault text) = (f : Fault) × Told input f × (vec_items text ≡ fault_text f)

-- what is printed of a report or a fault
abbrev pub Shows : Result Report TraceError → Printout → Type 0
Shows (Ok x) (OfReport text) = vec_items text ≡ report_text x
Shows (Ok x) (OfFault text) = ⊥
Shows (Err (Found f)) (OfReport text) = ⊥
Shows (Err (Found f)) (OfFault text) = vec_items text ≡ fault_text f
Shows (Err Memory) p = ⊥

-- the report or the fault of an input
abbrev pub Runs : List ℕ → Result Report TraceError → Type 0
Runs input (Ok x) = Reported input (report_text x)
Runs input (Err (Found f)) = Told input f
Runs input (Err Memory) = Unit {0}
