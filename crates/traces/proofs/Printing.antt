-- The texts of reports, faults and traces, line after line.
use Rattle.std.proofs.Common.{◌≡◌, ℕ, List, [], ◌∷◌, ◌++◌, map, vec_items, refl, sym, ap, ◌∙◌, append_assoc}
use Rattle.std.specs.List.{flat_map}
use Rattle.traces.specs.declared.faults.Fault.{Fault}
use Rattle.traces.specs.declared.outcomes.Counts.{Counts}
use Rattle.traces.specs.declared.outcomes.Eviction.{Eviction}
use Rattle.traces.specs.declared.report.Report.{Report}
use Rattle.traces.specs.Tables.{line_text, cells_text, lines_text}
use Rattle.traces.specs.Reports.{count_names, count_values, counts_cells, eviction_names, eviction_values, eviction_cells, run_text, report_text, fault_names, fault_cells, fault_text}
use Rattle.traces.specs.declared.rows.Row.{Row}
use Rattle.traces.specs.declared.table.ColumnOrder.TheVariants.{KeyCost}
use Rattle.traces.specs.declared.text.Cell.TheVariants.{Decimal}
use Rattle.traces.specs.Layout.{title, names_of}
use Rattle.traces.specs.Rendering.{row_cells, row_text, rows_text, trace_text}
use Rattle.traces.proofs.Writing.{head_parts, trace_parts}
use Rattle.traces.proofs.Pages.{Four}

evictions_lines : (left : List Eviction) → lines_text eviction_cells left ≡ flat_map line_text (map eviction_values left)
evictions_lines [] = refl
evictions_lines (e ∷ left) = ap (λ t. line_text (eviction_values e) ++ t) (evictions_lines left)

run_lines : (slots : ℕ) (n : Counts) (left : List Eviction) → ((line_text count_names ++ cells_text (counts_cells slots n)) ++ line_text eviction_names) ++ lines_text eviction_cells left ≡ run_text slots n left
unfolding run_text
run_lines slots n left =
    ap (λ t. ((line_text count_names ++ line_text (count_values slots n)) ++ line_text eviction_names) ++ t) (evictions_lines left) ∙ simp append_assoc

pub report_lines : (r : Report) → Four (report_text r) (line_text count_names) (cells_text (counts_cells r.slots r.counts)) (line_text eviction_names) (lines_text eviction_cells (vec_items r.evicted))
report_lines r = record { is = run_lines r.slots r.counts (vec_items r.evicted) }

pub fault_lines : (f : Fault) → line_text fault_names ++ cells_text (fault_cells f) ≡ fault_text f
unfolding fault_text
fault_lines f = simp append_assoc

pub trace_lines : (slots : ℕ) (rows : List Row) → Four (trace_text slots rows) (title ++ (10 ∷ [])) (cells_text (Decimal slots ∷ [])) (names_of KeyCost ++ (10 ∷ [])) (lines_text row_cells rows)
unfolding row_text
trace_lines slots rows = record { is = ap (λ t. t ++ rows_text rows) (head_parts slots) ∙ sym (trace_parts slots rows) }
