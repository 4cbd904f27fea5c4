use Rattle.std.proofs.Common.{length, ap, arith}
use Rattle.traces.specs.Reports.{eviction_cells}
use Rattle.traces.specs.Tables.{cells_text, lines_text}
use Rattle.traces.proofs.Pages.{length_four}
use Rattle.traces.proofs.Printing.{report_lines}
use Rattle.traces.proofs.printer.ReportPrintable.text_len.Goals as goal

pub returns : goal.returns
returns c =
    omega (
      arith,
      length_four (report_lines c.args.self.now),
      ap (λ t. length (cells_text t)) c.counts_of-counts.ensures,
      ap (λ t. length (lines_text eviction_cells t)) c.evicted.ensures.value,
      c.line_len.ensures.is,
      c.rows_len.ensures.is,
    )
