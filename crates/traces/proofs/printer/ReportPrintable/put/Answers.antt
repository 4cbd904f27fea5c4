use Rattle.std.proofs.Common.{ap, sym}
use Rattle.traces.specs.Reports.{eviction_cells}
use Rattle.traces.specs.Tables.{cells_text, lines_text}
use Rattle.traces.proofs.Pages.{room_is, four_first, four_second, four_third, four_last, wrote_is, wrote_four}
use Rattle.traces.proofs.Printing.{report_lines}
use Rattle.traces.proofs.printer.ReportPrintable.put.Goals as goal

pub put_text-requires : goal.put_text-requires
put_text-requires c = four_first (report_lines c.args.self.now) c.requires

pub put_line-requires : goal.put_line-requires
put_line-requires c = room_is (ap cells_text (sym c.counts_of.ensures)) (four_second (report_lines c.args.self.now) c.requires c.put_text.ensures)

pub put_text-requires-2 : goal.put_text-requires-2
put_text-requires-2 c = four_third (report_lines c.args.self.now) c.requires c.put_text.ensures (wrote_is (ap cells_text c.counts_of.ensures) c.put_line.ensures)

pub put_rows-requires : goal.put_rows-requires
put_rows-requires c =
    room_is (ap (lines_text eviction_cells) (sym c.evicted.ensures.value))
    (four_last (report_lines c.args.self.now) c.requires c.put_text.ensures (wrote_is (ap cells_text c.counts_of.ensures) c.put_line.ensures) c.put_text-2.ensures)

pub returns : goal.returns
returns c =
    wrote_four (report_lines c.args.self.now) c.requires c.put_text.ensures (wrote_is (ap cells_text c.counts_of.ensures) c.put_line.ensures) c.put_text-2.ensures
    (wrote_is (ap (lines_text eviction_cells) c.evicted.ensures.value) c.put_rows.ensures)
