use Rattle.std.proofs.Common.{inr}
use Rattle.traces.proofs.Exits.{passes}
use Rattle.traces.proofs.Cuts.{cut_some}
use Rattle.traces.proofs.Faulty.{least_line}
use Rattle.traces.proofs.Reading.{leads_row}
use Rattle.traces.proofs.reader.RowLines.next_row.Goals as goal

pub returns-in_err-line-clause-row : goal.returns-in_err-line-clause-row
returns-in_err-line-clause-row c =
    let told = c.in_err-line.ensures in
    rw (passes c.from_residual.result _ c.from_residual.ensures.1) (least_line c.args.self.now.order c.args.self.now.lines.number _ _ told.number told.splits (inr (cut_some _ c.requires.some)))

pub returns-clause-row : goal.returns-clause-row
returns-clause-row c =
    let read = c.in_ok-line.ensures in
    leads_row _ _ _ _ _ _ c.row_in.result read.splits read.left (rw read.number at c.row_in.ensures)
