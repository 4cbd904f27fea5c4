use Rattle.traces.proofs.Exits.{passes}
use Rattle.traces.proofs.Whole.{whole_rows, faulty_rows}
use Rattle.traces.proofs.reader.check.Goals as goal

pub returns-in_err-check_rows : goal.returns-in_err-check_rows
returns-in_err-check_rows c =
    rw (passes c.from_residual-in_err-check_rows.result _ c.from_residual-in_err-check_rows.ensures.1) (faulty_rows c.args.text.now _ _ _ c.in_ok-rows.ensures.0 _ c.in_err-check_rows.ensures)

pub returns : goal.returns
returns c =
    let rows = c.in_ok-check_rows.ensures in
    (_, rows.0, whole_rows c.args.text.now _ _ _ c.in_ok-rows.ensures.0 rows.0 rows.1)
