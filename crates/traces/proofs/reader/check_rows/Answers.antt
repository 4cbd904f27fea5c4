use Rattle.std.proofs.Common.{◌∙◌}
use Rattle.traces.proofs.Exits.{passes}
use Rattle.traces.proofs.Reading.{turn_row, turn_fault, turn_end}
use Rattle.traces.proofs.reader.check_rows.Goals as goal

pub returns-in_err-row : goal.returns-in_err-row
returns-in_err-row c =
    let sofar = c.loop-row.invariant.3 in
    rw (passes c.from_residual.result _ c.from_residual.ensures.1) (turn_fault _ _ sofar.0 c.loop-row.row-iterator c.next.new.self c.loop-row.invariant.2 sofar.1 c.in-Some.row _ c.in_err-row.was c.in-Some.ensures.steps.1)

pub loop-row-preserved : goal.loop-row-preserved
loop-row-preserved c =
    let sofar = c.loop-row.invariant.3 in
    let steps = c.in-Some.ensures.steps in
    (tt, tt, steps.0 ∙ c.loop-row.invariant.2, (_, turn_row _ _ sofar.0 c.loop-row.row-iterator c.next.new.self c.loop-row.invariant.2 sofar.1 c.in-Some.row _ c.in_ok-row.was steps.1))

pub returns : goal.returns
returns c =
    let sofar = c.loop-row.invariant.3 in
    (_, turn_end _ _ sofar.0 c.loop-row.row-iterator c.next.new.self c.loop-row.invariant.2 sofar.1 c.in-None.ensures.steps.1)
