use Rattle.std.proofs.Common.{List, ◌∙◌, is_ok, ap, sym, subst}
use Rattle.std.proofs.ResultArms.{chosen}
use Rattle.traces.proofs.Exits.{passes}
use Rattle.traces.specs.declared.rows.Row.{Row}
use Rattle.traces.specs.Cut.{cut}
use Rattle.traces.proofs.Reading.{Sofar, turn_row, turn_fault, turn_end}
use Rattle.traces.proofs.reader.keep_rows.Goals as goal

pub returns-in_err-row : goal.returns-in_err-row
returns-in_err-row c =
    rw (passes c.from_residual.result _ c.from_residual.ensures.1) (turn_fault _ _ _ c.loop-row.row-iterator c.next.new.self c.loop-row.invariant.2 c.loop-row.invariant.3 c.in-Some.row _ c.in_err-row.was c.in-Some.ensures.steps.1)

pub loop-row-preserved : goal.loop-row-preserved
loop-row-preserved c =
    let pushed = chosen _ _ _ _ c.push.ensures.items (ap is_ok c.in_ok-push.was) in
    let steps = c.in-Some.ensures.steps in
    let t = c.next.new.self in (
      tt,
      tt,
      steps.0 ∙ c.loop-row.invariant.2,
      subst (λ xs. Sofar c.args.rows.order (cut c.args.rows.lines.rest.now) xs t.lines.number (cut t.lines.rest.now)) (sym {A = List Row} pushed)
          (turn_row _ _ _ c.loop-row.row-iterator t c.loop-row.invariant.2 c.loop-row.invariant.3 c.in-Some.row _ c.in_ok-row.was steps.1),
    )

pub returns : goal.returns
returns c = turn_end _ _ _ c.loop-row.row-iterator c.next.new.self c.loop-row.invariant.2 c.loop-row.invariant.3 c.in-None.ensures.steps.1
