use Rattle.std.proofs.Common.{length, ap, arith}
use Rattle.std.proofs.lemmas.List.{take_all}
use Rattle.traces.specs.Tables.{spaced_text}
use Rattle.traces.proofs.Writing.{length_line}
use Rattle.traces.proofs.text.line_len.Goals as goal

pub returns-clause-is : goal.returns-clause-is
returns-clause-is c =
    omega (arith, c.loop-cell.invariant.0, ap (λ t. length (spaced_text t)) (take_all c.loop-cell.cell-index c.args.cells.now c.loop-cell-test.false), length_line c.args.cells.now c.requires.some)
