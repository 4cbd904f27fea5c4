use Rattle.std.proofs.Common.{length, ap, arith}
use Rattle.traces.specs.Tables.{cells_text}
use Rattle.traces.proofs.Printing.{fault_lines}
use Rattle.traces.proofs.printer.FaultPrintable.text_len.Goals as goal

pub returns : goal.returns
returns c = omega (arith, ap length (fault_lines c.args.self.now), ap (λ t. length (cells_text t)) c.fault_values.ensures, c.line_len.ensures.is)
