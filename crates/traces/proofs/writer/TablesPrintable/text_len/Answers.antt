use Rattle.std.proofs.Common.{arith}
use Rattle.traces.proofs.Pages.{length_four}
use Rattle.traces.proofs.Printing.{trace_lines}
use Rattle.traces.proofs.writer.TablesPrintable.text_len.Goals as goal

pub returns : goal.returns
returns c = omega (arith, length_four (trace_lines c.args.self.now.slots c.args.self.now.rows.now), c.line_len.ensures.is, c.rows_len.ensures.is)
