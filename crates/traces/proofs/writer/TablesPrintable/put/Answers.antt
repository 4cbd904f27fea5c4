use Rattle.traces.proofs.Pages.{four_first, four_second, four_third, four_last, wrote_four}
use Rattle.traces.proofs.Printing.{trace_lines}
use Rattle.traces.proofs.writer.TablesPrintable.put.Goals as goal

pub put_text-requires : goal.put_text-requires
put_text-requires c = four_first (trace_lines c.args.self.now.slots c.args.self.now.rows.now) c.requires

pub put_line-requires : goal.put_line-requires
put_line-requires c = four_second (trace_lines c.args.self.now.slots c.args.self.now.rows.now) c.requires c.put_text.ensures

pub put_text-requires-2 : goal.put_text-requires-2
put_text-requires-2 c = four_third (trace_lines c.args.self.now.slots c.args.self.now.rows.now) c.requires c.put_text.ensures c.put_line.ensures

pub put_rows-requires : goal.put_rows-requires
put_rows-requires c = four_last (trace_lines c.args.self.now.slots c.args.self.now.rows.now) c.requires c.put_text.ensures c.put_line.ensures c.put_text-2.ensures

pub returns : goal.returns
returns c = wrote_four (trace_lines c.args.self.now.slots c.args.self.now.rows.now) c.requires c.put_text.ensures c.put_line.ensures c.put_text-2.ensures c.put_rows.ensures
