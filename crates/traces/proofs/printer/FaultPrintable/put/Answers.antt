use Rattle.std.proofs.Common.{ap, sym}
use Rattle.traces.specs.Tables.{cells_text}
use Rattle.traces.proofs.Pages.{room_is, room_first, room_next, wrote_is, wrote_both}
use Rattle.traces.proofs.Printing.{fault_lines}
use Rattle.traces.proofs.printer.FaultPrintable.put.Goals as goal

pub put_text-requires : goal.put_text-requires
put_text-requires c = room_first _ _ (fault_lines c.args.self.now) c.requires

pub put_line-requires : goal.put_line-requires
put_line-requires c = room_is (ap cells_text (sym c.fault_values.ensures)) (room_next _ _ (fault_lines c.args.self.now) c.requires c.put_text.ensures)

pub returns : goal.returns
returns c = wrote_both _ _ (fault_lines c.args.self.now) c.requires c.put_text.ensures (wrote_is (ap cells_text c.fault_values.ensures) c.put_line.ensures)
