use Rattle.traces.proofs.Pages.{room_first, room_next, wrote_both}
use Rattle.traces.proofs.Writing.{line_ends}
use Rattle.traces.proofs.page.Page.put_line.Goals as goal

pub put_cells-requires : goal.put_cells-requires
put_cells-requires c = room_first _ _ (line_ends c.args.cells.now) c.requires

pub put_text-requires : goal.put_text-requires
put_text-requires c = room_next _ _ (line_ends c.args.cells.now) c.requires c.put_cells.ensures

pub returns : goal.returns
returns c = wrote_both _ _ (line_ends c.args.cells.now) c.requires c.put_cells.ensures c.put_text.ensures
