use Rattle.std.proofs.Common.{sym, ap, ◌∙◌}
use Rattle.traces.specs.Tables.{cells_text}
use Rattle.traces.proofs.Pages.{room_is, room_turn, wrote_is, wrote_turn}
use Rattle.traces.proofs.page.Page.put_rows.Goals as goal

pub put_line-requires : goal.put_line-requires
put_line-requires g c =
    let cells = g.R.TableRow.cells_of in
    room_is (ap cells_text (sym (c.cells.ensures ∙ ap cells c.row-item.is)))
    (room_turn (λ r. cells_text (cells r)) c.args.rows.now c.loop-row.row-index c.requires c.loop-row.invariant c.row-item.result c.loop-row-test.true)

pub loop-row-preserved : goal.loop-row-preserved
loop-row-preserved g c =
    let cells = g.R.TableRow.cells_of in
    wrote_turn (λ r. cells_text (cells r)) c.args.rows.now c.loop-row.row-index c.requires c.loop-row.invariant c.row-item.result c.loop-row-test.true
    (wrote_is (ap cells_text (c.cells.ensures ∙ ap cells c.row-item.is)) c.put_line.ensures)
