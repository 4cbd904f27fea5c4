use Rattle.std.proofs.Common.{Err, ap, ◌∙◌}
use Rattle.std.proofs.lemmas.Result.{err_from_is_err_and}
use Rattle.replays.proofs.Owed.{no_memory, refuses, reports}
use Rattle.replays.proofs.replaying.report_rows.Goals as goal

pub returns-in_err-report : goal.returns-in_err-report
returns-in_err-report g c =
    let p = err_from_is_err_and c.from_residual.result c.from_residual.ensures.1 in
    λ m e. no_memory m c.args.slab.now c.args.rows.now _ _ (p.1 ∙ ap Err p.2) e

pub returns-in_err-visit_all : goal.returns-in_err-visit_all
returns-in_err-visit_all g c =
    let p = err_from_is_err_and c.from_residual-in_err-visit_all.result c.from_residual-in_err-visit_all.ensures.1 in
    λ m e. refuses m c.args.slab.now c.args.rows.now _ _ c.visit_all.new.report c.in_err-visit_all.field-0.0 _ (p.1 ∙ ap Err p.2) (c.in_err-visit_all.ensures.went m e)

pub returns : goal.returns
returns g c =
    λ m e. reports m c.args.slab.now c.args.rows.now _ _ c.visit_all.new.report _ _ _ e c.args.cache.now.sound.few c.slots.ensures c.in_ok-report.ensures.0 c.visit_all.ensures.slots
    (c.in_ok-visit_all.ensures.went m e)
