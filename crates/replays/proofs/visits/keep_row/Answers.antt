use Rattle.std.proofs.Common.{Ok, Err, ap, ◌∙◌}
use Rattle.std.proofs.lemmas.Result.{err_from_is_err_and}
use Rattle.replays.proofs.Goes.{keep_fails, keep_goes, answer_at}
use Rattle.replays.proofs.visits.keep_row.Goals as goal

pub returns-in_err-kept : goal.returns-in_err-kept
returns-in_err-kept g c =
    let p = err_from_is_err_and c.from_residual.result c.from_residual.ensures.1 in
    λ m before h. answer_at m c.args.slab.now before c.args.row _ _ _ _ (p.1 ∙ ap Err p.2)
    (keep_fails m c.args.slab.now before c.args.row _ _ h c.in_err-kept.field-0.0 _ c.requires c.in_err-kept.ensures.step)

pub returns : goal.returns
returns g c =
    λ m before h. answer_at m c.args.slab.now before c.args.row _ _ _ _ (ap Ok c.outcome_of.ensures)
    (keep_goes m c.args.slab.now before c.args.row _ _ h c.in_ok-kept.kept _ c.requires c.in_ok-kept.ensures.step)
