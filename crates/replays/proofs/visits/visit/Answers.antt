use Rattle.std.proofs.Common.{Err, sym, refl, ap, ◌∙◌}
use Rattle.std.proofs.lemmas.Result.{err_from_is_err_and}
use Rattle.replays.proofs.Goes.{get_fails, found_goes, missed_goes, answer_at}
use Rattle.replays.proofs.visits.visit.Goals as goal

pub returns-in_err-found : goal.returns-in_err-found
returns-in_err-found g c =
    let p = err_from_is_err_and c.from_residual.result c.from_residual.ensures.1 in
    λ m before h. answer_at m c.args.slab.now before c.args.row _ _ _ _ (p.1 ∙ ap Err p.2)
    (get_fails m c.args.slab.now before c.args.row _ _ c.in_err-found.field-0.0 h c.in_err-found.ensures.step, refl)

pub returns-then-is_some : goal.returns-then-is_some
returns-then-is_some g c =
    λ m before h. (found_goes m c.args.slab.now before c.args.row _ _ (record { ref_ptr = c.args.slab.ref_ptr; now = c.args.slab.now }) c.in_ok-found.found (sym c.is_some.ensures ∙ c.if-is_some.true) h c.in_ok-found.ensures.step, refl)

pub returns : goal.returns
returns g c =
    λ m before h. c.keep_row.ensures m before
    (missed_goes m c.args.slab.now before c.args.row _ _ (record { ref_ptr = c.args.slab.ref_ptr; now = c.args.slab.now }) c.in_ok-found.found (sym c.is_some.ensures ∙ c.if-is_some.false) h c.in_ok-found.ensures.step)
