use Rattle.std.proofs.Common.{refl, inl}
use Rattle.traces.proofs.Exits.{passes}
use Rattle.traces.proofs.Back.{written_back}
use Rattle.traces.proofs.writer.write_trace.Goals as goal

pub returns-in_err-check_fit : goal.returns-in_err-check_fit
returns-in_err-check_fit c =
    rw (passes c.from_residual.result _ c.from_residual.ensures.1) (inl c.in_err-check_fit.ensures, refl)

pub returns : goal.returns
returns c = written_back c.args.header.slots c.args.rows.now c.args.out.now _ c.write_text.result c.in_ok-check_fit.ensures c.write_text.ensures
