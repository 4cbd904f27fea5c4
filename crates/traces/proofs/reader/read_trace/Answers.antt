use Rattle.std.proofs.Common.{sym, ap, subst}
use Rattle.traces.proofs.Exits.{passes}
use Rattle.traces.specs.Words.{Says}
use Rattle.traces.specs.Traces.{rows_in}
use Rattle.traces.proofs.Ranges.{said_fits}
use Rattle.traces.proofs.Whole.{whole_rows, read_fails}
use Rattle.traces.proofs.reader.read_trace.Goals as goal

pub returns-in_err-rows : goal.returns-in_err-rows
returns-in_err-rows c =
    rw (passes c.from_residual-in_err-rows.result _ c.from_residual-in_err-rows.ensures.1) (read_fails c.args.text.now _ _ _ c.in_ok-header.ensures.0 _ c.in_ok-check.ensures c.in_err-rows.ensures)

pub from_parts-requires : goal.from_parts-requires
from_parts-requires c = said_fits c.args.text.now _ _ (whole_rows c.args.text.now _ _ _ c.in_ok-header.ensures.0 _ c.in_ok-rows.ensures)

pub returns : goal.returns
returns c =
    let says = whole_rows c.args.text.now _ _ _ c.in_ok-header.ensures.0 _ c.in_ok-rows.ensures in
    subst (λ s. Says c.args.text.now s (rows_in c.from_parts.result)) (sym (ap (λ h. h.slots) c.from_parts.ensures.0))
    (subst (λ rs. Says c.args.text.now c.in_ok-header.header.slots rs) (sym c.from_parts.ensures.1) says)
