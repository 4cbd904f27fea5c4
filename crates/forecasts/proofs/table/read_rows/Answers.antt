use Rattle.std.proofs.Common.{true, take, refl, ◌∙◌}
use Rattle.std.proofs.lemmas.Slice.Eq.{slice_eq-Decides}
use Rattle.std.proofs.lemmas.Result.{err_from_is_err_and}
use Rattle.forecasts.specs.Table.{names}
use Rattle.forecasts.proofs.Tables.{names_read}
use Rattle.forecasts.proofs.table.read_rows.Goals as goal
use Rattle.std.proofs.lemmas.Bool.Decides.{Decides-eqb}

pub returns-in_err-read_lines : goal.returns-in_err-read_lines
returns-in_err-read_lines c =
    let text = c.args.text.now in
    let read = names_read text ((slice_eq-Decides Decides-eqb names (take 10 text) true c.if-not-starts_with.ensures.value).0 refl) in
    let p = err_from_is_err_and c.from_residual-in_err-read_lines.result c.from_residual-in_err-read_lines.ensures.1 in
    rw (p.1, p.2) (read ∙ c.in_err-read_lines.ensures)

pub returns : goal.returns
returns c =
    let text = c.args.text.now in
    names_read text ((slice_eq-Decides Decides-eqb names (take 10 text) true c.if-not-starts_with.ensures.value).0 refl) ∙ c.in_ok-read_lines.ensures
