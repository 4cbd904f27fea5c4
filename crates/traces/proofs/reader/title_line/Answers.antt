use Rattle.std.proofs.Common.{◌∙◌, sym, inl, arith}
use Rattle.std.proofs.lemmas.Bool.{false≢true}
use Rattle.traces.proofs.Exits.{passes}
use Rattle.traces.proofs.Faulty.{least_at, least_line, least_title}
use Rattle.traces.proofs.reader.title_line.Goals as goal

pub returns-in_err-number : goal.returns-in_err-number
returns-in_err-number c =
    let told = c.in_err-number.ensures in
    rw (passes c.from_residual.result _ c.from_residual.ensures.1) (λ o. least_line o 1 _ _ (told.number ∙ c.requires) told.splits (inl (omega arith)))

pub returns-then-ne : goal.returns-then-ne
returns-then-ne c =
    let read = c.in_ok-number.ensures in
    rw (read.number ∙ c.requires) (λ o. least_at o 1 _ _ _ _ read.splits.0 (least_title o _ read.splits.1 (λ e. false≢true (sym (rw e at c.if-ne.ensures)))))
