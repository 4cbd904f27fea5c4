use Rattle.std.proofs.Common.{◌∙◌, inl, arith}
use Rattle.traces.proofs.Exits.{passes}
use Rattle.traces.proofs.Faulty.{least_at, least_line, least_names}
use Rattle.traces.proofs.reader.names_line.Goals as goal

pub returns-in_err-number : goal.returns-in_err-number
returns-in_err-number c =
    let told = c.in_err-number.ensures in
    rw (passes c.from_residual.result _ c.from_residual.ensures.1) (λ o. least_line o 3 _ _ (told.number ∙ c.requires) told.splits (inl (omega arith)))

pub returns-in_default : goal.returns-in_default
returns-in_default c =
    let read = c.in_ok-number.ensures in
    rw (read.number ∙ c.requires) (λ o. least_at o 3 _ _ _ _ read.splits.0 (least_names o _ read.splits.1 c.in_default.ensures))
