use Rattle.std.proofs.Common.{◌∙◌, inl, arith}
use Rattle.std.proofs.lemmas.Bool.{both_ways}
use Rattle.traces.proofs.Exits.{passes}
use Rattle.traces.proofs.Faulty.{least_at, least_line, least_one, least_slots}
use Rattle.traces.proofs.reader.slots_line.Goals as goal

pub returns-in_err-number : goal.returns-in_err-number
returns-in_err-number c =
    let told = c.in_err-number.ensures in
    rw (passes c.from_residual.result _ c.from_residual.ensures.1) (λ o. least_line o 2 _ _ (told.number ∙ c.requires) told.splits (inl (omega arith)))

pub returns-then-not-is_one : goal.returns-then-not-is_one
returns-then-not-is_one c =
    let read = c.in_ok-number.ensures in
    rw (read.number ∙ c.requires) (λ o. least_at o 2 _ _ _ _ read.splits.0 (least_one o _ read.splits.1 (λ e. both_ways _ c.if-not-is_one.true (c.is_one.ensures.no e))))

pub returns-in_default : goal.returns-in_default
returns-in_default c =
    let read = c.in_ok-number.ensures in
    rw (read.number ∙ c.requires) (λ o. least_at o 2 _ _ _ _ read.splits.0 (least_slots o _ read.splits.1 (c.is_one.ensures.yes c.if-not-is_one.false) c.in_default.ensures.told))
