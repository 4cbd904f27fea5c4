use Rattle.std.proofs.Common.{sym, refl, ap}
use Rattle.std.specs.Option.{option_map}
use Rattle.forecasts.specs.Table.{capped_row, two_values}
use Rattle.forecasts.proofs.Tables.{halves_none, halves_at, values_are}
use Rattle.forecasts.proofs.table.values.Goals as goal

pub returns-in_err-space : goal.returns-in_err-space
returns-in_err-space c =
    rw c.from_residual.ensures (sym (ap (λ h. option_map capped_row (two_values h)) (halves_none c.args.line.now c.in_err-space.ensures)))

pub returns-in_err-slot : goal.returns-in_err-slot
returns-in_err-slot c =
    let told = c.in_ok-space.ensures in
    rw c.from_residual-in_err-slot.ensures
    (values_are c.args.line.now c.in_ok-space.space (halves_at c.args.line.now c.in_ok-space.space told.0 told.1 told.2)
    c.in_err-slot.ensures refl)

pub returns-in_err-cost : goal.returns-in_err-cost
returns-in_err-cost c =
    let told = c.in_ok-space.ensures in
    rw c.from_residual-in_err-cost.ensures
    (values_are c.args.line.now c.in_ok-space.space (halves_at c.args.line.now c.in_ok-space.space told.0 told.1 told.2)
    c.in_ok-slot.ensures c.in_err-cost.ensures)

pub returns : goal.returns
returns c =
    let told = c.in_ok-space.ensures in
    values_are c.args.line.now c.in_ok-space.space (halves_at c.args.line.now c.in_ok-space.space told.0 told.1 told.2)
    c.in_ok-slot.ensures c.in_ok-cost.ensures
