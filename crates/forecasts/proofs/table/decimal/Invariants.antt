use Rattle.std.proofs.Common.{◌≡◌, ◌≤◌, drop}
use Rattle.std.specs.Option.{option_map}
use Rattle.forecasts.specs.Table.{capped, digits_from}
use Rattle.forecasts.proofs.table.decimal.Given as goal

abbrev pub invariant-loop-byte : goal.invariant-loop-byte
invariant-loop-byte l =
    (l.value ≤ 100000) × (option_map capped (digits_from l.value (drop l.byte-index l.digits)) ≡ option_map capped (digits_from 0 l.digits))
