use Rattle.std.proofs.Common.{sym, arith}
use Rattle.forecasts.proofs.Tables.{digits_stop, digits_more, digits_all}
use Rattle.forecasts.proofs.table.decimal.Goals as goal

pub returns-then-not-is_ascii_digit : goal.returns-then-not-is_ascii_digit
returns-then-not-is_ascii_digit c =
    digits_stop c.args.digits.now c.loop-byte.byte-index c.loop-byte.value (sym c.if-is_empty.ensures) c.loop-byte.invariant.1
    c.loop-byte-test.true (sym c.if-not-is_ascii_digit.ensures.value)

pub loop-byte-preserved : goal.loop-byte-preserved
loop-byte-preserved c = (
  omega arith,
  digits_more c.args.digits.now c.loop-byte.byte-index c.loop-byte.value (sym c.if-is_empty.ensures) c.loop-byte.invariant.1
      c.min-value.result c.min-value.ensures c.loop-byte-test.true (sym c.if-not-is_ascii_digit.ensures.value),
)

pub returns : goal.returns
returns c =
    digits_all c.args.digits.now c.loop-byte.byte-index c.loop-byte.value (sym c.if-is_empty.ensures) c.loop-byte.invariant.1
    c.loop-byte.invariant.0 c.loop-byte-test.false
