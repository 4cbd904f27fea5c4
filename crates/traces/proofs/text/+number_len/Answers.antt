use Rattle.std.proofs.Common.{◌≤◌, length, sym, ap, arith}
use native.Mathlib.Nat.{pow-le-pow_left}
use Rattle.traces.specs.Tables.{numeral_of}
use Rattle.traces.proofs.Writing.{numeral_small, length_numeral_step, numeral_len}
use Rattle.traces.proofs.text.+number_len.Goals as goal

pub returns-then-n-base-clause-is : goal.returns-then-n-base-clause-is
returns-then-n-base-clause-is t c = sym (ap length (numeral_small c.args.base c.args.n c.requires c.if-n-base.true))

pub returns-else-n-base : goal.returns-else-n-base
returns-else-n-base t c =
    let step = length_numeral_step c.args.base c.args.n c.requires c.if-n-base.false in
    let short : length (numeral_of c.args.base c.args.n) ≤ 64 = numeral_len c.args.base 64 c.args.n c.requires (omega arith) (omega (arith, pow-le-pow_left {n = 2} {m = c.args.base} c.requires 64)) in
    record { is = omega (arith, step, c.number_len.ensures.is); short = omega (arith, step, short, c.number_len.ensures.is) }
