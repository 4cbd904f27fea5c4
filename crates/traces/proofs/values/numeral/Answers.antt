use Rattle.std.proofs.Common.{◌+◌, ◌*◌, ◌^◌, ◌<◌, get_or, arith}
use Rattle.traces.specs.Forms.{Digit}
use Rattle.traces.proofs.Numbers.{more_digits, more_value, more_fits}
use Rattle.traces.proofs.values.numeral.Goals as goal

this : (c : goal.Else-d-radix) → Digit c.args.radix (get_or c.args.text.now c.loop-b.b-index 0)
this c = (omega (arith, c.in_ok-d.ensures.told.1), c.in_ok-d.ensures.told.0.1)

fits : (c : goal.Else-d-radix) → c.loop-b.n * c.args.radix + c.in_ok-d.d < 2 ^ 32
fits c =
    more_fits c.args.radix c.loop-b.n c.in_ok-d.d c.loop-b.b-index c.args.text.now c.loop-b.invariant.0 c.loop-b.invariant.1
    c.loop-b-test.true (this c) c.in_ok-d.ensures.told.1 c.requires.base c.requires.short

pub overflow_mul-n : goal.overflow_mul-n
overflow_mul-n c = omega (arith, fits c)

pub overflow_add-n : goal.overflow_add-n
overflow_add-n c = omega (arith, fits c)

pub loop-b-preserved : goal.loop-b-preserved
loop-b-preserved c =
    let told = c.in_ok-d.ensures.told in
    let here : Digit c.args.radix (get_or c.args.text.now c.loop-b.b-index 0) = (omega (arith, told.1), told.0.1) in (
      more_digits c.args.radix c.loop-b.n c.in_ok-d.d c.loop-b.b-index c.args.text.now c.loop-b.invariant.0 c.loop-b.invariant.1 c.loop-b-test.true here told.1,
      more_value c.args.radix c.loop-b.n c.in_ok-d.d c.loop-b.b-index c.args.text.now c.loop-b.invariant.0 c.loop-b.invariant.1 c.loop-b-test.true here told.1,
    )
