use Rattle.std.proofs.Common.{◌<◌, ◌≤◌, length, sym, ap, ◌∙◌, arith}
use Rattle.std.proofs.lemmas.List.{take_all}
use Rattle.orders.specs.Meaning.{fallen}
use Rattle.orders.specs.FlatTables.{lower_can, lower_front, lower_back}
use Rattle.orders.proofs.flat.lower.Goals as goal

pub overflow_sub-entry : goal.overflow_sub-entry
overflow_sub-entry c =
    let i = c.loop-entry.entry-index in
    let h : i < length c.loop-entry.entries = omega arith in
    lower_can c.args.by i c.args.entries.now c.loop-entry.entries c.loop-entry-test.true h c.loop-entry.invariant.1 c.requires

pub loop-entry-preserved : goal.loop-entry-preserved
loop-entry-preserved c =
    let xs = c.args.entries.now in
    let ys = c.loop-entry.entries in
    let i = c.loop-entry.entry-index in
    let h : i < length ys = omega arith in (
      lower_front c.args.by i xs ys c.loop-entry-test.true h c.loop-entry.invariant.1 c.loop-entry.invariant.0,
      lower_back c.args.by i xs ys c.loop-entry-test.true h c.loop-entry.invariant.1,
    )

pub returns : goal.returns
returns c =
    let xs = c.args.entries.now in
    let ys = c.loop-entry.entries in
    let i = c.loop-entry.entry-index in
    let h : length ys ≤ i = omega arith in
    sym (take_all i ys h) ∙ c.loop-entry.invariant.0 ∙ ap (fallen c.args.by) (take_all i xs c.loop-entry-test.false)
