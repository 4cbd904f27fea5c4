use Rattle.std.proofs.Common.{inl, inr, arith}
use Rattle.traces.proofs.Fitting.{least_cost, least_past}
use Rattle.traces.proofs.writer.check_fit.Goals as goal
use Rattle.traces.proofs.writer.check_fit.Goals.{then-row-lt1-via-then-row-lt1, then-row-lt1-via-else-row-lt1+then-row-gt-MOST_COST}

pub returns-then-row-lt1 : goal.returns-then-row-lt1
returns-then-row-lt1 c =
    least_cost c.args.slots c.args.rows.now c.loop-i.i (omega arith) (omega arith) c.loop-i.invariant.1 c.loop-i.invariant.2 c.loop-i.invariant.0 _ c.key_len-width.ensures.is
    (elim c.then-row-lt1.branch [ then-row-lt1-via-then-row-lt1 w ↦ inl w.if-row-lt1.true | then-row-lt1-via-else-row-lt1+then-row-gt-MOST_COST w ↦ inr w.if-row-gt-MOST_COST.true ])

pub returns-then-i : goal.returns-then-i
returns-then-i c =
    rw c.of_line.ensures (least_past c.args.slots c.args.rows.now c.loop-i.i (omega arith) (omega arith) c.loop-i.invariant.1 c.loop-i.invariant.2 c.loop-i.invariant.0 (omega arith) (omega arith) (omega arith))
