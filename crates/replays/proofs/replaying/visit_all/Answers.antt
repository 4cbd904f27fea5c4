use Rattle.std.proofs.Common.{is_ok, vec_items, vec_len, vec_capacity, refl, ◌∙◌}
use Rattle.replays.proofs.Alls.{begins, row_taken, row_refused, ends}
use Rattle.replays.proofs.replaying.visit_all.Goals as goal

pub loop-i-init : goal.loop-i-init
loop-i-init g c = (refl, refl, λ m e. (begins m _ c.args.rows.now _ c.args.report.now.counts (vec_items c.args.report.now.evicted) e c.requires.fresh c.requires.none, refl))

pub loop-i-preserved : goal.loop-i-preserved
loop-i-preserved g c = (
  c.note.ensures.slots ∙ c.loop-i.invariant.0,
  c.note.ensures.room ∙ c.loop-i.invariant.1,
  λ m e. row_taken m c.args.slab.now c.args.rows.now c.loop-i.i _ _ _ c.loop-i.report.counts (vec_items c.loop-i.report.evicted) c.loop-i.slab c.visit.new.slab
      c.note.new.self.counts (vec_items c.note.new.self.evicted) c.in-Ok.outcome (vec_len c.loop-i.report.evicted) (vec_capacity c.loop-i.report.evicted) (vec_capacity c.args.report.now.evicted) (is_ok c.note.result)
      c.loop-i-test.true c.requires.few c.requires.room c.loop-i.invariant.1 (c.requires.priced c.loop-i.i c.loop-i-test.true).1
      c.loop-i.report.evicted.ok.0 c.loop-i.report.listed c.loop-i.report.shared (c.loop-i.invariant.2 m e) (c.in-Ok.ensures m _)
      c.note.ensures.answer c.note.ensures.counts c.note.ensures.evicted,
)

pub returns-in-Err : goal.returns-in-Err
returns-in-Err g c = record {
  slots = c.loop-i.invariant.0;
  went = λ m e. row_refused m c.args.slab.now c.args.rows.now c.loop-i.i _ _ _ c.loop-i.report.counts (vec_items c.loop-i.report.evicted) c.loop-i.slab c.visit.new.slab
      c.in-Err.refusal c.loop-i-test.true (c.loop-i.invariant.2 m e) (c.in-Err.ensures m _);
}

pub returns : goal.returns
returns g c = record {
  slots = c.loop-i.invariant.0;
  went = λ m e. let h = c.loop-i.invariant.2 m e in (ends m _ c.args.rows.now c.loop-i.i _ _ _ c.loop-i-test.false h.0, h.1);
}
