use Rattle.std.proofs.Common.{vec_items, ◌∙◌, arith}
use Rattle.runs.specs.Asks.{hand}
use Rattle.runs.proofs.Goes.{serve_more}
use Rattle.runs.proofs.serving.serve.Goals as goal

pub loop-ask-preserved : goal.loop-ask-preserved
loop-ask-preserved g c = (
  serve_more g.K.Key.sameness (vec_items c.args.happenings.now) (vec_items c.loop-ask.happenings) (vec_items c.push_reserved.new.self) _ _ _ (hand (vec_items c.args.leases.now) c.args.slab.now) (hand (vec_items c.loop-ask.leases) c.loop-ask.slab) (hand (vec_items c.answer-happening.new.leases) c.answer-happening.new.slab) c.args.asks.now c.loop-ask.ask-index c.ask-item.result c.answer-happening.result (omega arith) c.ask-item.is c.push_reserved.ensures.items c.loop-ask.invariant.0 c.answer-happening.ensures.does,
  omega (arith, c.loop-ask.invariant.1, c.answer-happening.ensures.most),
  c.answer-happening.ensures.capacity ∙ c.loop-ask.invariant.2,
  omega (arith, c.loop-ask.invariant.3, c.push_reserved.ensures.len),
  c.push_reserved.ensures.capacity ∙ c.loop-ask.invariant.4,
)
