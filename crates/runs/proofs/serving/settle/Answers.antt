use Rattle.std.proofs.Common.{◌≡◌, length, vec_items, vec_len, ◌∙◌, arith}
use Rattle.runs.specs.declared.asks.Ask.TheVariants.{GiveBack as AskGive}
use Rattle.runs.specs.Asks.{hand}
use Rattle.runs.proofs.Goes.{again_more, again_done}
use Rattle.runs.proofs.serving.settle.Goals as goal

pub loop-tried-preserved : goal.loop-tried-preserved
loop-tried-preserved g c = (
  (λ bytes. again_more g.K.Key.sameness (vec_items c.args.happenings.now) (vec_items c.loop-tried.happenings) (vec_items c.push_reserved.new.self) _ _ _ (hand (vec_items c.args.leases.now) bytes) (hand (vec_items c.loop-tried.leases) bytes) (hand (vec_items c.give_back-happening.new.leases) bytes) c.loop-tried.tried (AskGive 0) c.give_back-happening.result c.push_reserved.ensures.items (c.loop-tried.invariant.0 bytes) (c.give_back-happening.ensures.does bytes)),
  omega (arith, c.loop-tried.invariant.1, c.push_reserved.ensures.len),
  c.push_reserved.ensures.capacity ∙ c.loop-tried.invariant.2,
)

pub returns : goal.returns
returns g c =
    let e : vec_len c.args.leases.now ≡ length (vec_items c.args.leases.now) = c.args.leases.now.ok.0 in
    λ bytes. again_done g.K.Key.sameness (vec_items c.args.happenings.now) (vec_items c.loop-tried.happenings) _ _ (hand (vec_items c.args.leases.now) bytes) (hand (vec_items c.loop-tried.leases) bytes) c.loop-tried.tried _ (AskGive 0) (omega (arith, e, c.len-tried-end.ensures)) (c.loop-tried.invariant.0 bytes)
