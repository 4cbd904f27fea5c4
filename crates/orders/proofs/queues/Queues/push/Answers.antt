use Rattle.std.proofs.Common.{◌+◌, ◌<◌, ℕ, List, Bool, ◌||◌, eqb, sym, refl, ap, subst, ◌∙◌, arith}
use Rattle.orders.specs.Rings.{queue}
use Rattle.orders.proofs.Tables.{prev_at, nexts_pushed, prevs_pushed, rings_columns, as_walked, queue_is, rings_push, pushed, sign, sign_push}
use Rattle.orders.proofs.queues.Queues.push.Goals as goal

pub bounds-self-last : goal.bounds-self-last
bounds-self-last c =
    let v = c.args.self.now in
    let pre = c.requires.queue in
    subst (λ (z : ℕ). z < 1280) (prev_at v.nodes (1024 + c.args.q)) (v.rings.prev_in (1024 + c.args.q) (omega arith))

pub invariant_of-self : goal.invariant_of-self
invariant_of-self c =
    let v = c.args.self.now in
    let q = c.args.q in
    let x = c.args.slot in
    let e = nexts_pushed v.nodes (1024 + q) x in
    record {
      rings = rings_columns e (prevs_pushed v.nodes (1024 + q) x) (as_walked (rings_push v.rings q x c.requires.queue c.requires.slot c.requires.idle));
      signs = λ k h. c.mark.ensures k h ∙ ap (λ (b : Bool). eqb k q || b) (v.signs k h) ∙ sym (ap (λ (t : List ℕ). sign t k) e ∙ sign_push v.rings q x c.requires.queue c.requires.slot k h);
    }

pub returns : goal.returns
unfolding pushed
returns c =
    let v = c.args.self.now in
    record {
      queues = λ k h. ap (λ (t : List ℕ). queue t k) (nexts_pushed v.nodes (1024 + c.args.q) c.args.slot) ∙ queue_is (rings_push v.rings c.args.q c.args.slot c.requires.queue c.requires.slot c.requires.idle) k h;
      homes = refl;
    }
