use Rattle.std.proofs.Common.{◌≡◌, length, Ok, Err, vec_items, vec_len, sym, ◌∙◌, append-nil, arith}
use Rattle.runs.proofs.Arms.{does_give, idle_give, pushed_back}
use Rattle.runs.proofs.calls.give_back.Goals as goal

pub returns-then-place-len-clause-does : goal.returns-then-place-len-clause-does
returns-then-place-len-clause-does g c =
    let e : vec_len c.args.leases.now ≡ length (vec_items c.args.leases.now) = c.args.leases.now.ok.0 in
    λ slab. idle_give g.K.Key.sameness _ _ slab c.args.place (omega (arith, e, c.len.ensures, c.if-place-len.true))

pub returns-in-Ok-clause-does : goal.returns-in-Ok-clause-does
returns-in-Ok-clause-does g c =
    let e : vec_len c.args.leases.now ≡ length (vec_items c.args.leases.now) = c.args.leases.now.ok.0 in
    λ slab. does_give g.K.Key.sameness _ _ _ _ slab c.args.place _ (Ok tt) _ (omega (arith, e, c.len.ensures, c.if-place-len.false)) c.remove-lease.ensures.value c.in-Ok.ensures.step c.ticket-ticket.ensures (c.remove-lease.ensures.items ∙ sym (append-nil _))

pub returns-in-Err-clause-does : goal.returns-in-Err-clause-does
returns-in-Err-clause-does g c =
    let e : vec_len c.args.leases.now ≡ length (vec_items c.args.leases.now) = c.args.leases.now.ok.0 in
    λ slab. does_give g.K.Key.sameness _ _ _ _ slab c.args.place _ (Err _) _ (omega (arith, e, c.len.ensures, c.if-place-len.false)) c.remove-lease.ensures.value c.in-Err.ensures.step c.ticket-ticket.ensures (pushed_back _ _ _ _ _ c.push_reserved.ensures.items c.remove-lease.ensures.items c.in-Err.ensures.token)
