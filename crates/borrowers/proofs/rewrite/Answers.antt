use Rattle.std.proofs.Common.{◌≡◌, Err, sym, subst, rules}
use Rattle.cache.specs.Whole.{state_of}
use Rattle.borrowers.specs.Loans.{Rewrites, turned_away, served}
use Rattle.borrowers.proofs.Loans.{write_keeps, loan_keeps, taken_back}
use Rattle.borrowers.proofs.rewrite.Goals as goal

pub returns-in_err-lease-clause-does : goal.returns-in_err-lease-clause-does
returns-in_err-lease-clause-does g c =
    let same : c.from_residual.result ≡ Err c.in_err-lease.field-0.0 = search rules in
    subst (λ r. Rewrites g.K.Key.sameness (state_of c.args.cache.now) c.args.key.now c.args.value.now c.args.slab.now r (state_of c.lease.new.self) c.args.slab.now) (sym same)
    (turned_away _ _ c.in_err-lease.ensures.step)

pub returns-clause-does : goal.returns-clause-does
returns-clause-does g c = served _ _ _ _ _ _ c.in_ok-lease.ensures.step c.write-answer.ensures.step (taken_back g.K.Key.sameness _ _ _ _ c.unwrap.ensures c.give_back.ensures.step)

pub returns-clause-others : goal.returns-clause-others
returns-clause-others g c =
    loan_keeps g.K.Key.sameness _ _ _ _ _ _ c.write-answer.new.self.sound c.in_ok-lease.ensures.step (write_keeps g.K.Key.sameness _ _ _ _ _ _ _ c.lease.new.self.sound c.write-answer.ensures.step)
    (taken_back g.K.Key.sameness _ _ _ _ c.unwrap.ensures c.give_back.ensures.step)
