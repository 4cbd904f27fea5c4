use Rattle.std.proofs.Common.{◌≡◌, ◌≢◌, rules}
use borrow.Author.Tests.{tests}
use Rattle.std.proofs.lemmas.Iterator.{YieldsList-from_slice, IsFirst-from_position}
use Rattle.forecasts.proofs.Tables.{first_place}
use Rattle.forecasts.proofs.table.find.Goals as goal

pub returns : goal.returns
returns c = first_place c.args.byte c.args.bytes.now c.position.result
    (IsFirst-from_position _ _ _ (λ x. x ≡ c.args.byte) (λ x. x ≢ c.args.byte) c.position.ensures.ran (YieldsList-from_slice c.args.bytes.now cc)
    (λ x q k. search (rules, tests)) (λ x q k. search (rules, tests)))
