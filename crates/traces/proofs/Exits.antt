-- The exit of a `?`, whose error is made from the callee's.
use Rattle.std.proofs.Common.{◌≡◌, Ok, Err, Result, ap}
use Rattle.std.specs.Result.{IsErrAnd}

pub passes : {T E : Type 0} (r : Result T E) (e : E) → IsErrAnd r (λ x. x ≡ e) → r ≡ Err e
passes (Ok x) e h = absurd h
passes (Err x) e h = ap Err h
