use Rattle.std.proofs.Common.{◌≡◌, Some, sym, ap, ◌∙◌, rules}
use Rattle.std.specs.Str.Parse.{digits_value}
use Rattle.traces.specs.Forms.{Fits, radix_of}
use Rattle.traces.proofs.Laid.{fits_reading, unfit_reading}
use Rattle.traces.proofs.values.value_in.Goals as goal

pub returns-then-is_empty-clause-is : goal.returns-then-is_empty-clause-is
returns-then-is_empty-clause-is c = sym (unfit_reading _ _ (search rules))

pub returns-in_err-n-clause-is : goal.returns-in_err-n-clause-is
returns-in_err-n-clause-is c = rw c.from_residual.ensures (sym (unfit_reading _ _ (search rules)))

pub returns-then-n-high-clause-is : goal.returns-then-n-high-clause-is
returns-then-n-high-clause-is c = sym (unfit_reading _ _ (search rules))

pub returns-else-n-high-clause-is : goal.returns-else-n-high-clause-is
returns-else-n-high-clause-is c =
    let fits : Fits c.args.column c.args.text.now = search rules in
    let is : c.in_ok-n.n ≡ digits_value (radix_of c.args.column) c.args.text.now = search rules in
    ap Some is ∙ sym (fits_reading _ _ fits)
