use Rattle.std.proofs.Common.{◌≡◌, true, rules}
use Rattle.std.proofs.lemmas.Slice.Eq.{slice_eq-Decides}
use Rattle.forecasts.proofs.Alike.{eq_decides}
use Rattle.forecasts.proofs.forecast.foretell.Goals as goal

pub returns : goal.returns
returns c =
    let alike : c.as_slice-3.result.now ≡ c.as_slice-4.result.now = search rules in
    let told : c.eq-agrees.result ≡ true = (slice_eq-Decides eq_decides c.as_slice-3.result.now c.as_slice-4.result.now c.eq-agrees.result c.eq-agrees.ensures).1 alike in
    search rules
