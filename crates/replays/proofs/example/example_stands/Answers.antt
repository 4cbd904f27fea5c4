use Rattle.std.proofs.Common.{refl}
use Rattle.traces.specs.Reports.{run_text}
use Rattle.traces.specs.Tables.{numeral_of}
use Rattle.replays.proofs.example.example_stands.Goals as goal

pub returns : goal.returns
unfolding run_text numeral_of
returns c = record { counted = refl; left = refl; printed = refl }
