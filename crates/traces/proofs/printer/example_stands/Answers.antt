use Rattle.traces.proofs.Computed.{example_reads, example_prints}
use Rattle.traces.proofs.printer.example_stands.Goals as goal

pub returns : goal.returns
returns c = record { reads = example_reads; prints = example_prints }
