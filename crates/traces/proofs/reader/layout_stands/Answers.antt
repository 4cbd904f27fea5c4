use Rattle.traces.proofs.Words.{said_is_kept}
use Rattle.traces.proofs.Said.{kept_is_said}
use Rattle.traces.proofs.Exact.{said_is_sound, said_once}
use Rattle.traces.proofs.Decided.{said_or_faulty}
use Rattle.traces.proofs.Back.{reads_back}
use Rattle.traces.proofs.reader.layout_stands.Goals as goal

pub returns : goal.returns
returns c = record { lines = said_is_kept; layout = kept_is_said; sound = said_is_sound; once = said_once; decided = said_or_faulty; back = reads_back }
