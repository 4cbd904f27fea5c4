-- Every line keeps the whole promise, and so does every line with one more event.
use Rattle.std.proofs.Common.{ℕ, Bool, List, ◌∷◌}
use Rattle.keys.specs.Sameness.{SameLaws}
use Rattle.promises.specs.State.{State, Sound}
use Rattle.promises.specs.Events.{Event}
use Rattle.promises.specs.Steps.{Step}
use Rattle.promises.specs.Lines.{Making, chunk_size, Line}
use Rattle.promises.specs.Promises.{EveryLine, GoesOn}
use Rattle.promises.proofs.Sounds.{sound_line}
use Rattle.promises.proofs.Competes.{competitive}
use Rattle.promises.proofs.Waiting.{waiting_bounded}
use Rattle.promises.proofs.Leases.{stays_out, held_out, one_lease, value_kept}
use Rattle.promises.proofs.Values.{lengths_kept, last_value_answered, bytes_kept}
use Rattle.promises.proofs.Chunks.{parts_apart}
use Rattle.promises.proofs.Greedy.{greedy_dual}

module _ {K : Type 0} (same : K → K → Bool) (home : K → ℕ) (laws : SameLaws same home) where
  sounds : (m : Making K) (es : List (Event K)) (s : State K) → Line same m es s → Sound same s
  sounds m es s l = sound_line same m es s laws l

  pub every_line : EveryLine same
  every_line m es s l = record {
    competitive = competitive same home laws m es s l;
    waiting_bounded = waiting_bounded same home laws m es s l;
    stays_out = stays_out same home laws sounds m es s l;
    held_out = held_out same home laws sounds m es s l;
    one_lease = one_lease same home laws sounds m es s l;
    value_kept = value_kept same home laws sounds m es s l;
    bytes_kept = bytes_kept same home laws sounds m es s l;
    last_value_answered = last_value_answered same home laws sounds m es s l;
    lengths_kept = lengths_kept same home laws sounds m es s l;
    greedy_dual = greedy_dual same home laws sounds m es s l;
    sound = sounds m es s l;
    parts_apart = parts_apart (chunk_size m.chunk);
  }

  -- what a call's step gives: the promise of any line with this event added
  pub goes_on : (s : State K) (e : Event K) (t : State K) → Step same s e t → GoesOn same s e t
  goes_on s e t step m es l = every_line m (e ∷ es) t (s, l, step)
