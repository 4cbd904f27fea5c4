-- What comes of a deed, by what the cache answers.
use Rattle.std.specs.Prelude.{◌≡◌, ℕ, List, Some, None, Option}
use Rattle.std.specs.Borrow.{Bor}
use Rattle.keys.specs.declared.region.RegionNumber.{RegionNumber}
use Rattle.promises.specs.declared.answers.Evicted.{Evicted}
use Rattle.promises.specs.declared.answers.Kept.{Kept}
use Rattle.promises.specs.declared.answers.Kept.TheVariants.{Refreshed as KeptRefreshed, Taken as KeptTaken, TakenEvicting}
use Rattle.promises.specs.declared.answers.Presence.{Presence}
use Rattle.promises.specs.declared.answers.Presence.TheVariants.{Absent as IsAbsent, Waiting as IsWaiting, Out as IsOut}
use Rattle.workers.specs.declared.outcome.Outcome.{Outcome}
use Rattle.workers.specs.declared.outcome.Outcome.TheVariants.{Taken, Refreshed, Evicted as Left, Absent, Waiting, Out, Found, Missing, Unreadable}
use Rattle.workers.specs.declared.region.Region.{Region}
use Rattle.workers.specs.Meshes.{Reads}

-- a keep that is not refused
abbrev pub of_kept : Kept (Evicted RegionNumber) → Outcome
of_kept KeptRefreshed = Refreshed
of_kept KeptTaken = Taken
of_kept (TakenEvicting e) = Left e.key

-- where a region is
abbrev pub of_presence : Presence → Outcome
of_presence IsAbsent = Absent
of_presence IsWaiting = Waiting
of_presence IsOut = Out

-- bytes that are read as a region, if they are one
abbrev pub of_read : Option Region → Outcome
of_read None = Unreadable
of_read (Some r) = Found r

-- a get that is not refused: the region is missing, or its bytes are read
abbrev pub Shows : Option (Bor (List ℕ)) → Outcome → Type 0
Shows None r = r ≡ Missing
Shows (Some bs) r = (o : Option Region) × Reads bs.now o × (r ≡ of_read o)
