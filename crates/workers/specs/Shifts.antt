-- What a worker's calls do to the leases that are out.
use Rattle.std.specs.Prelude.{◌≡◌, true, Some, None, Ok, Option}
use Rattle.keys.specs.Regions.{same_number}
use Rattle.keys.specs.declared.region.RegionNumber.{RegionNumber}
use Rattle.promises.specs.State.{State, known}
use Rattle.promises.specs.Events.{leases}
use Rattle.promises.specs.Steps.{Step}
use Rattle.cache.specs.Leases.{ticket_of}
use Rattle.cache.specs.declared.lease.Lease.{Lease}
use Rattle.borrowers.specs.Loans.{KeepsLeases}

-- A lease is taken, and the cache knows it; or every lease that was out is still out, and no other.
abbrev pub Lends : RegionNumber → State RegionNumber → Option Lease → State RegionNumber → Type 0
Lends k s None u = KeepsLeases s u
Lends k s (Some l) u = Step same_number s (leases k (Ok (ticket_of l))) u × (known u.table (ticket_of l) ≡ true)
