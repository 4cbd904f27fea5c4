-- The state that a cache stands for, and what its calls make of it.
use Rattle.std.specs.Prelude.{ℕ}
use Rattle.keys.specs.declared.Key.{Ghosts as OfKey}
use Rattle.orders.specs.declared.Order.{Ghosts as OfOrder}
use Rattle.directories.specs.declared.directory.Directory.{Ghosts as OfDirectory}
use Rattle.promises.specs.State.{State}
use Rattle.promises.specs.Events.{Event}
use Rattle.promises.specs.Steps.{Step}
use Rattle.promises.specs.Lines.{Making}
use Rattle.promises.specs.Promises.{GoesOn}
use Rattle.cache.specs.declared.cache.Cache.{Cache}

module _ {K D O : Type 0} {k : OfKey K} {d : OfDirectory D K} {o : OfOrder O} where
  abbrev pub state_of : Cache K D O k d o → State K
  state_of c = record { directory = d.meaning c.directory; order = o.meaning c.order; table = c.table }

  -- a call leads from one cache to the next by the step of its event
  abbrev pub Makes : Cache K D O k d o → Event K → Cache K D O k d o → Type 0
  Makes c e c' = Step k.sameness (state_of c) e (state_of c')

  -- The whole promise, carried on by a call: every line of calls that leads from a making to the cache before, with this call's event added, keeps it.
  abbrev pub KeepsPromise : Cache K D O k d o → Event K → Cache K D O k d o → Type 0
  KeepsPromise c e c' = GoesOn k.sameness (state_of c) e (state_of c')

-- what a cache is made of
abbrev pub making : {K D O : Type 0} → OfDirectory D K → OfOrder O → D → O → ℕ → ℕ → Making K
making d o x y m n = record { directory = d.meaning x; order = o.meaning y; mark = m; chunk = n }
