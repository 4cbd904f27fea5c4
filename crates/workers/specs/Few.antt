-- A list with room for a fixed number of items.
use Rattle.std.specs.Prelude.{ℕ, List, take}
use Rattle.workers.specs.declared.few.Few.{Few}

-- the items in use, the first of the array
abbrev pub items_of : {T : Type 0} {N : ℕ} → Few T N → List T
items_of f = take f.count f.items
