-- The log of a day's work.
use Rattle.std.specs.Prelude.{cond, List, [], ◌∷◌, ◌++◌, length, nat_lt}
use Rattle.workers.specs.declared.entry.Entry.{Entry}
use Rattle.workers.specs.declared.log.Log.{Log}
use Rattle.workers.specs.Few.{items_of}

abbrev pub entries_of : Log → List Entry
entries_of l = items_of l.entries

-- one more entry, while there are fewer than 24
abbrev pub noted : Log → Entry → List Entry
noted l e = cond (nat_lt (length (entries_of l)) 24) (entries_of l ++ e ∷ []) (entries_of l)
