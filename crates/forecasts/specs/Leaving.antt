-- Who leaves an order, and with what credit, once every row is placed in it.
use Rattle.std.specs.Prelude.{◌≡◌, ℕ, zero, suc, Bool, true, List, [], ◌∷◌, ◌++◌, length, MatchResult}
use Rattle.std.specs.Option.{option_to_list}
use Rattle.orders.specs.declared.Entry.{Entry}
use Rattle.orders.specs.declared.Expelled.{Expelled}
use Rattle.orders.specs.Meaning.{OrderMeaning, placed, leaver, rest, emptied}
use Rattle.forecasts.specs.declared.table.Row.{Row}
use Rattle.forecasts.specs.Table.{reading}

-- Every row is placed, one after the other; one that the order declines changes nothing.
abbrev pub all_placed : OrderMeaning → List Row → OrderMeaning
all_placed m [] = m
all_placed m (r ∷ rs) = all_placed (placed m r.slot r.cost) rs

-- The answers of n expels.
abbrev pub answers : ℕ → List Entry → List Expelled
answers zero xs = []
answers (suc n) xs = option_to_list (leaver xs) ++ answers n (rest xs)

-- The answers of expel until no slot waits.
abbrev pub departures : OrderMeaning → List Expelled
departures m = answers (length m.waiting) m.waiting

-- An order is emptied, every row is placed, and all are expelled.
abbrev pub foretold : OrderMeaning → List Row → List Expelled
foretold m rows = departures (all_placed (emptied m) rows)

-- What a pile means, and a flat order, in which no slot waits.
abbrev pub unused : OrderMeaning
unused = record { size = 1024; span = 65280; waiting = [] }

-- The text is a table, those are the leavers of its rows, and the two orders agree.
abbrev pub Foretells : List ℕ → List Expelled → Bool → Type 0
Foretells text gone agree = MatchResult (reading text) (λ rows. (gone ≡ foretold unused rows) × (agree ≡ true)) (λ fault. ⊥)
