-- Worked lines of calls, with figures. They show that the promises speak of something: their premises are met here.
use Rattle.std.specs.Prelude.{◌≡◌, ℕ, true, false, List, [], ◌∷◌, Some, None, Ok, Err, ◌==◌, nat_eq}
use Rattle.directories.specs.Meaning.{fresh}
use Rattle.promises.specs.declared.answers.Refusal.TheVariants.{OnLease, AllOut}
use Rattle.promises.specs.declared.answers.Kept.TheVariants.{Taken, TakenEvicting}
use Rattle.promises.specs.declared.answers.Presence.TheVariants.{Out}
use Rattle.promises.specs.State.{State}
use Rattle.promises.specs.Events.{Event, gets, keeps, leases, tells, effect, price_of, Each, paid, evictions}
use Rattle.promises.specs.Steps.{keep_fault}
use Rattle.promises.specs.Lines.{Making, made, Line}
use Rattle.promises.specs.Rivals.{Rival}
use Rattle.promises.specs.History.{Priced}

-- a cache of n slots of one byte over the pile's size and span, with mark 77; keys are numbers
abbrev pub small : ℕ → Making ℕ
small n = record { directory = fresh n (λ k. true); order = record { size = 1024; span = 65280; waiting = [] }; mark = 77; chunk = 1 }

abbrev pub slab : List ℕ
slab = 0 ∷ 0 ∷ []

abbrev pub look : ℕ → Event ℕ
look k = gets k slab (Ok None)

abbrev pub take_in : ℕ → ℕ → Event ℕ
take_in k c = keeps k c [] slab (Ok Taken) slab

abbrev pub take_for : ℕ → ℕ → ℕ → Event ℕ
take_for k c left = keeps k c [] slab (Ok (TakenEvicting (record { key = left }))) slab

-- The rows A 3, B 1, A 3, C 2, B 1, each a get and, where that is absent, a keep; A, B and C are 10, 11 and 12. The newest is first.
abbrev pub rows : List (Event ℕ)
rows =
    take_for 11 1 10 ∷ look 11 ∷ take_for 12 2 11 ∷ look 12 ∷ gets 10 slab (Ok (Some (record { from = 0; bytes = [] })))
    ∷ take_in 11 1 ∷ look 11 ∷ take_in 10 3 ∷ look 10 ∷ []

abbrev pub cost_of : ℕ → ℕ
cost_of k = elim (k == 10) [ true ↦ 3 | false ↦ elim (k == 11) [ true ↦ 1 | false ↦ 2 ] ]

-- B (1) is leased, and A (3) waits. B is cheaper, and still C evicts A; a keep of B is refused, and state tells that B is out.
abbrev pub leased : List (Event ℕ)
leased =
    tells 11 Out ∷ keeps 11 1 [] slab (Err OnLease) slab ∷ take_for 12 2 10 ∷ leases 11 (Ok (record { mark = 77; slot = 1 })) ∷ take_in 11 1 ∷ take_in 10 3 ∷ []

pub record Examples : Type 0 where
  -- the rows evict B, then A, and pay 7; a rival with two slots pays 6
  pub rows_end : State ℕ
  pub rows_line : Line nat_eq (small 2) rows rows_end
  pub rows_paid : paid rows ≡ 7
  pub rows_evict : evictions rows ≡ 2
  pub rows_priced : Each (λ e before. Priced nat_eq cost_of (price_of (effect e))) rows
  pub rival_keys : List ℕ
  pub rival : Rival nat_eq cost_of 2 rows rival_keys 6
  -- the line with a lease
  pub leased_end : State ℕ
  pub leased_line : Line nat_eq (small 2) leased leased_end
  -- with no slot a keep is refused as with all slots out
  pub no_slot : keep_fault nat_eq (made (small 0)) 10 3 0 0 ≡ Some AllOut
