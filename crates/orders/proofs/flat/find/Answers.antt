use Rattle.std.proofs.Common.{◌≡◌, ◌≢◌, ℕ, ◌<◌, List, Some, None, Option, length, MatchOption, arith, rules, tests}
use Rattle.std.specs.List.{HoldsAt, AllWithin}
use Rattle.std.proofs.lemmas.Iterator.{IsFirst-from_position, YieldsList-from_slice}
use Rattle.orders.specs.declared.Entry.{Entry}
use Rattle.orders.specs.Flat.{entry}
use Rattle.orders.specs.FlatTable.{Found}
use Rattle.orders.specs.FlatTables.{waits_none}
use Rattle.orders.proofs.flat.find.Goals as goal

told : (s : ℕ) (xs : List Entry) (r : Option ℕ) →
    MatchOption r (AllWithin (λ (y : Entry). y.slot ≢ s) xs 0 (length xs)) (λ i. (i < length xs) × HoldsAt (λ (y : Entry). y.slot ≡ s) xs i × AllWithin (λ (y : Entry). y.slot ≢ s) xs 0 i) →
    Found xs s r
told s xs None h = waits_none s xs (λ k l. h k (entry 0 0) (omega arith) l)
told s xs (Some i) h = (h.0, h.1 (entry 0 0))

pub returns : goal.returns
returns c =
    let xs = c.args.entries.now in
    let s = c.args.slot in
    told s xs c.position.result (IsFirst-from_position _ _ c.position.result (λ (y : Entry). y.slot ≡ s) (λ (y : Entry). y.slot ≢ s) c.position.ensures.ran
    (YieldsList-from_slice xs cc) (λ x q k. search (rules, tests)) (λ x q k. search (rules, tests)))
