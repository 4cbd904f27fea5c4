use Rattle.std.proofs.Common.{◌==◌, ◌∙◌, rules, tests}
use Rattle.std.proofs.lemmas.Iterator.{YieldsList-from_slice}
use Rattle.std.proofs.lemmas.Iterator.Search.{any_from_yields_List}
use Rattle.orders.specs.declared.Entry.{Entry}
use Rattle.orders.specs.FlatTables.{due_any}
use Rattle.orders.proofs.flat.any_due.Goals as goal

pub returns : goal.returns
returns c =
    let xs = c.args.entries.now in
    any_from_yields_List (λ (y : Entry). y.credit == 0) _ _ _ c.any.ensures.ran (YieldsList-from_slice xs cc) (λ x b q k. search (rules, tests)) ∙ due_any xs
