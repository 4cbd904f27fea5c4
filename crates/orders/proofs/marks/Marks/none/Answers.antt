use Rattle.std.proofs.Common.{replicate}
use Rattle.std.proofs.lemmas.List.{get_or-replicate}
use Rattle.orders.proofs.Digits.{marked_none}
use Rattle.orders.proofs.marks.Marks.none.Goals as goal

pub returns : goal.returns
returns c k l h = marked_none (replicate 4 0) k (λ i b. get_or-replicate 4 i 0 0 b) h
