use Rattle.std.proofs.Common.{◌≡◌, ℕ, ◌/◌, ◌%◌, ◌||◌, eqb, length, get_or, set, sym, subst, arith, rules}
use lib.Bits.{bit_or}
use Rattle.std.proofs.lemmas.Nat.{one_shl}
use Rattle.orders.specs.Bits.{marked}
use Rattle.orders.proofs.Digits.{marked_or}
use Rattle.orders.proofs.marks.Marks.mark.Goals as goal

pub returns : goal.returns
returns c k h =
    let ws = c.args.self.now.words in
    let q = c.args.q in
    let len : length ws ≡ 4 = search rules in
    subst (λ (z : ℕ). marked (set ws (q / 64) (bit_or (get_or ws (q / 64) 0) z)) k ≡ (eqb k q || marked ws k)) (sym (one_shl (q % 64) 64 (omega arith))) (marked_or ws q len c.requires k)
