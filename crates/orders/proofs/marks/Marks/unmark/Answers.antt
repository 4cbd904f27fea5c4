use Rattle.std.proofs.Common.{◌≡◌, ℕ, ◌/◌, ◌%◌, not, ◌&&◌, eqb, length, get_or, set, sym, subst, arith, rules}
use lib.Bits.{bit_xor}
use Rattle.std.proofs.lemmas.Nat.{one_shl}
use Rattle.orders.specs.Bits.{marked}
use Rattle.orders.proofs.Digits.{marked_xor}
use Rattle.orders.proofs.marks.Marks.unmark.Goals as goal

pub returns : goal.returns
returns c k h =
    let ws = c.args.self.now.words in
    let q = c.args.q in
    let len : length ws ≡ 4 = search rules in
    subst (λ (z : ℕ). marked (set ws (q / 64) (bit_xor (get_or ws (q / 64) 0) z)) k ≡ (not (eqb k q) && marked ws k)) (sym (one_shl (q % 64) 64 (omega arith))) (marked_xor ws q len c.requires.0 c.requires.1 k)
