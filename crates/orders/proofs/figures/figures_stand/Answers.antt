use Rattle.std.proofs.Common.{refl, arith}
use Rattle.orders.specs.Figures.{empty_pile}
use Rattle.orders.proofs.Meanings.{takes_yes, no_zero, no_span}
use Rattle.orders.proofs.figures.figures_stand.Goals as goal

pub returns : goal.returns
returns c = record {
  three_leave = refl;
  goes_255 = refl;
  goes_256 = refl;
  goes_65280 = refl;
  below_1 = refl;
  below_255 = refl;
  takes_65280 = λ slot h. takes_yes empty_pile slot 65280 h refl (omega arith) (omega arith);
  declines_0 = λ slot. no_zero empty_pile slot 0 refl;
  declines_65281 = λ slot. no_span empty_pile slot 65281 (omega arith);
  two_leave = refl;
  goes_200 = refl;
}
