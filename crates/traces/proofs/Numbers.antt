-- Digits.
use Rattle.std.proofs.Common.{◌≡◌, ℕ, ◌+◌, ◌*◌, ◌^◌, ◌<◌, ◌≤◌, List, [], ◌∷◌, length, get_or, take, sym, ◌∙◌, arith}
use native.Mathlib.Nat.{pow-le-pow_left, pow-le-pow_right}
use Rattle.std.specs.Str.Parse.{digits_value, AllDigits}
use Rattle.std.specs.Char.{digit_value}
use Rattle.std.proofs.ByRecursion.{All-more}
use Rattle.std.specs.List.{AllByRecursion}
use Rattle.std.proofs.lemmas.Int.Digits.{digits_value-lt, digits_value_more}
use Rattle.std.proofs.lemmas.List.{length-take-le}
use Rattle.traces.specs.Forms.{Digit}

pub digits_from_all : (r : ℕ) (ds : List ℕ) → AllByRecursion (Digit r) ds → AllDigits r ds
digits_from_all r [] h = tt
digits_from_all r (d ∷ ds) h = (h.0.0, digits_from_all r ds h.1)

-- a digit of a base is one of a wider base
pub wider : (r b : ℕ) → r ≤ 16 → Digit r b → Digit 16 b
wider r b h d = (omega (arith, d.0), d.1)

-- eight digits of a base to 16 fit 32 bits
pub value_fits : (r : ℕ) (ds : List ℕ) → r ≤ 16 → length ds ≤ 8 → AllByRecursion (Digit r) ds → digits_value r ds < 2 ^ 32
value_fits r ds base short h =
    omega (arith, digits_value-lt r ds (digits_from_all r ds h), pow-le-pow_left {n = r} {m = 16} base (length ds), pow-le-pow_right {n = 16} (omega arith) {i = length ds} {j = 8} short)

-- one more digit
module _ (r n d i : ℕ) (ds : List ℕ) (sofar : AllByRecursion (Digit r) (take i ds)) (is : n ≡ digits_value r (take i ds)) (in' : i < length ds) (this : Digit r (get_or ds i 0)) (worth : d ≡ digit_value (get_or ds i 0)) where
  pub more_digits : AllByRecursion (Digit r) (take (i + 1) ds)
  more_digits = All-more (Digit r) ds i 0 in' sofar this

  pub more_value : n * r + d ≡ digits_value r (take (i + 1) ds)
  more_value = (λ j. is j * r + worth j) ∙ sym (digits_value_more r ds i in')

  pub more_fits : r ≤ 16 → length ds ≤ 8 → n * r + d < 2 ^ 32
  more_fits base short =
      omega (arith, more_value, value_fits r (take (i + 1) ds) base (omega (arith, length-take-le (i + 1) ds (omega arith))) more_digits)
