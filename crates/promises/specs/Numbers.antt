-- The number of each refusal.
use Rattle.std.specs.Prelude.{ℕ}
use Rattle.promises.specs.declared.answers.Refusal.{Refusal}
use Rattle.promises.specs.declared.answers.Refusal.TheVariants.{BadCost, LongValue, ShortSlab, UnknownLease, NotHeld, OnLease, NotAdmitted, AllOut}

abbrev pub number_of : Refusal → ℕ
number_of BadCost = 1
number_of LongValue = 2
number_of ShortSlab = 3
number_of UnknownLease = 4
number_of NotHeld = 5
number_of OnLease = 6
number_of NotAdmitted = 7
number_of AllOut = 8
