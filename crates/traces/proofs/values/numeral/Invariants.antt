use Rattle.std.proofs.Common.{◌≡◌, take}
use Rattle.std.specs.Str.Parse.{digits_value}
use Rattle.std.specs.List.{AllByRecursion}
use Rattle.traces.specs.Forms.{Digit}
use Rattle.traces.proofs.values.numeral.Given as goal

abbrev pub invariant-loop-b : goal.invariant-loop-b
invariant-loop-b l = AllByRecursion (Digit l.radix) (take l.b-index l.text) × (l.n ≡ digits_value l.radix (take l.b-index l.text))
