-- When two region numbers are the same, and the home of one.
use Rattle.std.specs.Prelude.{ℕ, Bool, ◌==◌}
use Rattle.keys.specs.Homes.{stirred}
use Rattle.keys.specs.declared.region.RegionNumber.{RegionNumber}

abbrev pub same_number : RegionNumber → RegionNumber → Bool
same_number a b = a.number == b.number

abbrev pub number_home : RegionNumber → ℕ
number_home a = stirred a.number 0
