-- What a part name stands for: its bytes. When two names are the same, and the home of one.
use Rattle.std.specs.Prelude.{ℕ, Bool, List, take}
use Rattle.keys.specs.Homes.{stirred_all}
use Rattle.keys.specs.Names.{same_bytes}
use Rattle.keys.specs.declared.name.PartName.{PartName}

abbrev pub bytes_of : PartName → List ℕ
bytes_of n = take n.len n.bytes

abbrev pub same_name : PartName → PartName → Bool
same_name a b = same_bytes (bytes_of a) (bytes_of b)

abbrev pub name_home : PartName → ℕ
name_home a = stirred_all 0 (bytes_of a)
