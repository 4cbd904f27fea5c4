-- Which bytes are a part name, and when two names are the same.
use Rattle.std.specs.List.{list_all}
use Rattle.std.specs.Prelude.{ℕ, Bool, true, false, cond, ◌&&◌, ◌||◌, List, [], ◌∷◌, length, Some, None, Option, ◌==◌, nat_le, nat_lt}

-- A to Z, 0 to 9 or a hyphen
abbrev pub plain : ℕ → Bool
plain b = (nat_le 65 b && nat_le b 90) || ((nat_le 48 b && nat_le b 57) || b == 45)

abbrev pub all_plain : List ℕ → Bool
all_plain bs = list_all plain bs

-- a name: 1 to 16 bytes, each plain
abbrev pub is_name : List ℕ → Bool
is_name bs = (nat_lt 0 (length bs) && nat_le (length bs) 16) && all_plain bs

-- these bytes if they are a name
abbrev pub named : List ℕ → Option (List ℕ)
named bs = cond (is_name bs) (Some bs) None

-- byte for byte
abbrev pub same_bytes : List ℕ → List ℕ → Bool
same_bytes [] [] = true
same_bytes [] (b ∷ bs) = false
same_bytes (a ∷ rest) [] = false
same_bytes (a ∷ rest) (b ∷ bs) = a == b && same_bytes rest bs
