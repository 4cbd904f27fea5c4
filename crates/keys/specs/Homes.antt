-- Where the look-up of a key begins.
use Rattle.std.specs.Prelude.{ℕ, ◌+◌, ◌*◌, ◌%◌, List, fold}

-- One more number goes into a home. The second number is the greatest prime of 32 bits; docs/DIRECTORIES.md says how the first was chosen.
abbrev pub stirred : ℕ → ℕ → ℕ
stirred h next = (h * 2410779157 + next) % 4294967291

-- the bytes of a name go into a home, first to last
abbrev pub stirred_all : ℕ → List ℕ → ℕ
stirred_all h bs = fold stirred h bs
