-- A text as lines.
use Rattle.std.specs.Prelude.{◌≡◌, ℕ, suc, ◌<◌, ◌≤◌, Bool, true, false, cond, List, [], ◌∷◌, length, ◌==◌}

-- the bytes of a line before its LF, and whether an LF ends it
pub record Line : Type 0 where
  pub body : List ℕ
  pub ended : Bool

abbrev pub line_of : List ℕ → Bool → Line
line_of b e = record { body = b; ended = e }

-- a byte that is no LF stands before the line that follows, or is a last line with no LF
abbrev pub before : ℕ → List Line → List Line
before b [] = line_of (b ∷ []) false ∷ []
before b (l ∷ ls) = line_of (b ∷ l.body) l.ended ∷ ls

-- the lines of a text
abbrev pub cut : List ℕ → List Line
cut [] = []
cut (b ∷ bs) = cond (b == 10) (line_of [] true ∷ cut bs) (before b (cut bs))

-- how many bytes stand before the first b
abbrev pub upto : ℕ → List ℕ → ℕ
upto b [] = 0
upto b (x ∷ xs) = cond (x == b) 0 (suc (upto b xs))

-- a line is ended by an LF, and has at most 80 bytes before it
abbrev pub Sound : Line → Type 0
Sound l = (l.ended ≡ true) × (length l.body ≤ 80)

-- there is a line, and the first is sound
abbrev pub Begins : List Line → Type 0
Begins [] = ⊥
Begins (l ∷ ls) = Sound l

-- bs is a sound line and, after its LF, the rest
abbrev pub Splits : List ℕ → List ℕ → List ℕ → Type 0
Splits bs body rest = (cut bs ≡ line_of body true ∷ cut rest) × (length body ≤ 80) × (length rest < length bs)
