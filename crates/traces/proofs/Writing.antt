-- What one write after another leaves.
use Rattle.std.proofs.Common.{◌≡◌, ℕ, zero, suc, ◌+◌, ◌-◌, ◌*◌, ◌/◌, ◌%◌, ◌^◌, ◌<◌, ◌≤◌, eqb, List, [], ◌∷◌, ◌++◌, map, length, get_or, take, drop, codes, sym, refl, ap, ◌∙◌, ⊎_elim, append_assoc, append-nil, add_assoc, mod-lt, mod-eq_of_lt, div-add-mod', arith}
use native.Mathlib.Nat.{div-eq_of_lt, div-lt_self}
use Rattle.std.specs.Int.Digits.{digits_of}
use Rattle.std.proofs.lemmas.Int.Digits.{digits_of_step, length-digits_of-le}
use Rattle.std.proofs.lemmas.List.{length-append, length-take-le, length-drop, take_at, drop_at, drop-drop, map_push, length-map, length_push, take_all, take_more, flat_map_more}
use Rattle.std.proofs.lemmas.Bool.{cond-false, ne_eqb, cases_eq}
use Rattle.traces.specs.declared.rows.Row.{Row}
use Rattle.traces.specs.Tables.{glyph_of, numeral_of, cell_text, line_text, joined_text, cells_text, spaced_text, table_text, placed}
use Rattle.traces.specs.declared.text.Cell.{Cell}
use Rattle.traces.specs.declared.text.Cell.TheVariants.{Decimal}
use Rattle.traces.specs.Rendering.{row_text, rows_text, row_values, head_text, trace_text}
use Rattle.traces.specs.declared.table.ColumnOrder.TheVariants.{KeyCost}
use Rattle.traces.specs.Layout.{title, names_of}
use Rattle.std.specs.List.{flat_map}

-- one write after another
pub placed_more : (k : ℕ) (xs ys out : List ℕ) → k + length xs + length ys ≤ length out → placed (k + length xs) ys (placed k xs out) ≡ placed k (xs ++ ys) out
placed_more k xs ys out h =
    let n = k + length xs in
    let p = take k out ++ xs in
    let q = drop n out in
    let whole : placed k xs out ≡ p ++ q = sym (append_assoc (take k out) xs q) in
    let lp : length p ≡ n = length-append (take k out) xs ∙ ap (λ m. m + length xs) (length-take-le k out (omega arith)) in
    let front : take n (placed k xs out) ≡ p = ap (take n) whole ∙ take_at p q n lp in
    let back : drop (n + length ys) (placed k xs out) ≡ drop (n + length ys) out =
    ap (drop (n + length ys)) whole ∙ sym (drop-drop (length ys) n (p ++ q)) ∙ ap (drop (length ys)) (drop_at p q n lp) ∙ drop-drop (length ys) n out in
    (λ j. front j ++ (ys ++ back j))
    ∙ append_assoc (take k out) xs (ys ++ drop (n + length ys) out)
    ∙ ap (λ t. take k out ++ t) (sym (append_assoc xs ys (drop (n + length ys) out)))
    ∙ ap (λ m. take k out ++ ((xs ++ ys) ++ drop m out)) (add_assoc k (length xs) (length ys) ∙ ap (λ m. k + m) (sym (length-append xs ys)))

pub length_placed : (k : ℕ) (xs out : List ℕ) → k + length xs ≤ length out → length (placed k xs out) ≡ length out
length_placed k xs out h = simp (length-append, length-drop) (omega (arith, length-take-le k out (omega arith)))

div_some : (b n : ℕ) → 2 ≤ b → b ≤ n → 0 < n / b
div_some b n two h =
    ⊎_elim
    (λ (z : n / b ≡ 0). absurd (omega (arith, div-add-mod' n b, ap (λ q. q * b) z, mod-lt n {m = b} (omega arith))))
    (λ (z : n / b ≡ 0 → ⊥). omega arith)
    (cases_eq (n / b) 0)

-- a number's last digit
pub numeral_some : (b n : ℕ) → 0 < n → numeral_of b n ≡ map glyph_of (digits_of b n)
unfolding numeral_of
numeral_some b n h = cond-false (eqb n 0) (48 ∷ []) (map glyph_of (digits_of b n)) (ne_eqb n 0 (λ e. omega arith))

pub numeral_small : (b n : ℕ) → 2 ≤ b → n < b → numeral_of b n ≡ glyph_of n ∷ []
unfolding numeral_of
numeral_small b n two h =
    ⊎_elim
    (λ (z : n ≡ 0). rw z refl)
    (λ (z : n ≡ 0 → ⊥).
    numeral_some b n (omega arith) ∙ ap (map glyph_of) (digits_of_step b n two (omega arith) ∙ (λ j. digits_of b (div-eq_of_lt h j) ++ (mod-eq_of_lt h j ∷ []))))
    (cases_eq n 0)

pub numeral_step : (b n : ℕ) → 2 ≤ b → b ≤ n → numeral_of b n ≡ numeral_of b (n / b) ++ (glyph_of (n % b) ∷ [])
numeral_step b n two h =
    numeral_some b n (omega arith)
    ∙ ap (map glyph_of) (digits_of_step b n two (omega arith))
    ∙ map_push glyph_of (digits_of b (n / b)) (n % b)
    ∙ ap (λ t. t ++ (glyph_of (n % b) ∷ [])) (sym (numeral_some b (n / b) (div_some b n two h)))

pub length_numeral_step : (b n : ℕ) → 2 ≤ b → b ≤ n → length (numeral_of b n) ≡ length (numeral_of b (n / b)) + 1
length_numeral_step b n two h = ap length (numeral_step b n two h) ∙ length_push (numeral_of b (n / b)) (glyph_of (n % b))

pub numeral_len : (b k n : ℕ) → 2 ≤ b → 0 < k → n < b ^ k → length (numeral_of b n) ≤ k
unfolding numeral_of
numeral_len b k n two some h =
    ⊎_elim
    (λ (z : n ≡ 0). rw z (omega arith))
    (λ (z : n ≡ 0 → ⊥). omega (arith, ap length (numeral_some b n (omega arith)), length-map (digits_of b n) glyph_of, length-digits_of-le b k n two h))
    (cases_eq n 0)

pub div_less : (b n : ℕ) → 2 ≤ b → b ≤ n → n / b < n
div_less b n two h = div-lt_self {n = n} {k = b} (omega arith) (omega arith)

-- the same, as calls' answers have it
pub put_more : (k r : ℕ) (xs ys out mid after : List ℕ) → r ≡ k + length xs → mid ≡ placed k xs out → after ≡ placed r ys mid → k + length xs + length ys ≤ length out → after ≡ placed k (xs ++ ys) out
put_more k r xs ys out mid after e m a h = a ∙ (λ j. placed (e j) ys (m j)) ∙ placed_more k xs ys out h

pub put_length : (k : ℕ) (xs out mid : List ℕ) → mid ≡ placed k xs out → k + length xs ≤ length out → length mid ≡ length out
put_length k xs out mid m h = ap length m ∙ length_placed k xs out h

-- texts one after another: one more, and a front of them
module _ {X : Type 0} (f : X → List ℕ) where
  pub joined_step : (xs : List X) (i : ℕ) (d : X) → i < length xs → flat_map f (take (i + 1) xs) ≡ flat_map f (take i xs) ++ f (get_or xs i d)
  joined_step xs i d in' = ap (flat_map f) (take_more xs i d in') ∙ sym (flat_map_more f [] (take i xs) (get_or xs i d))

  pub joined_front : (i : ℕ) (xs : List X) → length (flat_map f (take i xs)) ≤ length (flat_map f xs)
  joined_front zero xs = omega arith
  joined_front (suc i) [] = omega arith
  joined_front (suc i) (x ∷ xs) = omega (arith, length-append (f x) (flat_map f (take i xs)), length-append (f x) (flat_map f xs), joined_front i xs)

-- a line of cells: the cells, and LF
pub line_ends : (cs : List Cell) → joined_text cs ++ (10 ∷ []) ≡ cells_text cs
line_ends [] = refl
line_ends (c ∷ []) = ap (λ t. t ++ (10 ∷ [])) (append-nil (cell_text c))
line_ends (c ∷ d ∷ cs) = append_assoc (cell_text c) (spaced_text (d ∷ cs)) (10 ∷ []) ∙ ap (λ t. cell_text c ++ (32 ∷ t)) (line_ends (d ∷ cs))

pub joined_parts : (cs : List Cell) (d : Cell) → 1 ≤ length cs → cell_text (get_or cs 0 d) ++ spaced_text (take (length cs - 1) (drop 1 cs)) ≡ joined_text cs
joined_parts [] d some = absurd (omega arith)
joined_parts (c ∷ cs) d some = ap (λ t. cell_text c ++ spaced_text t) (take_all (length (c ∷ cs) - 1) cs (omega arith))

pub length_line : (cs : List Cell) → 0 < length cs → length (cells_text cs) ≡ length (spaced_text cs)
length_line [] some = absurd (omega arith)
length_line (c ∷ cs) some = omega (arith, ap length (sym (line_ends (c ∷ cs))), length-append (joined_text (c ∷ cs)) (10 ∷ []), length-append (cell_text c) (spaced_text cs))

-- the two tables of a trace, line by line
pub head_parts : (slots : ℕ) → ((title ++ (10 ∷ [])) ++ cells_text (Decimal slots ∷ [])) ++ (names_of KeyCost ++ (10 ∷ [])) ≡ head_text slots
unfolding head_text
head_parts slots = simp append_assoc

values_rows : (rows : List Row) → flat_map line_text (map row_values rows) ≡ rows_text rows
unfolding row_text
values_rows [] = refl
values_rows (r ∷ rows) = ap (λ t. line_text (row_values r) ++ t) (values_rows rows)

-- the tables of a trace are its first three lines and its rows
pub trace_parts : (slots : ℕ) (rows : List Row) → trace_text slots rows ≡ head_text slots ++ rows_text rows
unfolding trace_text head_text
trace_parts slots rows =
    ap (λ t. table_text (codes "slots" ∷ []) ((numeral_of 10 slots ∷ []) ∷ []) ++ (line_text (codes "key" ∷ codes "cost" ∷ []) ++ t)) (values_rows rows) ∙ simp append_assoc
