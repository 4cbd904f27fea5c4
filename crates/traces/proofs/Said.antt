-- From the lines back to the layout's bytes.
use Rattle.std.proofs.Common.{◌≡◌, ℕ, suc, ◌+◌, ◌<◌, ◌≤◌, true, false, cond, eqb, List, [], ◌∷◌, ◌++◌, map, length, take, drop, sym, refl, ap, ◌∙◌, ⊎_elim, append_assoc, arith}
use Rattle.std.specs.List.{flat_map}
use Rattle.std.proofs.lemmas.List.{length-drop}
use Rattle.std.proofs.lemmas.Bool.{cases_Bool, eqb-true}
use Rattle.traces.specs.declared.table.ColumnOrder.{ColumnOrder}
use Rattle.traces.specs.declared.rows.Row.{Row}
use Rattle.traces.specs.Cut.{Line, line_of, before, cut, upto}
use Rattle.traces.specs.Layout.{title, names_of, Two, left, right, Rows, Keeps}
use Rattle.traces.specs.Words.{Pair, pair_text, KeptIsSaid}
use Rattle.traces.proofs.Laid.{PairsAre, Laid, laid_says}

-- the bytes of a line
abbrev text_of : Line → List ℕ
text_of l = l.body ++ cond l.ended (10 ∷ []) []

before_text : (b : ℕ) (ls : List Line) → flat_map text_of (before b ls) ≡ b ∷ flat_map text_of ls
before_text b [] = refl
before_text b (l ∷ ls) = refl

cut_text : (bs : List ℕ) → flat_map text_of (cut bs) ≡ bs
cut_text [] = refl
cut_text (b ∷ bs) =
    ⊎_elim
    (λ (e : eqb b 10 ≡ true). ap (λ t. flat_map text_of (cond t (line_of [] true ∷ cut bs) (before b (cut bs)))) e ∙ (λ j. sym (eqb-true b 10 e) j ∷ cut_text bs j))
    (λ (e : eqb b 10 ≡ false). ap (λ t. flat_map text_of (cond t (line_of [] true ∷ cut bs) (before b (cut bs)))) e ∙ before_text b (cut bs) ∙ ap (λ t. b ∷ t) (cut_text bs))
    (cases_Bool (eqb b 10))

-- two values with one space between make the line
split : (b : List ℕ) → upto 32 b < length b → left b ++ (32 ∷ right b) ≡ b
split [] h = absurd (omega arith)
split (x ∷ xs) h =
    ⊎_elim
    (λ (e : eqb x 32 ≡ true). ap (λ t. take (cond t 0 (suc (upto 32 xs))) (x ∷ xs) ++ (32 ∷ drop (cond t 0 (suc (upto 32 xs))) xs)) e ∙ ap (λ y. y ∷ xs) (sym (eqb-true x 32 e)))
    (λ (e : eqb x 32 ≡ false).
    let more : upto 32 xs < length xs = omega (arith, ap (λ t. cond t 0 (suc (upto 32 xs))) e) in
    ap (λ t. take (cond t 0 (suc (upto 32 xs))) (x ∷ xs) ++ (32 ∷ drop (cond t 0 (suc (upto 32 xs))) xs)) e ∙ ap (λ t. x ∷ t) (split xs more))
    (cases_Bool (eqb x 32))

two_split : (b : List ℕ) → Two b → left b ++ (32 ∷ right b) ≡ b
two_split b h = split b (omega (arith, h.1.0, length-drop (suc (upto 32 b)) b))

abbrev pair_in : Line → Pair
pair_in l = record { fore = left l.body; aft = right l.body }

ended_text : (l : Line) → l.ended ≡ true → text_of l ≡ l.body ++ (10 ∷ [])
ended_text l e = ap (λ t. l.body ++ cond t (10 ∷ []) []) e

line_text : (l : Line) → Two l.body → l.ended ≡ true → pair_text (pair_in l) ≡ text_of l
line_text l two e =
    sym (append_assoc (left l.body) (32 ∷ right l.body) (10 ∷ [])) ∙ ap (λ t. t ++ (10 ∷ [])) (two_split l.body two) ∙ sym (ended_text l e)

rows_text : (o : ColumnOrder) (n : ℕ) (ls : List Line) (rs : List Row) → Rows o n ls rs → flat_map pair_text (map pair_in ls) ≡ flat_map text_of ls
rows_text o n [] rs h = refl
rows_text o n (l ∷ ls) [] h = elim h [ ]
rows_text o n (l ∷ ls) (r ∷ rs) h = (λ j. line_text l h.0.two h.0.sound.0 j ++ rows_text o (n + 1) ls rs h.1 j)

rows_are : (o : ColumnOrder) (n : ℕ) (ls : List Line) (rs : List Row) → Rows o n ls rs → PairsAre o (map pair_in ls) rs
rows_are o n [] [] h = tt
rows_are o n [] (r ∷ rs) h = elim h [ ]
rows_are o n (l ∷ ls) [] h = elim h [ ]
rows_are o n (l ∷ ls) (r ∷ rs) h = ((h.0.fits_first, h.0.fits_second, h.0.is), rows_are o (n + 1) ls rs h.1)

rows_few : (o : ColumnOrder) (n : ℕ) (ls : List Line) (rs : List Row) → Rows o n ls rs → n ≤ 2052 → n + length rs ≤ 2052
rows_few o n ls [] h few = omega arith
rows_few o n [] (r ∷ rs) h few = elim h [ ]
rows_few o n (l ∷ ls) (r ∷ rs) h few = omega (arith, rows_few o (n + 1) ls rs h.1 (omega (arith, h.0.room)))

pub kept_is_laid : (bs : List ℕ) (slots : ℕ) (rows : List Row) → Keeps bs slots rows → Laid bs slots rows
kept_is_laid bs slots rows h =
    let o = h.order in
    let rest = flat_map text_of h.rest in
    let one : text_of h.one ≡ title ++ (10 ∷ []) = ended_text h.one h.titles.sound.0 ∙ ap (λ t. t ++ (10 ∷ [])) h.titles.is in
    let two : text_of h.two ≡ h.two.body ++ (10 ∷ []) = ended_text h.two h.counts.sound.0 in
    let three : text_of h.three ≡ names_of o ++ (10 ∷ []) = ended_text h.three h.names.sound.0 ∙ ap (λ t. t ++ (10 ∷ [])) h.names.is in
    record {
      order = o;
      digits = h.two.body;
      texts = map pair_in h.rest;
      is =
          sym (cut_text bs) ∙ ap (flat_map text_of) h.lines
          ∙ (λ j. one j ++ (two j ++ (three j ++ sym (rows_text o 4 h.rest rows h.holds) j)))
          ∙ simp append_assoc;
      fits = h.counts.fits;
      counts = h.counts.is;
      rows_are = rows_are o 4 h.rest rows h.holds;
      few = omega (arith, rows_few o 4 h.rest rows h.holds (omega arith));
    }

pub kept_is_said : KeptIsSaid
kept_is_said bs slots rows h = laid_says bs slots rows (kept_is_laid bs slots rows h)
