-- The layout with forms and values apart, and that it is the same as with one reading.
use Rattle.std.proofs.Common.{◌≡◌, ℕ, ◌≤◌, Bool, true, false, ◌&&◌, ltb, leb, List, [], ◌∷◌, ◌++◌, length, Some, None, sym, refl, ap, ◌∙◌, ⊎_elim, arith}
use Rattle.std.specs.List.{flat_map, AllByRecursion}
use Rattle.std.specs.Str.Parse.{digits_value}
use Rattle.std.specs.Char.{digit_value}
use Rattle.std.proofs.lemmas.Bool.{and_parts, and_from, cases_Bool, ltb-true, leb-true, lt-ltb, le-leb, cond-true, cond-false}
use Rattle.traces.specs.declared.values.Column.{Column}
use Rattle.traces.specs.declared.values.Column.TheVariants.{Slots}
use Rattle.traces.specs.declared.table.ColumnOrder.{ColumnOrder}
use Rattle.traces.specs.declared.table.ColumnOrder.TheVariants.{KeyCost, CostKey}
use Rattle.traces.specs.declared.rows.Row.{Row}
use Rattle.traces.specs.Forms.{Digit, is_digit, all_digits, in_form, in_range, Fits, radix_of, most_of, low_of, high_of, reading}
use Rattle.traces.specs.Layout.{title, names_of, first_of, second_of, row_of, row_by}
use Rattle.traces.specs.Words.{Pair, pair_text, first_in, second_in, AreRows, Says}

-- a reading, and the fact that it stands for
digits_true : (b : ℕ) (t : List ℕ) → all_digits b t ≡ true → AllByRecursion (Digit b) t
digits_true b [] h = tt
digits_true b (x ∷ t) h =
    let p = and_parts (is_digit b x) (all_digits b t) h in
    let q = and_parts (ltb (digit_value x) b) (ltb x 97) p.0 in
    ((ltb-true (digit_value x) b q.0, ltb-true x 97 q.1), digits_true b t p.1)

digits_from : (b : ℕ) (t : List ℕ) → AllByRecursion (Digit b) t → all_digits b t ≡ true
digits_from b [] h = refl
digits_from b (x ∷ t) h =
    and_from (is_digit b x) (all_digits b t) (and_from (ltb (digit_value x) b) (ltb x 97) (lt-ltb (digit_value x) b h.0.0) (lt-ltb x 97 h.0.1)) (digits_from b t h.1)

abbrev right_one : Column → List ℕ → Bool
right_one c t = in_form c t && in_range c (digits_value (radix_of c) t)

right_fits : (c : Column) (t : List ℕ) → right_one c t ≡ true → Fits c t
right_fits c t h =
    let p = and_parts (in_form c t) (in_range c (digits_value (radix_of c) t)) h in
    let q = and_parts (ltb 0 (length t)) (leb (length t) (most_of c) && all_digits (radix_of c) t) p.0 in
    let s = and_parts (leb (length t) (most_of c)) (all_digits (radix_of c) t) q.1 in
    let u = and_parts (leb (low_of c) (digits_value (radix_of c) t)) (leb (digits_value (radix_of c) t) (high_of c)) p.1 in
    record {
      some = ltb-true 0 (length t) q.0;
      short = leb-true (length t) (most_of c) s.0;
      digits = digits_true (radix_of c) t s.1;
      least = leb-true (low_of c) (digits_value (radix_of c) t) u.0;
      greatest = leb-true (digits_value (radix_of c) t) (high_of c) u.1;
    }

fits_right : (c : Column) (t : List ℕ) → Fits c t → right_one c t ≡ true
fits_right c t h =
    and_from (in_form c t) (in_range c (digits_value (radix_of c) t))
    (and_from (ltb 0 (length t)) (leb (length t) (most_of c) && all_digits (radix_of c) t) (lt-ltb 0 (length t) h.some)
    (and_from (leb (length t) (most_of c)) (all_digits (radix_of c) t) (le-leb (length t) (most_of c) h.short) (digits_from (radix_of c) t h.digits)))
    (and_from (leb (low_of c) (digits_value (radix_of c) t)) (leb (digits_value (radix_of c) t) (high_of c)) (le-leb (low_of c) (digits_value (radix_of c) t) h.least) (le-leb (digits_value (radix_of c) t) (high_of c) h.greatest))

pub fits_reading : (c : Column) (t : List ℕ) → Fits c t → reading c t ≡ Some (digits_value (radix_of c) t)
unfolding reading
fits_reading c t h = cond-true (right_one c t) (Some (digits_value (radix_of c) t)) None (fits_right c t h)

pub unfit_reading : (c : Column) (t : List ℕ) → (Fits c t → ⊥) → reading c t ≡ None
unfolding reading
unfit_reading c t h =
    ⊎_elim (λ (e : right_one c t ≡ true). absurd (h (right_fits c t e))) (λ (e : right_one c t ≡ false). cond-false (right_one c t) (Some (digits_value (radix_of c) t)) None e) (cases_Bool (right_one c t))

pub reading_fits : (c : Column) (t : List ℕ) (n : ℕ) → reading c t ≡ Some n → Fits c t × (n ≡ digits_value (radix_of c) t)
unfolding reading
reading_fits c t n h =
    ⊎_elim
    (λ (e : right_one c t ≡ true).
    let k : Some n ≡ Some (digits_value (radix_of c) t) = sym h ∙ cond-true (right_one c t) (Some (digits_value (radix_of c) t)) None e in
    let v : n ≡ digits_value (radix_of c) t = cc in
    (right_fits c t e, v))
    (λ (e : right_one c t ≡ false).
    let k : Some n ≡ None = sym h ∙ cond-false (right_one c t) (Some (digits_value (radix_of c) t)) None e in
    let z : ◌≡◌ {A = ℕ} 0 1 = cc in absurd (omega arith))
    (cases_Bool (right_one c t))

-- texts are in form, and their values are those of the rows
abbrev pub PairsAre : ColumnOrder → List Pair → List Row → Type 0
PairsAre o [] [] = Unit {0}
PairsAre o [] (r ∷ rs) = ⊥
PairsAre o (t ∷ ts) [] = ⊥
PairsAre o (t ∷ ts) (r ∷ rs) =
    (Fits (first_of o) t.fore × Fits (second_of o) t.aft × (r ≡ row_by o (digits_value (radix_of (first_of o)) t.fore) (digits_value (radix_of (second_of o)) t.aft))) × PairsAre o ts rs

pub record Laid (bs : List ℕ) (slots : ℕ) (rows : List Row) : Type 0 where
  pub order : ColumnOrder
  pub digits : List ℕ
  pub texts : List Pair
  pub is : bs ≡ title ++ (10 ∷ (digits ++ (10 ∷ (names_of order ++ (10 ∷ flat_map pair_text texts)))))
  pub fits : Fits Slots digits
  pub counts : slots ≡ digits_value 10 digits
  pub rows_are : PairsAre order texts rows
  pub few : length rows ≤ 2048

first_by : (o : ColumnOrder) (a b : ℕ) → first_in o (row_by o a b) ≡ a
first_by KeyCost a b = refl
first_by CostKey a b = refl

second_by : (o : ColumnOrder) (a b : ℕ) → second_in o (row_by o a b) ≡ b
second_by KeyCost a b = refl
second_by CostKey a b = refl

by_parts : (o : ColumnOrder) (r : Row) (a b : ℕ) → first_in o r ≡ a → second_in o r ≡ b → r ≡ row_by o a b
by_parts KeyCost r a b p q = λ j. row_of (p j) (q j)
by_parts CostKey r a b p q = λ j. row_of (q j) (p j)

pairs_read : (o : ColumnOrder) (ts : List Pair) (rs : List Row) → PairsAre o ts rs → AreRows o ts rs
pairs_read o [] [] h = tt
pairs_read o [] (r ∷ rs) h = h
pairs_read o (t ∷ ts) [] h = h
pairs_read o (t ∷ ts) (r ∷ rs) h = (
  (
    fits_reading (first_of o) t.fore h.0.0 ∙ ap Some (sym (ap (first_in o) h.0.2 ∙ first_by o _ _)),
    fits_reading (second_of o) t.aft h.0.1 ∙ ap Some (sym (ap (second_in o) h.0.2 ∙ second_by o _ _)),
  ),
  pairs_read o ts rs h.1,
)

read_pairs : (o : ColumnOrder) (ts : List Pair) (rs : List Row) → AreRows o ts rs → PairsAre o ts rs
read_pairs o [] [] h = tt
read_pairs o [] (r ∷ rs) h = h
read_pairs o (t ∷ ts) [] h = h
read_pairs o (t ∷ ts) (r ∷ rs) h =
    let p = reading_fits (first_of o) t.fore (first_in o r) h.0.0 in
    let q = reading_fits (second_of o) t.aft (second_in o r) h.0.1 in
    ((p.0, q.0, by_parts o r _ _ p.1 q.1), read_pairs o ts rs h.1)

pub laid_says : (bs : List ℕ) (slots : ℕ) (rows : List Row) → Laid bs slots rows → Says bs slots rows
laid_says bs slots rows h =
    record {
      order = h.order;
      digits = h.digits;
      texts = h.texts;
      is = h.is;
      slots_are = fits_reading Slots h.digits h.fits ∙ ap Some (sym h.counts);
      rows_are = pairs_read h.order h.texts rows h.rows_are;
      few = h.few;
    }

pub says_laid : (bs : List ℕ) (slots : ℕ) (rows : List Row) → Says bs slots rows → Laid bs slots rows
says_laid bs slots rows h =
    let p = reading_fits Slots h.digits slots h.slots_are in
    record {
      order = h.order;
      digits = h.digits;
      texts = h.texts;
      is = h.is;
      fits = p.0;
      counts = p.1;
      rows_are = read_pairs h.order h.texts rows h.rows_are;
      few = h.few;
    }
