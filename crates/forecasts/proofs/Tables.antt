-- How the code's reading of a line comes to what the definitions say.
use Rattle.std.proofs.Common.{◌≡◌, ℕ, zero, suc, ◌+◌, ◌-◌, ◌*◌, ◌<◌, ◌≤◌, min, true, false, cond, eqb, List, [], ◌∷◌, ◌++◌, length, get_or, take, drop, Some, None, Ok, Err, Option, Result, sym, refl, ap, ◌∙◌, ap₂, append_assoc, ⊎_elim, arith, ◌≢◌}
use Rattle.std.specs.Option.{option_map}
use Rattle.std.specs.Char.{is_ascii_digit}
use Rattle.std.specs.Option.{MatchOption}
use Rattle.std.specs.List.{AllWithin, HoldsAt}
use Rattle.std.proofs.lemmas.List.{drop_more, drop_all, take_rest, append-nil, length-take-le}
use Rattle.std.proofs.lemmas.Bool.{cases_Bool, eq-eqb, ne_eqb, cond-true, cond-false, both_ways, cond_both, cases_lt}
use Rattle.std.proofs.lemmas.Slice.Eq.{bytes_eq-Decides}
use Rattle.std.specs.Str.{bytes_eq}
use Rattle.forecasts.specs.Table.{digits_from, decimal_value, capped, capped_row, FirstPlace, halves, both, two_values, judged, row_of, refusal, led, rows_from, names, reading}
use Rattle.forecasts.specs.declared.fault.Reason.{Reason}
use Rattle.forecasts.specs.declared.fault.Reason.TheVariants.{Names, Unended}
use Rattle.forecasts.specs.declared.table.Row.{Row}

-- ---- a value

pub digits_capped : (m n : ℕ) (bs : List ℕ) → capped m ≡ capped n → option_map capped (digits_from m bs) ≡ option_map capped (digits_from n bs)
digits_capped m n [] e = ap Some e
digits_capped m n (b ∷ bs) e =
    ⊎_elim
    (λ t. ap (option_map capped) (cond-true (is_ascii_digit b) (digits_from (10 * m + (b - 48)) bs) None t)
    ∙ digits_capped (10 * m + (b - 48)) (10 * n + (b - 48)) bs (omega arith)
    ∙ ap (option_map capped) (sym (cond-true (is_ascii_digit b) (digits_from (10 * n + (b - 48)) bs) None t)))
    (λ t. ap (option_map capped) (cond-false (is_ascii_digit b) (digits_from (10 * m + (b - 48)) bs) None t)
    ∙ ap (option_map capped) (sym (cond-false (is_ascii_digit b) (digits_from (10 * n + (b - 48)) bs) None t)))
    (cases_Bool (is_ascii_digit b))

decimal_some : (bs : List ℕ) → eqb (length bs) 0 ≡ false → decimal_value bs ≡ digits_from 0 bs
decimal_some [] e = absurd (both_ways true e refl)
decimal_some (b ∷ bs) e = refl

-- the loop over the digits: v is what is read of the first i
module _ (bs : List ℕ) (i v : ℕ) (some : eqb (length bs) 0 ≡ false)
    (so_far : option_map capped (digits_from v (drop i bs)) ≡ option_map capped (digits_from 0 bs)) where
  pub digits_stop : i < length bs → is_ascii_digit (get_or bs i 0) ≡ false → None ≡ option_map capped (decimal_value bs)
  digits_stop h e =
      sym (ap (option_map capped) (decimal_some bs some) ∙ sym so_far
      ∙ ap (λ (xs : List ℕ). option_map capped (digits_from v xs)) (drop_more bs i 0 h)
      ∙ ap (option_map capped) (cond-false (is_ascii_digit (get_or bs i 0)) (digits_from (10 * v + (get_or bs i 0 - 48)) (drop (i + 1) bs)) None e))

  pub digits_more : (w : ℕ) → w ≡ min (10 * v + (get_or bs i 0 - 48)) 100000 → i < length bs → is_ascii_digit (get_or bs i 0) ≡ true →
      option_map capped (digits_from w (drop (i + 1) bs)) ≡ option_map capped (digits_from 0 bs)
  digits_more w e h d =
      digits_capped w (10 * v + (get_or bs i 0 - 48)) (drop (i + 1) bs) (omega arith)
      ∙ sym (ap (λ (xs : List ℕ). option_map capped (digits_from v xs)) (drop_more bs i 0 h)
      ∙ ap (option_map capped) (cond-true (is_ascii_digit (get_or bs i 0)) (digits_from (10 * v + (get_or bs i 0 - 48)) (drop (i + 1) bs)) None d))
      ∙ so_far

  pub digits_all : v ≤ 100000 → length bs ≤ i → Some v ≡ option_map capped (decimal_value bs)
  digits_all h l =
      let e : v ≡ min v 100000 = omega arith in
      ap Some e ∙ sym (ap (λ (xs : List ℕ). option_map capped (digits_from v xs)) (drop_all i bs l)) ∙ so_far ∙ ap (option_map capped) (sym (decimal_some bs some))

-- ---- a line

-- the first place of a byte, as the library's search for it says it
pub first_place : (b : ℕ) (bs : List ℕ) (r : Option ℕ) →
    MatchOption r (AllWithin (λ x. x ≢ b) bs 0 (length bs)) (λ i. (i < length bs) × HoldsAt (λ x. x ≡ b) bs i × AllWithin (λ x. x ≢ b) bs 0 i) → FirstPlace b bs r
first_place b bs None h = λ k l. h k 0 (omega arith) l
first_place b bs (Some i) h = (h.0, h.1 0, λ k l. h.2 k 0 (omega arith) l)

pub halves_none : (bs : List ℕ) → ((k : ℕ) → k < length bs → get_or bs k 0 ≡ 32 → ⊥) → halves bs ≡ None
halves_none [] h = refl
halves_none (b ∷ bs) h =
    cond-false (eqb b 32) (Some ([], bs)) (option_map (λ (p : List ℕ × List ℕ). (b ∷ p.0, p.1)) (halves bs)) (ne_eqb b 32 (h 0 (omega arith)))
    ∙ ap (option_map (λ (p : List ℕ × List ℕ). (b ∷ p.0, p.1))) (halves_none bs (λ k l. h (suc k) (omega arith)))

pub halves_at : (bs : List ℕ) (i : ℕ) → i < length bs → get_or bs i 0 ≡ 32 → ((k : ℕ) → k < i → get_or bs k 0 ≡ 32 → ⊥) → halves bs ≡ Some (take i bs, drop (i + 1) bs)
halves_at [] i h e n = absurd (omega arith)
halves_at (b ∷ bs) zero h e n = cond-true (eqb b 32) (Some ([], bs)) (option_map (λ (p : List ℕ × List ℕ). (b ∷ p.0, p.1)) (halves bs)) (eq-eqb b 32 e)
halves_at (b ∷ bs) (suc i) h e n =
    cond-false (eqb b 32) (Some ([], bs)) (option_map (λ (p : List ℕ × List ℕ). (b ∷ p.0, p.1)) (halves bs)) (ne_eqb b 32 (n 0 (omega arith)))
    ∙ ap (option_map (λ (p : List ℕ × List ℕ). (b ∷ p.0, p.1))) (halves_at bs i (omega arith) e (λ k l. n (suc k) (omega arith)))
    ∙ (let z : suc i + 1 ≡ suc (i + 1) = omega arith in ap (λ (j : ℕ). Some (b ∷ take i bs, drop j (b ∷ bs))) (sym z))

both_capped : (a b : Option ℕ) → both (option_map capped a) (option_map capped b) ≡ option_map capped_row (both a b)
both_capped None b = refl
both_capped (Some s) None = refl
both_capped (Some s) (Some c) = refl

pub values_are : (line : List ℕ) (i : ℕ) {a b : Option ℕ} → halves line ≡ Some (take i line, drop (i + 1) line) → a ≡ option_map capped (decimal_value (take i line)) →
    b ≡ option_map capped (decimal_value (take (length line - (i + 1)) (drop (i + 1) line))) → both a b ≡ option_map capped_row (two_values (halves line))
values_are line i h p q =
    ap₂ both p (q ∙ ap (λ (bs : List ℕ). option_map capped (decimal_value bs)) (take_rest line (i + 1)))
    ∙ both_capped (decimal_value (take i line)) (decimal_value (drop (i + 1) line)) ∙ ap (λ (z : Option (List ℕ × List ℕ)). option_map capped_row (two_values z)) (sym h)

-- ---- the lines

both_none : (a : Option ℕ) → both a None ≡ None
both_none None = refl
both_none (Some s) = refl

values_short : (line : List ℕ) → length line < 3 → two_values (halves line) ≡ None
values_short [] h = refl
values_short (a ∷ []) h = cond_both (eqb a 32) (Some ([], [])) None (λ z. two_values z ≡ None) (λ t. refl) (λ t. refl)
values_short (a ∷ b ∷ []) h =
    let f : List ℕ × List ℕ → List ℕ × List ℕ = λ p. (a ∷ p.0, p.1) in
    cond_both (eqb a 32) (Some ([], b ∷ [])) (option_map f (halves (b ∷ []))) (λ z. two_values z ≡ None) (λ t. refl)
    (λ t. cond_both (eqb b 32) (Some ([], [])) None (λ z. two_values (option_map f z) ≡ None) (λ u. both_none (decimal_value (a ∷ []))) (λ u. refl))
values_short (a ∷ b ∷ c ∷ ds) h = absurd (omega arith)

-- a row takes three bytes at least
row_long : (rows : List Row) (line : List ℕ) (r : Row) → row_of rows line ≡ Ok r → 3 ≤ length line
row_long rows line r e = ⊎_elim
    (λ h. let v = ap (judged rows) (values_short line h) in let z : ◌≡◌ {A = ℕ} 0 1 = cc in absurd (omega arith))
    (λ h. h)
    (cases_lt (length line) 3)

-- what a line leads to, behind the first bytes of it
row_read : (rows : List Row) (start rest : List ℕ) (i : ℕ) → i < length rest → get_or rest i 0 ≡ 10 → ((k : ℕ) → k < i → get_or rest k 0 ≢ 10) →
    rows_from rows start rest ≡ led (length rows + 2) (row_of rows (start ++ take i rest)) (λ r. rows_from (rows ++ r ∷ []) [] (drop (i + 1) rest))
row_read rows start [] i h e n = absurd (omega arith)
row_read rows start (b ∷ bs) zero h e n =
    cond-true (eqb b 10) (led (length rows + 2) (row_of rows start) (λ r. rows_from (rows ++ r ∷ []) [] bs)) (rows_from rows (start ++ b ∷ []) bs) (eq-eqb b 10 e)
    ∙ ap (λ (xs : List ℕ). led (length rows + 2) (row_of rows xs) (λ r. rows_from (rows ++ r ∷ []) [] bs)) (sym (append-nil start))
row_read rows start (b ∷ bs) (suc i) h e n =
    let z : suc (i + 1) ≡ suc i + 1 = omega arith in
    cond-false (eqb b 10) (led (length rows + 2) (row_of rows start) (λ r. rows_from (rows ++ r ∷ []) [] bs)) (rows_from rows (start ++ b ∷ []) bs) (ne_eqb b 10 (n 0 (omega arith)))
    ∙ row_read rows (start ++ b ∷ []) bs i (omega arith) e (λ k l. n (suc k) (omega arith))
    ∙ ap (λ (xs : List ℕ). led (length rows + 2) (row_of rows xs) (λ r. rows_from (rows ++ r ∷ []) [] (drop (i + 1) bs))) (append_assoc start (b ∷ []) (take i bs))
    ∙ ap (λ (j : ℕ). led (length rows + 2) (row_of rows (start ++ (b ∷ take i bs))) (λ r. rows_from (rows ++ r ∷ []) [] (drop j (b ∷ bs)))) z

-- what is left when no line ends any more
rest_read : (rows : List Row) (start rest : List ℕ) → ((k : ℕ) → k < length rest → get_or rest k 0 ≢ 10) →
    rows_from rows start rest ≡ cond (eqb (length (start ++ rest)) 0) (Ok rows) (refusal (length rows + 2) Unended)
rest_read rows start [] n = ap (λ (xs : List ℕ). cond (eqb (length xs) 0) (Ok rows) (refusal (length rows + 2) Unended)) (sym (append-nil start))
rest_read rows start (b ∷ bs) n =
    cond-false (eqb b 10) (led (length rows + 2) (row_of rows start) (λ r. rows_from (rows ++ r ∷ []) [] bs)) (rows_from rows (start ++ b ∷ []) bs) (ne_eqb b 10 (n 0 (omega arith)))
    ∙ rest_read rows (start ++ b ∷ []) bs (λ k l. n (suc k) (omega arith))
    ∙ ap (λ (xs : List ℕ). cond (eqb (length xs) 0) (Ok rows) (refusal (length rows + 2) Unended)) (append_assoc start (b ∷ []) bs)

-- the loop over the lines: `rows` are those of the lines before `rest`
module _ (text rest : List ℕ) (rows : List Row) (so_far : rows_from [] [] text ≡ rows_from rows [] rest) where
  module _ (i : ℕ) (first : FirstPlace 10 rest (Some i)) where
    pub line_refused : (why : Reason) → Err why ≡ row_of rows (take i rest) → rows_from [] [] text ≡ refusal (length rows + 2) why
    line_refused why f = so_far ∙ row_read rows [] rest i first.0 first.1 first.2
        ∙ ap (λ (z : Result Row Reason). led (length rows + 2) z (λ r. rows_from (rows ++ r ∷ []) [] (drop (i + 1) rest))) (sym f)

    pub line_row : (r : Row) → Ok r ≡ row_of rows (take i rest) → rows_from [] [] text ≡ rows_from (rows ++ r ∷ []) [] (drop (i + 1) rest)
    line_row r f = so_far ∙ row_read rows [] rest i first.0 first.1 first.2
        ∙ ap (λ (z : Result Row Reason). led (length rows + 2) z (λ q. rows_from (rows ++ q ∷ []) [] (drop (i + 1) rest))) (sym f)

    pub line_long : (r : Row) → Ok r ≡ row_of rows (take i rest) → 3 ≤ i
    line_long r f =
        let l = row_long rows (take i rest) r (sym f) in
        let n = length-take-le i rest (omega arith) in
        omega arith

  module _ (none : FirstPlace 10 rest None) where
    pub rest_unended : eqb (length rest) 0 ≡ false → rows_from [] [] text ≡ refusal (length rows + 2) Unended
    rest_unended e = so_far ∙ rest_read rows [] rest none ∙ cond-false (eqb (length rest) 0) (Ok rows) (refusal (length rows + 2) Unended) e

    pub rest_none : eqb (length rest) 0 ≡ true → rows_from [] [] text ≡ Ok rows
    rest_none e = so_far ∙ rest_read rows [] rest none ∙ cond-true (eqb (length rest) 0) (Ok rows) (refusal (length rows + 2) Unended) e

-- ---- the whole text

pub names_read : (text : List ℕ) → names ≡ take 10 text → reading text ≡ rows_from [] [] (take (length text - 10) (drop 10 text))
names_read text e =
    cond-true (bytes_eq (take 10 text) names) (rows_from [] [] (drop 10 text)) (refusal 1 Names) ((bytes_eq-Decides (take 10 text) names).1 (sym e))
    ∙ ap (rows_from [] []) (sym (take_rest text 10))
