-- What is written reads back.
use Rattle.std.proofs.Common.{◌≡◌, ℕ, ◌+◌, ◌^◌, ◌<◌, ◌≤◌, List, [], ◌∷◌, ◌++◌, map, length, take, drop, Ok, Err, Result, MatchResult, inr, sym, refl, ap, ◌∙◌, subst, ⊎_elim, append_assoc, arith}
use Rattle.std.specs.List.{flat_map, AllByRecursion}
use Rattle.std.specs.Str.Parse.{digits_value}
use Rattle.std.specs.Char.{digit_value}
use Rattle.std.specs.Int.Digits.{digits_of, number_from_digits, AllBelowBase}
use Rattle.std.proofs.lemmas.Int.Digits.{digits_value_is, number_digits_of, all_below_base_digits_of, length-digits_of_step}
use Rattle.std.proofs.lemmas.List.{length-map, take_at}
use Rattle.std.proofs.ByRecursion.{All-weaker, All-map, All-from_get_or}
use Rattle.std.proofs.lemmas.Bool.{cases_eq}
use Rattle.std.proofs.lemmas.Bool.Decides.{nat_tests}
use Rattle.traces.specs.declared.values.Column.{Column}
use Rattle.traces.specs.declared.values.Column.TheVariants.{Slots, Key, Cost}
use Rattle.traces.specs.declared.table.ColumnOrder.TheVariants.{KeyCost}
use Rattle.traces.specs.declared.rows.Row.{Row}
use Rattle.traces.specs.Forms.{Digit, Fits, radix_of, most_of, low_of, high_of}
use Rattle.traces.specs.Layout.{row_of, title, names_of}
use Rattle.traces.specs.Tables.{glyph_of, numeral_of, placed}
use Rattle.traces.specs.Rendering.{row_text, rows_text, head_text, trace_text, Fit}
use Rattle.traces.specs.declared.faults.Fault.{Fault}
use Rattle.traces.specs.Reports.{Printed, Cramped}
use Rattle.traces.specs.Words.{Pair, pair_text, Says, ReadsBack, Written, Declined}
use Rattle.traces.proofs.Laid.{PairsAre, Laid, laid_says}
use Rattle.traces.proofs.Words.{radix_most}
use Rattle.traces.proofs.Writing.{numeral_some, numeral_len, trace_parts}

glyph_worth : (d : ℕ) → d < 16 → digit_value (glyph_of d) ≡ d
glyph_worth d h = grind (arith, nat_tests)

glyph_capital : (d : ℕ) → d < 16 → glyph_of d < 97
glyph_capital d h = grind (arith, nat_tests)

glyph_digit : (b d : ℕ) → b ≤ 16 → d < b → Digit b (glyph_of d)
glyph_digit b d base h = (omega (arith, glyph_worth d (omega arith)), glyph_capital d (omega arith))

worths : (b : ℕ) (ds : List ℕ) → b ≤ 16 → AllBelowBase b ds → map digit_value (map glyph_of ds) ≡ ds
worths b [] base h = refl
worths b (d ∷ ds) base h = (λ j. glyph_worth d (omega (arith, h.0)) j ∷ worths b ds base h.1 j)

-- what a numeral is
module _ (b n : ℕ) (two : 2 ≤ b) (base : b ≤ 16) where
  pub numeral_digits : AllByRecursion (Digit b) (numeral_of b n)
  unfolding numeral_of
  numeral_digits =
      ⊎_elim
      (λ (z : n ≡ 0). rw z ((omega arith, omega arith), tt))
      (λ (z : n ≡ 0 → ⊥).
      subst (AllByRecursion (Digit b)) (sym (numeral_some b n (omega arith)))
      (All-map (Digit b) glyph_of (digits_of b n) (All-weaker (λ d. d < b) (λ d. Digit b (glyph_of d)) (λ d h. glyph_digit b d base h) (digits_of b n) (all_below_base_digits_of b n two))))
      (cases_eq n 0)

  pub numeral_value : digits_value b (numeral_of b n) ≡ n
  unfolding numeral_of
  numeral_value =
      ⊎_elim
      (λ (z : n ≡ 0). rw z (omega arith))
      (λ (z : n ≡ 0 → ⊥).
      ap (digits_value b) (numeral_some b n (omega arith)) ∙ digits_value_is b (map glyph_of (digits_of b n)) ∙ ap (number_from_digits b) (worths b (digits_of b n) base (all_below_base_digits_of b n two)) ∙ number_digits_of b n two)
      (cases_eq n 0)

  pub numeral_long : 0 < length (numeral_of b n)
  unfolding numeral_of
  numeral_long =
      ⊎_elim
      (λ (z : n ≡ 0). rw z (omega arith))
      (λ (z : n ≡ 0 → ⊥). omega (arith, ap length (numeral_some b n (omega arith)), length-map (digits_of b n) glyph_of, length-digits_of_step b n two (omega arith)))
      (cases_eq n 0)

radix_least : (c : Column) → 2 ≤ radix_of c
radix_least Slots = omega arith
radix_least Key = omega arith
radix_least Cost = omega arith

some_digits : (c : Column) → 0 < most_of c
some_digits Slots = omega arith
some_digits Key = omega arith
some_digits Cost = omega arith

enough : (c : Column) (n : ℕ) → n ≤ high_of c → n < radix_of c ^ most_of c
enough Slots n h = omega arith
enough Key n h = omega arith
enough Cost n h = omega arith

pub numeral_fits : (c : Column) (n : ℕ) → low_of c ≤ n → n ≤ high_of c → Fits c (numeral_of (radix_of c) n)
numeral_fits c n l h =
    record {
      some = numeral_long (radix_of c) n (radix_least c) (radix_most c);
      short = numeral_len (radix_of c) (most_of c) n (radix_least c) (some_digits c) (enough c n h);
      digits = numeral_digits (radix_of c) n (radix_least c) (radix_most c);
      least = omega (arith, numeral_value (radix_of c) n (radix_least c) (radix_most c));
      greatest = omega (arith, numeral_value (radix_of c) n (radix_least c) (radix_most c));
    }

abbrev pair_of : Row → Pair
pair_of r = record { fore = numeral_of 16 r.key.number; aft = numeral_of 10 r.cost }

abbrev Good : Row → Type 0
Good r = (1 ≤ r.cost) × (r.cost ≤ 65280) × (r.key.number < 2 ^ 32)

pairs_text : (rows : List Row) → flat_map pair_text (map pair_of rows) ≡ rows_text rows
unfolding row_text
pairs_text [] = refl
pairs_text (r ∷ rows) = ap (λ t. row_text r ++ t) (pairs_text rows)

pairs_rows : (rows : List Row) → AllByRecursion Good rows → PairsAre KeyCost (map pair_of rows) rows
pairs_rows [] h = tt
pairs_rows (r ∷ rows) h = (
  (
    numeral_fits Key r.key.number (omega arith) (omega (arith, h.0.2)),
    numeral_fits Cost r.cost h.0.0 h.0.1,
    λ j. row_of (sym (numeral_value 16 r.key.number (omega arith) (omega arith)) j) (sym (numeral_value 10 r.cost (omega arith) (omega arith)) j),
  ),
  pairs_rows rows h.1,
)

good_rows : (slots : ℕ) (rows : List Row) → Fit slots rows → AllByRecursion Good rows
good_rows slots rows fit =
    All-from_get_or Good rows (row_of 0 0) (λ i h. (fit.cost_least i h, fit.cost_most i h, fit.key_most i h))

pub written_laid : (slots : ℕ) (rows : List Row) → Fit slots rows → Laid (trace_text slots rows) slots rows
unfolding head_text
written_laid slots rows fit =
    record {
      order = KeyCost;
      digits = numeral_of 10 slots;
      texts = map pair_of rows;
      is = trace_parts slots rows ∙ ap (λ t. head_text slots ++ t) (sym (pairs_text rows)) ∙ ap (λ t. title ++ (10 ∷ t)) (append_assoc (numeral_of 10 slots) (10 ∷ (names_of KeyCost ++ (10 ∷ []))) (flat_map pair_text (map pair_of rows)));
      fits = numeral_fits Slots slots (omega arith) fit.slots_most;
      counts = sym (numeral_value 10 slots (omega arith) (omega arith));
      rows_are = pairs_rows rows (good_rows slots rows fit);
      few = fit.rows_most;
    }

pub reads_back : ReadsBack
reads_back slots rows fit = laid_says (trace_text slots rows) slots rows (written_laid slots rows fit)

-- what a buffer holds at its front after a write
pub back_again : (slots : ℕ) (rows : List Row) (before after : List ℕ) (n : ℕ) → Fit slots rows → n ≡ length (trace_text slots rows) → after ≡ placed 0 (trace_text slots rows) before → Written slots rows before after n
back_again slots rows before after n fit count bytes =
    record {
      fit = fit;
      count = count;
      bytes = bytes;
      back =
          subst (λ t. Says t slots rows)
          (sym (ap (take n) bytes ∙ take_at (trace_text slots rows) (drop (0 + length (trace_text slots rows)) before) n (sym count)))
          (reads_back slots rows fit);
    }

-- what a write of a trace that fits answers
pub written_back : (slots : ℕ) (rows : List Row) (before after : List ℕ) (r : Result ℕ Fault) → Fit slots rows
    → MatchResult r (λ n. Printed (trace_text slots rows) before after n) (λ f. Cramped (trace_text slots rows) before after f)
    → MatchResult r (λ n. Written slots rows before after n) (λ f. Declined slots rows before after f)
written_back slots rows before after (Ok n) fit h = back_again slots rows before after n fit h.count h.bytes
written_back slots rows before after (Err f) fit h = (inr (fit, h.room, h.told), h.same)
