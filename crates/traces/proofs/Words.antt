-- From the layout's bytes to its lines.
use Rattle.std.proofs.Common.{◌≡◌, ℕ, suc, ◌+◌, ◌≤◌, true, eqb, List, [], ◌∷◌, ◌++◌, length, drop, sym, refl, ap, ◌∙◌, subst, append_assoc, arith, rules}
use Rattle.std.specs.List.{flat_map, AllByRecursion}
use Rattle.std.specs.Str.Parse.{digits_value}
use Rattle.std.specs.Char.{digit_value}
use Rattle.std.proofs.ByRecursion.{All-weaker, All-append}
use Rattle.std.proofs.lemmas.List.{take_at, length-append}
use Rattle.std.proofs.lemmas.Bool.{cond-false, ne_eqb}
use Rattle.traces.specs.declared.values.Column.{Column}
use Rattle.traces.specs.declared.values.Column.TheVariants.{Slots, Key, Cost}
use Rattle.traces.specs.declared.table.ColumnOrder.{ColumnOrder}
use Rattle.traces.specs.declared.table.ColumnOrder.TheVariants.{KeyCost, CostKey}
use Rattle.traces.specs.declared.rows.Row.{Row}
use Rattle.traces.specs.Cut.{line_of, before, cut, upto}
use Rattle.traces.specs.Forms.{Digit, Fits, radix_of, most_of}
use Rattle.traces.specs.Layout.{title, names_of, first_of, second_of, row_by, One, left, right, Holds, Rows, Keeps}
use Rattle.traces.specs.Words.{Pair, pair_text, SaidIsKept}
use Rattle.traces.proofs.Laid.{PairsAre, Laid, says_laid}

-- no byte of the text is b
abbrev pub Lacks : ℕ → List ℕ → Type 0
Lacks b xs = AllByRecursion (λ x. x ≡ b → ⊥) xs

pub cut_line : (b rest : List ℕ) → Lacks 10 b → cut (b ++ (10 ∷ rest)) ≡ line_of b true ∷ cut rest
cut_line [] rest h = refl
cut_line (x ∷ b) rest h = cond-false (eqb x 10) _ _ (ne_eqb x 10 h.0) ∙ ap (before x) (cut_line b rest h.1)

pub upto_lacks : (a : List ℕ) → Lacks 32 a → upto 32 a ≡ length a
upto_lacks [] h = refl
upto_lacks (x ∷ a) h = cond-false (eqb x 32) _ _ (ne_eqb x 32 h.0) ∙ ap suc (upto_lacks a h.1)

upto_space : (a c : List ℕ) → Lacks 32 a → upto 32 (a ++ (32 ∷ c)) ≡ length a
upto_space [] c h = refl
upto_space (x ∷ a) c h = cond-false (eqb x 32) _ _ (ne_eqb x 32 h.0) ∙ ap suc (upto_space a c h.1)

drop_space : (a c : List ℕ) → drop (suc (length a)) (a ++ (32 ∷ c)) ≡ c
drop_space [] c = refl
drop_space (x ∷ a) c = drop_space a c

pub left_of : (a c : List ℕ) → Lacks 32 a → left (a ++ (32 ∷ c)) ≡ a
left_of a c h = take_at a (32 ∷ c) _ (sym (upto_space a c h))

pub right_of : (a c : List ℕ) → Lacks 32 a → right (a ++ (32 ∷ c)) ≡ c
right_of a c h = ap (λ n. drop (suc n) (a ++ (32 ∷ c))) (upto_space a c h) ∙ drop_space a c

pub radix_most : (c : Column) → radix_of c ≤ 16
radix_most Slots = omega arith
radix_most Key = omega arith
radix_most Cost = omega arith

most_most : (c : Column) → most_of c ≤ 8
most_most Slots = omega arith
most_most Key = omega arith
most_most Cost = omega arith

-- a byte that is no digit is not in a value
lacks : (c : Column) (t : List ℕ) (b : ℕ) → 16 ≤ digit_value b → Fits c t → Lacks b t
lacks c t b h fits = All-weaker (Digit (radix_of c)) (λ x. x ≡ b → ⊥) (λ x d e. omega (arith, d.0, ap digit_value e, radix_most c)) t fits.digits

pub one_of : (c : Column) (t : List ℕ) → Fits c t → One t
one_of c t fits = (fits.some, upto_lacks t (lacks c t 32 (omega arith) fits))

-- a row's line
module _ (o : ColumnOrder) (n : ℕ) (a c : List ℕ) (r : Row) (fa : Fits (first_of o) a) (fc : Fits (second_of o) c) (room : n ≤ 2051)
    (is : r ≡ row_by o (digits_value (radix_of (first_of o)) a) (digits_value (radix_of (second_of o)) c)) where
  pub row_lacks : Lacks 10 (a ++ (32 ∷ c))
  row_lacks = All-append (λ x. x ≡ 10 → ⊥) a (32 ∷ c) (lacks (first_of o) a 10 (omega arith) fa) ((λ e. omega arith), lacks (second_of o) c 10 (omega arith) fc)

  pub row_holds : Holds o n (line_of (a ++ (32 ∷ c)) true) r
  row_holds =
      let l : left (a ++ (32 ∷ c)) ≡ a = left_of a c (lacks (first_of o) a 32 (omega arith) fa) in
      let t : right (a ++ (32 ∷ c)) ≡ c = right_of a c (lacks (first_of o) a 32 (omega arith) fa) in
      record {
        sound = (refl, omega (arith, length-append a (32 ∷ c), fa.short, fc.short, most_most (first_of o), most_most (second_of o)));
        two = (subst One (sym l) (one_of (first_of o) a fa), subst One (sym t) (one_of (second_of o) c fc));
        fits_first = subst (Fits (first_of o)) (sym l) fa;
        fits_second = subst (Fits (second_of o)) (sym t) fc;
        is = is ∙ (λ j. row_by o (digits_value (radix_of (first_of o)) (sym l j)) (digits_value (radix_of (second_of o)) (sym t j)));
        room = room;
      }

line_parts : (t : Pair) (rest : List ℕ) → pair_text t ++ rest ≡ (t.fore ++ (32 ∷ t.aft)) ++ (10 ∷ rest)
line_parts t rest = simp append_assoc

pub rows_of : (o : ColumnOrder) (n : ℕ) (ts : List Pair) (rs : List Row) → PairsAre o ts rs → n + length rs ≤ 2052 → Rows o n (cut (flat_map pair_text ts)) rs
rows_of o n [] [] h few = tt
rows_of o n [] (r ∷ rs) h few = elim h [ ]
rows_of o n (t ∷ ts) [] h few = elim h [ ]
rows_of o n (t ∷ ts) (r ∷ rs) h few =
    let room : n ≤ 2051 = omega arith in
    let e : cut (flat_map pair_text (t ∷ ts)) ≡ line_of (t.fore ++ (32 ∷ t.aft)) true ∷ cut (flat_map pair_text ts) =
    ap cut (line_parts t (flat_map pair_text ts)) ∙ cut_line _ _ (row_lacks o n t.fore t.aft r h.0.0 h.0.1 room h.0.2) in
    subst (λ ls. Rows o n ls (r ∷ rs)) (sym e) (row_holds o n t.fore t.aft r h.0.0 h.0.1 room h.0.2, rows_of o (n + 1) ts rs h.1 (omega arith))

title_lacks : Lacks 10 title
title_lacks = search rules

header_lacks : (o : ColumnOrder) → Lacks 10 (names_of o)
header_lacks KeyCost = search rules
header_lacks CostKey = search rules

header_short : (o : ColumnOrder) → length (names_of o) ≤ 80
header_short KeyCost = omega arith
header_short CostKey = omega arith

pub laid_is_kept : (bs : List ℕ) (slots : ℕ) (rows : List Row) → Laid bs slots rows → Keeps bs slots rows
laid_is_kept bs slots rows h =
    let o = h.order in
    let rest = flat_map pair_text h.texts in
    let named = names_of o ++ (10 ∷ rest) in
    let counted = h.digits ++ (10 ∷ named) in
    record {
      order = o;
      one = line_of title true;
      two = line_of h.digits true;
      three = line_of (names_of o) true;
      rest = cut rest;
      lines = ap cut h.is ∙ cut_line title counted title_lacks ∙ ap (λ t. line_of title true ∷ t) (cut_line h.digits named (lacks Slots h.digits 10 (omega arith) h.fits) ∙ ap (λ t. line_of h.digits true ∷ t) (cut_line (names_of o) rest (header_lacks o)));
      titles = record { sound = (refl, omega arith); is = refl };
      counts = record { sound = (refl, omega (arith, h.fits.short)); one = one_of Slots h.digits h.fits; fits = h.fits; is = h.counts };
      names = record { sound = (refl, header_short o); is = refl };
      holds = rows_of o 4 h.texts rows h.rows_are (omega (arith, h.few));
    }

pub said_is_kept : SaidIsKept
said_is_kept bs slots rows h = laid_is_kept bs slots rows (says_laid bs slots rows h)
