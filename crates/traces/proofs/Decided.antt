-- A text keeps a trace, or has a least fault.
use Rattle.std.proofs.Common.{◌≡◌, ℕ, ◌+◌, ◌<◌, ◌≤◌, ◌⊎◌, List, [], ◌∷◌, length, refl, inl, inr, ⊎_elim, arith, rules}
use Rattle.std.specs.Str.Parse.{digits_value}
use Rattle.std.specs.Char.{digit_value}
use Rattle.std.specs.List.{AllByRecursion}
use Rattle.std.specs.Str.{bytes_eq}
use Rattle.std.proofs.lemmas.Slice.Eq.{bytes_eq-Decides}
use Rattle.std.proofs.lemmas.Bool.{cases_Bool, cases_lt, cases_eq, both_ways}
use Rattle.traces.specs.declared.values.Column.{Column}
use Rattle.traces.specs.declared.values.Column.TheVariants.{Slots}
use Rattle.traces.specs.declared.table.ColumnOrder.{ColumnOrder}
use Rattle.traces.specs.declared.table.ColumnOrder.TheVariants.{KeyCost, CostKey}
use Rattle.traces.specs.declared.faults.Fault.{Fault}
use Rattle.traces.specs.declared.rows.Row.{Row}
use Rattle.traces.specs.Cut.{Line, cut, upto, Sound}
use Rattle.traces.specs.Forms.{Digit, Fits, radix_of, most_of, low_of, high_of}
use Rattle.traces.specs.Faults.{line_fault, names_fault, shape_fault, value_fault, rows_fault, Least}
use Rattle.traces.specs.Layout.{title, names_of, first_of, second_of, One, Two, left, right, Ails, Wrong, Holds, Rows, First, Titles, GivesSlots, Names, Faulty, Keeps}
use Rattle.traces.specs.Layout.Ails.{untitled, unnamed, not_one, not_two, bad_slots, bad_first, bad_second, past}
use Rattle.traces.specs.Words.{SaidOrFaulty}
use Rattle.traces.proofs.Said.{kept_is_said}
use Rattle.traces.proofs.Faulty.{least_here, least_later, least_unsound, least_begins, holds_none}
use Rattle.traces.proofs.Whole.{whole, fault_in_one, fault_in_two, fault_in_three, fault_in_rows}

abbrev Told : Type 0 → Type 0
Told P = P ⊎ (P → ⊥)

both : {P Q : Type 0} → Told P → Told Q → Told (P × Q)
both p q = ⊎_elim (λ x. ⊎_elim (λ y. inl (x, y)) (λ n. inr (λ h. n h.1)) q) (λ n. inr (λ h. n h.0)) p

told_lt : (m n : ℕ) → Told (m < n)
told_lt m n = ⊎_elim (λ h. inl h) (λ h. inr (λ k. omega arith)) (cases_lt m n)

told_le : (m n : ℕ) → Told (m ≤ n)
told_le m n = ⊎_elim (λ h. inr (λ k. omega arith)) (λ h. inl h) (cases_lt n m)

told_all : (r : ℕ) (t : List ℕ) → Told (AllByRecursion (Digit r) t)
told_all r [] = inl tt
told_all r (c ∷ t) = both (both (told_lt (digit_value c) r) (told_lt c 97)) (told_all r t)

told_fits : (c : Column) (t : List ℕ) → Told (Fits c t)
told_fits c t =
    ⊎_elim
    (λ h. inl (record { some = h.0; short = h.1.0; digits = h.1.1.0; least = h.1.1.1.0; greatest = h.1.1.1.1 }))
    (λ n. inr (λ h. n (h.some, (h.short, (h.digits, (h.least, h.greatest))))))
    (both (told_lt 0 (length t)) (both (told_le (length t) (most_of c)) (both (told_all (radix_of c) t) (both (told_le (low_of c) (digits_value (radix_of c) t)) (told_le (digits_value (radix_of c) t) (high_of c))))))

told_one : (t : List ℕ) → Told (One t)
told_one t = both (told_lt 0 (length t)) (cases_eq (upto 32 t) (length t))

told_text : (t p : List ℕ) → Told (t ≡ p)
told_text t p =
    ⊎_elim (λ e. inl ((bytes_eq-Decides t p).0 e)) (λ e. inr (λ h. both_ways _ e ((bytes_eq-Decides t p).1 h))) (cases_Bool (bytes_eq t p))

told_sound : (l : Line) → Told (Sound l)
told_sound l = both (⊎_elim (λ e. inl e) (λ e. inr (λ h. both_ways _ e h)) (cases_Bool l.ended)) (told_le (length l.body) 80)

-- a row, or the line's least fault
row_or : (o : ColumnOrder) (n : ℕ) (l : Line) → 3 < n → ((r : Row) × Holds o n l r) ⊎ ((f : Fault) × Least (Ails o n l) f)
row_or o n l late =
    ⊎_elim
    (λ (s : Sound l). ⊎_elim
    (λ (t : Two l.body). ⊎_elim
    (λ (a : Fits (first_of o) (left l.body)). ⊎_elim
    (λ (b : Fits (second_of o) (right l.body)). ⊎_elim
    (λ (m : n ≤ 2051). inl (_, record { sound = s; two = t; fits_first = a; fits_second = b; is = refl; room = m }))
    (λ (m : n ≤ 2051 → ⊥). inr (rows_fault n, (past refl (omega arith), λ g w. search rules)))
    (told_le n 2051))
    (λ bad. inr (value_fault n (length (left l.body) + 2), (bad_second refl late bad, λ g w. search rules)))
    (told_fits (second_of o) (right l.body)))
    (λ bad. inr (value_fault n 1, (bad_first refl late bad, λ g w. search rules)))
    (told_fits (first_of o) (left l.body)))
    (λ bad. inr (shape_fault n, (not_two refl late bad, λ g w. search rules)))
    (both (told_one (left l.body)) (told_one (right l.body))))
    (λ bad. inr (line_fault n, least_unsound o n l bad))
    (told_sound l)

rows_or : (o : ColumnOrder) (n : ℕ) (ls : List Line) → 3 < n → ((rs : List Row) × Rows o n ls rs) ⊎ ((f : Fault) × Least (Wrong o n ls) f)
rows_or o n [] late = inl ([], tt)
rows_or o n (l ∷ ls) late =
    ⊎_elim
    (λ h. ⊎_elim (λ k. inl (h.0 ∷ k.0, (h.1, k.1))) (λ k. inr (k.0, least_later o n l ls k.0 (holds_none o n l h.0 late h.1) k.1)) (rows_or o (n + 1) ls (omega arith)))
    (λ h. inr (h.0, least_here o n l ls h.0 h.1))
    (row_or o n l late)

-- one of the first three lines, or its least fault
head_or : (P : Line → Type 0) (n : ℕ) → n ≤ 3 → ((l : Line) → P l ⊎ ((f : Fault) × ((o : ColumnOrder) → Least (Ails o n l) f))) → (ls : List Line) → ((after : List Line) × First P ls after) ⊎ ((f : Fault) × ((o : ColumnOrder) → Least (Wrong o n ls) f))
head_or P n early dec [] = inr (line_fault n, λ o. least_begins o n [] (λ h. h) (inl early))
head_or P n early dec (l ∷ ls) = ⊎_elim (λ h. inl (ls, (l, refl, h))) (λ h. inr (h.0, λ o. least_here o n l ls h.0 (h.1 o))) (dec l)

titles_or : (l : Line) → Titles l ⊎ ((f : Fault) × ((o : ColumnOrder) → Least (Ails o 1 l) f))
titles_or l =
    ⊎_elim
    (λ (s : Sound l). ⊎_elim (λ e. inl (record { sound = s; is = e })) (λ bad. inr (names_fault 1, λ o. (untitled refl refl bad, λ g w. search rules))) (told_text l.body title))
    (λ bad. inr (line_fault 1, λ o. least_unsound o 1 l bad))
    (told_sound l)

counts_or : (l : Line) → GivesSlots l (digits_value 10 l.body) ⊎ ((f : Fault) × ((o : ColumnOrder) → Least (Ails o 2 l) f))
counts_or l =
    ⊎_elim
    (λ (s : Sound l). ⊎_elim
    (λ (t : One l.body). ⊎_elim
    (λ fits. inl (record { sound = s; one = t; fits = fits; is = refl }))
    (λ bad. inr (value_fault 2 1, λ o. (bad_slots refl refl bad, λ g w. search rules)))
    (told_fits Slots l.body))
    (λ bad. inr (shape_fault 2, λ o. (not_one refl refl bad, λ g w. search rules)))
    (told_one l.body))
    (λ bad. inr (line_fault 2, λ o. least_unsound o 2 l bad))
    (told_sound l)

neither : (b : List ℕ) → (b ≡ names_of KeyCost → ⊥) → (b ≡ names_of CostKey → ⊥) → (p : ColumnOrder) → b ≡ names_of p → ⊥
neither b k c KeyCost = k
neither b k c CostKey = c

abbrev Named : Line → Type 0
Named l = (o : ColumnOrder) × Names l o

names_or : (l : Line) → Named l ⊎ ((f : Fault) × ((o : ColumnOrder) → Least (Ails o 3 l) f))
names_or l =
    ⊎_elim
    (λ (s : Sound l). ⊎_elim
    (λ e. inl (KeyCost, record { sound = s; is = e }))
    (λ k. ⊎_elim
    (λ e. inl (CostKey, record { sound = s; is = e }))
    (λ c. inr (names_fault 3, λ o. let bad = neither l.body k c in (unnamed refl refl bad, λ g w. search rules)))
    (told_text l.body (names_of CostKey)))
    (told_text l.body (names_of KeyCost)))
    (λ bad. inr (line_fault 3, λ o. least_unsound o 3 l bad))
    (told_sound l)

pub kept_or_faulty : (bs : List ℕ) → ((slots : ℕ) × (rows : List Row) × Keeps bs slots rows) ⊎ ((f : Fault) × Least (Faulty bs) f)
kept_or_faulty bs =
    ⊎_elim
    (λ (one : (after : List Line) × First Titles (cut bs) after). ⊎_elim
    (λ (two : (after : List Line) × First (λ l. GivesSlots l (digits_value 10 l.body)) one.0 after).
    let slots = digits_value 10 two.1.0.body in
    let counts : First (λ l. GivesSlots l slots) one.0 two.0 = (two.1.0, two.1.1, two.1.2) in
    ⊎_elim
    (λ (three : (after : List Line) × First Named two.0 after).
    let o = three.1.2.0 in
    let names : First (λ l. Names l o) two.0 three.0 = (three.1.0, three.1.1, three.1.2.1) in
    ⊎_elim
    (λ h. inl (slots, h.0, whole bs one.0 two.0 three.0 slots o h.0 one.1 counts names h.1))
    (λ h. inr (h.0, fault_in_rows bs h.0 one.0 one.1 two.0 slots counts three.0 o names h.1))
    (rows_or o 4 three.0 (omega arith)))
    (λ h. inr (h.0, fault_in_three bs h.0 one.0 one.1 two.0 slots counts h.1))
    (head_or Named 3 (omega arith) names_or two.0))
    (λ h. inr (h.0, fault_in_two bs h.0 one.0 one.1 h.1))
    (head_or (λ l. GivesSlots l (digits_value 10 l.body)) 2 (omega arith) counts_or one.0))
    (λ h. inr (h.0, fault_in_one bs h.0 h.1))
    (head_or Titles 1 (omega arith) titles_or (cut bs))

pub said_or_faulty : SaidOrFaulty
said_or_faulty bs = ⊎_elim (λ h. inl (h.0, h.1, kept_is_said bs h.0 h.1 h.2)) (λ h. inr h) (kept_or_faulty bs)
