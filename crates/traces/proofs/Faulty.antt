-- The least fault of a line, and of the lines from one on.
use Rattle.std.proofs.Common.{◌≡◌, ℕ, ◌+◌, ◌<◌, ◌≤◌, true, ◌⊎◌, List, [], ◌∷◌, length, refl, ap, inl, inr, ⊎_elim, arith, rules}
use Rattle.traces.specs.declared.values.Column.TheVariants.{Slots}
use Rattle.traces.specs.declared.table.ColumnOrder.{ColumnOrder}
use Rattle.traces.specs.declared.faults.Fault.{Fault}
use Rattle.traces.specs.declared.rows.Row.{Row}
use Rattle.traces.specs.Cut.{Line, line_of, Sound, Begins}
use Rattle.traces.specs.Forms.{Fits}
use Rattle.traces.specs.Faults.{line_fault, names_fault, shape_fault, value_fault, Least}
use Rattle.traces.specs.Layout.{title, names_of, One, Ails, Wrong, Holds, Titles, GivesSlots, Names}
use Rattle.traces.specs.Layout.Ails.{unsound, untitled, unnamed, not_one, not_two, bad_slots, bad_first, bad_second, past}

-- a line's faults are at that line, and those of later lines are not before it
pub ails_line : (o : ColumnOrder) (n : ℕ) (l : Line) (f : Fault) → Ails o n l f → f.line ≡ n
ails_line o n l f a =
    elim a [
      | unsound e h ↦ ap (λ g. g.line) e
      | untitled e m h ↦ ap (λ g. g.line) e
      | unnamed e m h ↦ ap (λ g. g.line) e
      | not_one e m h ↦ ap (λ g. g.line) e
      | not_two e m h ↦ ap (λ g. g.line) e
      | bad_slots e m h ↦ ap (λ g. g.line) e
      | bad_first e m h ↦ ap (λ g. g.line) e
      | bad_second e m h ↦ ap (λ g. g.line) e
      | past e m ↦ ap (λ g. g.line) e
    ]

pub wrong_line : (o : ColumnOrder) (n : ℕ) (ls : List Line) (f : Fault) → Wrong o n ls f → n ≤ f.line
wrong_line o n [] f w = w.0
wrong_line o n (l ∷ ls) f w = ⊎_elim (λ a. omega (arith, ails_line o n l f a)) (λ v. omega (arith, wrong_line o (n + 1) ls f v)) w

-- the least fault of the first line is that of the text
pub least_here : (o : ColumnOrder) (n : ℕ) (l : Line) (ls : List Line) (f : Fault) → Least (Ails o n l) f → Least (Wrong o n (l ∷ ls)) f
least_here o n l ls f least =
    (inl least.0, λ g w. ⊎_elim (λ a. least.1 g a) (λ v. inl (omega (arith, ails_line o n l f least.0, wrong_line o (n + 1) ls g v))) w)

-- and of a good line it is that of the lines after it
pub least_later : (o : ColumnOrder) (n : ℕ) (l : Line) (ls : List Line) (f : Fault) → ((g : Fault) → Ails o n l g → ⊥) → Least (Wrong o (n + 1) ls) f → Least (Wrong o n (l ∷ ls)) f
least_later o n l ls f none least = (inr least.0, λ g w. ⊎_elim (λ a. absurd (none g a)) (λ v. least.1 g v) w)

pub least_unsound : (o : ColumnOrder) (n : ℕ) (l : Line) → (Sound l → ⊥) → Least (Ails o n l) (line_fault n)
least_unsound o n l h = (unsound refl h, λ g a. search rules)

pub least_begins : (o : ColumnOrder) (n : ℕ) (ls : List Line) → (Begins ls → ⊥) → (n ≤ 3) ⊎ (0 < length ls) → Least (Wrong o n ls) (line_fault n)
least_begins o n [] h k = ((omega arith, ⊎_elim (λ m. m) (λ m. absurd (omega arith)) k, refl), λ g w. search rules)
least_begins o n (l ∷ ls) h k = least_here o n l ls (line_fault n) (least_unsound o n l h)

pub holds_none : (o : ColumnOrder) (n : ℕ) (l : Line) (r : Row) → 3 < n → Holds o n l r → (g : Fault) → Ails o n l g → ⊥
holds_none o n l r late h g a = search rules

-- the same, as a call's answer has it
pub least_at : (o : ColumnOrder) (n : ℕ) (ls : List Line) (l : Line) (after : List Line) (f : Fault) → ls ≡ l ∷ after → Least (Ails o n l) f → Least (Wrong o n ls) f
least_at o n ls l after f e least = rw e (least_here o n l after f least)

pub least_line : (o : ColumnOrder) (n m : ℕ) (ls : List Line) → m ≡ n → (Begins ls → ⊥) → (n ≤ 3) ⊎ (0 < length ls) → Least (Wrong o n ls) (line_fault m)
least_line o n m ls e h k = rw e (least_begins o n ls h k)

-- the first three lines
module _ (o : ColumnOrder) (b : List ℕ) (short : length b ≤ 80) where
  pub least_title : (b ≡ title → ⊥) → Least (Ails o 1 (line_of b true)) (names_fault 1)
  least_title bad = (untitled refl refl bad, λ g a. search rules)

  pub least_one : (One b → ⊥) → Least (Ails o 2 (line_of b true)) (shape_fault 2)
  least_one bad = (not_one refl refl bad, λ g a. search rules)

  pub least_slots : One b → (Fits Slots b → ⊥) → Least (Ails o 2 (line_of b true)) (value_fault 2 1)
  least_slots one bad = (bad_slots refl refl bad, λ g a. search rules)

  pub least_names : ((p : ColumnOrder) → b ≡ names_of p → ⊥) → Least (Ails o 3 (line_of b true)) (names_fault 3)
  least_names bad = (unnamed refl refl bad, λ g a. search rules)

pub titles_none : (o : ColumnOrder) (l : Line) → Titles l → (g : Fault) → Ails o 1 l g → ⊥
titles_none o l h g a = search rules

pub counts_none : (o : ColumnOrder) (l : Line) (s : ℕ) → GivesSlots l s → (g : Fault) → Ails o 2 l g → ⊥
counts_none o l s h g a = search rules

pub names_none : (o p : ColumnOrder) (l : Line) → Names l p → (g : Fault) → Ails o 3 l g → ⊥
names_none o p l h g a = search (rules, h.is)
