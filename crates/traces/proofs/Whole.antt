-- The whole text, from its parts.
use Rattle.std.proofs.Common.{◌≡◌, ℕ, List, ◌∷◌, sym, ap, ◌∙◌, subst}
use Rattle.traces.specs.declared.table.ColumnOrder.{ColumnOrder}
use Rattle.traces.specs.declared.table.ColumnOrder.TheVariants.{KeyCost, CostKey}
use Rattle.traces.specs.declared.faults.Fault.{Fault}
use Rattle.traces.specs.declared.rows.Row.{Row}
use Rattle.traces.specs.declared.faults.TraceError.{TraceError}
use Rattle.traces.specs.declared.faults.TraceError.TheVariants.{Found, Memory}
use Rattle.traces.specs.Cut.{Line, cut}
use Rattle.traces.specs.Faults.{Least}
use Rattle.traces.specs.Layout.{names_of, Wrong, Rows, First, Titles, GivesSlots, Names, order_named, order_among, Faulty, Keeps, IfFound, Heads}
use Rattle.traces.specs.Words.{Says, Said, ReadFails}
use Rattle.traces.proofs.Said.{kept_is_said}
use Rattle.traces.proofs.Faulty.{least_later, titles_none, counts_none, names_none}

pub order_in : (o : ColumnOrder) (b : List ℕ) → b ≡ names_of o → order_named b ≡ o
order_in KeyCost b e = ap order_named e
order_in CostKey b e = ap order_named e

module _ (bs : List ℕ) (f : Fault) where
  pub fault_in_one : ((o : ColumnOrder) → Least (Wrong o 1 (cut bs)) f) → Least (Faulty bs) f
  fault_in_one h = h _

  module _ (two : List Line) (h₁ : First Titles (cut bs) two) where
    later_two : (o : ColumnOrder) → Least (Wrong o 2 two) f → Least (Wrong o 1 (cut bs)) f
    later_two o h = rw h₁.1 (least_later o 1 h₁.0 two f (titles_none o h₁.0 h₁.2) h)

    pub fault_in_two : ((o : ColumnOrder) → Least (Wrong o 2 two) f) → Least (Faulty bs) f
    fault_in_two h = later_two _ (h _)

    module _ (three : List Line) (slots : ℕ) (h₂ : First (λ l. GivesSlots l slots) two three) where
      later_three : (o : ColumnOrder) → Least (Wrong o 3 three) f → Least (Wrong o 1 (cut bs)) f
      later_three o h = later_two o (rw h₂.1 (least_later o 2 h₂.0 three f (counts_none o h₂.0 slots h₂.2) h))

      pub fault_in_three : ((o : ColumnOrder) → Least (Wrong o 3 three) f) → Least (Faulty bs) f
      fault_in_three h = later_three _ (h _)

      module _ (rest : List Line) (o : ColumnOrder) (h₃ : First (λ l. Names l o) three rest) where
        pub order_is : order_among (cut bs) ≡ o
        order_is = ap order_among (h₁.1 ∙ ap (λ t. h₁.0 ∷ t) (h₂.1 ∙ ap (λ t. h₂.0 ∷ t) h₃.1)) ∙ order_in o _ h₃.2.is

        pub fault_in_rows : Least (Wrong o 4 rest) f → Least (Faulty bs) f
        fault_in_rows h =
            subst (λ p. Least (Wrong p 1 (cut bs)) f) (sym order_is)
            (later_three o (rw h₃.1 (least_later o 3 h₃.0 rest f (names_none o o h₃.0 h₃.2) h)))

pub whole : (bs : List ℕ) (two three rest : List Line) (slots : ℕ) (o : ColumnOrder) (rows : List Row) → First Titles (cut bs) two → First (λ l. GivesSlots l slots) two three → First (λ l. Names l o) three rest → Rows o 4 rest rows → Keeps bs slots rows
whole bs two three rest slots o rows h₁ h₂ h₃ h =
    record {
      order = o;
      one = h₁.0;
      two = h₂.0;
      three = h₃.0;
      rest = rest;
      lines = h₁.1 ∙ ap (λ t. h₁.0 ∷ t) (h₂.1 ∙ ap (λ t. h₂.0 ∷ t) h₃.1);
      titles = h₁.2;
      counts = h₂.2;
      names = h₃.2;
      holds = h;
    }

-- the same, from the first three lines together
module _ (bs : List ℕ) (slots : ℕ) (o : ColumnOrder) (rest : List Line) (h : Heads bs slots o rest) where
  pub whole_rows : (rows : List Row) → Rows o 4 rest rows → Says bs slots rows
  whole_rows rows k = kept_is_said bs slots rows (whole bs h.0 h.1 rest slots o rows h.2 h.3 h.4 k)

  pub faulty_rows : (f : Fault) → Least (Wrong o 4 rest) f → Least (Faulty bs) f
  faulty_rows f k = fault_in_rows bs f h.0 h.2 h.1 slots h.3 rest o h.4 k

  pub read_fails : (e : TraceError) → Said bs → IfFound e (Least (Wrong o 4 rest)) → ReadFails bs e
  read_fails (Found f) said k = faulty_rows f k
  read_fails Memory said k = said
