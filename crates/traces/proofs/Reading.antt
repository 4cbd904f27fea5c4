-- What a turn over the rows keeps.
use Rattle.std.proofs.Common.{◌≡◌, ℕ, ◌+◌, ◌<◌, List, [], ◌∷◌, ◌++◌, length, Some, None, Ok, Err, Result, MatchResult, sym, refl, ap, subst, append_assoc, append-nil, arith}
use Rattle.traces.specs.declared.table.ColumnOrder.{ColumnOrder}
use Rattle.traces.specs.declared.faults.Fault.{Fault}
use Rattle.traces.specs.declared.rows.Row.{Row}
use Rattle.traces.specs.declared.faults.ValuesFault.{ValuesFault}
use Rattle.traces.specs.declared.reader.RowLines.{RowLines}
use Rattle.traces.specs.Cut.{Line, cut, Splits}
use Rattle.traces.specs.Faults.{Least, of_values}
use Rattle.traces.specs.Layout.{Wrong, Holds, Rows, Next, IsRow, LeastIn, LeadsRow, LeastFrom, GivesRow}
use Rattle.traces.proofs.Faulty.{least_at, least_later, holds_none}

-- what reading the lines from n on gives
abbrev pub Gives : ColumnOrder → ℕ → List Line → Result (List Row) Fault → Type 0
Gives o n ls (Ok rs) = Rows o n ls rs
Gives o n ls (Err f) = Least (Wrong o n ls) f

abbrev pub after : List Row → Result (List Row) Fault → Result (List Row) Fault
after xs (Ok rs) = Ok (xs ++ rs)
after xs (Err f) = Err f

-- what the rest gives, after the rows so far, is what all gives
abbrev pub Sofar : ColumnOrder → List Line → List Row → ℕ → List Line → Type 0
Sofar o all xs n ls = (r : Result (List Row) Fault) → Gives o n ls r → Gives o 4 all (after xs r)

one_more : (o : ColumnOrder) (n : ℕ) (l : Line) (ls : List Line) (x : Row) → 3 < n → Holds o n l x → (r : Result (List Row) Fault) → Gives o (n + 1) ls r → Gives o n (l ∷ ls) (after (x ∷ []) r)
one_more o n l ls x late h (Ok rs) g = (h, g)
one_more o n l ls x late h (Err f) g = least_later o n l ls f (holds_none o n l x late h) g

after_after : (xs : List Row) (x : Row) (r : Result (List Row) Fault) → after xs (after (x ∷ []) r) ≡ after (xs ++ x ∷ []) r
after_after xs x (Ok rs) = ap Ok (sym (append_assoc xs (x ∷ []) rs))
after_after xs x (Err f) = refl

sofar_more : (o : ColumnOrder) (all : List Line) (xs : List Row) (n : ℕ) (ls rest : List Line) (x : Row) → 3 < n → Sofar o all xs n ls → Next o n ls rest x → Sofar o all (xs ++ x ∷ []) (n + 1) rest
sofar_more o all xs n ls rest x late h (l, e, holds) r g =
    subst (Gives o 4 all) (after_after xs x r) (h (after (x ∷ []) r) (rw e (one_more o n l rest x late holds r g)))

sofar_done : (o : ColumnOrder) (all : List Line) (xs : List Row) (n : ℕ) → Sofar o all xs n [] → Rows o 4 all xs
sofar_done o all xs n h = rw append-nil at (h (Ok []) tt)

sofar_end : (o : ColumnOrder) (all : List Line) (xs : List Row) (n : ℕ) (rest : List ℕ) → length rest ≡ 0 → Sofar o all xs n (cut rest) → Rows o 4 all xs
sofar_end o all xs n [] e h = sofar_done o all xs n h
sofar_end o all xs n (b ∷ bs) e h = absurd (omega arith)

-- what reading the first line gives, from what that line is
pub leads_row : (o : ColumnOrder) (n m : ℕ) (bs body rest : List ℕ) (r : Result Row ValuesFault) → Splits bs body rest → m ≡ n + 1 → MatchResult r (λ x. IsRow o n body x) (λ e. LeastIn o n body (of_values e))
    → MatchResult r (λ x. LeadsRow o n bs rest x × (m ≡ n + 1)) (λ e. LeastFrom o n bs (of_values e))
leads_row o n m bs body rest (Ok x) s k h = (((_, s.0, h), s.2), k)
leads_row o n m bs body rest (Err e) s k h = least_at o n (cut bs) _ (cut rest) (of_values e) s.0 h

-- a turn over the rows that are still to be read, from s to t: a row, a fault, or the end
module _ (o : ColumnOrder) (all : List Line) (xs : List Row) (s t : RowLines) (same : s.order ≡ o) (sofar : Sofar o all xs s.lines.number (cut s.lines.rest.now)) where
  pub turn_row : (r : Result Row ValuesFault) (x : Row) → r ≡ Ok x → GivesRow s.order s.lines.number s.lines.rest.now t.lines.number t.lines.rest.now (Some r)
      → Sofar o all (xs ++ x ∷ []) t.lines.number (cut t.lines.rest.now)
  turn_row r x e given =
      let h : LeadsRow s.order s.lines.number s.lines.rest.now t.lines.rest.now x × (t.lines.number ≡ s.lines.number + 1)
      = subst (λ z. GivesRow s.order s.lines.number s.lines.rest.now t.lines.number t.lines.rest.now (Some z)) e given in
      subst (λ k. Sofar o all (xs ++ x ∷ []) k (cut t.lines.rest.now)) (sym h.1)
      (sofar_more o all xs s.lines.number (cut s.lines.rest.now) (cut t.lines.rest.now) x s.late sofar (subst (λ y. Next y s.lines.number (cut s.lines.rest.now) (cut t.lines.rest.now) x) same h.0.0))

  pub turn_fault : (r : Result Row ValuesFault) (e : ValuesFault) → r ≡ Err e → GivesRow s.order s.lines.number s.lines.rest.now t.lines.number t.lines.rest.now (Some r) → Least (Wrong o 4 all) (of_values e)
  turn_fault r e q given =
      sofar (Err (of_values e))
      (subst (λ y. LeastFrom y s.lines.number s.lines.rest.now (of_values e)) same (subst (λ z. GivesRow s.order s.lines.number s.lines.rest.now t.lines.number t.lines.rest.now (Some z)) q given))

  pub turn_end : GivesRow s.order s.lines.number s.lines.rest.now t.lines.number t.lines.rest.now None → Rows o 4 all xs
  turn_end none = sofar_end o all xs s.lines.number s.lines.rest.now none sofar
