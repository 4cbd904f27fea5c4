-- The tally of a run, row by row.
use Rattle.std.proofs.Common.{◌≡◌, ℕ, ◌+◌, List, [], ◌∷◌, ◌++◌, length, sym, refl, ap, ◌∙◌, append_assoc, append-nil, arith}
use Rattle.traces.specs.declared.outcomes.Counts.{Counts}
use Rattle.traces.specs.declared.outcomes.Eviction.{Eviction}
use Rattle.traces.specs.declared.outcomes.Outcome.{Outcome}
use Rattle.traces.specs.declared.outcomes.Outcome.TheVariants.{Hit, Taken, Evicting}
use Rattle.traces.specs.Outcomes.{no_counts, counted, leaving, tally, leavers, Tallied}

pub tallied_none : (n : Counts) (left : List Eviction) → n ≡ no_counts → left ≡ [] → Tallied [] n left
tallied_none n left p q = record { counts_are = p; left_are = q }

tally_more : (n : Counts) (run : List Outcome) (o : Outcome) → tally n (run ++ (o ∷ [])) ≡ counted (tally n run) o
tally_more n [] o = refl
tally_more n (p ∷ run) o = tally_more (counted n p) run o

leavers_more : (m : ℕ) (run : List Outcome) (o : Outcome) → leavers m (run ++ (o ∷ [])) ≡ leavers m run ++ leaving (m + length run) o
leavers_more m [] o = append-nil (leaving m o) ∙ ap (λ k. leaving k o) (omega arith)
leavers_more m (p ∷ run) o =
    ap (λ t. leaving m p ++ t) (leavers_more (m + 1) run o)
    ∙ ap (λ k. leaving m p ++ (leavers (m + 1) run ++ leaving k o)) (omega arith)
    ∙ sym (append_assoc (leaving m p) (leavers (m + 1) run) (leaving (m + length (p ∷ run)) o))

counted_rows : (n : Counts) (o : Outcome) → (counted n o).rows ≡ n.rows + 1
counted_rows n Hit = refl
counted_rows n (Taken c) = refl
counted_rows n (Evicting c k) = refl

-- a row is counted for each outcome
pub tally_rows : (n : Counts) (run : List Outcome) → (tally n run).rows ≡ n.rows + length run
tally_rows n [] = omega arith
tally_rows n (o ∷ run) = omega (arith, tally_rows (counted n o) run, counted_rows n o)

-- one more row, as a report notes it
pub tallied_more : (run : List Outcome) (o : Outcome) (n m : Counts) (left more : List Eviction) → Tallied run n left → m ≡ counted n o → more ≡ left ++ leaving (n.rows + 1) o → Tallied (run ++ (o ∷ [])) m more
tallied_more run o n m left more h p q =
    let rows : n.rows + 1 ≡ 1 + length run = omega (arith, ap (λ c. c.rows) h.counts_are, tally_rows no_counts run) in
    record {
      counts_are = p ∙ ap (λ c. counted c o) h.counts_are ∙ sym (tally_more no_counts run o);
      left_are = q ∙ (λ j. (h.left_are j) ++ leaving (rows j) o) ∙ sym (leavers_more 1 run o);
    }
