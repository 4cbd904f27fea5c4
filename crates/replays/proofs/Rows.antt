-- What a run of rows comes to with one more row at its end.
use Rattle.std.proofs.Common.{◌≡◌, ℕ, ◌+◌, cond, List, [], ◌∷◌, ◌++◌, length, is_some, Some, None, Option, refl, ap, ◌∙◌, arith}
use Rattle.keys.specs.declared.region.RegionNumber.{RegionNumber}
use Rattle.promises.specs.declared.answers.Refusal.{Refusal}
use Rattle.promises.specs.State.{slots}
use Rattle.promises.specs.Lines.{Making, made}
use Rattle.promises.specs.GreedyDual.{Dual}
use Rattle.traces.specs.declared.faults.Fault.{Fault}
use Rattle.traces.specs.declared.rows.Row.{Row}
use Rattle.traces.specs.Faults.{cache_fault}
use Rattle.replays.specs.Replay.{row_after, row_outcome, noted, row_effect, outcomes, rows_after, row_effects, row_fault, fault_or, first_fault, accepted}

pub after_more : (n : ℕ) (g : Dual RegionNumber) (rs : List Row) (r : Row) → rows_after n g (rs ++ (r ∷ [])) ≡ row_after n (rows_after n g rs) r
after_more n g [] r = refl
after_more n g (x ∷ rs) r = after_more n (row_after n g x) rs r

pub outcomes_more : (n : ℕ) (g : Dual RegionNumber) (rs : List Row) (r : Row) → outcomes n g (rs ++ (r ∷ [])) ≡ outcomes n g rs ++ (noted (row_outcome n (rows_after n g rs) r) ∷ [])
outcomes_more n g [] r = refl
outcomes_more n g (x ∷ rs) r = ap (λ os. noted (row_outcome n g x) ∷ os) (outcomes_more n (row_after n g x) rs r)

pub effects_more : (n : ℕ) (g : Dual RegionNumber) (rs : List Row) (r : Row) → row_effects n g (rs ++ (r ∷ [])) ≡ row_effects n g rs ++ (row_effect r (noted (row_outcome n (rows_after n g rs) r)) ∷ [])
effects_more n g [] r = refl
effects_more n g (x ∷ rs) r = ap (λ es. row_effect x (noted (row_outcome n g x)) ∷ es) (effects_more n (row_after n g x) rs r)

-- what a fault that is not there says of the first row and of the others
fault_parts : (line : ℕ) (o : Option Refusal) (later : Option Fault) → fault_or line o later ≡ None → (o ≡ None) × (later ≡ None)
fault_parts line None later e = (refl, e)
fault_parts line (Some x) later e = let z : ◌≡◌ {A = ℕ} 0 1 = cc in absurd (omega arith)

module _ (m : Making RegionNumber) (slab : ℕ) where
  pub fine_more : (g : Dual RegionNumber) (line : ℕ) (rs : List Row) (r : Row) → first_fault m slab g line rs ≡ None → row_fault m slab (rows_after (slots (made m)) g rs) r ≡ None
      → first_fault m slab g line (rs ++ (r ∷ [])) ≡ None
  fine_more g line [] r h e = ap (λ o. fault_or line o None) e
  fine_more g line (x ∷ rs) r h e =
      let p = fault_parts line (row_fault m slab g x) _ h in
      ap (λ o. fault_or line o (first_fault m slab (row_after (slots (made m)) g x) (line + 1) (rs ++ (r ∷ [])))) p.0
      ∙ fine_more (row_after (slots (made m)) g x) (line + 1) rs r p.1 e

  -- the first row that is refused, after those that are not
  pub fault_at : (g : Dual RegionNumber) (line : ℕ) (rs : List Row) (r : Row) (later : List Row) (e : Refusal) → first_fault m slab g line rs ≡ None → row_fault m slab (rows_after (slots (made m)) g rs) r ≡ Some e
      → first_fault m slab g line (rs ++ (r ∷ later)) ≡ Some (cache_fault (line + length rs) e)
  fault_at g line [] r later e h q =
      ap (λ o. fault_or line o (first_fault m slab (row_after (slots (made m)) g r) (line + 1) later)) q ∙ ap (λ n. Some (cache_fault n e)) (omega arith)
  fault_at g line (x ∷ rs) r later e h q =
      let p = fault_parts line (row_fault m slab g x) _ h in
      ap (λ o. fault_or line o (first_fault m slab (row_after (slots (made m)) g x) (line + 1) (rs ++ (r ∷ later)))) p.0
      ∙ fault_at (row_after (slots (made m)) g x) (line + 1) rs r later e p.1 q
      ∙ ap (λ n. Some (cache_fault n e)) (omega arith)

  pub accepted_at : (g : Dual RegionNumber) (line : ℕ) (rs : List Row) (r : Row) (later : List Row) (e : Refusal) → first_fault m slab g line rs ≡ None → row_fault m slab (rows_after (slots (made m)) g rs) r ≡ Some e
      → accepted m slab g (rs ++ (r ∷ later)) ≡ rs
  accepted_at g line [] r later e h q = ap (λ o. cond (is_some o) [] (r ∷ accepted m slab (row_after (slots (made m)) g r) later)) q
  accepted_at g line (x ∷ rs) r later e h q =
      let p = fault_parts line (row_fault m slab g x) _ h in
      ap (λ o. cond (is_some o) [] (x ∷ accepted m slab (row_after (slots (made m)) g x) (rs ++ (r ∷ later)))) p.0
      ∙ ap (λ ys. x ∷ ys) (accepted_at (row_after (slots (made m)) g x) (line + 1) rs r later e p.1 q)

  -- where no row is refused all are accepted
  pub accepted_all : (g : Dual RegionNumber) (line : ℕ) (rs : List Row) → first_fault m slab g line rs ≡ None → accepted m slab g rs ≡ rs
  accepted_all g line [] h = refl
  accepted_all g line (x ∷ rs) h =
      let p = fault_parts line (row_fault m slab g x) _ h in
      ap (λ o. cond (is_some o) [] (x ∷ accepted m slab (row_after (slots (made m)) g x) rs)) p.0
      ∙ ap (λ ys. x ∷ ys) (accepted_all (row_after (slots (made m)) g x) (line + 1) rs p.1)
