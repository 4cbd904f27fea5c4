-- What a pile refuses.
use Rattle.std.proofs.Common.{◌≡◌, ℕ, zero, suc, ◌+◌, ◌*◌, ◌≤◌, min, true, false, not, ◌&&◌, eqb, ltb, List, [], ◌∷◌, Some, None, sym, refl, ap, ◌∙◌, arith}
use lib.ListN.{length-replicate}
use Rattle.std.proofs.lemmas.Bool.{and_right, cond-false, le-ltb, ne_eqb}
use Rattle.keys.specs.declared.region.RegionNumber.{RegionNumber}
use Rattle.promises.specs.declared.answers.Refusal.TheVariants.{BadCost, ShortSlab, NotAdmitted, AllOut}
use Rattle.promises.specs.State.{slots}
use Rattle.promises.specs.Steps.{first_of}
use Rattle.promises.specs.Lines.{made}
use Rattle.promises.specs.GreedyDual.{Dual}
use Rattle.traces.specs.declared.rows.Row.{Row}
use Rattle.traces.specs.Faults.{cache_fault}
use Rattle.replays.specs.Replay.{empty, is_held, row_after, row_fault, fault_or, first_fault}
use Rattle.replays.specs.Regtrace.{pile_of, PileRefuses}
use Rattle.replays.specs.Standing.{Priced}

pub pile_slots : (n : ℕ) → n ≤ 1024 → slots (made (pile_of n)) ≡ n
pile_slots n few = length-replicate (min (min 1024 1024) n) None ∙ omega arith

-- with a slot no row is refused
row_fine : (n : ℕ) (g : Dual RegionNumber) (r : Row) → 1 ≤ n → n ≤ 1024 → r.cost ≤ 65280 → row_fault (pile_of n) n g r ≡ None
row_fine n g r some few c =
    let e : slots (made (pile_of n)) ≡ n = pile_slots n few in
    let short : ltb n (slots (made (pile_of n)) * 1) ≡ false = le-ltb n (slots (made (pile_of n)) * 1) (omega arith) in
    let dear : (not (is_held g r) && ltb 65280 r.cost) ≡ false = and_right (not (is_held g r)) (ltb 65280 r.cost) (le-ltb 65280 r.cost c) in
    let barred : (not (is_held g r) && false) ≡ false = and_right (not (is_held g r)) false refl in
    let none : (not (is_held g r) && eqb (slots (made (pile_of n))) 0) ≡ false = and_right (not (is_held g r)) _ (ne_eqb (slots (made (pile_of n))) 0 (λ z. omega (arith, z))) in
    λ j. first_of ((short j, ShortSlab) ∷ (dear j, BadCost) ∷ (barred j, NotAdmitted) ∷ (none j, AllOut) ∷ [])

rows_fine : (n : ℕ) (g : Dual RegionNumber) (line : ℕ) (rows : List Row) → 1 ≤ n → n ≤ 1024 → Priced rows → first_fault (pile_of n) n g line rows ≡ None
rows_fine n g line [] some few p = refl
rows_fine n g line (r ∷ rows) some few p =
    ap (λ o. fault_or line o (first_fault (pile_of n) n (row_after (slots (made (pile_of n))) g r) (line + 1) rows)) (row_fine n g r some few (p 0 (omega arith)).1)
    ∙ rows_fine n (row_after (slots (made (pile_of n))) g r) (line + 1) rows some few (λ k h. p (suc k) (omega arith))

pub pile_refuses : PileRefuses
pile_refuses n [] few p = refl
pile_refuses zero (r ∷ rows) few p =
    let c : ltb 65280 r.cost ≡ false = le-ltb 65280 r.cost (p 0 (omega arith)).1 in
    ap (λ o. fault_or 4 o (first_fault (pile_of 0) 0 (row_after (slots (made (pile_of 0))) empty r) 5 rows)) (λ j. first_of ((false, ShortSlab) ∷ (c j, BadCost) ∷ (false, NotAdmitted) ∷ (true, AllOut) ∷ []))
pile_refuses (suc n) (r ∷ rows) few p =
    rows_fine (suc n) empty 4 (r ∷ rows) (omega arith) few p ∙ sym (cond-false (eqb (suc n) 0) (Some (cache_fault 4 AllOut)) None (ne_eqb (suc n) 0 (λ z. omega (arith, z))))
