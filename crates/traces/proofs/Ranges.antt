-- The values of a trace that a text says are in range.
use Rattle.std.proofs.Common.{◌≡◌, ℕ, ◌^◌, ◌<◌, ◌≤◌, List, [], ◌∷◌, ap, arith}
use Rattle.std.specs.Str.Parse.{digits_value}
use Rattle.std.specs.List.{AllByRecursion}
use Rattle.std.proofs.ByRecursion.{All-get_or}
use Rattle.traces.specs.declared.table.ColumnOrder.{ColumnOrder}
use Rattle.traces.specs.declared.table.ColumnOrder.TheVariants.{KeyCost, CostKey}
use Rattle.traces.specs.declared.rows.Row.{Row}
use Rattle.traces.specs.Forms.{Fits, radix_of}
use Rattle.traces.specs.Layout.{first_of, second_of, row_of, row_by}
use Rattle.traces.specs.Rendering.{Fit}
use Rattle.traces.specs.Words.{Pair, Says}
use Rattle.traces.proofs.Laid.{PairsAre, says_laid}

abbrev pub Good : Row → Type 0
Good r = (1 ≤ r.cost) × (r.cost ≤ 65280) × (r.key.number < 2 ^ 32)

good_by : (o : ColumnOrder) (a b : List ℕ) (r : Row) → Fits (first_of o) a → Fits (second_of o) b → r ≡ row_by o (digits_value (radix_of (first_of o)) a) (digits_value (radix_of (second_of o)) b) → Good r
good_by KeyCost a b r fa fb e =
    (omega (arith, ap (λ x. x.cost) e, fb.least), omega (arith, ap (λ x. x.cost) e, fb.greatest), omega (arith, ap (λ x. x.key.number) e, fa.greatest))
good_by CostKey a b r fa fb e =
    (omega (arith, ap (λ x. x.cost) e, fa.least), omega (arith, ap (λ x. x.cost) e, fa.greatest), omega (arith, ap (λ x. x.key.number) e, fb.greatest))

good_pairs : (o : ColumnOrder) (ts : List Pair) (rs : List Row) → PairsAre o ts rs → AllByRecursion Good rs
good_pairs o ts [] h = tt
good_pairs o [] (r ∷ rs) h = elim h [ ]
good_pairs o (t ∷ ts) (r ∷ rs) h = (good_by o t.fore t.aft r h.0.0 h.0.1 h.0.2, good_pairs o ts rs h.1)

pub said_fits : (bs : List ℕ) (slots : ℕ) (rows : List Row) → Says bs slots rows → Fit slots rows
said_fits bs slots rows h =
    let l = says_laid bs slots rows h in
    let good = good_pairs l.order l.texts rows l.rows_are in
    record {
      slots_most = omega (arith, l.counts, l.fits.greatest);
      rows_most = l.few;
      key_most = λ k in'. (All-get_or Good rows k (row_of 0 0) in' good).2;
      cost_least = λ k in'. (All-get_or Good rows k (row_of 0 0) in' good).0;
      cost_most = λ k in'. (All-get_or Good rows k (row_of 0 0) in' good).1;
    }
