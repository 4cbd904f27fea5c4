-- A text is kept just where it has no fault, and keeps one trace.
use Rattle.std.proofs.Common.{◌≡◌, ℕ, ◌+◌, ◌<◌, List, [], ◌∷◌, sym, refl, ap, ◌∙◌, subst, ⊎_elim, arith}
use Rattle.std.specs.Str.Parse.{digits_value}
use Rattle.traces.specs.declared.table.ColumnOrder.{ColumnOrder}
use Rattle.traces.specs.declared.faults.Fault.{Fault}
use Rattle.traces.specs.declared.rows.Row.{Row}
use Rattle.traces.specs.Cut.{Line, cut}
use Rattle.traces.specs.Layout.{Wrong, Faulty, Rows, Keeps, order_named, order_among}
use Rattle.traces.specs.Words.{SaidIsSound, SaidOnce}
use Rattle.traces.proofs.Faulty.{holds_none, titles_none, counts_none, names_none}
use Rattle.traces.proofs.Whole.{order_in}
use Rattle.traces.proofs.Words.{said_is_kept}

rows_none : (o : ColumnOrder) (n : ℕ) (ls : List Line) (rs : List Row) → 3 < n → Rows o n ls rs → (f : Fault) → Wrong o n ls f → ⊥
rows_none o n [] [] late h f w = omega (arith, w.0, w.1)
rows_none o n [] (r ∷ rs) late h f w = h
rows_none o n (l ∷ ls) [] late h f w = h
rows_none o n (l ∷ ls) (r ∷ rs) late h f w =
    ⊎_elim (λ a. holds_none o n l r late h.0 f a) (λ v. rows_none o (n + 1) ls rs (omega arith) h.1 f v) w

pub kept_is_sound : (bs : List ℕ) (slots : ℕ) (rows : List Row) → Keeps bs slots rows → (f : Fault) → Faulty bs f → ⊥
kept_is_sound bs slots rows h f w =
    let e : order_among (cut bs) ≡ h.order = ap order_among h.lines ∙ order_in h.order _ h.names.is in
    let v : Wrong h.order 1 (h.one ∷ h.two ∷ h.three ∷ h.rest) f = subst (λ ls. Wrong h.order 1 ls f) h.lines (subst (λ o. Wrong o 1 (cut bs) f) e w) in
    ⊎_elim
    (λ a. titles_none h.order h.one h.titles f a)
    (λ u. ⊎_elim
    (λ a. counts_none h.order h.two slots h.counts f a)
    (λ t. ⊎_elim (λ a. names_none h.order h.order h.three h.names f a) (λ s. rows_none h.order 4 h.rest rows (omega arith) h.holds f s) t)
    u)
    v

rows_once : (o : ColumnOrder) (n : ℕ) (ls : List Line) (rs qs : List Row) → Rows o n ls rs → Rows o n ls qs → rs ≡ qs
rows_once o n [] [] [] h k = refl
rows_once o n [] [] (q ∷ qs) h k = elim k [ ]
rows_once o n [] (r ∷ rs) qs h k = elim h [ ]
rows_once o n (l ∷ ls) [] qs h k = elim h [ ]
rows_once o n (l ∷ ls) (r ∷ rs) [] h k = elim k [ ]
rows_once o n (l ∷ ls) (r ∷ rs) (q ∷ qs) h k =
    let p : r ≡ q = h.0.is ∙ sym k.0.is in
    let s = rows_once o (n + 1) ls rs qs h.1 k.1 in
    λ j. p j ∷ s j

pub kept_once : (bs : List ℕ) (s t : ℕ) (rows others : List Row) → Keeps bs s rows → Keeps bs t others → (s ≡ t) × (rows ≡ others)
kept_once bs s t rows others h k =
    let same : h.one ∷ h.two ∷ h.three ∷ h.rest ≡ k.one ∷ k.two ∷ k.three ∷ k.rest = sym h.lines ∙ k.lines in
    let two : h.two ≡ k.two = cc in
    let three : h.three ≡ k.three = cc in
    let rest : h.rest ≡ k.rest = cc in
    let order : h.order ≡ k.order = sym (order_in h.order _ h.names.is) ∙ ap (λ l. order_named l.body) three ∙ order_in k.order _ k.names.is in (
      h.counts.is ∙ ap (λ l. digits_value 10 l.body) two ∙ sym k.counts.is,
      rows_once k.order 4 k.rest rows others (subst (λ o. Rows o 4 k.rest rows) order (subst (λ ls. Rows h.order 4 ls rows) rest h.holds)) k.holds,
    )

pub said_is_sound : SaidIsSound
said_is_sound bs slots rows h = kept_is_sound bs slots rows (said_is_kept bs slots rows h)

pub said_once : SaidOnce
said_once bs s t rows others h k = kept_once bs s t rows others (said_is_kept bs s rows h) (said_is_kept bs t others k)
