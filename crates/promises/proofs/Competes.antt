-- Competitiveness: the line's views against every rival.
use Rattle.std.proofs.Common.{◌≡◌, ℕ, zero, suc, ◌+◌, ◌-◌, min, Bool, List, [], ◌∷◌, replicate, None, Option, sym, refl, ◌∙◌, subst, subst₂, ⊎_elim, arith}
use lib.ListN.{length-replicate}
use Rattle.std.proofs.lemmas.List.{get_or_past, get_or-replicate}
use Rattle.std.proofs.lemmas.Bool.{cases_lt}
use Rattle.keys.specs.Sameness.{SameLaws}
use Rattle.directories.specs.Meaning.{key_at}
use Rattle.promises.specs.State.{State, slots}
use Rattle.promises.specs.Events.{Event, effect}
use Rattle.promises.specs.Lines.{Making, made, Line}
use Rattle.promises.specs.Promises.{Competitive}
use Rattle.promises.proofs.Views.{Moves, Leads}
use Rattle.promises.proofs.StepViews.{view, view_free, step_follows}
use Rattle.promises.proofs.Sounds.{sound_line}
use Rattle.promises.proofs.Paid.{paid_within}

made_keys : {K : Type 0} (m : Making K) (i : ℕ) → key_at (made m).directory i ≡ None
made_keys {K} m i =
    let n = min (min 1024 m.order.size) m.directory.capacity in
    ⊎_elim (λ l. get_or-replicate n i None None l) (λ l. get_or_past (replicate n None) i None (omega (arith, length-replicate {A = Option K} n None))) (cases_lt i n)

-- the views of a line, and what a line never changes
pub record Reached {K : Type 0} (same : K → K → Bool) (m : Making K) (es : List (Event K)) (s : State K) : Type 0 where
  pub leads : Leads same (slots (made m)) m.mark es (view s)
  pub size_is : slots s ≡ slots (made m)
  pub mark_is : s.table.mark ≡ m.mark

module _ {K : Type 0} (same : K → K → Bool) {home : K → ℕ} (laws : SameLaws same home) where
  pub reached : (m : Making K) (es : List (Event K)) (s : State K) → Line same m es s → Reached same m es s
  reached m [] s e = subst (λ t. Reached same m [] t) (sym e) (record {
    leads = λ i. view_free (made m) i (made_keys m i);
    size_is = refl;
    mark_is = refl;
  })
  reached m (e ∷ es) t (s, l, st) =
      let r = reached m es s l in
      let f = step_follows same s t e (sound_line same m es s laws l) st in
      record {
        leads = (view s, r.leads, subst₂ (λ a b. Moves same a b (view s) (view t) (effect e)) r.size_is r.mark_is f.moves);
        size_is = f.same_size ∙ r.size_is;
        mark_is = f.same_mark ∙ r.mark_is;
      }

pub competitive : {K : Type 0} (same : K → K → Bool) (home : K → ℕ) → SameLaws same home → (m : Making K) (es : List (Event K)) (s : State K) → Line same m es s → Competitive same (slots (made m)) es
competitive same home laws m es s l cost alike pr zero low high keys theirs rival = absurd (omega arith)
competitive same home laws m es s l cost alike pr (suc g) low high keys theirs rival =
    paid_within same laws cost alike (slots (made m)) m.mark (slots (made m) - suc g + 1) g (omega arith) rival (view s) (reached same laws m es s l).leads pr
