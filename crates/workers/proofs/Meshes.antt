-- Edge collapse, and triangles read from bytes.
use Rattle.std.proofs.Common.{◌≡◌, ℕ, zero, suc, ◌*◌, Bool, true, false, cond, eqb, List, [], ◌∷◌, length, get_or, map, refl, ap, arith}
use Rattle.std.proofs.lemmas.Bool.{ne_eqb, or_from}
use Rattle.std.proofs.lemmas.List.Elements.{All-filter, All-map}
use Rattle.std.proofs.lemmas.List.Folds.{list_any_none}
use Rattle.std.specs.List.{list_any}
use Rattle.std.specs.Simd.{first_chunks}
use Rattle.workers.specs.declared.triangle.Edge.{Edge}
use Rattle.workers.specs.declared.triangle.Triangle.{Triangle}
use Rattle.workers.specs.Meshes.{points_to, corner_after, triangle_after, collapsed, bytes_of}

-- no corner goes to the vertex that goes
corner_free : (e : Edge) (v : ℕ) → (e.keep ≡ e.remove → ⊥) → eqb (corner_after e v) e.remove ≡ false
corner_free e v ne = by_case (eqb v e.remove) refl
  where
    by_case : (b : Bool) → eqb v e.remove ≡ b → eqb (cond b e.keep v) e.remove ≡ false
    by_case true h = ne_eqb e.keep e.remove ne
    by_case false h = h

moved_free : (e : Edge) (t : Triangle) → (e.keep ≡ e.remove → ⊥) → points_to e.remove (triangle_after e t) ≡ false
moved_free e t ne = or_from _ _ (corner_free e t.a ne) (or_from _ _ (corner_free e t.b ne) (corner_free e t.c ne))

-- no triangle points at the vertex that went
pub collapsed_free : (e : Edge) (ts : List Triangle) → (e.keep ≡ e.remove → ⊥) → list_any (points_to e.remove) (collapsed e ts) ≡ false
collapsed_free e ts ne =
    let free = λ (t : Triangle). points_to e.remove t ≡ false in
    list_any_none (points_to e.remove) (collapsed e ts) (All-filter _ free (map (triangle_after e) ts) (All-map free (triangle_after e) ts (λ k d _. moved_free e (get_or ts k d) ne)))

-- the triangle of three bytes
abbrev pub triangle_of : List ℕ → Triangle
triangle_of bs = record { a = get_or bs 0 0; b = get_or bs 1 0; c = get_or bs 2 0 }

pub bytes_read : (k : ℕ) (bs : List ℕ) → length bs ≡ 3 * k → bytes_of (map triangle_of (first_chunks 3 k bs)) ≡ bs
bytes_read zero [] e = refl
bytes_read zero (x ∷ bs) e = absurd (omega arith)
bytes_read (suc k) [] e = absurd (omega arith)
bytes_read (suc k) (x ∷ []) e = absurd (omega arith)
bytes_read (suc k) (x ∷ (y ∷ [])) e = absurd (omega arith)
bytes_read (suc k) (x ∷ (y ∷ (z ∷ bs))) e = ap (λ (l : List ℕ). x ∷ (y ∷ (z ∷ l))) (bytes_read k bs (omega arith))
