-- Triangles, edge collapse, and regions as bytes.
use Rattle.std.specs.Prelude.{◌≡◌, ℕ, ◌%◌, ◌<◌, Bool, true, false, cond, not, ◌&&◌, ◌||◌, List, [], ◌∷◌, length, map, filter, Some, None, Ok, Err, Option, Result, ◌==◌, nat_le, slice_index}
use Rattle.std.specs.List.{list_any, flat_map}
use Rattle.workers.specs.declared.triangle.Edge.{Edge}
use Rattle.workers.specs.declared.triangle.Triangle.{Triangle}
use Rattle.workers.specs.declared.region.Region.{Region}
use Rattle.workers.specs.declared.region.NoEdge.{NoEdge}
use Rattle.workers.specs.Few.{items_of}

abbrev pub triangles_of : Region → List Triangle
triangles_of r = items_of r.triangles

abbrev pub points_to : ℕ → Triangle → Bool
points_to v t = t.a == v || (t.b == v || t.c == v)

abbrev pub has_edge : Edge → Triangle → Bool
has_edge e t = points_to e.keep t && points_to e.remove t

-- two vertices are the ends of an edge: some triangle has both for corners
abbrev pub edge_of : Edge → List Triangle → Bool
edge_of e ts = not (e.keep == e.remove) && list_any (has_edge e) ts

-- two corners are equal
abbrev pub flat_triangle : Triangle → Bool
flat_triangle t = t.a == t.b || (t.b == t.c || t.a == t.c)

-- one vertex in the place of another
abbrev pub corner_after : Edge → ℕ → ℕ
corner_after e v = cond (v == e.remove) e.keep v

abbrev pub triangle_after : Edge → Triangle → Triangle
triangle_after e t = record { a = corner_after e t.a; b = corner_after e t.b; c = corner_after e t.c }

-- one vertex in the place of another in every triangle; those that then have two equal corners are left out
abbrev pub collapsed : Edge → List Triangle → List Triangle
collapsed e ts = filter (λ t. not (flat_triangle t)) (map (triangle_after e) ts)

-- An edge collapse fails exactly if there is no such edge. Else its result is the triangles, collapsed, and none points at the vertex that went.
abbrev pub Collapses : List Triangle → Edge → Result Region NoEdge → Type 0
Collapses ts e (Err _) = edge_of e ts ≡ false
Collapses ts e (Ok r) = (edge_of e ts ≡ true) × (triangles_of r ≡ collapsed e ts) × (list_any (points_to e.remove) (triangles_of r) ≡ false)

abbrev pub corners_of : Triangle → List ℕ
corners_of t = t.a ∷ (t.b ∷ (t.c ∷ []))

-- the bytes of triangles, three to each
abbrev pub bytes_of : List Triangle → List ℕ
bytes_of ts = flat_map corners_of ts

-- at most eight triangles, and no bytes over
abbrev pub readable : List ℕ → Bool
readable bs = nat_le (length bs) 24 && length bs % 3 == 0

-- the region that bytes stand for, if they do
abbrev pub Reads : List ℕ → Option Region → Type 0
Reads bs None = readable bs ≡ false
Reads bs (Some r) = (readable bs ≡ true) × (bytes_of (triangles_of r) ≡ bs)

-- a vertex of the list at which a triangle points, if there is one
abbrev pub Pointed : List Triangle → List ℕ → Option ℕ → Type 0
Pointed ts vs None = (i : ℕ) → i < length vs → list_any (points_to (slice_index vs i)) ts ≡ false
Pointed ts vs (Some v) = list_any (points_to v) ts ≡ true
