-- Reads and writes of a row of cells, column by column.
use Rattle.std.proofs.Common.{◌≡◌, ℕ, ◌<◌, List, map, length, get_or, set, Option, sym, ap, ◌∙◌, drop-set-lt}
use Rattle.std.proofs.lemmas.List.{get_or-map, map-set, set-get_or}
use Rattle.directories.specs.declared.cells.Cell.{Cell}
use Rattle.directories.specs.Cells.{keys_of, heads_of, nexts_of, frees_of, Wrote}

module _ {A B : Type 0} (f : A → B) where
  pub read : (xs : List A) (i : ℕ) (d : A) (e : B) → i < length xs → f (get_or xs i d) ≡ get_or (map f xs) i e
  read xs i d e h = sym (get_or-map f xs i d e h)

  -- a column that a write leaves as it was
  pub same : (xs : List A) (i : ℕ) (d : A) → set (map f xs) i (f (get_or xs i d)) ≡ map f xs
  same xs i d = sym (map-set f xs i (get_or xs i d)) ∙ ap (map f) (set-get_or xs i d)

-- the columns after a write of one cell
pub wrote : {K : Type 0} (cs : List (Cell K)) (i : ℕ) (c : Cell K) {ks : List (Option K)} {hs ns fs : List ℕ} →
    set (keys_of cs) i c.key ≡ ks → set (heads_of cs) i c.head ≡ hs → set (nexts_of cs) i c.next ≡ ns → set (frees_of cs) i c.free ≡ fs →
    Wrote i cs (set cs i c) ks hs ns fs
wrote {K} cs i c ek eh en ef = record {
  keys = map-set (λ (x : Cell K). x.key) cs i c ∙ ek;
  heads = map-set (λ (x : Cell K). x.head) cs i c ∙ eh;
  nexts = map-set (λ (x : Cell K). x.next) cs i c ∙ en;
  frees = map-set (λ (x : Cell K). x.free) cs i c ∙ ef;
  rest = λ m l. drop-set-lt m cs i c l;
}
