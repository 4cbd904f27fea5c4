-- How the calls of an order come to what their contracts say.
use Rattle.std.proofs.Common.{◌≡◌, ℕ, ◌<◌, ◌≤◌, true, false, not, ◌&&◌, ltb, leb, ap, arith}
use Rattle.std.proofs.lemmas.Bool.{and_from, and_left, and_right, lt-ltb, le-ltb, le-leb, lt-leb, not_from_true, not_from_false, cond-true, cond-false}
use Rattle.orders.specs.Meaning.{OrderMeaning, takes, placed, withdrawn, holding, joined, waits}
use Rattle.orders.specs.Flat.{entry}
use Rattle.orders.specs.Flats.{without_absent}

module _ (m : OrderMeaning) (s c : ℕ) where
  pub takes_yes : s < m.size → waits s m.waiting ≡ false → 0 < c → c ≤ m.span → takes m s c ≡ true
  takes_yes a b d e =
      and_from (ltb s m.size) (not (waits s m.waiting) && (ltb 0 c && leb c m.span)) (lt-ltb s m.size a)
      (and_from (not (waits s m.waiting)) (ltb 0 c && leb c m.span) (not_from_false (waits s m.waiting) b)
      (and_from (ltb 0 c) (leb c m.span) (lt-ltb 0 c d) (le-leb c m.span e)))

  pub no_size : m.size ≤ s → takes m s c ≡ false
  no_size a = and_left (ltb s m.size) (not (waits s m.waiting) && (ltb 0 c && leb c m.span)) (le-ltb s m.size a)

  pub no_room : waits s m.waiting ≡ true → takes m s c ≡ false
  no_room b = and_right (ltb s m.size) (not (waits s m.waiting) && (ltb 0 c && leb c m.span))
      (and_left (not (waits s m.waiting)) (ltb 0 c && leb c m.span) (not_from_true (waits s m.waiting) b))

  no_credit : (ltb 0 c && leb c m.span) ≡ false → takes m s c ≡ false
  no_credit b = and_right (ltb s m.size) (not (waits s m.waiting) && (ltb 0 c && leb c m.span))
      (and_right (not (waits s m.waiting)) (ltb 0 c && leb c m.span) b)

  pub no_zero : c ≡ 0 → takes m s c ≡ false
  no_zero e = no_credit (and_left (ltb 0 c) (leb c m.span) (le-ltb 0 c (omega arith)))

  pub no_span : m.span < c → takes m s c ≡ false
  no_span e = no_credit (and_right (ltb 0 c) (leb c m.span) (lt-leb c m.span e))

  pub placed_yes : takes m s c ≡ true → placed m s c ≡ holding m (joined (entry s c) m.waiting)
  placed_yes e = cond-true (takes m s c) (holding m (joined (entry s c) m.waiting)) m e

  pub placed_no : takes m s c ≡ false → placed m s c ≡ m
  placed_no e = cond-false (takes m s c) (holding m (joined (entry s c) m.waiting)) m e

pub withdrawn_no : (m : OrderMeaning) (s : ℕ) → waits s m.waiting ≡ false → withdrawn m s ≡ m
withdrawn_no m s e = ap (holding m) (without_absent s m.waiting e)
