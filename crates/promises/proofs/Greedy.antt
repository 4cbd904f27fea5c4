-- Along every line each event is answered as GreedyDual answers it, and GreedyDual holds the regions that the cache holds.
use Rattle.std.proofs.Common.{◌≡◌, ℕ, zero, suc, min, Bool, not, List, [], ◌∷◌, length, replicate, is_some, Some, None, Option, sym, refl, ap, ◌∙◌, arith}
use lib.ListN.{length-map}
use Rattle.keys.specs.Sameness.{SameLaws}
use Rattle.directories.specs.Meaning.{key_at, pairs}
use Rattle.promises.specs.State.{State, Sound, slots, held_slot, record_at, out_at}
use Rattle.promises.specs.Events.{Event}
use Rattle.promises.specs.Steps.{Step}
use Rattle.promises.specs.Lines.{Making, made, Line}
use Rattle.promises.specs.GreedyDual.{Region, Dual, region_of, dual}
use Rattle.promises.specs.Promises.{IsGreedyDual}
use Rattle.promises.proofs.Outs.{agrees, made_empty}
use Rattle.promises.proofs.Seats.{Seat, seat, region}
use Rattle.promises.proofs.Tracks.{Tracks}
use Rattle.promises.proofs.Duals.{held_found}
use Rattle.promises.proofs.Follows.{at, unknown, Follows, follows}

pairs_none : (K : Type 0) (n : ℕ) → pairs {K = K} (replicate n None) ≡ 0
pairs_none K zero = refl
pairs_none K (suc n) = pairs_none K n

-- GreedyDual holds what the cache holds: as many regions, and for each held key one region with the key, the cost and the lending of its slot
pub record Corresponds {K : Type 0} (same : K → K → Bool) (g : Dual K) (s : State K) : Type 0 where
  pub as_many : length g.regions ≡ pairs s.directory.keys
  pub found : (k : K) → is_some (region_of same k g.regions) ≡ is_some (held_slot same s k)
  pub at_slot : (k : K) (i : ℕ) → held_slot same s k ≡ Some i
      → (r : Region K) × (region_of same k g.regions ≡ Some r) × (key_at s.directory i ≡ Some r.key) × ((record_at s.table i).cost ≡ r.cost) × (out_at s.table i ≡ not (is_some r.rank))

module _ {K : Type 0} (same : K → K → Bool) (home : K → ℕ) (L : SameLaws same home)
    (sounds : (m : Making K) (es : List (Event K)) (s : State K) → Line same m es s → Sound same s) where
  starts : (m : Making K) → Tracks (made m) (slots (made m)) (dual same (slots (made m)) []) []
  starts m = record {
    size = refl;
    regions = refl;
    waiting = refl;
    ranked = tt;
    holds = record {
      seated = tt;
      once = tt;
      count = sym (pairs_none K (min (min 1024 m.order.size) m.directory.capacity));
      held = λ i k e. let z = made_empty m i in let y : ◌≡◌ {A = ℕ} 0 1 = cc in absurd (omega arith);
    };
  }

  goes_on : (m : Making K) (es : List (Event K)) (e : Event K) (s t : State K) (xs : List (Seat K)) → Line same m es s → Tracks s (slots (made m)) (dual same (slots (made m)) es) xs → Step same s e t
      → Follows same (slots (made m)) (dual same (slots (made m)) es) es e t
  goes_on m es e s t xs l h p = follows same home L s e t (slots (made m)) (dual same (slots (made m)) es) xs es (sounds m es s l) (agrees same home L sounds m es s l) h p

  -- the seats of the state that a line leads to
  pub tracks_line : (m : Making K) (es : List (Event K)) (s : State K) → Line same m es s → (xs : List (Seat K)) × Tracks s (slots (made m)) (dual same (slots (made m)) es) xs
  tracks_line m [] s l = ([], at l (starts m))
  tracks_line m (e ∷ es) t (s, l, p) =
      let r = tracks_line m es s l in
      let f = goes_on m es e s t r.0 l r.1 p in
      (f.seats, f.tracks)

-- the answers of every event on a line are GreedyDual's
pub greedy_dual : {K : Type 0} (same : K → K → Bool) (home : K → ℕ) → SameLaws same home → ((m : Making K) (es : List (Event K)) (s : State K) → Line same m es s → Sound same s)
    → (m : Making K) (es : List (Event K)) (s : State K) → Line same m es s → IsGreedyDual same (slots (made m)) es
greedy_dual same home L sounds m [] s l = tt
greedy_dual same home L sounds m (e ∷ es) t (s, l, p) =
    let r = tracks_line same home L sounds m es s l in
    ((goes_on same home L sounds m es e s t r.0 l r.1 p).answer, greedy_dual same home L sounds m es s l)

-- and its regions are the cache's
pub corresponds : {K : Type 0} (same : K → K → Bool) (home : K → ℕ) → SameLaws same home → ((m : Making K) (es : List (Event K)) (s : State K) → Line same m es s → Sound same s)
    → (m : Making K) (es : List (Event K)) (s : State K) → Line same m es s → Corresponds same (dual same (slots (made m)) es) s
corresponds {K} same home L sounds m es s l = of (tracks_line same home L sounds m es s l).0 (tracks_line same home L sounds m es s l).1
  where
    n : ℕ
    n = slots (made m)

    g : Dual K
    g = dual same n es

    of : (xs : List (Seat K)) → Tracks s n g xs → Corresponds same g s
    of xs h = record {
      as_many = ap length h.regions ∙ length-map xs region ∙ h.holds.count;
      found = λ k. by k (held_slot same s k) refl;
      at_slot = λ k i e. let f = held_found same s n g xs k i L (sounds m es s l) h e in (region (seat i f.key f.cost f.rank), f.region_is, f.fits.key, f.fits.cost, f.fits.out);
    }
      where
        by : (k : K) (o : Option ℕ) → held_slot same s k ≡ o → is_some (region_of same k g.regions) ≡ is_some o
        by k None e = ap is_some (unknown same s n g xs k h e)
        by k (Some i) e = ap is_some (held_found same s n g xs k i L (sounds m es s l) h e).region_is
