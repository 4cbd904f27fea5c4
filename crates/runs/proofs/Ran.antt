-- A whole run keeps its promise.
use Rattle.std.proofs.Common.{◌≡◌, ℕ, List, [], ◌++◌, map, length, replicate, sym, refl, ap, ◌∙◌, subst, append_assoc, append-nil, arith}
use Rattle.keys.specs.declared.Key.{Ghosts as OfKey}
use Rattle.orders.specs.declared.Order.{Ghosts as OfOrder}
use Rattle.directories.specs.declared.directory.Directory.{Ghosts as OfDirectory}
use Rattle.promises.specs.State.{State}
use Rattle.promises.specs.Events.{Event}
use Rattle.promises.specs.Lines.{Making, Line, made}
use Rattle.promises.specs.Promises.{FromMaking}
use Rattle.cache.specs.Whole.{state_of, making}
use Rattle.cache.specs.declared.cache.Cache.{Cache}
use Rattle.cache.specs.declared.lease.Lease.{Lease}
use Rattle.runs.specs.declared.asks.Ask.{Ask}
use Rattle.runs.specs.declared.asks.Ask.TheVariants.{GiveBack as AskGive}
use Rattle.runs.specs.declared.asks.Happening.{Happening}
use Rattle.runs.specs.Asks.{Hand, hand, shown}
use Rattle.runs.specs.Runs.{Asked, noted, Goes, tries, Scene, scene, Ran}
use Rattle.runs.proofs.Chains.{line_all, Chained, chain_all}
use Rattle.runs.proofs.Covers.{Covers, covers_all}
use Rattle.runs.proofs.Closes.{closes}
use Rattle.runs.proofs.Lives.{Live, live_all, empties}

covers_none : {K : Type 0} (ls : List Lease) → Covers {K = K} [] ls
covers_none ls t k z = let y : ◌≡◌ {A = ℕ} 0 1 = cc in absurd (omega arith)

module _ {K D O : Type 0} (k : OfKey K) (d : OfDirectory D K) (o : OfOrder O) where
  pub ran : (mark chunk : ℕ) (asks : List (Ask K)) (before : Scene K D O) (h : Hand) (x : D) (y : O) (told middle-told : List (Happening K)) (s : State K) (mid : Hand) (c c' : Cache K D O k d o)
      → FromMaking k.sameness (making d o before.directory before.order mark chunk) → state_of c ≡ made (making d o before.directory before.order mark chunk)
      → Goes k.sameness before.told (state_of c) before.hand asks middle-told s mid → Goes k.sameness middle-told s mid (tries mid.leases) told (state_of c') h
      → x ≡ c'.directory → y ≡ c'.order
      → Ran k.sameness d o mark chunk asks before (scene x y h told)
  ran mark chunk asks before h x y told middle-told s mid c c' every e r q p v =
      let m : Making K = making d o before.directory before.order mark chunk in
      let es : List (Event K) = noted r.calls [] in
      let fs : List (Event K) = noted q.calls es in
      let l : Line k.sameness m es s = line_all k.sameness m (state_of c) s r.calls [] r.passes e in
      let whole : Line k.sameness m fs (state_of c') = line_all k.sameness m s (state_of c') q.calls es q.passes l in
      let w : Covers es mid.leases = covers_all before.hand mid asks r.calls [] r.asked (covers_none before.hand.leases) in
      let u : Chained k.sameness before.hand.slab es mid = chain_all k.sameness before.hand.slab before.hand mid asks r.calls [] r.asked (record { dutiful = tt; left = refl }) in
      let z : Chained k.sameness before.hand.slab fs h = chain_all k.sameness before.hand.slab mid h (tries mid.leases) q.calls es q.asked u in
      let a : Asked (hand (mid.leases ++ []) mid.slab) (replicate (length mid.leases) (AskGive 0)) q.calls h
      = subst (λ (f : List Lease). Asked (hand f mid.slab) (tries mid.leases) q.calls h) (sym (append-nil mid.leases)) q.asked in
      let b = closes k.sameness m every mid.leases [] mid.slab q.calls es s (state_of c') h l w tt a q.passes in
      let left : before.hand.leases ≡ [] → h.leases ≡ [] = λ n.
      let g : Live {K = K} [] before.hand.leases = subst (λ (ls : List Lease). Live {K = K} [] ls) (sym n) tt in
      let i : Live es mid.leases = live_all k.sameness m every before.hand mid asks r.calls [] (state_of c) s e r.asked r.passes g in
      empties k.sameness m every mid.leases mid.slab q.calls es s (state_of c') h l i q.asked q.passes in
      let f = every fs (state_of c') whole in
      record {
        calls = r.calls;
        backs = q.calls;
        middle = mid;
        asked = r.asked;
        tried = q.asked;
        told = q.told ∙ (ap (λ (g : List (Happening K)). g ++ map shown q.calls) r.told ∙ append_assoc before.told (map shown r.calls) (map shown q.calls));
        events = fs;
        of_calls = refl;
        last = state_of c';
        line = whole;
        promised = f;
        dutiful = z.dutiful;
        bytes_kept = f.bytes_kept z.dutiful;
        last_value_answered = f.last_value_answered z.dutiful;
        slab_after = z.left;
        none_out = b.0;
        unknown = b.1;
        none_left = left;
        directory_after = ap (λ (g : D). d.meaning g) p;
        order_after = ap (λ (g : O). o.meaning g) v;
      }
