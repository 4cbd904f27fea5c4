-- The seats of a state, and GreedyDual over them: what a touch, a lending, a drop and an eviction leave.
use Rattle.std.proofs.Common.{◌≡◌, ℕ, zero, suc, ◌+◌, ◌-◌, ◌<◌, ◌≤◌, Bool, true, false, not, eqb, List, [], ◌∷◌, ◌++◌, map, length, get_or, set, is_some, Some, None, Option, sym, refl, ap, ◌∙◌, subst, ⊎_elim, arith, length-set}
use mathlib.Core.List.{map-append}
use Rattle.std.specs.Option.{option_map}
use Rattle.std.specs.List.{AllByRecursion}
use Rattle.std.proofs.ByRecursion.{All-weaker, All-append}
use Rattle.std.proofs.lemmas.List.{length_push}
use Rattle.std.proofs.lemmas.Bool.{cases_eq, cases_Bool, eq-eqb, ne_eqb, cond-true, cond-false, or_left, or_right}
use Rattle.keys.specs.Sameness.{SameLaws}
use Rattle.orders.specs.declared.Entry.{Entry}
use Rattle.orders.specs.declared.Expelled.{Expelled}
use Rattle.orders.specs.Meaning.{joined, waits, without, fallen, leaver, Apart}
use Rattle.directories.specs.Meaning.{DirectoryMeaning, Distinct, key_at, pairs, holds}
use Rattle.promises.specs.declared.records.Record.{Record}
use Rattle.promises.specs.State.{State, slots, held_slot, record_at, is_out, out_at}
use Rattle.promises.specs.Steps.{evicted}
use Rattle.promises.specs.GreedyDual.{Region, Dual, others, least, touch, leave, unranked, key_of}
use Rattle.promises.proofs.Seeks.{absent, key_freed, key_freed_other}
use Rattle.promises.proofs.Merges.{entry, merged, merged_push, merged_waits, rest_without, merged_without, merged_fallen}
use Rattle.promises.proofs.Seats.{Seat, seat, region, queue, sits, Once, sans, lending, Ranked, all_sans, sits_sans, once_sans, length_sans, sits_push, once_push, queue_sans, queue_push, queue_fallen, queue_over, queue_idle, sits_lending, once_lending, length_lending, all_lending, queue_lending}
use Rattle.promises.proofs.Marks.{Marks, Differs, others_sans}
use Rattle.promises.proofs.Leads.{First, lead, lead_has, lead_ranked, region_first, least_lead, expels, leaver_lead}

-- ---- how many are in

pub pairs_freed : {K : Type 0} (ks : List (Option K)) (i : ℕ) (a : K) → get_or ks i None ≡ Some a → suc (pairs (set ks i None)) ≡ pairs ks
pairs_freed [] i a e = let z : ◌≡◌ {A = ℕ} 0 1 = cc in absurd (omega arith)
pairs_freed (None ∷ ks) zero a e = let z : ◌≡◌ {A = ℕ} 0 1 = cc in absurd (omega arith)
pairs_freed (Some k ∷ ks) zero a e = refl
pairs_freed (None ∷ ks) (suc i) a e = pairs_freed ks i a e
pairs_freed (Some k ∷ ks) (suc i) a e = ap suc (pairs_freed ks i a e)

pub pairs_entered : {K : Type 0} (ks : List (Option K)) (i : ℕ) (k : K) → i < length ks → get_or ks i None ≡ None → pairs (set ks i (Some k)) ≡ suc (pairs ks)
pairs_entered [] i k h e = absurd (omega arith)
pairs_entered (None ∷ ks) zero k h e = refl
pairs_entered (Some l ∷ ks) zero k h e = let z : ◌≡◌ {A = ℕ} 0 1 = cc in absurd (omega arith)
pairs_entered (None ∷ ks) (suc i) k h e = pairs_entered ks i k (omega arith) e
pairs_entered (Some l ∷ ks) (suc i) k h e = ap suc (pairs_entered ks i k (omega arith) e)

-- what the state has at a seat
pub record Fits {K : Type 0} (s : State K) (i : ℕ) (k : K) (c : ℕ) (r : Option ℕ) : Type 0 where
  pub key : key_at s.directory i ≡ Some k
  pub cost : (record_at s.table i).cost ≡ c
  pub out : out_at s.table i ≡ not (is_some r)

module _ {K : Type 0} where
  abbrev pub Seated : State K → Seat K → Type 0
  Seated s (seat i k c r) = Fits s i k c r

  -- the seats are the slots that have a key
  pub record Holds (s : State K) (xs : List (Seat K)) : Type 0 where
    pub seated : AllByRecursion (Seated s) xs
    pub once : Once xs
    pub count : length xs ≡ pairs s.directory.keys
    pub held : (i : ℕ) (k : K) → key_at s.directory i ≡ Some k → sits i xs ≡ true

  -- the seats carry the state, and GreedyDual's regions and ranks
  pub record Tracks (s : State K) (n : ℕ) (g : Dual K) (xs : List (Seat K)) : Type 0 where
    pub size : slots s ≡ n
    pub regions : g.regions ≡ map region xs
    pub waiting : s.order.waiting ≡ merged [] (queue g.inflation xs)
    pub ranked : AllByRecursion (Ranked g.inflation) xs
    pub holds : Holds s xs

  -- only the slot i differs
  pub record Elsewhere (s t : State K) (i : ℕ) : Type 0 where
    pub keys : (j : ℕ) → (j ≡ i → ⊥) → key_at t.directory j ≡ key_at s.directory j
    pub kept : (j : ℕ) → (j ≡ i → ⊥) → record_at t.table j ≡ record_at s.table j

  still : (s t : State K) (i : ℕ) → Elsewhere s t i → (j : ℕ) (k : K) (c : ℕ) (r : Option ℕ) → (j ≡ i → ⊥) → Fits s j k c r → Fits t j k c r
  still s t i e j k c r n f =
      let a = e.keys j n in
      let b = e.kept j n in
      record { key = a ∙ f.key; cost = ap (λ (x : Record). x.cost) b ∙ f.cost; out = ap (λ (x : Record). is_out x.lending) b ∙ f.out }

  -- ---- the seats after a slot comes, goes or is lent

  some_none : (o : Option K) (a : K) → o ≡ Some a → o ≡ None → ⊥
  some_none o a e f = let z : ◌≡◌ {A = ℕ} 0 1 = cc in omega arith

  pub holds_gone : (s t : State K) (i : ℕ) (a : K) (xs : List (Seat K)) → Holds s xs → Elsewhere s t i → key_at s.directory i ≡ Some a → key_at t.directory i ≡ None
      → suc (pairs t.directory.keys) ≡ pairs s.directory.keys → Holds t (sans i xs)
  holds_gone s t i a xs h e was none p = record {
    seated = all_sans (Seated s) (Seated t) i (still s t i e) xs h.seated;
    once = once_sans i xs h.once;
    count = let z = length_sans i xs h.once (h.held i a was) in let y = h.count in omega arith;
    held = λ j k q. ⊎_elim
        (λ z. absurd (some_none (key_at t.directory i) k (subst (λ (x : ℕ). key_at t.directory x ≡ Some k) z q) none))
        (λ z. sits_sans i j xs ∙ cond-false (eqb j i) false (sits j xs) (ne_eqb j i z) ∙ h.held j k (sym (e.keys j z) ∙ q))
        (cases_eq j i);
  }

  gone_absent : (i : ℕ) (xs : List (Seat K)) → sits i (sans i xs) ≡ false
  gone_absent i xs = sits_sans i i xs ∙ cond-true (eqb i i) false (sits i xs) (eq-eqb i i refl)

  pub holds_come : (s t : State K) (i : ℕ) (k : K) (c r : ℕ) (xs : List (Seat K)) → Holds s xs → Elsewhere s t i → Fits t i k c (Some r)
      → pairs t.directory.keys ≡ suc (length (sans i xs)) → Holds t (sans i xs ++ seat i k c (Some r) ∷ [])
  holds_come s t i k c r xs h e f p = record {
    seated = All-append (Seated t) (sans i xs) (seat i k c (Some r) ∷ []) (all_sans (Seated s) (Seated t) i (still s t i e) xs h.seated) (f, tt);
    once = once_push i k c (Some r) (sans i xs) (once_sans i xs h.once) (gone_absent i xs);
    count = let z = length_push (sans i xs) (seat i k c (Some r)) in omega arith;
    held = λ j l q. sits_push j i k c (Some r) (sans i xs) ∙ ⊎_elim
        (λ z. or_left (eqb i j) (sits j (sans i xs)) (eq-eqb i j (sym z)))
        (λ z. or_right (eqb i j) (sits j (sans i xs)) (sits_sans i j xs ∙ cond-false (eqb j i) false (sits j xs) (ne_eqb j i z) ∙ h.held j l (sym (e.keys j z) ∙ q)))
        (cases_eq j i);
  }

  pub holds_lent : (s t : State K) (i : ℕ) (xs : List (Seat K)) → Holds s xs → Elsewhere s t i → t.directory ≡ s.directory
      → (record_at t.table i).cost ≡ (record_at s.table i).cost → out_at t.table i ≡ true → Holds t (lending i xs)
  holds_lent s t i xs h e d c o = record {
    seated = all_lending (Seated s) (Seated t) i (still s t i e)
        (λ k b r f. record { key = ap (λ (x : DirectoryMeaning K). key_at x i) d ∙ f.key; cost = c ∙ f.cost; out = o }) xs h.once h.seated;
    once = once_lending i xs h.once;
    count = length_lending i xs ∙ h.count ∙ ap (λ (x : DirectoryMeaning K). pairs x.keys) (sym d);
    held = λ j k q. sits_lending i j xs ∙ h.held j k (ap (λ (x : DirectoryMeaning K). key_at x j) (sym d) ∙ q);
  }

  pub holds_same : (s t : State K) (xs : List (Seat K)) → Holds s xs → t.directory ≡ s.directory
      → ((j : ℕ) → (record_at t.table j).cost ≡ (record_at s.table j).cost) → ((j : ℕ) → out_at t.table j ≡ out_at s.table j) → Holds t xs
  holds_same s t xs h d c o = record {
    seated = All-weaker (Seated s) (Seated t) each xs h.seated;
    once = h.once;
    count = h.count ∙ ap (λ (x : DirectoryMeaning K). pairs x.keys) (sym d);
    held = λ j k q. h.held j k (ap (λ (x : DirectoryMeaning K). key_at x j) (sym d) ∙ q);
  }
    where
      each : (x : Seat K) → Seated s x → Seated t x
      each (seat i k b r) f = record { key = ap (λ (x : DirectoryMeaning K). key_at x i) d ∙ f.key; cost = c i ∙ f.cost; out = o i ∙ f.out }

-- ---- keys against slots

module _ {K : Type 0} (same : K → K → Bool) where
  -- a key that stands at a slot marks it
  marks_seat : {home : K → ℕ} (s : State K) → SameLaws same home → Distinct same s.directory → (i : ℕ) (a k : K) → key_at s.directory i ≡ Some a → same a k ≡ true
      → (x : Seat K) → Seated s x → Marks same k i x
  unfolding Distinct
  marks_seat s L D i a k e m (seat j l c r) f = ⊎_elim
      (λ p. let q : key_at s.directory i ≡ Some l = subst (λ (n : ℕ). key_at s.directory n ≡ Some l) p f.key in
      let z : l ≡ a = cc in ap (λ (x : K). same x k) z ∙ m ∙ sym (eq-eqb j i p))
      (λ p. ⊎_elim
      (λ t. absurd (p (D j i l a f.key e (L.transitive l k a t (L.symmetric a k m)))))
      (λ t. t ∙ sym (ne_eqb j i p))
      (cases_Bool (same l k)))
      (cases_eq j i)

  pub marks : {home : K → ℕ} (s : State K) (xs : List (Seat K)) → SameLaws same home → Distinct same s.directory → AllByRecursion (Seated s) xs
      → (i : ℕ) (a k : K) → key_at s.directory i ≡ Some a → same a k ≡ true → AllByRecursion (Marks same k i) xs
  marks s xs L D f i a k e m = All-weaker (Seated s) (Marks same k i) (marks_seat s L D i a k e m) xs f

  -- a key that is not held differs from each
  differs_seat : (s : State K) (k : K) → held_slot same s k ≡ None → (x : Seat K) → Seated s x → Differs same k x
  differs_seat s k e (seat j l c r) f = sym (ap (holds same k) f.key) ∙ absent same k s.directory.keys j e

  pub differs : (s : State K) (xs : List (Seat K)) (k : K) → held_slot same s k ≡ None → AllByRecursion (Seated s) xs → AllByRecursion (Differs same k) xs
  differs s xs k e f = All-weaker (Seated s) (Differs same k) (differs_seat s k e) xs f

  -- ---- GreedyDual over the seats

  pub tracks_touch : (s t : State K) (n : ℕ) (g : Dual K) (xs : List (Seat K)) (i : ℕ) (k : K) (c : ℕ) → Tracks s n g xs → Elsewhere s t i → slots t ≡ slots s
      → t.order.waiting ≡ joined (entry i c) (without i s.order.waiting) → Fits t i k c (Some (g.inflation + c)) → pairs t.directory.keys ≡ suc (length (sans i xs))
      → others same k g.regions ≡ map region (sans i xs) → Tracks t n (touch same g k c) (sans i xs ++ seat i k c (Some (g.inflation + c)) ∷ [])
  tracks_touch s t n g xs i k c h e z w f p o =
      let l : ℕ = g.inflation in
      let x : Seat K = seat i k c (Some (l + c)) in
      let d : (l + c) - l ≡ c = omega arith in
      record {
        size = z ∙ h.size;
        regions = ap (λ (rs : List (Region K)). rs ++ region x ∷ []) o ∙ sym (map-append region (sans i xs) (x ∷ []));
        waiting = w ∙ ap (λ (es : List Entry). joined (entry i c) (without i es)) h.waiting
            ∙ ap (joined (entry i c)) (merged_without i [] (queue l xs) tt ∙ ap (merged []) (sym (queue_sans l i xs)))
            ∙ sym (merged_push [] (queue l (sans i xs)) (entry i c))
            ∙ ap (λ (m : ℕ). merged [] (queue l (sans i xs) ++ entry i m ∷ [])) (sym d)
            ∙ ap (merged []) (sym (queue_push l i k c (l + c) (sans i xs)));
        ranked = All-append (Ranked l) (sans i xs) (x ∷ []) (all_sans (Ranked l) (Ranked l) i (λ j a b r m q. q) xs h.ranked) (omega arith, tt);
        holds = holds_come s t i k c (l + c) xs h.holds e f p;
      }

  pub tracks_gone : (s t : State K) (n : ℕ) (g : Dual K) (xs : List (Seat K)) (i : ℕ) (a k : K) → Tracks s n g xs → Elsewhere s t i → slots t ≡ slots s
      → t.order.waiting ≡ without i s.order.waiting → key_at s.directory i ≡ Some a → key_at t.directory i ≡ None → suc (pairs t.directory.keys) ≡ pairs s.directory.keys
      → others same k g.regions ≡ map region (sans i xs) → Tracks t n (record { inflation = g.inflation; regions = others same k g.regions }) (sans i xs)
  tracks_gone s t n g xs i a k h e z w was none p o =
      let l : ℕ = g.inflation in
      record {
        size = z ∙ h.size;
        regions = o;
        waiting = w ∙ ap (without i) h.waiting ∙ merged_without i [] (queue l xs) tt ∙ ap (merged []) (sym (queue_sans l i xs));
        ranked = all_sans (Ranked l) (Ranked l) i (λ j a b r m q. q) xs h.ranked;
        holds = holds_gone s t i a xs h.holds e was none p;
      }

  pub tracks_lent : (s t : State K) (n : ℕ) (g : Dual K) (xs : List (Seat K)) (i : ℕ) (k : K) → Tracks s n g xs → Elsewhere s t i → t.directory ≡ s.directory
      → t.order.waiting ≡ without i s.order.waiting → (record_at t.table i).cost ≡ (record_at s.table i).cost → out_at t.table i ≡ true
      → unranked same k g.regions ≡ map region (lending i xs) → Tracks t n (record { inflation = g.inflation; regions = unranked same k g.regions }) (lending i xs)
  tracks_lent s t n g xs i k h e d w c o u =
      let l : ℕ = g.inflation in
      record {
        size = ap (λ (x : DirectoryMeaning K). length x.keys) d ∙ h.size;
        regions = u;
        waiting = w ∙ ap (without i) h.waiting ∙ merged_without i [] (queue l xs) tt ∙ ap (merged []) (sym (queue_lending l i xs h.holds.once));
        ranked = all_lending (Ranked l) (Ranked l) i (λ j a b r m q. q) (λ a b r q. tt) xs h.holds.once h.ranked;
        holds = holds_lent s t i xs h.holds e d c o;
      }

  -- a slot without a key does not wait
  pub tracks_idle : (s : State K) (n : ℕ) (g : Dual K) (xs : List (Seat K)) (i : ℕ) → Tracks s n g xs → sits i xs ≡ false → waits i s.order.waiting ≡ false
  tracks_idle s n g xs i h u = ap (waits i) h.waiting ∙ merged_waits i [] (queue g.inflation xs) ∙ queue_idle g.inflation i xs u

  -- ---- an eviction

  pub record Leaves (s : State K) (n : ℕ) (g : Dual K) (xs : List (Seat K)) (f : Expelled) (left : K) : Type 0 where
    pub victim : key_of same (least same g.regions) ≡ Some left
    pub after : Tracks (evicted s f.slot) n (leave same g (least same g.regions)) (sans f.slot xs)

  leaves_first : {home : K → ℕ} (s : State K) (n : ℕ) (g : Dual K) (xs : List (Seat K)) (x : First K) (left : K) → SameLaws same home → Distinct same s.directory → Apart s.order.waiting
      → Tracks s n g xs → lead xs ≡ Some x → leaver s.order.waiting ≡ Some (expels g.inflation x) → key_at s.directory x.slot ≡ Some left → Leaves s n g xs (expels g.inflation x) left
  leaves_first s n g xs x left L D a h p e key =
      let l : ℕ = g.inflation in
      let i : ℕ = x.slot in
      let d : ℕ = x.rank - l in
      let f : Fits s i x.key x.cost (Some x.rank) = lead_has (Seated s) xs h.holds.seated x p in
      let low : l ≤ x.rank = lead_has (Ranked l) xs h.ranked x p in
      let fk : key_at s.directory i ≡ Some x.key = f.key in
      let same_key : x.key ≡ left = cc in
      let chosen : least same g.regions ≡ Some (region_first x) = ap (least same) h.regions ∙ least_lead same xs ∙ ap (option_map region_first) p in
      let ranks : AllByRecursion (Ranked x.rank) (sans i xs) = all_sans (Ranked x.rank) (Ranked x.rank) i (λ j b c r m q. q) xs (lead_ranked xs x p) in
      record {
        victim = ap (key_of same) chosen ∙ ap (λ (k : K). Some k) same_key;
        after = subst (λ (o : Option (Region K)). Tracks (evicted s i) n (leave same g o) (sans i xs)) (sym chosen) (record {
          size = length-set s.directory.keys i None ∙ h.size;
          regions = ap (others same x.key) h.regions ∙ others_sans same x.key i xs (marks s xs L D h.holds.seated i x.key x.key fk (L.reflexive x.key));
          waiting = rest_without s.order.waiting (expels l x) a e
              ∙ ap (λ (es : List Entry). fallen d (without i es)) h.waiting
              ∙ ap (fallen d) (merged_without i [] (queue l xs) tt ∙ ap (merged []) (sym (queue_sans l i xs)))
              ∙ merged_fallen d [] (queue l (sans i xs)) tt (queue_over l x.rank (sans i xs) ranks)
              ∙ ap (merged []) (queue_fallen l x.rank (sans i xs) low);
          ranked = ranks;
          holds = holds_gone s (evicted s i) i x.key xs h.holds (record { keys = λ j m. key_freed_other same s.directory i j m; kept = λ j m. refl })
              fk (key_freed same s.directory i) (pairs_freed s.directory.keys i x.key fk);
        });
      }

  -- GreedyDual evicts the key at the slot that leaves the order
  pub tracks_evicted : {home : K → ℕ} (s : State K) (n : ℕ) (g : Dual K) (xs : List (Seat K)) (f : Expelled) (left : K) → SameLaws same home → Distinct same s.directory → Apart s.order.waiting
      → Tracks s n g xs → leaver s.order.waiting ≡ Some f → key_at s.directory f.slot ≡ Some left → Leaves s n g xs f left
  tracks_evicted s n g xs f left L D a h e key = by (lead xs) refl
    where
      l : ℕ
      l = g.inflation

      led : leaver s.order.waiting ≡ option_map (expels l) (lead xs)
      led = ap leaver h.waiting ∙ leaver_lead l xs h.ranked

      by : (o : Option (First K)) → lead xs ≡ o → Leaves s n g xs f left
      by None p = let w = led in let q : ◌≡◌ {A = Option Expelled} (option_map (expels l) (lead xs)) None = ap (option_map (expels l)) p in let z : ◌≡◌ {A = ℕ} 0 1 = cc in absurd (omega arith)
      by (Some x) p =
          let w = led in
          let q : option_map (expels l) (lead xs) ≡ Some (expels l x) = ap (option_map (expels l)) p in
          let z : expels l x ≡ f = cc in
          subst (λ (y : Expelled). Leaves s n g xs y left) z
          (leaves_first s n g xs x left L D a h p (led ∙ q) (subst (λ (y : Expelled). key_at s.directory y.slot ≡ Some left) (sym z) key))
