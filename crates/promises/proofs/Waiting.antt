-- Waiting: a touch leaves the full credit, and what a region that waits untouched since can see of evictions.
use Rattle.std.proofs.Common.{◌≡◌, ℕ, ◌<◌, Bool, true, false, cond, List, [], ◌∷◌, ◌++◌, Some, None, Option, sym, refl, ap, ◌∙◌, subst, arith}
use Rattle.std.proofs.lemmas.Bool.{both_ways}
use Rattle.keys.specs.Sameness.{SameLaws}
use Rattle.promises.specs.State.{State, slots}
use Rattle.promises.specs.Events.{Event, Effect, effect, evictions, Each, lent}
use Rattle.promises.specs.History.{same_as, if_same, touch_by, last_cost, is_out}
use Rattle.promises.specs.Lines.{Making, made, Line}
use Rattle.promises.specs.Promises.{Untouched, WaitingBounded}
use Rattle.promises.proofs.Optional.{none_some}
use Rattle.promises.proofs.Views.{waits, View, idle_nothing, idle_rewrote, Moves, rests, sees, touches, refreshes, takes, evicts, lends, takes_back, removes, Leads}
use Rattle.promises.proofs.Fine.{Costs, fine_line}
use Rattle.promises.proofs.Lying.{Match, lent_place, ticket, agree_line}
use Rattle.promises.proofs.Notes.{Noted, last_cost_alike, is_out_alike, last_costs, noted_line}
use Rattle.promises.proofs.Patience.{Patient, patient_first, patient_step}
use Rattle.promises.proofs.StepViews.{view}
use Rattle.promises.proofs.Competes.{reached}

-- the region of the key k waits with the full credit c
pub record Fresh {K : Type 0} (same : K → K → Bool) (n : ℕ) (k : K) (c : ℕ) (w : View K) : Type 0 where
  pub slot : ℕ
  pub held : K
  pub inside : slot < n
  pub alike : same held k ≡ true
  pub there : w slot ≡ waits held c c

module _ {K : Type 0} (same : K → K → Bool) where
  if_same_some : (b : Bool) (x c : ℕ) → if_same same b x ≡ Some c → (b ≡ true) × (x ≡ c)
  if_same_some true x c e = (refl, cc)
  if_same_some false x c e = absurd (none_some c e)

  unless_some : (b : Bool) (o : Option ℕ) (c : ℕ) → cond b None o ≡ Some c → (b ≡ false) × (o ≡ Some c)
  unless_some true o c e = absurd (none_some c e)
  unless_some false o c e = (refl, e)

  same_as_some : (o : Option K) (k l : K) → same_as same k o ≡ true → Match same o (Some l) → (x : K) × (same x k ≡ true) × (same x l ≡ true)
  same_as_some None k l e m = absurd (both_ways false refl e)
  same_as_some (Some x) k l e m = (x, e, m)

module _ {K : Type 0} (same : K → K → Bool) {home : K → ℕ} (laws : SameLaws same home) (n mark : ℕ) where
  fresh : {w : View K} (k l : K) (i d c : ℕ) → i < n → same l k ≡ true → w i ≡ waits l d d → d ≡ c → Fresh same n k c w
  fresh {w} k l i d c lt s e q = record { slot = i; held = l; inside = lt; alike = s; there = e ∙ ap (λ (x : ℕ). waits l x x) q }

  -- a touch at cost c leaves the full credit c
  pub touch_full : {v w : View K} {e : Effect K} (es : List (Event K)) → Leads same n mark es v → Moves same n mark v w e → (k : K) (c : ℕ) → touch_by same e es k ≡ Some c → Fresh same n k c w
  touch_full es le (rests idle_nothing s) k c to = absurd (none_some c to)
  touch_full es le (rests (idle_rewrote _ _) s) k c to = absurd (none_some c to)
  touch_full {v = v} es le (sees {k = k'} {l = l} i d e s al) k c to =
      let a = unless_some same (is_out same es k) _ c to in
      let b = if_same_some same (same k' k) (last_cost same es k) c a.1 in
      let o : is_out same es l ≡ true = subst (Noted (is_out same es)) e (noted_line same laws n mark es v le i) in
      absurd (both_ways (is_out same es k) a.0 (sym (is_out_alike same laws es l k (laws.transitive l k' k s b.0)) ∙ o))
  touch_full {v = v} es le (touches {k = k'} {l = l} i d r lt e s o) k c to =
      let a = unless_some same (is_out same es k) _ c to in
      let b = if_same_some same (same k' k) (last_cost same es k) c a.1 in
      let lk = laws.transitive l k' k s b.0 in
      let q : d ≡ last_cost same es l = subst (Costs (last_cost same es)) e (last_costs same laws n mark es v le i) in
      fresh k l i d c lt lk o.here (q ∙ last_cost_alike same laws es l k lk ∙ b.1)
  touch_full es le (refreshes {k = k'} {l = l} {d = d} i c' r lt e s pos o) k c to =
      let b = if_same_some same (same k' k) d c to in
      fresh k l i d c lt (laws.transitive l k' k s b.0) o.here b.1
  touch_full es le (takes {k = k'} {d = d} i u en) k c to = let b = if_same_some same (same k' k) d c to in fresh k k' i d c en.within b.0 en.entered.here b.1
  touch_full es le (evicts {k = k'} {d = d} i j least x u full ex en) k c to = let b = if_same_some same (same k' k) d c to in fresh k k' j d c en.within b.0 en.entered.here b.1
  touch_full es le (lends _ _ _ _ _ _ _) k c to = absurd (none_some c to)
  touch_full {v = v} es le (takes_back {k = l} {t = t} d mk lt e o) k c to =
      let b = if_same_some same (same_as same k (lent es t)) (last_cost same es k) c to in
      let m : Match same (lent es t) (Some l) = subst (λ y. Match same (lent es t) (lent_place y)) e (subst (λ (y : ℕ). Match same (lent es (ticket y t.slot)) (lent_place (v t.slot))) (sym mk) ((agree_line same laws n mark es v le).slots t.slot)) in
      let x = same_as_some same (lent es t) k l b.0 m in
      let lk = laws.transitive l x.0 k (laws.symmetric x.0 l x.2) x.1 in
      let q : d ≡ last_cost same es l = subst (Costs (last_cost same es)) e (last_costs same laws n mark es v le t.slot) in
      fresh k l t.slot d c lt lk o.here (q ∙ last_cost_alike same laws es l k lk ∙ b.1)
  touch_full es le (removes _ _ _ _ _ _ _) k c to = absurd (none_some c to)

  -- the region of the key k, touched at cost c, is still patient
  pub record Patiently (k : K) (c : ℕ) (w : View K) (seen : ℕ) : Type 0 where
    pub slot : ℕ
    pub held : K
    pub inside : slot < n
    pub alike : same held k ≡ true
    pub patient : Patient n slot held c w seen

  pub waited : (since before : List (Event K)) (e : Event K) (k : K) (c : ℕ) (w : View K) → Leads same n mark (since ++ (e ∷ before)) w → touch_by same (effect e) before k ≡ Some c → Each (λ d earlier. Untouched same k d) since → Patiently k c w (evictions since)
  waited [] before e k c w (v, l, m) to un =
      let f = touch_full before l m k c to in
      record { slot = f.slot; held = f.held; inside = f.inside; alike = f.alike; patient = patient_first same laws n mark f.slot f.inside f.held k f.alike c w f.there }
  waited (d ∷ since) before e k c w (v, l, m) to un =
      let p = waited since before e k c v l to un.1 in
      record {
        slot = p.slot;
        held = p.held;
        inside = p.inside;
        alike = p.alike;
        patient = patient_step same laws n mark p.slot p.inside p.held k p.alike c (evictions since) m (fine_line same laws n mark (since ++ (e ∷ before)) v l) un.0.not_requested un.0.not_dropped un.0.not_evicted p.patient;
      }

pub waiting_bounded : {K : Type 0} (same : K → K → Bool) (home : K → ℕ) → SameLaws same home → (m : Making K) (es : List (Event K)) (s : State K) → Line same m es s → WaitingBounded same (slots (made m)) es
waiting_bounded same home laws m es s l since before e k c q to un =
    let le = subst (λ xs. Leads same (slots (made m)) m.mark xs (view s)) q (reached same laws m es s l).leads in
    let p = waited same laws (slots (made m)) m.mark since before e k c (view s) le to un in
    omega (arith, p.patient.bound)
