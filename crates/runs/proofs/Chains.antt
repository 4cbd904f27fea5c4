-- The calls of a run are a line, and its slab is chained.
use Rattle.std.proofs.Common.{◌≡◌, ℕ, Bool, List, [], ◌∷◌, Some, None, vec_items, Option, sym, refl, ap, ◌∙◌, subst, arith}
use Rattle.promises.specs.State.{State}
use Rattle.promises.specs.Events.{Event, gets, keeps, leases, drops, tells}
use Rattle.promises.specs.Lines.{Making, Line}
use Rattle.promises.specs.History.{slab_in, slab_out, slab_left, or_else}
use Rattle.promises.specs.Promises.{Dutiful}
use Rattle.cache.specs.Leases.{ticketed}
use Rattle.cache.specs.declared.lease.Lease.{Lease}
use Rattle.runs.specs.declared.asks.Ask.{Ask}
use Rattle.runs.specs.declared.asks.Ask.TheVariants.{State as AskState, Get as AskGet, Keep as AskKeep, Lease as AskLease, Write as AskWrite, GiveBack as AskGive, Drop as AskDrop}
use Rattle.runs.specs.Asks.{Hand, nth, MakesWrite, MakesGive, Makes}
use Rattle.runs.specs.Runs.{Asked, Passes, noted, slab_now}

-- the events with a call on top
abbrev pub note : {K : Type 0} → Option (Event K) → List (Event K) → List (Event K)
note None es = es
note (Some e) es = e ∷ es

pub noted_first : {K : Type 0} (c : Option (Event K)) (cs : List (Option (Event K))) (es : List (Event K)) → noted (c ∷ cs) es ≡ noted cs (note c es)
noted_first None cs es = refl
noted_first (Some e) cs es = refl

-- what each ask keeps, a list of asks keeps
pub over_all : {K : Type 0} (P : List (Event K) → Hand → Type 0) → ((h g : Hand) (a : Ask K) (c : Option (Event K)) (es : List (Event K)) → Makes h a c g → P es h → P (note c es) g)
    → (h g : Hand) (asks : List (Ask K)) (cs : List (Option (Event K))) (es : List (Event K)) → Asked h asks cs g → P es h → P (noted cs es) g
over_all P f h g [] [] es r w = subst (λ (x : Hand). P es x) (sym r) w
over_all P f h g [] (c ∷ cs) es r w = absurd r
over_all P f h g (a ∷ asks) [] es r w = absurd r
over_all {K} P f h g (a ∷ asks) (c ∷ cs) es r w =
    subst (λ (x : List (Event K)). P x g) (sym (noted_first c cs es)) (over_all P f r.0 g asks cs (note c es) r.2 (f h r.0 a c es r.1 w))

same_slab : (h g : Hand) → g ≡ h → g.slab ≡ h.slab
same_slab h g e = ap (λ (x : Hand). x.slab) e

module _ {K : Type 0} (same : K → K → Bool) where
  pub line_all : (m : Making K) (s t : State K) (cs : List (Option (Event K))) (es : List (Event K)) → Passes same s cs t → Line same m es s → Line same m (noted cs es) t
  line_all m s t [] es p l = subst (λ (x : State K). Line same m es x) (sym p) l
  line_all m s t (None ∷ cs) es p l = line_all m p.0 t cs es p.2 (subst (λ (x : State K). Line same m es x) (sym p.1) l)
  line_all m s t (Some e ∷ cs) es p l = line_all m p.0 t cs (e ∷ es) p.2 (s, l, p.1)

  -- each call was given the slab that the one before left, and the slab in hand is the one that the last one left
  pub record Chained (slab : List ℕ) (es : List (Event K)) (h : Hand) : Type 0 where
    pub dutiful : Dutiful same es
    pub left : h.slab ≡ slab_now slab (slab_left es)

  -- a call without a slab
  blind : (slab : List ℕ) (es : List (Event K)) (h g : Hand) (c : Option (Event K)) (e : Event K) → c ≡ Some e → slab_in e ≡ None → slab_out e ≡ None → g.slab ≡ h.slab → Chained slab es h → Chained slab (note c es) g
  blind slab es h g c e q i o p w =
      let d : (x y : List ℕ) → slab_in e ≡ Some x → slab_left es ≡ Some y → x ≡ y = λ x y a b. let z : ◌≡◌ {A = ℕ} 0 1 = cc in absurd (omega arith) in
      let l : g.slab ≡ slab_now slab (or_else (slab_out e) (slab_left es)) = p ∙ (w.left ∙ ap (λ (z : Option (List ℕ)). slab_now slab (or_else z (slab_left es))) (sym o)) in
      subst (λ (z : Option (Event K)). Chained slab (note z es) g) (sym q) (record { dutiful = (d, w.dutiful); left = l })

  -- a call that is given the slab in hand
  sees : (slab : List ℕ) (es : List (Event K)) (h g : Hand) (c : Option (Event K)) (e : Event K) → c ≡ Some e → slab_in e ≡ Some h.slab → slab_out e ≡ Some g.slab → Chained slab es h → Chained slab (note c es) g
  sees slab es h g c e q i o w =
      let d : (x y : List ℕ) → slab_in e ≡ Some x → slab_left es ≡ Some y → x ≡ y = λ x y a b.
      let p : h.slab ≡ y = w.left ∙ ap (λ (z : Option (List ℕ)). slab_now slab z) b in
      let v : Some h.slab ≡ Some x = sym i ∙ a in
      cc in
      let l : g.slab ≡ slab_now slab (or_else (slab_out e) (slab_left es)) = ap (λ (z : Option (List ℕ)). slab_now slab (or_else z (slab_left es))) (sym o) in
      subst (λ (z : Option (Event K)). Chained slab (note z es) g) (sym q) (record { dutiful = (d, w.dutiful); left = l })

  -- no call
  idle : (slab : List ℕ) (es : List (Event K)) (h g : Hand) (c : Option (Event K)) → c ≡ None → g ≡ h → Chained slab es h → Chained slab (note c es) g
  idle slab es h g c q p w =
      let y : Chained slab es g = subst (λ (z : Hand). Chained slab es z) (sym p) w in
      subst (λ (z : Option (Event K)). Chained slab (note z es) g) (sym q) y

  chain_write : (slab : List ℕ) (h g : Hand) (o : Option Lease) (v : List ℕ) (c : Option (Event K)) (es : List (Event K)) → MakesWrite h o v c g → Chained slab es h → Chained slab (note c es) g
  chain_write slab h g None v c es m w = idle slab es h g c m.0 m.1 w
  chain_write slab h g (Some l) v c es m w = sees slab es h g c _ m.1 refl refl w

  chain_give : (slab : List ℕ) (h g : Hand) (n : ℕ) (o : Option Lease) (c : Option (Event K)) (es : List (Event K)) → MakesGive h n o c g → Chained slab es h → Chained slab (note c es) g
  chain_give slab h g n None c es m w = idle slab es h g c m.0 m.1 w
  chain_give slab h g n (Some l) c es m w = blind slab es h g c _ m.1 refl refl (ap (λ (x : Hand). x.slab) m.2) w

  chain_one : (slab : List ℕ) (h g : Hand) (a : Ask K) (c : Option (Event K)) (es : List (Event K)) → Makes h a c g → Chained slab es h → Chained slab (note c es) g
  chain_one slab h g (AskState k) c es m w = blind slab es h g c (tells k m.0) m.1 refl refl (same_slab h g m.2) w
  chain_one slab h g (AskGet k) c es m w = sees slab es h g c (gets k h.slab m.0) m.1 refl (ap (λ (x : List ℕ). Some x) (sym (same_slab h g m.2))) w
  chain_one slab h g (AskKeep k n v) c es m w = sees slab es h g c (keeps k n (vec_items v) h.slab m.0 g.slab) m.1 refl refl w
  chain_one slab h g (AskLease k) c es m w = blind slab es h g c (leases k (ticketed m.0)) m.1 refl refl (ap (λ (x : Hand). x.slab) m.2) w
  chain_one slab h g (AskWrite n v) c es m w = chain_write slab h g (nth h.leases n) (vec_items v) c es m w
  chain_one slab h g (AskGive n) c es m w = chain_give slab h g n (nth h.leases n) c es m w
  chain_one slab h g (AskDrop k) c es m w = blind slab es h g c (drops k m.0) m.1 refl refl (same_slab h g m.2) w

  pub chain_all : (slab : List ℕ) (h g : Hand) (asks : List (Ask K)) (cs : List (Option (Event K))) (es : List (Event K)) → Asked h asks cs g → Chained slab es h → Chained slab (noted cs es) g
  chain_all slab h g asks cs es r w = over_all (λ (x : List (Event K)) (i : Hand). Chained slab x i) (λ i j a c x m y. chain_one slab i j a c x m y) h g asks cs es r w
