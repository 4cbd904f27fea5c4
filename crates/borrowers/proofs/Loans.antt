-- No call but a lease and a give-back changes which leases are out, and the two together do not either.
use Rattle.std.proofs.Common.{◌≡◌, ℕ, ◌<◌, Bool, true, false, cond, not, ◌&&◌, eqb, List, length, Some, None, Ok, Err, Option, Result, sym, refl, ap, ◌∙◌, subst, ⊎_elim, arith, get_or-set_other, get_or-set_same}
use Rattle.std.proofs.lemmas.Bool.{cases_eq, and_right}
use Rattle.promises.specs.declared.answers.Refusal.{Refusal}
use Rattle.promises.specs.declared.answers.Refusal.TheVariants.{UnknownLease}
use Rattle.promises.specs.declared.answers.Kept.{Kept}
use Rattle.promises.specs.declared.answers.Kept.TheVariants.{Refreshed, Taken, TakenEvicting}
use Rattle.promises.specs.declared.answers.Evicted.{Evicted}
use Rattle.promises.specs.declared.records.Lending.TheVariants.{Idle}
use Rattle.promises.specs.declared.records.Record.{Record}
use Rattle.promises.specs.declared.records.Table.{Table}
use Rattle.promises.specs.declared.records.Ticket.{Ticket}
use Rattle.promises.specs.State.{State, Sound, blank, record_at, with_record, is_out, out_at, known}
use Rattle.promises.specs.Events.{Part, gets, keeps, leases, writes, gives_back, drops}
use Rattle.promises.specs.Steps.{Step, Takes, out_slot, touched, with_lending}
use Rattle.promises.proofs.Seeks.{found_below}
use Rattle.promises.proofs.Sounds.{accepted, absence_idle, write_known, give_known, known_out, out_held, held_small, sound_evicted, unheld_idle}
use Rattle.cache.specs.Leases.{refused_by}
use Rattle.cache.specs.declared.declined.Declined.{Declined}
use Rattle.cache.specs.declared.lease.Lease.{Lease}
use Rattle.borrowers.specs.Loans.{KeepsLeases}

-- ---- tables in which one record changes

known_by : (n : Table) (i : ℕ) (r : Record) (t : Ticket) → out_at (with_record n i r) t.slot ≡ out_at n t.slot → known (with_record n i r) t ≡ known n t
known_by n i r t e = ap (λ (b : Bool). eqb t.mark n.mark && b) e

out_other : (n : Table) (i : ℕ) (r : Record) (j : ℕ) → (j ≡ i → ⊥) → out_at (with_record n i r) j ≡ out_at n j
out_other n i r j ne = ap (λ (x : Record). is_out x.lending) (get_or-set_other n.records i j r blank ne)

out_here : (n : Table) (i : ℕ) (r : Record) → i < length n.records → out_at (with_record n i r) i ≡ is_out r.lending
out_here n i r b = ap (λ (x : Record). is_out x.lending) (get_or-set_same n.records i r blank b)

-- the changed record is lent or idle as it was
known_same : (n : Table) (i : ℕ) (r : Record) (t : Ticket) → i < length n.records → is_out r.lending ≡ out_at n i → known (with_record n i r) t ≡ known n t
known_same n i r t b e =
    known_by n i r t
    (⊎_elim (λ q. subst (λ (j : ℕ). out_at (with_record n i r) j ≡ out_at n j) (sym q) (out_here n i r b ∙ e)) (out_other n i r t.slot) (cases_eq t.slot i))

module _ {K : Type 0} (same : K → K → Bool) where
  keeps_by : (s u : State K) → ((t : Ticket) → known u.table t ≡ known s.table t) → KeepsLeases s u
  keeps_by s u f = record { kept = f }

  unchanged : (s u : State K) → u ≡ s → KeepsLeases s u
  unchanged s u e = keeps_by s u (λ t. ap (λ (x : State K). known x.table t) e)

  pub keeps_all : (s : State K) → KeepsLeases s s
  keeps_all s = unchanged s s refl

  pub keeps_on : {s u v : State K} → KeepsLeases s u → KeepsLeases u v → KeepsLeases s v
  keeps_on {s} {u} {v} f g = keeps_by s v (λ t. g.kept t ∙ f.kept t)

  -- ---- one call

  either_table : (b : Bool) (s u : State K) → u.table ≡ s.table → (cond b s u).table ≡ s.table
  either_table true s u e = refl
  either_table false s u e = e

  touch_table : (s : State K) (i : ℕ) → (touched s i).table ≡ s.table
  touch_table s i = either_table (out_at s.table i) s _ refl

  pub get_keeps : (s u : State K) (k : K) (slab : List ℕ) (a : Result (Option Part) Refusal) → Step same s (gets k slab a) u → KeepsLeases s u
  get_keeps s u k slab (Err e) w = unchanged s u w.1
  get_keeps s u k slab (Ok None) w = unchanged s u w.2
  get_keeps s u k slab (Ok (Some p)) w = keeps_by s u (λ t. ap (λ (x : Table). known x t) (ap (λ (x : State K). x.table) w.1.after ∙ touch_table s w.1.slot))

  takes_keeps : (s u : State K) (k : K) (c : ℕ) (v slab after : List ℕ) → Sound same s → Takes s k c v slab u after → KeepsLeases s u
  takes_keeps s u k c v slab after S T =
      let b : T.slot < length s.table.records = omega (arith, S.recorded, S.few, T.below) in
      keeps_by s u (λ t. ap (λ (x : State K). known x.table t) T.after ∙ known_same s.table T.slot _ t b (sym (unheld_idle same s T.slot S T.unused).1))

  pub keep_keeps : (s u : State K) (k : K) (c : ℕ) (v slab after : List ℕ) (a : Result (Kept (Evicted K)) Refusal) → Sound same s → Step same s (keeps k c v slab a after) u → KeepsLeases s u
  keep_keeps s u k c v slab after (Err e) S w = unchanged s u w.1
  keep_keeps s u k c v slab after (Ok Refreshed) S w =
      let i : ℕ = w.1.slot in
      let o : out_at s.table i ≡ false = ap (out_slot s.table) (sym w.1.held) ∙ (accepted same s k c (length v) (length slab) w.0).idle in
      let z = found_below same s.directory k i w.1.held in
      let b : i < length s.table.records = omega (arith, S.recorded, S.few, z) in
      keeps_by s u (λ t. ap (λ (x : State K). known x.table t) w.1.after ∙ known_same s.table i _ t b (sym o))
  keep_keeps s u k c v slab after (Ok Taken) S w = takes_keeps s u k c v slab after S w.3
  keep_keeps s u k c v slab after (Ok (TakenEvicting e)) S w =
      let x : State K = w.3.0 in
      let g = w.3.1 in
      let X : Sound same x = subst (λ (y : State K). Sound same y) (sym g.after) (sound_evicted same s g.first S g.least) in
      let f = takes_keeps x u k c v slab after X w.3.2 in
      keeps_by s u (λ t. f.kept t ∙ ap (λ (y : State K). known y.table t) g.after)

  pub refused_keeps : (s u : State K) (k : K) (e : Refusal) → Step same s (leases k (Err e)) u → KeepsLeases s u
  refused_keeps s u k e w = unchanged s u w.1

  pub write_keeps : (s u : State K) (n : Ticket) (v slab after : List ℕ) (a : Result (Unit {0}) Refusal) → Sound same s → Step same s (writes n v slab a after) u → KeepsLeases s u
  write_keeps s u n v slab after (Err e) S w = unchanged s u w.1
  write_keeps s u n v slab after (Ok x) S w =
      let k : known s.table n ≡ true = write_known s n (length v) (length slab) w.0 in
      let z : n.slot < 1024 = held_small same s n.slot S (out_held same s n.slot S (known_out s.table n k)) in
      let b : n.slot < length s.table.records = omega (arith, S.recorded) in
      keeps_by s u (λ t. ap (λ (y : State K). known y.table t) w.1 ∙ known_same s.table n.slot _ t b refl)

  pub drop_keeps : (s u : State K) (k : K) (a : Result (Unit {0}) Refusal) → Step same s (drops k a) u → KeepsLeases s u
  drop_keeps s u k (Err e) w = unchanged s u w.1
  drop_keeps s u k (Ok x) w = keeps_by s u (λ t. ap (λ (y : State K). known y.table t) w.1.after)

  -- ---- a loan

  -- a give-back that was accepted
  pub taken_back : (s u : State K) (t : Ticket) (r : Result (Unit {0}) (Declined Lease)) → r ≡ Ok tt → Step same s (gives_back t (refused_by r)) u → Step same s (gives_back t (Ok tt)) u
  taken_back s u t r e w = subst (λ (x : Result (Unit {0}) (Declined Lease)). Step same s (gives_back t (refused_by x)) u) e w

  -- a lease that is known is taken back
  pub known_taken : (s u : State K) (t : Ticket) (r : Result (Unit {0}) (Declined Lease)) → known s.table t ≡ true → Step same s (gives_back t (refused_by r)) u → r ≡ Ok tt
  known_taken s u t (Ok tt) k w = refl
  known_taken s u t (Err d) k w =
      let e : None ≡ Some d.refusal = sym (ap (λ (b : Bool). cond (not b) (Some UnknownLease) None) k) ∙ w.0 in
      let z : ◌≡◌ {A = ℕ} 0 1 = cc in
      absurd (omega arith)

  -- a lease and its give-back, with calls between them that keep to the leases that are out then
  pub loan_keeps : (s a b u : State K) (k : K) (n : Ticket) → Sound same b → Step same s (leases k (Ok n)) a → KeepsLeases a b → Step same b (gives_back n (Ok tt)) u → KeepsLeases s u
  loan_keeps s a b u k n B w f g =
      let i : ℕ = w.1.slot in
      let at : n.slot ≡ i = ap (λ (x : Ticket). x.slot) w.1.names in
      let idle : out_at s.table i ≡ false = absence_idle same s k i w.0 w.1.held in
      let z : n.slot < 1024 = held_small same b n.slot B (out_held same b n.slot B (known_out b.table n (give_known b n g.0))) in
      let l : n.slot < length b.table.records = omega (arith, B.recorded) in
      let r : Record = with_lending (record_at b.table n.slot) Idle in
      let before : (t : Ticket) → t.slot ≡ n.slot → known s.table t ≡ false = λ t e. and_right (eqb t.mark s.table.mark) (out_at s.table t.slot) (subst (λ (j : ℕ). out_at s.table j ≡ false) (sym (e ∙ at)) idle) in
      let after : (t : Ticket) → t.slot ≡ n.slot → known u.table t ≡ false = λ t e.
      subst (λ (x : State K). known x.table t ≡ false) (sym g.1)
      (and_right (eqb t.mark b.table.mark) _ (subst (λ (j : ℕ). out_at (with_record b.table n.slot r) j ≡ false) (sym e) (out_here b.table n.slot r l))) in
      let others : (t : Ticket) → (t.slot ≡ n.slot → ⊥) → known u.table t ≡ known s.table t = λ t ne.
      ap (λ (x : State K). known x.table t) g.1 ∙ known_by b.table n.slot r t (out_other b.table n.slot r t.slot ne)
      ∙ f.kept t
      ∙ ap (λ (x : State K). known x.table t) w.1.after ∙ known_by s.table i _ t (out_other s.table i _ t.slot (λ e. ne (e ∙ sym at))) in
      keeps_by s u (λ t. ⊎_elim (λ e. after t e ∙ sym (before t e)) (others t) (cases_eq t.slot n.slot))
