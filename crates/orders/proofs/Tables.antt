-- The tables of the 256 queues: rings that a slot joins and leaves, and their marks.
use Rattle.std.proofs.Common.{◌≡◌, ℕ, ◌+◌, ◌-◌, ◌<◌, ◌≤◌, Bool, true, false, cond, not, ◌&&◌, ◌||◌, eqb, List, [], ◌∷◌, ◌++◌, length, drop, get_or, set, Some, None, Option, sym, refl, ap, ◌∙◌, subst, ap₂, ⊎_elim, arith}
use Rattle.std.specs.List.{AllByRecursion}
use Rattle.std.proofs.Math.ListN.{get_or-map}
use Rattle.std.proofs.Math.Seq.{map-set_same}
use Rattle.std.proofs.lemmas.List.{length-set, get_or-set_same, get_or-set_other, map-set}
use Rattle.orders.specs.declared.queues.Node.{Node}
use Rattle.std.proofs.ByRecursion.{All-push}
use Rattle.std.proofs.lemmas.Bool.Decides.{nat_tests}
use Rattle.std.proofs.lemmas.Bool.{cases_eq, eq-eqb, ne_eqb, cond-true, cond-false, eqb-false, eqb-true, not-true, not-false}
use Rattle.orders.specs.Rings.{Path, queue, at, named, names, number, sans, holds, Once, Rings, nexts, prevs}
use Rattle.orders.specs.Paths.{push_here, push_other, here, here_other, out}
use Rattle.orders.specs.Slots.{holds_push, holds_sans, once_push, once_sans, all_sans, once_short, walk_path}

-- a write of a queue that there is, or of none
pub named_in : (table : List (Option ℕ)) (x : ℕ) (o : Option ℕ) → length table ≡ 1024 → ((y : ℕ) → y < 1024 → number (named table y) < 256) → number o < 256 →
    (y : ℕ) → y < 1024 → number (named (set table x o) y) < 256
named_in table x o long all fits y h = ⊎_elim
    (λ e. let z = ap number (ap (named (set table x o)) e ∙ get_or-set_same table x o None (omega arith)) in omega arith)
    (λ e. let z = ap number (get_or-set_other table x y o None e) in let l = all y h in omega arith)
    (cases_eq y x)

-- ---- a node, and its two columns

abbrev pub node_at : List Node → ℕ → Node
node_at nodes i = get_or nodes i (record { next = 0; prev = 0 })

pub next_at : (nodes : List Node) (i : ℕ) → at (nexts nodes) i ≡ (node_at nodes i).next
next_at nodes i = get_or-map (λ (n : Node). n.next) nodes i (record { next = 0; prev = 0 })

pub prev_at : (nodes : List Node) (i : ℕ) → at (prevs nodes) i ≡ (node_at nodes i).prev
prev_at nodes i = get_or-map (λ (n : Node). n.prev) nodes i (record { next = 0; prev = 0 })

module _ (nodes : List Node) (i y : ℕ) where
  abbrev pub with_next : List Node
  with_next = set nodes i (record { next = y; prev = (node_at nodes i).prev })

  abbrev pub with_prev : List Node
  with_prev = set nodes i (record { next = (node_at nodes i).next; prev = y })

  nexts_next : nexts with_next ≡ set (nexts nodes) i y
  nexts_next = map-set (λ (n : Node). n.next) nodes i (record { next = y; prev = (node_at nodes i).prev })

  prevs_next : prevs with_next ≡ prevs nodes
  prevs_next = map-set_same (λ (n : Node). n.prev) nodes i (record { next = y; prev = (node_at nodes i).prev }) (record { next = 0; prev = 0 }) refl

  nexts_prev : nexts with_prev ≡ nexts nodes
  nexts_prev = map-set_same (λ (n : Node). n.next) nodes i (record { next = (node_at nodes i).next; prev = y }) (record { next = 0; prev = 0 }) refl

  prevs_prev : prevs with_prev ≡ set (prevs nodes) i y
  prevs_prev = map-set (λ (n : Node). n.prev) nodes i (record { next = (node_at nodes i).next; prev = y })

module _ (nodes : List Node) (i a b : ℕ) where
  nexts_node : nexts (set nodes i (record { next = a; prev = b })) ≡ set (nexts nodes) i a
  nexts_node = map-set (λ (n : Node). n.next) nodes i (record { next = a; prev = b })

  prevs_node : prevs (set nodes i (record { next = a; prev = b })) ≡ set (prevs nodes) i b
  prevs_node = map-set (λ (n : Node). n.prev) nodes i (record { next = a; prev = b })

-- slot x comes in before anchor s
module _ (nodes : List Node) (s x : ℕ) where
  abbrev last : ℕ
  last = (node_at nodes s).prev

  abbrev pub nodes_pushed : List Node
  nodes_pushed = with_prev (set (with_next nodes last x) x (record { next = s; prev = last })) s x

  pub nexts_pushed : nexts nodes_pushed ≡ set (set (nexts nodes) (at (prevs nodes) s) x) x s
  nexts_pushed = nexts_prev (set (with_next nodes last x) x (record { next = s; prev = last })) s x ∙ nexts_node (with_next nodes last x) x s last
      ∙ ap (λ (t : List ℕ). set t x s) (nexts_next nodes last x ∙ ap (λ (z : ℕ). set (nexts nodes) z x) (sym (prev_at nodes s)))

  pub prevs_pushed : prevs nodes_pushed ≡ set (set (prevs nodes) x (at (prevs nodes) s)) s x
  prevs_pushed = prevs_prev (set (with_next nodes last x) x (record { next = s; prev = last })) s x
      ∙ ap (λ (t : List ℕ). set t s x) (prevs_node (with_next nodes last x) x s last ∙ ap₂ (λ (t : List ℕ) (z : ℕ). set t x z) (prevs_next nodes last x) (sym (prev_at nodes s)))

-- slot x goes out
module _ (nodes : List Node) (x : ℕ) where
  abbrev before : ℕ
  before = (node_at nodes x).prev

  abbrev after : ℕ
  after = (node_at nodes x).next

  abbrev pub nodes_removed : List Node
  nodes_removed = set (with_prev (with_next nodes before after) after before) x (record { next = x; prev = x })

  pub nexts_removed : nexts nodes_removed ≡ set (set (nexts nodes) (at (prevs nodes) x) (at (nexts nodes) x)) x x
  nexts_removed = nexts_node (with_prev (with_next nodes before after) after before) x x x
      ∙ ap (λ (t : List ℕ). set t x x) (nexts_prev (with_next nodes before after) after before ∙ nexts_next nodes before after
      ∙ ap₂ (λ (a b : ℕ). set (nexts nodes) a b) (sym (prev_at nodes x)) (sym (next_at nodes x)))

  pub prevs_removed : prevs nodes_removed ≡ set (set (prevs nodes) (at (nexts nodes) x) (at (prevs nodes) x)) x x
  prevs_removed = prevs_node (with_prev (with_next nodes before after) after before) x x x
      ∙ ap (λ (t : List ℕ). set t x x) (prevs_prev (with_next nodes before after) after before
      ∙ ap (λ (t : List ℕ). set t after before) (prevs_next nodes before after)
      ∙ ap₂ (λ (a b : ℕ). set (prevs nodes) a b) (sym (next_at nodes x)) (sym (prev_at nodes x)))

-- rings through columns that are the same
pub rings_columns : {a a' b b' : List ℕ} {home : List (Option ℕ)} → a' ≡ a → b' ≡ b → Rings a b home (queue a) → Rings a' b' home (queue a')
rings_columns {a} {a'} {b} {b'} {home} p q r = subst (λ (t : List ℕ). Rings t b' home (queue t)) (sym p) (subst (λ (t : List ℕ). Rings a t home (queue a)) (sym q) r)

-- two writes
module _ (t : List ℕ) (i a j b : ℕ) (i-in : i < length t) (j-in : j < length t) where
  pub two_last : at (set (set t i a) j b) j ≡ b
  two_last = let h : j < length (set t i a) = simp length-set (omega arith) in get_or-set_same (set t i a) j b 0 h

  pub two_first : (i ≡ j → ⊥) → at (set (set t i a) j b) i ≡ a
  two_first n = get_or-set_other (set t i a) j i b 0 n ∙ get_or-set_same t i a 0 i-in

  pub two_other : (k : ℕ) → (k ≡ i → ⊥) → (k ≡ j → ⊥) → at (set (set t i a) j b) k ≡ at t k
  two_other k m n = get_or-set_other (set t i a) j k b 0 n ∙ get_or-set_other t i k a 0 m

pub by_two : (P : ℕ → Type 0) (a b i : ℕ) → P a → P b → ((i ≡ a → ⊥) → (i ≡ b → ⊥) → P i) → P i
by_two P a b i pa pb po =
    ⊎_elim (λ e. subst P (sym e) pa) (λ m. ⊎_elim (λ e. subst P (sym e) pb) (λ n. po m n) (cases_eq i b)) (cases_eq i a)

pub by_apart : (P : ℕ → Type 0) (a b i : ℕ) → ((a ≡ b → ⊥) → P a) → P b → ((i ≡ a → ⊥) → (i ≡ b → ⊥) → P i) → P i
by_apart P a b i pa pb po =
    ⊎_elim (λ e. subst P (sym e) pb)
    (λ m. ⊎_elim (λ e. subst P (sym e) (pa (λ k. m (e ∙ k)))) (λ n. po n m) (cases_eq i a)) (cases_eq i b)

module _ {next prev : List ℕ} {home : List (Option ℕ)} {qs : ℕ → List ℕ} (r : Rings next prev home qs) where
  -- the queues are what the walks give
  pub queue_is : (q : ℕ) → q < 256 → queue next q ≡ qs q
  unfolding queue
  queue_is q h =
      walk_path (at next) 1024 (qs q) (1024 + q) (1024 + q) (r.slots q h) (omega arith) (once_short 1024 (qs q) (r.once q h) (r.slots q h)) (r.ring q h)

  pub as_walked : Rings next prev home (queue next)
  as_walked = record {
    next_long = r.next_long;
    prev_long = r.prev_long;
    home_long = r.home_long;
    next_in = r.next_in;
    prev_in = r.prev_in;
    back = r.back;
    forth = r.forth;
    home_in = r.home_in;
    idle = r.idle;
    ring = λ q h. subst (λ (xs : List ℕ). Path (at next) (1024 + q) xs (1024 + q)) (sym (queue_is q h)) (r.ring q h);
    slots = λ q h. subst (AllByRecursion (λ x. x < 1024)) (sym (queue_is q h)) (r.slots q h);
    once = λ q h. subst Once (sym (queue_is q h)) (r.once q h);
    member = λ q x h k. ap (holds x) (queue_is q h) ∙ r.member q x h k;
  }

  module _ (q x : ℕ) (q-in : q < 256) (x-in : x < 1024) (out-yet : named home x ≡ None) where
    s : ℕ
    s = 1024 + q

    l : ℕ
    l = at prev s

    unfoldable pub pushed : ℕ → List ℕ
    pushed k = cond (eqb k q) (qs k ++ x ∷ []) (qs k)

    pushed_here : (k : ℕ) → k ≡ q → pushed k ≡ qs k ++ x ∷ []
    unfolding pushed
    pushed_here k e = cond-true (eqb k q) (qs k ++ x ∷ []) (qs k) (eq-eqb k q e)

    pushed_else : (k : ℕ) → (k ≡ q → ⊥) → pushed k ≡ qs k
    unfolding pushed
    pushed_else k e = cond-false (eqb k q) (qs k ++ x ∷ []) (qs k) (ne_eqb k q e)

    pub rings_push : Rings (set (set next (at prev (1024 + q)) x) x (1024 + q)) (set (set prev x (at prev (1024 + q))) (1024 + q) x) (set home x (Some q)) pushed
    unfolding s l
    rings_push =
        let nl = r.next_long in
        let pl = r.prev_long in
        let hl = r.home_long in
        let l-in : l < 1280 = r.prev_in s (omega arith) in
        let nl-is : at next l ≡ s = r.forth s (omega arith) in
        let nx-is : at next x ≡ x = r.idle x x-in out-yet in
        let px-is : at prev x ≡ x = ap (at prev) (sym nx-is) ∙ r.back x (omega arith) in
        let l≢x : l ≡ x → ⊥ = λ e. let z : s ≡ x = cc in omega arith in
        let next' : List ℕ = set (set next l x) x s in
        let prev' : List ℕ = set (set prev x l) s x in
        let n-l : at next' l ≡ x = two_first next l x x s (omega arith) (omega arith) l≢x in
        let n-x : at next' x ≡ s = two_last next l x x s (omega arith) (omega arith) in
        let n-o : (k : ℕ) → (k ≡ l → ⊥) → (k ≡ x → ⊥) → at next' k ≡ at next k = two_other next l x x s (omega arith) (omega arith) in
        let p-x : at prev' x ≡ l = two_first prev x l s x (omega arith) (omega arith) (omega arith) in
        let p-s : at prev' s ≡ x = two_last prev x l s x (omega arith) (omega arith) in
        let p-o : (k : ℕ) → (k ≡ x → ⊥) → (k ≡ s → ⊥) → at prev' k ≡ at prev k = two_other prev x l s x (omega arith) (omega arith) in
        record {
          next_long = simp length-set (omega arith);
          prev_long = simp length-set (omega arith);
          home_long = simp length-set (omega arith);
          next_in = λ i h. by_two (λ k. at next' k < 1280) l x i (omega (arith, n-l)) (omega (arith, n-x)) (λ a b. let e = n-o i a b in let f = r.next_in i h in omega arith);
          prev_in = λ i h. by_two (λ k. at prev' k < 1280) x s i (omega (arith, p-x)) (omega (arith, p-s)) (λ a b. let e = p-o i a b in let f = r.prev_in i h in omega arith);
          back = λ i h. by_two (λ k. at prev' (at next' k) ≡ k) l x i (ap (at prev') n-l ∙ p-x) (ap (at prev') n-x ∙ p-s)
              (λ a b. let f = r.back i h in
              ap (at prev') (n-o i a b) ∙ p-o (at next i) (λ e. let z : i ≡ x = cc in b z) (λ e. let z : i ≡ l = cc in a z) ∙ f);
          forth = λ i h. by_two (λ k. at next' (at prev' k) ≡ k) x s i (ap (at next') p-x ∙ n-l) (ap (at next') p-s ∙ n-x)
              (λ a b. let f = r.forth i h in
              ap (at next') (p-o i a b) ∙ n-o (at prev i) (λ e. let z : i ≡ s = cc in b z) (λ e. let z : i ≡ x = cc in a z) ∙ f);
          home_in = named_in home x (Some q) r.home_long r.home_in q-in;
          idle = λ y h e.
              let y≢x : y ≡ x → ⊥ = λ k. let f = ap (named (set home x (Some q))) k ∙ get_or-set_same home x (Some q) None (omega arith) in let z : ◌≡◌ {A = ℕ} 0 1 = cc in omega arith in
              let i : at next y ≡ y = r.idle y h (sym (get_or-set_other home x y (Some q) None y≢x) ∙ e) in
              n-o y (λ k. let z : s ≡ y = cc in omega arith) y≢x ∙ i;
          ring = λ k h. ⊎_elim
              (λ e. subst (λ (xs : List ℕ). Path (at next') (1024 + k) xs (1024 + k)) (sym (pushed_here k e))
              (push_here (at next) (at next') (at prev) l x (1024 + k) r.back x-in l-in (nl-is ∙ ap (λ (z : ℕ). 1024 + z) (sym e)) nx-is n-l (n-x ∙ ap (λ (z : ℕ). 1024 + z) (sym e)) n-o
              (qs k) (1024 + k) (omega arith) (omega arith) (r.slots k h) (omega arith) (r.ring k h)))
              (λ e. subst (λ (xs : List ℕ). Path (at next') (1024 + k) xs (1024 + k)) (sym (pushed_else k e))
              (push_other (at next) (at next') (at prev) l x s r.back x-in l-in nl-is nx-is n-l n-x n-o
              (qs k) (1024 + k) (1024 + k) (omega arith) (omega arith) (r.slots k h) (omega arith) (omega arith) (r.ring k h)))
              (cases_eq k q);
          slots = λ k h. ⊎_elim
              (λ e. subst (AllByRecursion (λ y. y < 1024)) (sym (pushed_here k e)) (All-push (λ y. y < 1024) (qs k) x (r.slots k h) x-in))
              (λ e. subst (AllByRecursion (λ y. y < 1024)) (sym (pushed_else k e)) (r.slots k h))
              (cases_eq k q);
          once = λ k h. ⊎_elim
              (λ e. subst Once (sym (pushed_here k e)) (once_push (qs k) x (r.once k h) (r.member k x h x-in ∙ ap (λ (o : Option ℕ). names o k) out-yet)))
              (λ e. subst Once (sym (pushed_else k e)) (r.once k h))
              (cases_eq k q);
          member = λ k y h yh.
              let m = r.member k y h yh in
              let hs = get_or-set_same home x (Some q) None (omega arith) in
              let b : holds y (pushed k) ≡ cond (eqb k q) (holds y (qs k) || eqb x y) (holds y (qs k)) = ⊎_elim
              (λ e. ap (holds y) (pushed_here k e) ∙ holds_push y (qs k) x ∙ sym (cond-true (eqb k q) (holds y (qs k) || eqb x y) (holds y (qs k)) (eq-eqb k q e)))
              (λ e. ap (holds y) (pushed_else k e) ∙ sym (cond-false (eqb k q) (holds y (qs k) || eqb x y) (holds y (qs k)) (ne_eqb k q e)))
              (cases_eq k q) in
              ⊎_elim
              (λ e.
              let was : holds y (qs k) ≡ false = m ∙ ap (λ (o : Option ℕ). names o k) (ap (named home) e ∙ out-yet) in
              let now : holds y (pushed k) ≡ eqb q k = grind (arith, nat_tests) in
              now ∙ sym (ap (λ (o : Option ℕ). names o k) (ap (named (set home x (Some q))) e ∙ hs)))
              (λ e.
              let now : holds y (pushed k) ≡ holds y (qs k) = grind (arith, nat_tests) in
              now ∙ m ∙ sym (ap (λ (o : Option ℕ). names o k) (get_or-set_other home x y (Some q) None e)))
              (cases_eq y x);
        }

  module _ (x : ℕ) (x-in : x < 1024) where
    pub rings_remove : Rings (set (set next (at prev x) (at next x)) x x) (set (set prev (at next x) (at prev x)) x x) (set home x None) (λ k. sans x (qs k))
    rings_remove =
        let nl = r.next_long in
        let pl = r.prev_long in
        let hl = r.home_long in
        let p : ℕ = at prev x in
        let n : ℕ = at next x in
        let p-in : p < 1280 = r.prev_in x (omega arith) in
        let n-in : n < 1280 = r.next_in x (omega arith) in
        let np-is : at next p ≡ x = r.forth x (omega arith) in
        let pn-is : at prev n ≡ x = r.back x (omega arith) in
        let next' : List ℕ = set (set next p n) x x in
        let prev' : List ℕ = set (set prev n p) x x in
        let n-p : (p ≡ x → ⊥) → at next' p ≡ n = two_first next p n x x (omega arith) (omega arith) in
        let n-x : at next' x ≡ x = two_last next p n x x (omega arith) (omega arith) in
        let n-o : (k : ℕ) → (k ≡ p → ⊥) → (k ≡ x → ⊥) → at next' k ≡ at next k = two_other next p n x x (omega arith) (omega arith) in
        let p-n : (n ≡ x → ⊥) → at prev' n ≡ p = two_first prev n p x x (omega arith) (omega arith) in
        let p-x : at prev' x ≡ x = two_last prev n p x x (omega arith) (omega arith) in
        let p-o : (k : ℕ) → (k ≡ n → ⊥) → (k ≡ x → ⊥) → at prev' k ≡ at prev k = two_other prev n p x x (omega arith) (omega arith) in
        record {
          next_long = simp length-set (omega arith);
          prev_long = simp length-set (omega arith);
          home_long = simp length-set (omega arith);
          next_in = λ i h. by_apart (λ k. at next' k < 1280) p x i (λ e. omega (arith, n-p e)) (omega (arith, n-x)) (λ a b. let e = n-o i a b in let f = r.next_in i h in omega arith);
          prev_in = λ i h. by_apart (λ k. at prev' k < 1280) n x i (λ e. omega (arith, p-n e)) (omega (arith, p-x)) (λ a b. let e = p-o i a b in let f = r.prev_in i h in omega arith);
          back = λ i h. by_apart (λ k. at prev' (at next' k) ≡ k) p x i
              (λ d. ap (at prev') (n-p d) ∙ p-n (λ e. let z : p ≡ x = cc in d z)) (ap (at prev') n-x ∙ p-x)
              (λ a b. let f = r.back i h in
              ap (at prev') (n-o i a b) ∙ p-o (at next i) (λ e. let z : i ≡ x = cc in b z) (λ e. let z : i ≡ p = cc in a z) ∙ f);
          forth = λ i h. by_apart (λ k. at next' (at prev' k) ≡ k) n x i
              (λ d. ap (at next') (p-n d) ∙ n-p (λ e. let z : n ≡ x = cc in d z)) (ap (at next') p-x ∙ n-x)
              (λ a b. let f = r.forth i h in
              ap (at next') (p-o i a b) ∙ n-o (at prev i) (λ e. let z : i ≡ x = cc in b z) (λ e. let z : i ≡ n = cc in a z) ∙ f);
          home_in = named_in home x None r.home_long r.home_in (omega arith);
          idle = λ y h e. ⊎_elim
              (λ k. ap (at next') k ∙ n-x ∙ sym k)
              (λ k.
              let i : at next y ≡ y = r.idle y h (sym (get_or-set_other home x y None None k) ∙ e) in
              n-o y (λ z. let w : y ≡ x = cc in k w) k ∙ i)
              (cases_eq y x);
          ring = λ k h.
              let o : Path (at next') (here (at next) (at next') (at prev) p x n r.back x-in p-in np-is refl n-p n-o (1024 + k)) (sans x (qs k)) (1024 + k) =
              out (at next) (at next') (at prev) p x n r.back x-in p-in np-is refl n-p n-o (qs k) (1024 + k) (1024 + k) (omega arith) (r.slots k h) (omega arith) (r.ring k h) in
              subst (λ (z : ℕ). Path (at next') z (sans x (qs k)) (1024 + k))
              (here_other (at next) (at next') (at prev) p x n r.back x-in p-in np-is refl n-p n-o (1024 + k) (omega arith)) o;
          slots = λ k h. all_sans (λ y. y < 1024) x (qs k) (r.slots k h);
          once = λ k h. once_sans x (qs k) (r.once k h);
          member = λ k y h yh.
              let m = r.member k y h yh in
              let b = holds_sans y x (qs k) in
              let hs = get_or-set_same home x None None (omega arith) in
              ⊎_elim
              (λ e. b ∙ cond-true (eqb y x) false (holds y (qs k)) (eq-eqb y x e) ∙ sym (ap (λ (o : Option ℕ). names o k) (ap (named (set home x None)) e ∙ hs)))
              (λ e. b ∙ cond-false (eqb y x) false (holds y (qs k)) (ne_eqb y x e) ∙ m ∙ sym (ap (λ (o : Option ℕ). names o k) (get_or-set_other home x y None None e)))
              (cases_eq y x);
        }

-- whether queue k holds a slot, as its anchor tells
abbrev pub sign : List ℕ → ℕ → Bool
sign next k = not (eqb (at next (1024 + k)) (1024 + k))

path_empty : (f : ℕ → ℕ) (a : ℕ) (xs : List ℕ) → 1024 ≤ a → AllByRecursion (λ y. y < 1024) xs → Path f a xs a → f a ≡ a → xs ≡ []
path_empty f a [] h s p e = refl
path_empty f a (y ∷ ys) h s p e = let l : y < 1024 = s.0 in let q : f a ≡ y = p.0 in absurd (omega arith)

path_head : (f : ℕ → ℕ) (a : ℕ) (xs : List ℕ) → Path f a xs a → (f a ≡ a → ⊥) → xs ≡ f a ∷ drop 1 xs
path_head f a [] p n = absurd (n p)
path_head f a (y ∷ ys) p n = ap (λ (z : ℕ). z ∷ ys) (sym p.0)

module _ {next prev : List ℕ} {home : List (Option ℕ)} {qs : ℕ → List ℕ} (r : Rings next prev home qs) where
  pub unsigned_empty : (k : ℕ) → k < 256 → sign next k ≡ false → qs k ≡ []
  unsigned_empty k h s =
      let e = eqb-true (at next (1024 + k)) (1024 + k) (not-false (eqb (at next (1024 + k)) (1024 + k)) s) in
      path_empty (at next) (1024 + k) (qs k) (omega arith) (r.slots k h) (r.ring k h) e

  pub signed_head : (k : ℕ) → k < 256 → sign next k ≡ true → qs k ≡ at next (1024 + k) ∷ drop 1 (qs k)
  signed_head k h s =
      let e = eqb-false (at next (1024 + k)) (1024 + k) (not-true (eqb (at next (1024 + k)) (1024 + k)) s) in
      path_head (at next) (1024 + k) (qs k) (r.ring k h) e

  pub sign_push : (q x : ℕ) → q < 256 → x < 1024 → (k : ℕ) → k < 256 →
      sign (set (set next (at prev (1024 + q)) x) x (1024 + q)) k ≡ (eqb k q || sign next k)
  sign_push q x q-in x-in k h =
      let nl = r.next_long in
      let s : ℕ = 1024 + q in
      let a : ℕ = 1024 + k in
      let l : ℕ = at prev s in
      let l-in : l < 1280 = r.prev_in s (omega arith) in
      let nl-is : at next l ≡ s = r.forth s (omega arith) in
      let ba = r.back a (omega arith) in
      let next' : List ℕ = set (set next l x) x s in
      ⊎_elim
      (λ e. let v : at next' a ≡ x = ap (at next') e ∙ two_first next l x x s (omega arith) (omega arith) (omega arith) in
      let w : at next a ≡ s = ap (at next) e ∙ nl-is in
      grind (arith, nat_tests))
      (λ e. let v : at next' a ≡ at next a = two_other next l x x s (omega arith) (omega arith) a e (omega arith) in
      ⊎_elim
      (λ z. let w : at next a ≡ a → ⊥ = λ u. let t : a ≡ l = cc (ap (at prev) u, ap (λ (y : ℕ). at prev (1024 + y)) z) in e t in grind (arith, nat_tests))
      (λ z. grind (arith, nat_tests))
      (cases_eq k q))
      (cases_eq a l)

  module _ (x : ℕ) (x-in : x < 1024) where
    -- the ring that x was all of
    pub sign_last : at prev x ≡ at next x → 1024 ≤ at prev x → sign next (at prev x - 1024) ≡ true
    sign_last e h =
        let f = r.forth x (omega arith) in
        let a : 1024 + (at prev x - 1024) ≡ at prev x = omega arith in
        let b : at next (1024 + (at prev x - 1024)) ≡ x = ap (at next) a ∙ f in
        grind (arith, nat_tests)

    pub sign_gone : at prev x ≡ at next x → 1024 ≤ at prev x → (k : ℕ) → k < 256 →
        sign (set (set next (at prev x) (at next x)) x x) k ≡ (not (eqb k (at prev x - 1024)) && sign next k)
    sign_gone e g k h =
        let nl = r.next_long in
        let p-in = r.prev_in x (omega arith) in
        let a : ℕ = 1024 + k in
        let next' : List ℕ = set (set next (at prev x) (at next x)) x x in
        ⊎_elim
        (λ z. let v : at next' a ≡ at next x = ap (at next') z ∙ two_first next (at prev x) (at next x) x x (omega arith) (omega arith) (omega arith) in
        grind (arith, nat_tests))
        (λ z. let v : at next' a ≡ at next a = two_other next (at prev x) (at next x) x x (omega arith) (omega arith) a z (omega arith) in
        grind (arith, nat_tests))
        (cases_eq a (at prev x))

    pub sign_kept : (at prev x ≡ at next x → 1024 ≤ at prev x → ⊥) → (k : ℕ) → k < 256 →
        sign (set (set next (at prev x) (at next x)) x x) k ≡ sign next k
    sign_kept n k h =
        let nl = r.next_long in
        let p-in = r.prev_in x (omega arith) in
        let f = r.forth x (omega arith) in
        let a : ℕ = 1024 + k in
        let next' : List ℕ = set (set next (at prev x) (at next x)) x x in
        ⊎_elim
        (λ z. let v : at next' a ≡ at next x = ap (at next') z ∙ two_first next (at prev x) (at next x) x x (omega arith) (omega arith) (omega arith) in
        let w : at next a ≡ x = ap (at next) z ∙ f in
        let u : at prev x ≡ at next x → ⊥ = λ y. n y (omega arith) in
        grind (arith, nat_tests))
        (λ z. let v : at next' a ≡ at next a = two_other next (at prev x) (at next x) x x (omega arith) (omega arith) a z (omega arith) in
        grind (arith, nat_tests))
        (cases_eq a (at prev x))

-- nothing in any queue
pub rings_none : (next prev : List ℕ) (home : List (Option ℕ)) → length next ≡ 1280 → length prev ≡ 1280 → ((k : ℕ) → k < 1280 → at next k ≡ k) → ((k : ℕ) → k < 1280 → at prev k ≡ k) →
    length home ≡ 1024 → ((x : ℕ) → x < 1024 → named home x ≡ None) → Rings next prev home (λ _. [])
rings_none next prev home nl pl n p hl hx = record {
  next_long = nl;
  prev_long = pl;
  home_long = hl;
  next_in = λ i h. let z = n i h in omega arith;
  prev_in = λ i h. let z = p i h in omega arith;
  back = λ i h. ap (at prev) (n i h) ∙ p i h;
  forth = λ i h. ap (at next) (p i h) ∙ n i h;
  home_in = λ x h. let z = ap number (hx x h) in omega arith;
  idle = λ x h _. n x (omega arith);
  ring = λ q h. n (1024 + q) (omega arith);
  slots = λ q h. tt;
  once = λ q h. tt;
  member = λ q x h k. sym (ap (λ (o : Option ℕ). names o q) (hx x k));
}

pub sign_none : (next : List ℕ) → ((k : ℕ) → k < 1280 → at next k ≡ k) → (k : ℕ) → k < 256 → sign next k ≡ false
sign_none next e k h = let z = e (1024 + k) (omega arith) in grind (arith, nat_tests)
