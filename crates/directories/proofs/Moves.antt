-- What the writes of one entry and of one removal leave.
use Rattle.std.proofs.Common.{◌≡◌, ℕ, ◌%◌, ◌<◌, ◌≤◌, Bool, List, length, get_or, set, Some, None, Option, ap, ◌∙◌, subst, arith}
use Rattle.std.proofs.lemmas.List.{length-map}
use Rattle.directories.specs.declared.cells.Cell.{Cell}
use Rattle.directories.specs.Cells.{keys_of, heads_of, nexts_of, frees_of, key_in, Beyond, Wrote, WroteLink}
use Rattle.directories.specs.Links.{Last, Below, Chained, in_bucket, link_at, link_cell, heads_with, nexts_with}
use Rattle.directories.specs.Tables.{Threaded}
use Rattle.directories.proofs.Chains.{chained_in, chained_out}

pub last_below : (f : ℕ → Bool) (s n : ℕ) (p : Option ℕ) → Last f s p → s ≤ n → Below n p
last_below f s n None last le = tt
last_below f s n (Some p) last le = let ps : p < s = last.0 in omega arith

module _ {K : Type 0} where
  chained_at : (home : K → ℕ) (m : ℕ) (ks ks' : List (Option K)) (hs hs' ns ns' : List ℕ) →
      ks' ≡ ks → hs' ≡ hs → ns' ≡ ns → Chained home m ks hs ns → Chained home m ks' hs' ns'
  chained_at home m ks ks' hs hs' ns ns' ek eh en old = rw (ek, eh, en) old

  pub record Moved (home : K → ℕ) (m : ℕ) (old new : List (Cell K)) (ks : List (Option K)) : Type 0 where
    pub keys : keys_of new ≡ ks
    pub frees : frees_of new ≡ frees_of old
    pub chained : Threaded home m new
    pub rest : Beyond m old new

  -- slot s of bucket b, where the key k belongs, comes in behind slot p or goes
  module _ (home : K → ℕ) (m : ℕ) (cs : List (Cell K)) (s : ℕ) (k : K) (b : ℕ) (p : Option ℕ)
      (eb : b ≡ home k % m) (old : Threaded home m cs) (sm : s < m) (mc : m ≤ length cs)
      (bm : b < m) (last : Last (in_bucket home m (keys_of cs) b) s p)
    where
      mk : m ≤ length (keys_of cs)
      mk = rw (length-map cs (λ c. c.key)) mc

      mh : m ≤ length (heads_of cs)
      mh = rw (length-map cs (λ c. c.head)) mc

      mn : m ≤ length (nexts_of cs)
      mn = rw (length-map cs (λ c. c.next)) mc

      bm' : home k % m < m
      bm' = rw eb at bm

      last' : Last (in_bucket home m (keys_of cs) (home k % m)) s p
      last' = subst (λ (b : ℕ). Last (in_bucket home m (keys_of cs) b) s p) eb last

      link_below : (f : ℕ → Bool) (b : ℕ) (p : Option ℕ) → b < m → Last f s p → link_cell b p < m
      link_below f b None l last = l
      link_below f b (Some p) l last = let ps : p < s = last.0 in omega arith

      pub moved_in : (c1 c2 : List (Cell K)) (n : ℕ) → key_in cs s ≡ None →
          n ≡ link_at (heads_of cs) (nexts_of cs) b p →
          WroteLink cs c1 b p s → Wrote s c1 c2 (set (keys_of c1) s (Some k)) (heads_of c1) (set (nexts_of c1) s n) (frees_of c1) →
          Moved home m cs c2 (set (keys_of cs) s (Some k))
      moved_in c1 c2 n free en w1 w2 =
          let ek : keys_of c2 ≡ set (keys_of cs) s (Some k) = w2.keys ∙ ap (λ ks. set ks s (Some k)) w1.keys in
          let eh : heads_of c2 ≡ heads_with (heads_of cs) (home k % m) p s = w2.heads ∙ w1.heads ∙ ap (λ b. heads_with (heads_of cs) b p s) eb in
          let ens : nexts_of c2 ≡ set (nexts_with (nexts_of cs) p s) s (link_at (heads_of cs) (nexts_of cs) (home k % m) p) =
          w2.nexts ∙ ap (λ ns. set ns s n) w1.nexts
          ∙ ap (set (nexts_with (nexts_of cs) p s) s) (en ∙ ap (λ b. link_at (heads_of cs) (nexts_of cs) b p) eb) in
          record {
            keys = ek;
            frees = w2.frees ∙ w1.frees;
            chained = chained_at home m _ _ _ _ _ _ ek eh ens
                (chained_in home m (keys_of cs) (heads_of cs) (nexts_of cs) s k p old sm mk mh mn bm' last' free);
            rest = w2.rest m sm ∙ w1.rest m (link_below (in_bucket home m (keys_of cs) b) b p bm last);
          }

      pub moved_out : (c1 c2 : List (Cell K)) (n : ℕ) → key_in cs s ≡ Some k →
          n ≡ get_or (nexts_of cs) s 0 →
          WroteLink cs c1 b p n → Wrote s c1 c2 (set (keys_of c1) s None) (heads_of c1) (nexts_of c1) (frees_of c1) →
          Moved home m cs c2 (set (keys_of cs) s None)
      moved_out c1 c2 n held en w1 w2 =
          let ek : keys_of c2 ≡ set (keys_of cs) s None = w2.keys ∙ ap (λ ks. set ks s None) w1.keys in
          let eh : heads_of c2 ≡ heads_with (heads_of cs) (home k % m) p (get_or (nexts_of cs) s 0) =
          w2.heads ∙ w1.heads ∙ ap (λ b. heads_with (heads_of cs) b p n) eb ∙ ap (heads_with (heads_of cs) (home k % m) p) en in
          let ens : nexts_of c2 ≡ nexts_with (nexts_of cs) p (get_or (nexts_of cs) s 0) =
          w2.nexts ∙ w1.nexts ∙ ap (nexts_with (nexts_of cs) p) en in
          record {
            keys = ek;
            frees = w2.frees ∙ w1.frees;
            chained = chained_at home m _ _ _ _ _ _ ek eh ens
                (chained_out home m (keys_of cs) (heads_of cs) (nexts_of cs) s k p old sm mk mh mn bm' last' held);
            rest = w2.rest m sm ∙ w1.rest m (link_below (in_bucket home m (keys_of cs) b) b p bm last);
          }
