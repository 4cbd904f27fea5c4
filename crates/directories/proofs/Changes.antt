-- An entry and a removal as the code writes them, cell by cell.
use Rattle.std.proofs.Common.{◌≡◌, ℕ, ◌+◌, ◌-◌, ◌%◌, ◌<◌, ◌≤◌, Bool, true, List, length, get_or, set, is_some, Some, None, Option, refl, sym, ap, ◌∙◌, arith}
use Rattle.std.proofs.lemmas.List.{length-set}
use Rattle.keys.specs.Sameness.{SameLaws}
use Rattle.directories.specs.declared.cells.Cell.{Cell}
use Rattle.directories.specs.Cells.{keys_of, heads_of, nexts_of, frees_of, Beyond, Wrote, WroteLink}
use Rattle.directories.specs.Meaning.{holds, find, Enters, removed}
use Rattle.directories.specs.Links.{Last, in_bucket, link_at}
use Rattle.directories.specs.Tables.{Held, Located, table}
use Rattle.directories.proofs.Columns.{same, read, wrote}
use Rattle.directories.proofs.Moves.{moved_in, moved_out}
use Rattle.directories.proofs.Entries.{top_unused, found_here, enter_sound, enter_means, remove_sound, remove_means, find_means, held_still, spare}

module _ {K : Type 0} {alike : K → K → Bool} {home : K → ℕ} (laws : SameLaws alike home) {cs : List (Cell K)} {cap m n : ℕ} (old : Held alike home cs cap m n) (key : K) where
  -- the cells after an entry at slot s, where c1 are those after the link to it was led there
  abbrev with_entry : (c1 : List (Cell K)) (s next : ℕ) (d : Cell K) → List (Cell K)
  with_entry c1 s next d = set c1 s (record { key = Some key; head = (get_or c1 s d).head; next = next; free = (get_or c1 s d).free })

  pub put : (s b next : ℕ) (p : Option ℕ) (c1 : List (Cell K)) (d : Cell K) → 0 < n → s ≡ get_or (frees_of cs) (n - 1) 0 →
      Located alike cs m key None → b ≡ home key % m → b < m → Last (in_bucket home m (keys_of cs) b) s p →
      length c1 ≡ length cs → next ≡ link_at (heads_of cs) (nexts_of cs) b p → WroteLink cs c1 b p s →
      Held alike home (with_entry c1 s next d) cap m (n - 1) × Enters alike (table cs m cap) key (Some s) (table (with_entry c1 s next d) m cap) × Beyond m cs (with_entry c1 s next d)
  put s b next p c1 d pos top none eb bm last len led leads =
      let unused = top_unused laws old.sound s pos top in
      let c2 = with_entry c1 s next d in
      let written : Wrote s c1 c2 (set (keys_of c1) s (Some key)) (heads_of c1) (set (nexts_of c1) s next) (frees_of c1) =
      wrote c1 s _ refl (same (λ c. c.head) c1 s d) refl (same (λ c. c.free) c1 s d) in
      let done = moved_in home m cs s key b p eb old.sound.chained unused.0 old.sound.within bm last c1 c2 next unused.1 led leads written in
      let long : length (with_entry c1 s next d) ≡ length cs = length-set c1 s _ ∙ len in (
        held_still old long (enter_sound laws old.sound key s c2 pos top none long done.keys done.frees done.chained),
        enter_means laws old.sound key cap s c2 pos top none done.keys,
        done.rest,
      )

  -- the cells after the key at slot s is gone, and after the slot is back on the stack
  abbrev without_key : (c1 : List (Cell K)) (s : ℕ) (d : Cell K) → List (Cell K)
  without_key c1 s d = set c1 s (record { key = None; head = (get_or c1 s d).head; next = (get_or c1 s d).next; free = (get_or c1 s d).free })

  abbrev with_free : (c2 : List (Cell K)) (s : ℕ) (e : Cell K) → List (Cell K)
  with_free c2 s e = set c2 n (record { key = (get_or c2 n e).key; head = (get_or c2 n e).head; next = (get_or c2 n e).next; free = s })

  pub taken : (s b : ℕ) (p : Option ℕ) (c1 : List (Cell K)) (d e f : Cell K) → Located alike cs m key (Some s) →
      b ≡ home key % m → b < m → Last (in_bucket home m (keys_of cs) b) s p →
      length c1 ≡ length cs → WroteLink cs c1 b p (get_or cs s f).next →
      Held alike home (with_free (without_key c1 s d) s e) cap m (n + 1)
      × (true ≡ is_some (find alike (table cs m cap) key)) × (table (with_free (without_key c1 s d) s e) m cap ≡ removed alike (table cs m cap) key)
      × Beyond m cs (with_free (without_key c1 s d) s e)
  taken s b p c1 d e f found eb bm last len leads =
      let held = found_here laws old.sound key s found.1 in
      let sm : s < m = found.0 in
      let mc : m ≤ length cs = old.sound.within in
      let within : s < length cs = omega arith in
      let same_home : b ≡ home held.0 % m = eb ∙ ap (λ h. h % m) (sym (laws.one_home held.0 key (sym (ap (holds alike key) held.1) ∙ found.1))) in
      let c2 = without_key c1 s d in
      let c3 = with_free c2 s e in
      let out : Wrote s c1 c2 (set (keys_of c1) s None) (heads_of c1) (nexts_of c1) (frees_of c1) =
      wrote c1 s _ refl (same (λ c. c.head) c1 s d) (same (λ c. c.next) c1 s d) (same (λ c. c.free) c1 s d) in
      let done = moved_out home m cs s held.0 b p same_home old.sound.chained sm old.sound.within bm last c1 c2 (get_or cs s f).next held.1
      (read (λ c. c.next) cs s f 0 within) leads out in
      let back : Wrote n c2 c3 (keys_of c2) (heads_of c2) (nexts_of c2) (set (frees_of c2) n s) =
      wrote c2 n _ (same (λ c. c.key) c2 n e) (same (λ c. c.head) c2 n e) (same (λ c. c.next) c2 n e) refl in
      let long2 : length (without_key c1 s d) ≡ length cs = length-set c1 s _ ∙ len in
      let long3 : length (with_free (without_key c1 s d) s e) ≡ length (without_key c1 s d) = length-set c2 n _ in (
        held_still old (long3 ∙ long2) (remove_sound laws old.sound key s c2 c3 found long2 long3 done.keys done.frees done.chained back),
        ap is_some (find_means laws old.sound key (Some s) cap found),
        remove_means laws old.sound key s cap c3 found (back.keys ∙ done.keys),
        back.rest m (spare laws old.sound key s found) ∙ done.rest,
      )
