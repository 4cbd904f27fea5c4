-- What a hashed directory means, and what holds of it.
use Rattle.std.specs.Prelude.{◌≡◌, ℕ, ◌<◌, ◌≤◌, List, length, get_or, take, Some, None, Option, slice_index_or}
use Rattle.std.proofs.Common.{◌∙◌, sym, refl, ⊎_elim, arith}
use Rattle.std.proofs.lemmas.List.{length-map, length-take-le, get_or-take, get_or_past}
use Rattle.std.proofs.lemmas.Bool.{cases_lt}
use Rattle.keys.specs.declared.key.Key.{Ghosts as OfKey}
use Rattle.directories.specs.declared.hashed.HashedDirectory.{HashedDirectory}
use Rattle.directories.specs.Cells.{keys_of}
use Rattle.directories.specs.Meaning.{DirectoryMeaning, Distinct, Respects, AllAdmitted}
use Rattle.directories.specs.Tables.{table}

-- a key that stands in the first m slots of a list
standing : {K : Type 0} (m : ℕ) (ks : List (Option K)) → m ≤ length ks → (x : ℕ) (k : K) → slice_index_or (take m ks) x None ≡ Some k → (x < m) × (slice_index_or ks x None ≡ Some k)
standing m ks mk x k e = ⊎_elim
    (λ (l : x < m). (l, sym (get_or-take m ks x None l) ∙ e))
    (λ (g : m ≤ x). let past : get_or (take m ks) x None ≡ None = get_or_past (take m ks) x None (rw (length-take-le m ks mk) g) in
    let z : ◌≡◌ {A = ℕ} 0 1 = cc in absurd (omega arith))
    (cases_lt x m)

module _ {K : Type 0} {key : OfKey K} where
  abbrev pub hashed_meaning : HashedDirectory K key → DirectoryMeaning K
  hashed_meaning d = table d.cells.now d.size d.capacity

  pub hashed_distinct : (d : HashedDirectory K key) → Distinct key.sameness (hashed_meaning d)
  unfolding Distinct
  hashed_distinct d i j a b ea eb t =
      let long : d.size ≤ length (keys_of d.cells.now) = rw (length-map d.cells.now (λ c. c.key)) d.held.sound.within in
      let p = standing d.size (keys_of d.cells.now) long i a ea in
      let q = standing d.size (keys_of d.cells.now) long j b eb in
      d.held.sound.apart i j a b p.0 q.0 p.1 q.1 t

  pub hashed_respects : (d : HashedDirectory K key) → Respects key.sameness (hashed_meaning d)
  unfolding Respects
  hashed_respects d a b t = refl

  pub hashed_admitting : (d : HashedDirectory K key) → AllAdmitted (hashed_meaning d)
  unfolding AllAdmitted
  hashed_admitting d i a e = refl
