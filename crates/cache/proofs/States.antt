-- States that are built part by part, and steps that leave sound ones.
use Rattle.std.proofs.Common.{◌≡◌, ℕ, ◌<◌, min, max, Bool, List, replicate, IfSome, Some, None, Option, sym, ap, ◌∙◌, arith}
use Rattle.keys.specs.Sameness.{SameLaws}
use Rattle.orders.specs.Meaning.{OrderMeaning, emptied}
use Rattle.directories.specs.Meaning.{DirectoryMeaning, find, emptied as emptied_directory}
use Rattle.promises.specs.declared.records.Record.{Record}
use Rattle.promises.specs.declared.records.Table.{Table}
use Rattle.promises.specs.State.{State, Sound, blank}
use Rattle.promises.specs.Events.{Event}
use Rattle.promises.specs.Steps.{Step}
use Rattle.promises.specs.Lines.{made, chunk_size}
use Rattle.promises.proofs.Seeks.{found_below}
use Rattle.promises.proofs.Sounds.{sound_after}

-- a state by its parts
pub parts_same : {K : Type 0} {d d' : DirectoryMeaning K} {o o' : OrderMeaning} {t t' : Table} → d ≡ d' → o ≡ o' → t ≡ t' → ◌≡◌ {A = State K} (record { directory = d; order = o; table = t }) (record { directory = d'; order = o'; table = t' })
parts_same {K} {d} {d'} {o} {o'} {t} {t'} p q r =
    ap (λ (x : DirectoryMeaning K). record { directory = x; order = o; table = t }) p
    ∙ ap (λ (x : OrderMeaning). record { directory = d'; order = x; table = t }) q
    ∙ ap (λ (x : Table). record { directory = d'; order = o'; table = x }) r

pub new_made : {K : Type 0} (d d₁ : DirectoryMeaning K) (o o₁ : OrderMeaning) (mark chunk c z z₁ : ℕ) (records : List Record) → o₁ ≡ emptied o → z ≡ o₁.size → z₁ ≡ min z 1024 → d₁ ≡ emptied_directory d z₁ → c ≡ max 1 (min chunk 4096) → records ≡ replicate 1024 blank
    → ◌≡◌ {A = State K} (record { directory = d₁; order = o₁; table = record { mark = mark; chunk = c; records = records } }) (made (record { directory = d; order = o; mark = mark; chunk = chunk }))
new_made d d₁ o o₁ mark chunk c z z₁ records e f g h b t =
    let y : o₁.size ≡ o.size = ap (λ (x : OrderMeaning). x.size) e in
    let n : z₁ ≡ min 1024 o.size = omega arith in
    let l : c ≡ chunk_size chunk = omega arith in
    parts_same (h ∙ ap (emptied_directory d) n) e
    (ap (λ (x : ℕ). record { mark = mark; chunk = x; records = records }) l
    ∙ ap (λ (x : List Record). record { mark = mark; chunk = chunk_size chunk; records = x }) t)

-- a slot that was found lies in the table
pub found_small : {K : Type 0} (same : K → K → Bool) (s : State K) (k : K) (r : Option ℕ) → Sound same s → r ≡ find same s.directory k → IfSome r (λ i. i < 1024)
found_small same s k None S e = tt
found_small same s k (Some i) S e = let z = found_below same s.directory k i (sym e) in omega (arith, S.few)

module _ {K : Type 0} {home : K → ℕ} (same : K → K → Bool) (L : SameLaws same home) (s : State K) (S : Sound same s) where
  -- a step, and that it leaves a sound state
  abbrev pub Done : Event K → State K → Type 0
  Done e t = Step same s e t × Sound same t

  pub done : (e : Event K) (t : State K) → Step same s e t → Done e t
  done e t z = (z, sound_after same s e t L S z)
