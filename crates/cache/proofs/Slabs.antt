-- Values in a slab: where they lie, and the steps that read, write and remove them.
use Rattle.std.proofs.Common.{◌≡◌, ℕ, suc, ◌+◌, ◌-◌, ◌*◌, ◌<◌, ◌≤◌, Bool, true, false, List, ◌++◌, length, take, drop, is_some, Some, None, Ok, Option, sym, refl, ap, ◌∙◌, subst, mul-le-mul_right, suc-mul, arith}
use borrow.Rule.Slice.PartMut.{put_mid}
use Rattle.std.proofs.lemmas.List.{drop-drop}
use Rattle.std.proofs.lemmas.Bool.{cond-false, ltb-false, not_from_true, le-ltb}
use Rattle.keys.specs.Sameness.{SameLaws}
use Rattle.orders.specs.Meaning.{OrderMeaning, placed, withdrawn}
use Rattle.directories.specs.Meaning.{DirectoryMeaning, key_at, removed, freed}
use Rattle.promises.specs.declared.answers.Refusal.TheVariants.{LongValue, ShortSlab, UnknownLease}
use Rattle.promises.specs.declared.records.Ticket.{Ticket}
use Rattle.promises.specs.State.{State, Sound, slots, held_slot, record_at, out_at, known}
use Rattle.promises.specs.Events.{gets, writes, drops}
use Rattle.promises.specs.Steps.{short_slab, touched, written, start, rewritten}
use Rattle.promises.proofs.Seeks.{found_below, held_below}
use Rattle.promises.proofs.Sounds.{known_out, out_held, sound_touched}
use Rattle.cache.specs.Holding.{FindsWaiting}
use Rattle.cache.proofs.States.{parts_same, Done, done}

-- a slab after a copy into a part of it
pub pasted : (a k : ℕ) (xs ys zs : List ℕ) → ys ≡ zs → k ≡ length zs → put_mid a k xs ys ≡ written xs a zs
pasted a k xs ys zs e f = ap (λ (l : List ℕ). take a xs ++ (l ++ drop k (drop a xs))) e ∙ ap (λ (l : List ℕ). take a xs ++ (zs ++ l)) (drop-drop k a xs ∙ ap (λ (n : ℕ). drop (a + n) xs) f)

module _ {K : Type 0} {home : K → ℕ} (same : K → K → Bool) (L : SameLaws same home) (s : State K) (S : Sound same s) where
  -- what is no longer than a chunk lies in its slot's part of a slab that is not short
  pub fits : (i n m : ℕ) → i < slots s → slots s * s.table.chunk ≤ m → n ≤ s.table.chunk → i * s.table.chunk + n ≤ m
  fits i n m lt room short =
      let z : suc i * s.table.chunk ≤ slots s * s.table.chunk = mul-le-mul_right s.table.chunk lt in
      omega (arith, suc-mul i s.table.chunk)

  pub room : (m : ℕ) (b : Bool) → b ≡ short_slab s m → b ≡ false → slots s * s.table.chunk ≤ m
  room m b e f = ltb-false m (slots s * s.table.chunk) (sym e ∙ f)

  -- a region that waits is made the newest
  pub touch_sound : (i : ℕ) (o o' : OrderMeaning) → is_some (key_at s.directory i) ≡ true → out_at s.table i ≡ false → o ≡ withdrawn s.order i → o' ≡ placed o i (record_at s.table i).cost
      → Sound same (record { directory = s.directory; order = o'; table = s.table })
  touch_sound i o o' h b p q =
      let w : touched s i ≡ record { directory = s.directory; order = placed (withdrawn s.order i) i (record_at s.table i).cost; table = s.table } = cond-false (out_at s.table i) s _ b in
      subst (λ (t : State K). Sound same t) (w ∙ parts_same refl (sym (q ∙ ap (λ (x : OrderMeaning). placed x i (record_at s.table i).cost) p)) refl) (sound_touched same s i S h)

  pub get_fits : (k : K) (i m : ℕ) (f : Option ℕ) (b : Bool) → b ≡ short_slab s m → b ≡ false → f ≡ held_slot same s k → f ≡ Some i → i * s.table.chunk + (record_at s.table i).len ≤ m
  get_fits k i m f b p q e g = fits i _ m (found_below same s.directory k i (sym e ∙ g)) (room m b p q) (S.each i).short

  pub get_done : (k : K) (i w : ℕ) (slab : List ℕ) (f : Option ℕ) (b : Bool) (t : State K) → b ≡ short_slab s (length slab) → b ≡ false → f ≡ held_slot same s k → f ≡ Some i → t ≡ touched s i
      → Done same L s S (gets k slab (Ok (Some (record { from = (i * s.table.chunk + w) - w; bytes = take ((i * s.table.chunk + (record_at s.table i).len) - i * s.table.chunk) (drop (i * s.table.chunk) slab) })))) t
  get_done k i w slab f b t p q e g h =
      let n : ℕ = i * s.table.chunk in
      let l : ℕ = (record_at s.table i).len in
      let x : (n + w) - w ≡ n = omega arith in
      let y : (n + l) - n ≡ l = omega arith in
      done same L s S (gets k slab (Ok (Some (record { from = (n + w) - w; bytes = take ((n + l) - n) (drop n slab) })))) t (
        cond-false (short_slab s (length slab)) (Some ShortSlab) None (sym p ∙ q),
        record {
          slot = i;
          held = sym e ∙ g;
          part = ap (λ (u : ℕ). record { from = u; bytes = take ((n + l) - n) (drop n slab) }) x ∙ ap (λ (u : ℕ). record { from = n; bytes = take u (drop n slab) }) y;
          after = h;
        },
      )

  pub write_fits : (t : Ticket) (n m : ℕ) (b r : Bool) → b ≡ short_slab s m → b ≡ false → r ≡ known s.table t → r ≡ true → n ≤ s.table.chunk → t.slot * s.table.chunk + n ≤ m
  write_fits t n m b r p q e g l = fits t.slot n m (held_below same s.directory t.slot (out_held same s t.slot S (known_out s.table t (sym e ∙ g)))) (room m b p q) l

  pub write_done : (t : Ticket) (value slab slab' : List ℕ) (b r : Bool) → length value ≤ s.table.chunk → b ≡ short_slab s (length slab) → b ≡ false → r ≡ known s.table t → r ≡ true → slab' ≡ written slab (start s t.slot) value
      → Done same L s S (writes t value slab (Ok tt) slab') (rewritten s t.slot (length value))
  write_done t value slab slab' b r l p q e g h =
      done same L s S (writes t value slab (Ok tt) slab') (rewritten s t.slot (length value)) (
        cond-false _ (Some LongValue) _ (le-ltb s.table.chunk (length value) l) ∙ cond-false _ (Some ShortSlab) _ (sym p ∙ q) ∙ cond-false _ (Some UnknownLease) None (not_from_true (known s.table t) (sym e ∙ g)),
        refl,
        h,
      )

  pub drop_done : (k : K) (i : ℕ) (o : OrderMeaning) (d : DirectoryMeaning K) → FindsWaiting same s k (Ok i) → o ≡ withdrawn s.order i → d ≡ removed same s.directory k
      → Done same L s S (drops k (Ok tt)) (record { directory = d; order = o; table = s.table })
  drop_done k i o d w h l = done same L s S (drops k (Ok tt)) _ (w.0, record { slot = i; held = w.1; after = parts_same (l ∙ ap (freed s.directory) w.1) h refl })
