-- How the loops over an order come to what the definitions say.
use Rattle.std.proofs.Common.{◌≡◌, ℕ, suc, ◌+◌, ◌<◌, ◌≤◌, ltb, List, [], ◌∷◌, ◌++◌, length, get_or, drop, Some, None, sym, refl, ap, ◌∙◌, ap₂, append_assoc, arith}
use Rattle.std.proofs.lemmas.List.{drop_more, drop_all, append-nil}
use Rattle.std.proofs.lemmas.Bool.{cond_both}
use Rattle.orders.specs.declared.Entry.{Entry}
use Rattle.orders.specs.declared.Expelled.{Expelled}
use Rattle.orders.specs.Meaning.{OrderMeaning, joined, fallen, takes, placed, leaver, rest, expelled, emptied, holding}
use Rattle.forecasts.specs.Table.{row}
use Rattle.forecasts.specs.declared.table.Row.{Row}
use Rattle.forecasts.specs.Leaving.{all_placed, answers, departures}

-- ---- expel

fallen_length : (d : ℕ) (xs : List Entry) → length (fallen d xs) ≡ length xs
fallen_length d [] = refl
fallen_length d (x ∷ xs) = ap suc (fallen_length d xs)

pub none_waits : (xs : List Entry) → None ≡ leaver xs → xs ≡ []
none_waits [] e = refl
none_waits (x ∷ xs) e = let z : ◌≡◌ {A = ℕ} 0 1 = cc in absurd (omega arith)

pub one_less : (xs : List Entry) (e : Expelled) → Some e ≡ leaver xs → length xs ≡ suc (length (rest xs))
one_less [] e h = let z : ◌≡◌ {A = ℕ} 0 1 = cc in absurd (omega arith)
one_less (x ∷ xs) e h = ap suc (sym (fallen_length x.credit xs))

one_leaves : (xs : List Entry) (e : Expelled) → Some e ≡ leaver xs → answers (length xs) xs ≡ e ∷ answers (length (rest xs)) (rest xs)
one_leaves [] e h = let z : ◌≡◌ {A = ℕ} 0 1 = cc in absurd (omega arith)
one_leaves (x ∷ xs) e h =
    let first : Expelled = record { slot = x.slot; credit = x.credit } in
    let same : first ≡ e = cc in
    ap₂ (λ (f : Expelled) (n : ℕ). f ∷ answers n (fallen x.credit xs)) same (sym (fallen_length x.credit xs))

-- one turn of the loop that expels all
pub drain_more : (m m₀ m' : OrderMeaning) (gone gone' : List Expelled) (e : Expelled) → gone ++ departures m ≡ departures m₀ → Some e ≡ leaver m.waiting →
    m' ≡ expelled m → gone' ≡ gone ++ e ∷ [] → gone' ++ departures m' ≡ departures m₀
drain_more m m₀ m' gone gone' e inv h after more =
    ap₂ (λ (us : List Expelled) (k : OrderMeaning). us ++ departures k) more after
    ∙ append_assoc gone (e ∷ []) (departures (expelled m)) ∙ ap (λ (us : List Expelled). gone ++ us) (sym (one_leaves m.waiting e h)) ∙ inv

pub drain_all : (m m₀ : OrderMeaning) (gone : List Expelled) → gone ++ departures m ≡ departures m₀ → None ≡ leaver m.waiting → gone ≡ departures m₀
drain_all m m₀ gone inv h =
    sym (append-nil gone) ∙ ap (λ (xs : List Entry). gone ++ answers (length xs) xs) (sym (none_waits m.waiting h)) ∙ inv

-- ---- place

joined_length : (e : Entry) (xs : List Entry) → length (joined e xs) ≡ suc (length xs)
joined_length e [] = refl
joined_length e (x ∷ xs) = cond_both (ltb e.credit x.credit) (e ∷ x ∷ xs) (x ∷ joined e xs) (λ (ys : List Entry). length ys ≡ suc (suc (length xs)))
    (λ t. refl) (λ t. ap suc (joined_length e xs))

module _ (m : OrderMeaning) (s c : ℕ) where
  placed_length : length (placed m s c).waiting ≤ suc (length m.waiting)
  placed_length = cond_both (takes m s c) (holding m (joined (record { slot = s; credit = c }) m.waiting)) m (λ (k : OrderMeaning). length k.waiting ≤ suc (length m.waiting))
      (λ t. let l = joined_length (record { slot = s; credit = c }) m.waiting in omega arith) (λ t. omega arith)

  placed_emptied : emptied (placed m s c) ≡ emptied m
  placed_emptied = cond_both (takes m s c) (holding m (joined (record { slot = s; credit = c }) m.waiting)) m (λ (k : OrderMeaning). emptied k ≡ emptied m)
      (λ t. refl) (λ t. refl)

pub all_placed_length : (m : OrderMeaning) (rows : List Row) → length (all_placed m rows).waiting ≤ length m.waiting + length rows
all_placed_length m [] = omega arith
all_placed_length m (r ∷ rs) =
    let a = all_placed_length (placed m r.slot r.cost) rs in
    let b = placed_length m r.slot r.cost in
    omega arith

pub all_placed_emptied : (m : OrderMeaning) (rows : List Row) → emptied (all_placed m rows) ≡ emptied m
all_placed_emptied m [] = refl
all_placed_emptied m (r ∷ rs) = all_placed_emptied (placed m r.slot r.cost) rs ∙ placed_emptied m r.slot r.cost

-- one turn of the loop that places the rows
module _ (m m₀ : OrderMeaning) (rows : List Row) (i : ℕ) (inv : all_placed m (drop i rows) ≡ all_placed m₀ rows) where
  pub place_more : (m' : OrderMeaning) → i < length rows → m' ≡ placed m (get_or rows i (row 0 0)).slot (get_or rows i (row 0 0)).cost → all_placed m' (drop (i + 1) rows) ≡ all_placed m₀ rows
  place_more m' h e = ap (λ (k : OrderMeaning). all_placed k (drop (i + 1) rows)) e ∙ sym (ap (all_placed m) (drop_more rows i (row 0 0) h)) ∙ inv

  pub place_done : length rows ≤ i → m ≡ all_placed m₀ rows
  place_done h = sym (ap (all_placed m) (drop_all i rows h)) ∙ inv
