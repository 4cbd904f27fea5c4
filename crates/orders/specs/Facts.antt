-- What the ghost fields of `Queues` tell.
use Rattle.std.specs.Prelude.{◌≡◌, ℕ, ◌<◌, ◌≤◌, true, false, List, [], ◌∷◌, length, Some, None, Option, ◌==◌, ◌≢◌, refl}
use Rattle.std.proofs.Common.{sym, subst, ◌∙◌, ⊎_elim, arith}
use Rattle.std.specs.List.{AllByRecursion}
use Rattle.std.specs.Option.{is_some}
use Rattle.std.proofs.lemmas.Bool.{or_from, ne_eqb, eqb-true, cases_lt}
use Rattle.orders.specs.declared.queues.Queues.{Queues}
use Rattle.orders.specs.Rings.{holds, Once, queue, named, names, number, nexts}

pub member_of : (v : Queues) (q x : ℕ) → q < 256 → x < 1024 → holds x (queue (nexts v.nodes) q) ≡ names (named v.home x) q
member_of v q x h k = v.rings.member q x h k

pub once_of : (v : Queues) (q : ℕ) → q < 256 → Once (queue (nexts v.nodes) q)
once_of v q h = v.rings.once q h

pub slots_of : (v : Queues) (q : ℕ) → q < 256 → AllByRecursion (λ x. x < 1024) (queue (nexts v.nodes) q)
slots_of v q h = v.rings.slots q h

pub home_long_of : (v : Queues) → length v.home ≡ 1024
home_long_of v = v.rings.home_long

holds_high : (m s : ℕ) (xs : List ℕ) → AllByRecursion (λ x. x < m) xs → m ≤ s → holds s xs ≡ false
holds_high m s [] a h = refl
holds_high m s (x ∷ xs) a h = let l : x < m = a.0 in or_from (x == s) (holds s xs) (ne_eqb x s (omega arith)) (holds_high m s xs a.1 h)

pub high_of : (v : Queues) (q s : ℕ) → q < 256 → 1024 ≤ s → holds s (queue (nexts v.nodes) q) ≡ false
high_of v q s h k = holds_high 1024 s (queue (nexts v.nodes) q) (slots_of v q h) k

names_lone : (o : Option ℕ) (i j : ℕ) → (i ≢ j) → names o i ≡ true → names o j ≡ false
names_lone None i j n h = refl
names_lone (Some r) i j n h = let e = eqb-true r i h in ne_eqb r j (omega arith)

-- a queue that is named, or none
pub some_is : (o : Option ℕ) → is_some o ≡ true → o ≡ Some (number o)
some_is None h = let z : ◌≡◌ {A = ℕ} 0 1 = cc in absurd (omega arith)
some_is (Some q) h = refl

pub none_is : (o : Option ℕ) → is_some o ≡ false → o ≡ None
none_is None h = refl
none_is (Some q) h = let z : ◌≡◌ {A = ℕ} 0 1 = cc in absurd (omega arith)

-- a slot stands in one queue at most
pub lone_of : (v : Queues) (i j x : ℕ) → i < 256 → j < 256 → (i ≢ j) → holds x (queue (nexts v.nodes) i) ≡ true → holds x (queue (nexts v.nodes) j) ≡ false
lone_of v i j x hi hj n h =
    ⊎_elim
    (λ l. member_of v j x hj l ∙ names_lone (named v.home x) i j n (sym (member_of v i x hi l) ∙ h))
    (λ l. high_of v j x hj l)
    (cases_lt x 1024)

-- the head of a queue is a slot
pub head_below : (v : Queues) (q x : ℕ) (ys : List ℕ) → q < 256 → queue (nexts v.nodes) q ≡ x ∷ ys → x < 1024
head_below v q x ys h e = let a : AllByRecursion (λ z. z < 1024) (x ∷ ys) = subst (AllByRecursion (λ z. z < 1024)) e (slots_of v q h) in a.0
