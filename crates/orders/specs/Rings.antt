-- Rings of nodes through a table of successors: node 1024 + q is the anchor of queue q, and nodes below 1024 are slots.
use Rattle.std.specs.Prelude.{◌≡◌, ℕ, zero, suc, ◌+◌, ◌<◌, Bool, false, cond, ◌||◌, List, [], ◌∷◌, length, map, Some, None, Option, ◌==◌, nat_lt, slice_index, slice_index_or}
use Rattle.std.specs.List.{AllByRecursion}
use Rattle.orders.specs.declared.queues.Node.{Node}

-- From node a the slots of the list follow one another, and then node b.
abbrev pub Path : (ℕ → ℕ) → ℕ → List ℕ → ℕ → Type 0
Path f a [] b = f a ≡ b
Path f a (x ∷ xs) b = (f a ≡ x) × Path f x xs b

-- The slots from node a on, up to the first anchor.
unfoldable pub walk : ℕ → (ℕ → ℕ) → ℕ → List ℕ
walk zero f a = []
walk (suc k) f a = cond (nat_lt a 1024) (a ∷ walk k f (f a)) []

-- The successors, and the predecessors, of all nodes.
abbrev pub nexts : List Node → List ℕ
nexts nodes = map (λ (n : Node). n.next) nodes

abbrev pub prevs : List Node → List ℕ
prevs nodes = map (λ (n : Node). n.prev) nodes

-- What a table has at a place.
abbrev pub at : List ℕ → ℕ → ℕ
at xs i = slice_index xs i

-- The queue that a table names for a slot, if it names one.
abbrev pub named : List (Option ℕ) → ℕ → Option ℕ
named table x = slice_index_or table x None

-- Whether it is queue q.
abbrev pub names : Option ℕ → ℕ → Bool
names None q = false
names (Some r) q = r == q

-- Its number, or 0.
abbrev pub number : Option ℕ → ℕ
number None = 0
number (Some q) = q

-- The slots of queue q, the oldest first.
unfoldable pub queue : List ℕ → ℕ → List ℕ
queue next q = walk 1024 (at next) (at next (1024 + q))

-- All but the slot x.
abbrev pub sans : ℕ → List ℕ → List ℕ
sans x [] = []
sans x (y ∷ ys) = cond (y == x) (sans x ys) (y ∷ sans x ys)

-- Whether the slot x is among them.
abbrev pub holds : ℕ → List ℕ → Bool
holds x [] = false
holds x (y ∷ ys) = y == x || holds x ys

-- No slot stands twice.
abbrev pub Once : List ℕ → Type 0
Once [] = Unit {0}
Once (x ∷ xs) = (holds x xs ≡ false) × Once xs

-- Successors and predecessors are each other's inverse, the ring of each anchor is its queue, and `home` names the queue of each
-- slot; a slot that has no home stands in none.
pub record Rings (next prev : List ℕ) (home : List (Option ℕ)) (qs : ℕ → List ℕ) : Type 0 where
  pub next_long : length next ≡ 1280
  pub prev_long : length prev ≡ 1280
  pub home_long : length home ≡ 1024
  pub next_in : (i : ℕ) → i < 1280 → at next i < 1280
  pub prev_in : (i : ℕ) → i < 1280 → at prev i < 1280
  pub back : (i : ℕ) → i < 1280 → at prev (at next i) ≡ i
  pub forth : (i : ℕ) → i < 1280 → at next (at prev i) ≡ i
  pub home_in : (x : ℕ) → x < 1024 → number (named home x) < 256
  pub idle : (x : ℕ) → x < 1024 → named home x ≡ None → at next x ≡ x
  pub ring : (q : ℕ) → q < 256 → Path (at next) (1024 + q) (qs q) (1024 + q)
  pub slots : (q : ℕ) → q < 256 → AllByRecursion (λ x. x < 1024) (qs q)
  pub once : (q : ℕ) → q < 256 → Once (qs q)
  pub member : (q x : ℕ) → q < 256 → x < 1024 → holds x (qs q) ≡ names (named home x) q
