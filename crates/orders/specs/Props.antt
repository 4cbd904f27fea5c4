-- Each fact that a type of this crate keeps has at most one proof.
use Rattle.std.specs.Prelude.{ℕ, List, [], ◌∷◌, Option}
use Rattle.std.specs.Coded.{×_prop, Unit-prop}
use Rattle.std.proofs.Props.{props}
use Rattle.orders.specs.declared.Entry.{Entry}
use Rattle.orders.specs.Meaning.{OrderMeaning, Sorted, Apart, Lawful}
use Rattle.orders.specs.FlatTable.{Neat}
use Rattle.orders.specs.Rings.{Path, Once, Rings}
use Rattle.orders.specs.Wheels.{Linked, Sound}

pub sorted_prop : (xs : List Entry) → IsProp (Sorted xs)
sorted_prop [] = Unit-prop
sorted_prop (x ∷ xs) = ×_prop (hlevel props) (sorted_prop xs)

pub apart_prop : (xs : List Entry) → IsProp (Apart xs)
apart_prop [] = Unit-prop
apart_prop (x ∷ xs) = ×_prop (hlevel props) (apart_prop xs)

pub lawful_prop : (m : OrderMeaning) → IsProp (Lawful m)
lawful_prop m = hlevel (props, sorted_prop, apart_prop)

pub neat_prop : (xs : List Entry) → IsProp (Neat xs)
neat_prop xs = hlevel (props, apart_prop)

path_prop : (f : ℕ → ℕ) (a : ℕ) (xs : List ℕ) (b : ℕ) → IsProp (Path f a xs b)
path_prop f a [] b = hlevel props
path_prop f a (x ∷ xs) b = ×_prop (hlevel props) (path_prop f x xs b)

pub once_prop : (xs : List ℕ) → IsProp (Once xs)
once_prop [] = Unit-prop
once_prop (x ∷ xs) = ×_prop (hlevel props) (once_prop xs)

pub rings_prop : (next prev : List ℕ) (home : List (Option ℕ)) (qs : ℕ → List ℕ) → IsProp (Rings next prev home qs)
rings_prop next prev home qs = hlevel (props, path_prop, once_prop)

linked_prop : (next : List ℕ) (home later : List (Option ℕ)) (p : ℕ) (m : OrderMeaning) → IsProp (Linked next home later p m)
linked_prop next home later p m = hlevel (props, lawful_prop)

pub sound_prop : (next : List ℕ) (home later : List (Option ℕ)) (p : ℕ) (m : OrderMeaning) → IsProp (Sound next home later p m)
sound_prop next home later p m = hlevel (props, linked_prop)
