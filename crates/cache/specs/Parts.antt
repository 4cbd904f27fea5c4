-- Parts of a slab, as get answers them.
use Rattle.std.specs.Prelude.{◌≡◌, ℕ, ◌-◌, ◌≤◌, List, Some, None, Ok, Err, Option, Result}
use Rattle.std.specs.Borrow.{Bor}
use Rattle.promises.specs.declared.answers.Refusal.{Refusal}
use Rattle.promises.specs.Events.{Part}

-- a part of a slab: where it begins, counted from the slab's first byte, and its bytes
abbrev pub part_of : Bor (List ℕ) → Bor (List ℕ) → Part
part_of whole p = record { from = p.ref_ptr.1 - whole.ref_ptr.1; bytes = p.now }

-- get's answer, seen from the slab that it was given
abbrev pub seen : Bor (List ℕ) → Result (Option (Bor (List ℕ))) Refusal → Result (Option Part) Refusal
seen whole (Err e) = Err e
seen whole (Ok None) = Ok None
seen whole (Ok (Some p)) = Ok (Some (part_of whole p))

-- what get answers lies in the slab's own block of memory, and not before the slab
abbrev pub Lies : Bor (List ℕ) → Result (Option (Bor (List ℕ))) Refusal → Type 0
Lies whole (Err e) = Unit {0}
Lies whole (Ok None) = Unit {0}
Lies whole (Ok (Some p)) = (p.ref_ptr.0 ≡ whole.ref_ptr.0) × (whole.ref_ptr.1 ≤ p.ref_ptr.1)
