use Rattle.std.proofs.Common.{ℕ, ◌≤◌, true, length, ap, ◌∙◌, subst, arith}
use Rattle.directories.specs.Cells.{Beyond}
use Rattle.directories.specs.Meaning.{fresh}
use Rattle.directories.proofs.Entries.{held_new, means_new}
use Rattle.directories.proofs.hashed.HashedDirectory.new.Goals as goal

pub invariant_of-result : goal.invariant_of-result
invariant_of-result g c =
    let m : ℕ = c.min-capacity.result in
    let small : m ≤ 1024 = omega (arith, c.min-capacity.ensures) in
    let le : m ≤ m = omega arith in
    let within : m ≤ length c.clear.new.cells = omega (arith, c.min-capacity.ensures, c.clear.auto.cells) in
    record { held = held_new g.K.Key.sameness g.K.Key.place c.clear.new.cells m m small within le c.clear.ensures.wiped }

pub returns : goal.returns
returns g c =
    let m : ℕ = c.min-capacity.result in
    let le : m ≤ m = omega arith in
    let within : m ≤ length c.clear.new.cells = omega (arith, c.min-capacity.ensures, c.clear.auto.cells) in
    record {
      means = means_new c.clear.new.cells m m within le c.clear.ensures.wiped
          ∙ ap (λ (n : ℕ). fresh n (λ _. true)) c.min-capacity.ensures;
      rest = subst (λ (n : ℕ). Beyond n c.args.cells.now c.clear.new.cells) c.min-capacity.ensures c.clear.ensures.rest;
    }
