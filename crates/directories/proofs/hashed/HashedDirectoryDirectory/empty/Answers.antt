use Rattle.std.proofs.Common.{ℕ, ◌≤◌, length, replicate, None, ap, ◌∙◌, arith}
use Rattle.directories.specs.Meaning.{with_keys}
use Rattle.directories.specs.Tables.{table}
use Rattle.directories.proofs.Entries.{held_new, means_new}
use Rattle.directories.proofs.hashed.HashedDirectoryDirectory.empty.Goals as goal

pub invariant_of-self : goal.invariant_of-self
invariant_of-self g c =
    let old = c.args.self.now.held in
    let m : ℕ = c.min-least.result in
    let cap : ℕ = c.args.self.now.capacity in
    let le : m ≤ cap = omega (arith, c.min-least.ensures) in
    let within : cap ≤ length c.clear.new.cells = omega (arith, old.within, c.clear.auto.cells) in
    record { held = held_new g.K.Key.sameness g.K.Key.place c.clear.new.cells cap m old.small within le c.clear.ensures.wiped }

pub returns : goal.returns
returns g c =
    let old = c.args.self.now.held in
    let m : ℕ = c.min-least.result in
    let cap : ℕ = c.args.self.now.capacity in
    let le : m ≤ cap = omega (arith, c.min-least.ensures) in
    let within : cap ≤ length c.clear.new.cells = omega (arith, old.within, c.clear.auto.cells) in
    record {
      means = means_new c.clear.new.cells cap m within le c.clear.ensures.wiped
          ∙ ap (λ (n : ℕ). with_keys (table c.clear.new.cells m cap) (replicate n None)) c.min-least.ensures;
      rest = c.clear.ensures.rest;
    }
