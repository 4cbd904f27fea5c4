use Rattle.std.proofs.Common.{◌≡◌, ◌<◌, length, take, drop, ◌∙◌, arith}
use Rattle.std.proofs.Math.ListN.{get_or-append}
use Rattle.std.proofs.lemmas.List.{length-take-le}
use Rattle.directories.proofs.Entries.{wiped_more}
use Rattle.directories.proofs.cells.clear.Goals as goal

pub loop-slot-preserved : goal.loop-slot-preserved
loop-slot-preserved g c =
    let l : c.loop-slot.slot < length c.loop-slot.cell-items = omega arith in
    wiped_more c.args.size c.loop-slot.slot c.loop-slot.cell-items l c.loop-slot.invariant

pub returns-clause-wiped : goal.returns-clause-wiped
returns-clause-wiped g c = λ i d l.
    let all : length (take c.args.size c.args.cells.now) ≡ c.args.size = length-take-le c.args.size c.args.cells.now c.requires.within in
    get_or-append c.loop-slot.cell-items (drop c.args.size c.args.cells.now) d i (omega arith) ∙ c.loop-slot.invariant i d (omega arith)
