use Rattle.std.proofs.Common.{◌≡◌, take, replicate, None}
use Rattle.directories.proofs.numbered.clear.Given as goal

abbrev pub invariant-loop-place : goal.invariant-loop-place
invariant-loop-place g l = take l.place-index l.places ≡ replicate l.place-index None
