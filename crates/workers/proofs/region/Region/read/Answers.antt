use Rattle.std.proofs.Common.{◌≡◌, ◌*◌, ◌/◌, map, length, ap, ◌∙◌, arith}
use Rattle.std.proofs.lemmas.List.{take_all}
use Rattle.std.proofs.lemmas.Bool.Decides.{nat_tests}
use Rattle.workers.specs.Meshes.{bytes_of}
use Rattle.workers.proofs.Meshes.{triangle_of, bytes_read}
use Rattle.workers.proofs.region.Region.read.Goals as goal

pub returns : goal.returns
returns c =
    let bs = c.args.bytes.now in
    let whole : length bs ≡ 3 * (length bs / 3) = grind (arith, nat_tests) in (
      grind (arith, nat_tests),
      ap bytes_of (c.loop-a.invariant ∙ ap (map triangle_of) (take_all c.loop-a.a-index _ c.loop-a-test.false ∙ c.as_chunks.ensures.front)) ∙ bytes_read (length bs / 3) bs whole,
    )
