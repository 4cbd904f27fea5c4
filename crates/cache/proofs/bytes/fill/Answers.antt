use Rattle.std.proofs.Common.{◌≡◌, ◌+◌, ◌-◌, length, arith}
use Rattle.cache.proofs.Slabs.{pasted}
use Rattle.cache.proofs.bytes.fill.Goals as goal

pub returns : goal.returns
returns c =
    let e : (c.args.from + length c.args.value.now) - c.args.from ≡ length c.args.value.now = omega arith in
    pasted c.args.from _ c.args.slab.now _ _ c.copy_from_slice.ensures.after e
