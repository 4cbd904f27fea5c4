use Rattle.std.proofs.Common.{rules}
use Rattle.directories.proofs.Registers.{looked_up}
use Rattle.directories.proofs.numbered.NumberedDirectoryDirectoryRegionNumber.find.Goals as goal

pub returns-in_err-slot : goal.returns-in_err-slot
returns-in_err-slot c = let e = looked_up c.args.self.now.ranked c.args.key.now in search (rules, e)

pub returns : goal.returns
returns c = let e = looked_up c.args.self.now.ranked c.args.key.now in search (rules, e)
