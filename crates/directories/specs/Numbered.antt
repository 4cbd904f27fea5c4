-- What a numbered directory means, and what holds of it.
use Rattle.std.specs.Prelude.{◌≡◌, nat_lt, Some, None, slice_index_or}
use Rattle.std.proofs.Common.{ap}
use Rattle.std.proofs.lemmas.Bool.{eqb-true, lt-ltb}
use Rattle.keys.specs.Regions.{same_number}
use Rattle.keys.specs.declared.region.RegionNumber.{RegionNumber}
use Rattle.directories.specs.declared.numbered.NumberedDirectory.{NumberedDirectory}
use Rattle.directories.specs.Meaning.{DirectoryMeaning, Distinct, Respects, AllAdmitted}
use Rattle.directories.specs.Numbers.{register}

abbrev pub numbered_meaning : NumberedDirectory → DirectoryMeaning RegionNumber
numbered_meaning d = register d.keys.items d.capacity

pub numbered_distinct : (d : NumberedDirectory) → Distinct same_number (numbered_meaning d)
unfolding Distinct
numbered_distinct d i j a b ea eb t =
    let one : a.number ≡ b.number = eqb-true a.number b.number t in
    let p : slice_index_or d.slots a.number None ≡ Some i = (d.ranked.looked.back i a ea).1 in
    let q : slice_index_or d.slots b.number None ≡ Some j = (d.ranked.looked.back j b eb).1 in
    cc

pub numbered_respects : (d : NumberedDirectory) → Respects same_number (numbered_meaning d)
unfolding Respects
numbered_respects d a b t = ap (λ x. nat_lt x 4096) (eqb-true a.number b.number t)

pub numbered_admitting : (d : NumberedDirectory) → AllAdmitted (numbered_meaning d)
unfolding AllAdmitted
numbered_admitting d i a e = lt-ltb a.number 4096 (d.ranked.looked.back i a e).0
