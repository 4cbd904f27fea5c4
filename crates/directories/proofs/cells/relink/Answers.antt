use Rattle.std.proofs.Common.{◌<◌, length, refl, ◌∙◌}
use Rattle.directories.proofs.Columns.{read, same, wrote}
use Rattle.directories.proofs.cells.relink.Goals as goal

pub returns-in-None : goal.returns-in-None
returns-in-None g c =
    let cs = c.args.cells.now in
    let b = c.args.bucket in
    let d = c.index-cells-bucket.result in
    rw (c.in-None.is, c.replace.ensures.after) (record {
      led = c.replace.ensures.value ∙ read (λ x. x.head) cs b d 0 c.requires.bucket;
      leads = wrote cs b _ (same (λ x. x.key) cs b d) refl (same (λ x. x.next) cs b d) (same (λ x. x.free) cs b d);
    })

pub returns-in-Some : goal.returns-in-Some
returns-in-Some g c =
    let cs = c.args.cells.now in
    let i = c.in-Some.i in
    let d = c.index-cells-i.result in
    let l : c.in-Some.i < length c.args.cells.now = simp c.in-Some.is at c.requires.below in
    rw (c.in-Some.is, c.replace-in-Some.ensures.after) (record {
      led = c.replace-in-Some.ensures.value ∙ read (λ x. x.next) cs i d 0 l;
      leads = wrote cs i _ (same (λ x. x.key) cs i d) (same (λ x. x.head) cs i d) refl (same (λ x. x.free) cs i d);
    })
