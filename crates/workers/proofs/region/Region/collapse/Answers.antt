use Rattle.std.proofs.Common.{sym, ap, ◌∙◌}
use Rattle.std.specs.List.{list_any}
use Rattle.std.proofs.lemmas.Bool.{and_parts, not-true, eqb-false}
use Rattle.workers.specs.Meshes.{triangles_of, points_to, has_edge}
use Rattle.workers.proofs.Meshes.{collapsed_free}
use Rattle.workers.proofs.region.Region.collapse.Goals as goal

pub returns : goal.returns
returns c =
    let edge = c.args.edge in
    let ts = triangles_of c.args.self.now in
    let is = sym c.if-not-has_edge.ensures in
    let apart = eqb-false edge.keep edge.remove (not-true _ (and_parts _ (list_any (has_edge edge) ts) is).0) in
    (is, c.merged.ensures, ap (list_any (points_to edge.remove)) c.merged.ensures ∙ collapsed_free edge ts apart)
