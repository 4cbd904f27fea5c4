use Rattle.std.proofs.Common.{Bool, not, ◌&&◌, sym, ap, ◌∙◌, rules, tests}
use Rattle.std.specs.List.{list_any}
use Rattle.std.proofs.lemmas.Bool.{ne_eqb}
use Rattle.std.proofs.lemmas.Iterator.{YieldsList-from_slice}
use Rattle.std.proofs.lemmas.Iterator.Search.{any_from_yields_List}
use Rattle.workers.specs.Meshes.{triangles_of, has_edge}
use Rattle.workers.proofs.region.Region.has_edge.Goals as goal

pub returns-then-edge : goal.returns-then-edge
returns-then-edge c =
    let e = c.args.edge in
    any_from_yields_List (has_edge e) _ _ _ c.any.ensures.ran (YieldsList-from_slice (triangles_of c.args.self.now) (c.iter.ensures.rest ∙ c.triangles.ensures.triangles)) (λ x b q k. search (rules, tests))
    ∙ sym (ap (λ (b : Bool). not b && list_any (has_edge e) (triangles_of c.args.self.now)) (ne_eqb e.keep e.remove c.if-edge.true))
