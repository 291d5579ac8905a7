use Rattle.std.proofs.lemmas.Result.{IfOk-weaker}
use Rattle.gl_actions.specs.View.{seen_set}
use Rattle.gl_actions.specs.World.{tables_in}
use Rattle.gl_actions.proofs.CellLaws.{cell_for_is}
use Rattle.gl_actions.proofs.cells.cell_for.Goals as goal

pub returns : goal.returns
returns c = IfOk-weaker c.cell_named.result _ _
    (λ r e w reads.
    let f = c.in_ok-frame.frame in
    let fits = c.in_ok-frame.ensures.fits w reads in
    let name = c.in_ok-name.ensures w fits in
    cell_for_is w f fits c.args.page.now (seen_set c.args.set.now) c.number.result c.in_ok-frame.ensures.number c.number.ensures c.in_ok-name.name.now name.0 r (c.in_ok-frame.ensures.found (tables_in w)) name.1 (e w fits))
    c.cell_named.ensures
