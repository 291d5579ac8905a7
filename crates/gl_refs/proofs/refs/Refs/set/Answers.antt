use Rattle.std.proofs.Common.{◌≡◌, true, false, sym, subst}
use Rattle.gl_value.specs.View.{view}
use Rattle.gl_refs.specs.State.{forms, is_cell}
use Rattle.gl_refs.specs.Refs.{Refs, forms_of, SetsValue}
use Rattle.gl_refs.specs.View as code
use Rattle.gl_refs.proofs.Seen.{of_seen, cell_is, sets_value, after}
use Rattle.gl_refs.proofs.refs.Refs.set.Goals as goal

pub returns : goal.returns
returns c =
    let s = c.self.inside in
    let cell = cell_is (code.rows_of s.rows c.args.cell) (of_seen (λ x. is_cell (forms x c.args.cell) ≡ true) s.rows (subst (λ (r : Refs). is_cell (forms_of r c.args.cell) ≡ true) (sym c.self.view_is) c.requires.cell)) in
    subst (λ (r : Refs). SetsValue r (after s.rows c.put.new.rows s.tags c.put.new.tags s.evals s.asks s.evaluated.items c.args.cell) c.args.cell false (view c.args.value)) c.self.view_is
    (sets_value s.rows c.put.new.rows s.tags c.put.new.tags s.evals s.asks s.evaluated.items c.args.cell false (view c.args.value) cell c.put.ensures.tags c.put.ensures.rows)
