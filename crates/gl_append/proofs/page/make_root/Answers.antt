use Rattle.std.proofs.Common.{ap, reverse, subst}
use Rattle.gl_meaning.specs.View.{path_view}
use Rattle.gl_meaning.specs.declared.path.Path.{Path}
use Rattle.gl_vm.specs.Labels.{all_labelled}
use Rattle.gl_code.specs.Cells.{cells_at, initial_values}
use Rattle.gl_code.specs.Instances.{Lays}
use Rattle.gl_append.proofs.RootBegins.{root_made}
use Rattle.gl_append.proofs.page.make_root.Goals as goal

pub returns-clause-step : goal.returns-clause-step
returns-clause-step c =
    let path : Path = record { steps = c.new.result } in
    root_made c.args.vm.now c.lay_cells.new.vm c.instantiate.new.vm c.args.class.now c.args.cells.now path c.args.number c.in_ok-ids.ids c.in_ok-owner.owner.value (ap reverse c.new.ensures)
    (subst (λ fs. Lays (all_labelled (initial_values (cells_at (path_view path) c.args.cells.now) 0 fs)) c.in_ok-ids.ids c.args.vm.now c.lay_cells.new.vm) c.as_slice.ensures c.in_ok-ids.ensures.step)
    c.in_ok-owner.ensures.step c.in_ok-owner.ensures.owner c.in_ok-owner.ensures.cells
