use Rattle.std.proofs.Common.{Some, None, option_map, ◌∙◌, ap, sym, subst}
use Rattle.std.proofs.lemmas.Result.{IfOk-weaker}
use Rattle.gl_value.specs.View.{seen_entries}
use Rattle.gl_meaning.specs.View.{path_view}
use Rattle.gl_vm.specs.Labels.{all_labelled}
use Rattle.gl_code.specs.Cells.{cells_at, initial_values}
use Rattle.gl_code.specs.Instances.{Lays}
use Rattle.gl_code.proofs.instances.lay_cells.Goals as goal

pub returns-in-None-clause-step : goal.returns-in-None-clause-step
returns-in-None-clause-step c =
    IfOk-weaker c.lay_initial.result (λ ids. Lays (all_labelled (initial_values None 0 (seen_entries c.args.fields.now))) ids c.args.vm.now c.lay_initial.new.vm)
    (λ ids. Lays (all_labelled (initial_values (cells_at (path_view c.args.path.now) c.args.cells.now) 0 (seen_entries c.args.fields.now))) ids c.args.vm.now c.lay_initial.new.vm)
    (λ ids x. subst (λ o. Lays (all_labelled (initial_values o 0 (seen_entries c.args.fields.now))) ids c.args.vm.now c.lay_initial.new.vm) (sym (ap (option_map _) c.in-None.is) ∙ c.in_ok-at.ensures) x) c.lay_initial.ensures.step

pub returns-in-Some-clause-step : goal.returns-in-Some-clause-step
returns-in-Some-clause-step c =
    IfOk-weaker c.lay_held.result (λ ids. Lays (all_labelled (initial_values (Some c.in-Some.held.now) 0 (seen_entries c.args.fields.now))) ids c.args.vm.now c.lay_held.new.vm)
    (λ ids. Lays (all_labelled (initial_values (cells_at (path_view c.args.path.now) c.args.cells.now) 0 (seen_entries c.args.fields.now))) ids c.args.vm.now c.lay_held.new.vm)
    (λ ids x. subst (λ o. Lays (all_labelled (initial_values o 0 (seen_entries c.args.fields.now))) ids c.args.vm.now c.lay_held.new.vm) (sym (ap (option_map _) c.in-Some.is) ∙ c.in_ok-at.ensures) x) c.lay_held.ensures.step
