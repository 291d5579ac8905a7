use Rattle.std.proofs.Common.{◌≡◌, ℕ, suc, ◌∷◌, ◌∙◌, sym, ap, ap₂, subst}
use Rattle.std.proofs.lemmas.Result.{on_ok_weaker}
use Rattle.gl_meaning.specs.Path.{into}
use Rattle.gl_meaning.specs.View.{path_view, class_view}
use Rattle.gl_vm.specs.Labels.{all_labelled}
use Rattle.gl_code.specs.View.{refs_made, seen_owner}
use Rattle.gl_append.specs.Steps.{Changes}
use Rattle.gl_code.specs.Cells.{cells_at, initial_values}
use Rattle.gl_code.specs.Instances.{Lays}
use Rattle.gl_append.specs.Components.{Invokes, component_entered}
use Rattle.gl_append.proofs.Invocations.{invoked}
use Rattle.gl_append.proofs.machine.Machine.do_invoke.Goals as goal

pub returns-clause-step : goal.returns-clause-step
returns-clause-step c =
    let same : path_view c.in_ok-path-2.path ≡ path_view c.in_ok-own.own = sym c.in_ok-own.ensures in
    let lays : Lays (all_labelled (initial_values (cells_at (path_view c.in_ok-own.own) c.args.cells.now) 0 c.args.class.now.fields)) c.in_ok-ids.ids c.pass.new.vm c.lay_cells.new.vm
    = subst (λ p. Lays (all_labelled (initial_values (cells_at p c.args.cells.now) 0 c.args.class.now.fields)) c.in_ok-ids.ids c.pass.new.vm c.lay_cells.new.vm) same
    (subst (λ fs. Lays (all_labelled (initial_values (cells_at (path_view c.in_ok-path-2.path) c.args.cells.now) 0 fs)) c.in_ok-ids.ids c.pass.new.vm c.lay_cells.new.vm) c.as_slice.ensures c.in_ok-ids.ensures.step) in
    let f : ((left : ℕ) → c.args.self.now.left ≡ suc left → Changes (λ n. component_entered (path_view c.in_ok-path-2.path) c.in_ok-owner.owner.value.class (seen_owner n c.in_ok-owner.owner.value) c.in_ok-block.block.1 (refs_made c.in_ok-owner.owner.value.cells) left) c.args.self.now c.begin_component.new.self)
    → Invokes (class_view c.args.class.now) c.args.cells.now c.args.vm.now c.args.self.now c.instantiate.new.vm c.begin_component.new.self
    = λ x. invoked c.args.vm.now c.pass.new.vm c.lay_cells.new.vm c.instantiate.new.vm c.args.self.now c.begin_component.new.self c.args.class.now c.args.cells.now c.in_ok-own.own c.in_ok-block.block c.in_ok-ids.ids c.in_ok-owner.owner.value
    (λ n. c.in_ok-own.ensures ∙ (c.in_ok-path-2.ensures ∙ ap₂ (λ s p. s ∷ p) (ap into c.in_ok-copy.ensures) (c.in_ok-path.ensures n))) c.in_ok-block.ensures.step c.in_ok-block.ensures.id lays c.in_ok-owner.ensures.step c.in_ok-owner.ensures.owner
    c.in_ok-owner.ensures.class c.in_ok-owner.ensures.cells
    (λ left e. subst (λ p. Changes (λ n. component_entered p c.in_ok-owner.owner.value.class (seen_owner n c.in_ok-owner.owner.value) c.in_ok-block.block.1 (refs_made c.in_ok-owner.owner.value.cells) left) c.args.self.now c.begin_component.new.self) same (x left e)) in
    on_ok_weaker c.begin_component.result f c.begin_component.ensures
