use Rattle.std.proofs.Common.{◌≡◌, ℕ, suc, ◌∙◌, ap}
use Rattle.std.proofs.lemmas.Result.{on_ok_weaker}
use Rattle.gl_meaning.specs.View.{path_view}
use Rattle.gl_vm.specs.View.{name_stamps}
use Rattle.gl_code.specs.View.{refs_made, seen_owner, seen_sight}
use Rattle.gl_append.specs.MachineView.{seen_making}
use Rattle.gl_append.specs.Steps.{Changes}
use Rattle.gl_append.specs.Components.{program_entered, component_entered}
use Rattle.gl_code.specs.declared.sight.Sight.{Sight}
use Rattle.gl_append.proofs.ComponentBegins.{tag_taken}
use Rattle.gl_append.proofs.machine.Machine.begin_component.Goals as goal

pub returns : goal.returns
returns c =
    let w : Sight = record { level = c.in_ok-level.level; chain = c.in_ok-chain.chain } in
    let f : ((left : ℕ) → c.args.self.now.left ≡ suc left → Changes (λ n. program_entered (seen_sight n w) (path_view c.args.path) (seen_owner n c.args.owner.value) c.args.block.1 (refs_made c.args.owner.value.cells) (name_stamps c.in_ok-args.args.value) left) (record c.args.self.now { making = c.replace-making.new.dest }) c.enter_program.new.self)
    → (left : ℕ) → c.args.self.now.left ≡ suc left → Changes (λ n. component_entered (path_view c.args.path) c.args.owner.value.class (seen_owner n c.args.owner.value) c.args.block.1 (refs_made c.args.owner.value.cells) left) c.args.self.now c.enter_program.new.self
    = λ x left e. tag_taken c.args.self.now c.enter_program.new.self c.replace-making.new.dest c.replace-making.result w c.args.owner.value c.args.block c.in_ok-args.args.value c.args.path left c.replace-making.ensures.value
    (λ n. ap (seen_making n) c.replace-making.ensures.after ∙ c.idle.ensures n) c.in_ok-args.ensures.ok c.in_ok-level.ensures c.in_ok-chain.ensures (x left e) in
    on_ok_weaker c.enter_program.result f c.enter_program.ensures
