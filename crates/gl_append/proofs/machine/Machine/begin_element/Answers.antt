use Rattle.std.proofs.Common.{map, ◌∙◌, ap, subst}
use Rattle.std.proofs.lemmas.Result.{on_ok_weaker}
use Rattle.gl_plain.specs.State.{element_content}
use Rattle.gl_plain.specs.Grow.{made_node}
use Rattle.gl_vm.specs.Steps.{Does}
use Rattle.gl_code.specs.CodeView.{seen_attr_spot}
use Rattle.gl_append.specs.MachineView.{seen_making}
use Rattle.gl_append.specs.declared.machine.Making.{Making}
use Rattle.gl_code.proofs.Calming.{tree_calm}
use Rattle.gl_append.proofs.ElementSteps.{element_made}
use Rattle.gl_append.proofs.machine.Machine.begin_element.Goals as goal

pub returns-clause-step : goal.returns-clause-step
returns-clause-step c =
    on_ok_weaker c.enter_element.result
    (element_made c.args.given.attrs.items (map seen_attr_spot c.args.given.spots.items) c.replace-making.result.parts.items c.args.vm.now c.element_with.new.self c.args.self.now c.enter_element.new.self c.replace-making.new.dest c.in_ok-node.node c.in_ok-path.path
    (subst (λ xs. Does (λ n. made_node (element_content c.args.self.now.making.tag xs)) c.args.vm.now c.element_with.new.self) c.from_vec.ensures
    (subst (λ (k : Making). Does (λ n. made_node (element_content k.tag c.from_vec.result)) c.args.vm.now c.element_with.new.self) c.replace-making.ensures.value c.in_ok-node.ensures.step)) c.in_ok-node.ensures.id
    c.in_ok-path.ensures (λ n. ap (seen_making n) c.replace-making.ensures.after ∙ c.idle.ensures n) (ap (λ (k : Making). k.parts.items) c.replace-making.ensures.value)) c.enter_element.ensures

pub returns-clause-calm : goal.returns-clause-calm
returns-clause-calm c = tree_calm c.args.vm.now c.element_with.new.self c.in_ok-node.ensures.rest
