use Rattle.std.proofs.Common.{subst}
use Rattle.std.proofs.lemmas.Result.{on_ok_weaker}
use Rattle.gl_plain.specs.State.{comment_content}
use Rattle.gl_plain.specs.Grow.{made_node}
use Rattle.gl_vm.specs.Steps.{Does}
use Rattle.gl_append.proofs.Taking.{node_shown}
use Rattle.gl_append.proofs.machine.Machine.do_comment.Goals as goal

pub returns-clause-step : goal.returns-clause-step
returns-clause-step c =
    on_ok_weaker c.show.result
    (node_shown (comment_content c.args.text.now) c.args.vm.now c.comment.new.self c.args.self.now c.show.new.self c.in_ok-node.node c.still-code.result c.still-code.ensures
    (subst (λ x. Does (λ n. made_node (comment_content x)) c.args.vm.now c.comment.new.self) c.as_str.ensures.value c.in_ok-node.ensures.step) c.in_ok-node.ensures.id) c.show.ensures
