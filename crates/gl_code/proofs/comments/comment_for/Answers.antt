use Rattle.std.proofs.Common.{◌∙◌, sym, subst}
use Rattle.std.proofs.lemmas.Str.{chars-nil}
use Rattle.gl_vm.specs.Steps.{Does}
use Rattle.gl_plain.specs.State.{comment_content}
use Rattle.gl_plain.specs.Grow.{made_node}
use Rattle.gl_code.proofs.Commenting.{no_comment, comment_made}
use Rattle.gl_code.proofs.Rooting.{roots_refl}
use Rattle.gl_code.proofs.comments.comment_for.Goals as goal

pub returns-then-has_node-clause-step : goal.returns-then-has_node-clause-step
returns-then-has_node-clause-step c = no_comment c.args.vm.now c.args.codes.now (λ n. sym c.if-has_node.true ∙ c.has_node.ensures n)

pub returns-clause-step : goal.returns-clause-step
returns-clause-step c = comment_made c.args.vm.now c.comment.new.self c.args.codes.now c.in_ok-node.node (λ n. sym c.if-has_node.false ∙ c.has_node.ensures n) (subst (λ x. Does (λ n. made_node (comment_content x)) c.args.vm.now c.comment.new.self) chars-nil c.in_ok-node.ensures.step) c.in_ok-node.ensures.id

pub returns-then-has_node-clause-roots : goal.returns-then-has_node-clause-roots
returns-then-has_node-clause-roots c = roots_refl c.args.vm.now.tree

pub returns-clause-roots : goal.returns-clause-roots
returns-clause-roots c = c.in_ok-node.ensures.roots
