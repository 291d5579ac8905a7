use Rattle.std.proofs.Common.{subst}
use Rattle.std.proofs.lemmas.Result.{on_ok_weaker}
use Rattle.gl_plain.specs.Ids.{node}
use Rattle.gl_plain.specs.State.{text_content, content, put_thing}
use Rattle.gl_nodes.specs.Node as n
use Rattle.gl_vm.specs.Steps.{Does}
use Rattle.gl_update.proofs.nodes.put_text.Goals as goal

pub returns-clause-step : goal.returns-clause-step
returns-clause-step c =
    let at = c.is_text.ensures c.if-not-is_text.false in
    on_ok_weaker c.set_text.result (λ f. subst (λ t. Does (λ names. put_thing (node c.args.node.1) (content (text_content t))) c.args.vm.now c.set_text.new.self) c.as_str.ensures.value (f (n.text at.was) at.is)) c.set_text.ensures.step
