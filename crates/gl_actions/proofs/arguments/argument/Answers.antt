use Rattle.std.proofs.Common.{ap, ◌∙◌}
use Rattle.std.proofs.lemmas.Result.{IfOk-weaker}
use Rattle.gl_base.specs.Names.{last_named}
use Rattle.gl_value.specs.View.{view}
use Rattle.gl_actions.proofs.Values.{argument_some, argument_none}
use Rattle.gl_actions.proofs.arguments.argument.Goals as goal

pub returns-in-Some : goal.returns-in-Some
returns-in-Some c = let f = c.args.frame.now in IfOk-weaker c.read.result _ _
    (λ v e w fits. argument_some w f fits c.args.name.now c.in-Some.id (c.in-Some.ensures ∙ ap (λ n. last_named n f.args.now) c.as_str.ensures.value) (view v) (e w)) c.read.ensures

pub returns-in-None : goal.returns-in-None
returns-in-None c = λ w fits. argument_none w c.args.frame.now fits c.args.name.now (c.in-None.ensures ∙ ap (λ n. last_named n c.args.frame.now.args.now) c.as_str.ensures.value)
