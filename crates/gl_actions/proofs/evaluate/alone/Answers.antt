use Rattle.std.proofs.Common.{[], ap₂, ◌∙◌}
use Rattle.std.proofs.lemmas.Result.{IfOk-weaker}
use Rattle.gl_base.specs.Names.{named}
use Rattle.gl_value.specs.View.{view}
use Rattle.gl_actions.specs.World.{value_in}
use Rattle.gl_actions.proofs.Values.{call_none, alone_is}
use Rattle.gl_actions.proofs.evaluate.alone.Goals as goal

pub returns-in-None : goal.returns-in-None
returns-in-None c = λ w. call_none c.args.name.now [] [] (c.in-None.ensures.value ∙ ap₂ named c.as_str.ensures.value c.helpers.ensures)

pub returns-in-Some : goal.returns-in-Some
returns-in-Some c = IfOk-weaker c.called_alone.result _ _
    (λ v e w. alone_is c.args.name.now c.in-Some.helper (value_in w (view v)) (c.in-Some.ensures.value ∙ ap₂ named c.as_str.ensures.value c.helpers.ensures) (e w)) c.called_alone.ensures
