use Rattle.std.proofs.Common.{ap, ap₂, ◌∙◌}
use Rattle.std.proofs.lemmas.Result.{IfOk-weaker}
use Rattle.gl_base.specs.Names.{last_named}
use Rattle.gl_value.specs.Value.{properties}
use Rattle.gl_value.specs.View.{view}
use Rattle.gl_actions.specs.World.{value_in}
use Rattle.gl_actions.proofs.Values.{bare_some, bare_none}
use Rattle.gl_actions.proofs.evaluate.bare.Goals as goal

pub returns-in_ok-copy-in-Some : goal.returns-in_ok-copy-in-Some
returns-in_ok-copy-in-Some c = IfOk-weaker c.along.result _ _
    (λ v e w fits. bare_some w c.args.name.now c.args.rest.now c.args.here.now.params.now (view v) (view c.in-Some.value.now)
    (c.in-Some.ensures ∙ ap (last_named c.args.name.now) c.as_slice.ensures) (e ∙ ap₂ properties c.as_slice-in-Some.ensures (ap view c.in_ok-copy-in-Some.ensures))) c.along.ensures

pub returns-in-None : goal.returns-in-None
returns-in-None c = IfOk-weaker c.alone.result _ _
    (λ v e w fits. bare_none w c.args.name.now c.args.rest.now c.args.here.now.params.now (value_in w (view v)) (c.in-None.ensures ∙ ap (last_named c.args.name.now) c.as_slice.ensures) (e w)) c.alone.ensures
