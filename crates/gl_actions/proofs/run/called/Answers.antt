use Rattle.std.proofs.Common.{ap, ◌∙◌}
use Rattle.gl_value.specs.Value.{properties}
use Rattle.gl_value.specs.View.{view}
use Rattle.gl_actions.proofs.Values.{along_is}
use Rattle.gl_actions.proofs.run.called.Goals as goal

pub returns-clause-value : goal.returns-clause-value
returns-clause-value c = λ w fits. along_is w c.args.rest.now (view c.in_ok-value.value) (view c.in_ok-argument.field-0) _
    (c.in_ok-value.ensures ∙ ap (λ ks. properties ks (view c.in_ok-argument.field-0)) c.as_slice.ensures) (c.in_ok-argument.ensures w fits)
