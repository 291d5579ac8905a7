use Rattle.std.proofs.Common.{◌∷◌, ◌∙◌, ap, ap₂}
use Rattle.gl_value.specs.Value.{plain}
use Rattle.gl_value.specs.View.{view}
use Rattle.gl_meaning.specs.Path.{item, items}
use Rattle.gl_append.proofs.machine.Machine.item_path.Goals as goal

pub returns : goal.returns
returns c n =
    c.in_ok-path-3.ensures
    ∙ ap₂ (λ v q. item (plain (view v)) c.args.occurrence ∷ q) c.in_ok-key.ensures (c.in_ok-path-2.ensures ∙ ap (λ q. items ∷ q) (c.in_ok-path.ensures n))
