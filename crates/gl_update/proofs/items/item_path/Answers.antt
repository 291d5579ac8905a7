use Rattle.std.proofs.Common.{◌≡◌, ◌∷◌, ◌∙◌, ap}
use Rattle.std.proofs.lemmas.Result.{IfOk-weaker}
use Rattle.gl_value.specs.Value.{plain}
use Rattle.gl_value.specs.View.{view}
use Rattle.gl_meaning.specs.Path.{item}
use Rattle.gl_meaning.specs.View.{path_view}
use Rattle.gl_update.proofs.items.item_path.Goals as goal

pub returns : goal.returns
returns c =
    IfOk-weaker c.below.result (λ q. path_view q ≡ item (plain (view c.in_ok-key.key)) c.args.occurrence ∷ path_view c.args.base.now) (λ q. path_view q ≡ item (plain (view c.args.key.now)) c.args.occurrence ∷ path_view c.args.base.now)
    (λ q e. e ∙ ap (λ v. item (plain (view v)) c.args.occurrence ∷ path_view c.args.base.now) c.in_ok-key.ensures) c.below.ensures
