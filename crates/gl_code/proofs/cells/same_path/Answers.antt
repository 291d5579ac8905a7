use Rattle.std.proofs.Common.{◌≡◌, Bool, ◌∙◌, ap₂}
use Rattle.std.proofs.lemmas.Result.{IfOk-weaker}
use Rattle.gl_meaning.specs.Path.{path_eq}
use Rattle.gl_meaning.specs.View.{path_view, seen_path_steps}
use Rattle.gl_code.proofs.SamePaths.{reversed_eq}
use Rattle.gl_code.proofs.cells.same_path.Goals as goal

pub returns : goal.returns
returns c =
    let f : (r : Bool) → r ≡ path_eq (seen_path_steps c.as_slice.result.now) (seen_path_steps c.as_slice-2.result.now) → r ≡ path_eq (path_view c.args.one.now) (path_view c.args.with.now)
    = λ r e. e ∙ (ap₂ (λ x y. path_eq x y) c.as_slice.ensures c.as_slice-2.ensures ∙ reversed_eq c.args.one.now.steps c.args.with.now.steps) in
    IfOk-weaker c.same_steps.result (λ r. r ≡ path_eq (seen_path_steps c.as_slice.result.now) (seen_path_steps c.as_slice-2.result.now)) (λ r. r ≡ path_eq (path_view c.args.one.now) (path_view c.args.with.now)) f c.same_steps.ensures
