use Rattle.std.proofs.Common.{◌∙◌}
use Rattle.gl_value.specs.View.{view}
use Rattle.gl_code.proofs.SamePaths.{same_plain}
use Rattle.gl_code.proofs.cells.same_key.Goals as goal

pub returns : goal.returns
returns c =
    c.same.ensures ∙ same_plain (view c.args.one.now) (view c.args.with.now) (view c.in_ok-one.one) (view c.in_ok-with.with) c.in_ok-one.ensures.value c.in_ok-with.ensures.value
