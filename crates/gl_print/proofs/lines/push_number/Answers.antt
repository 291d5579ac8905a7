use Rattle.std.proofs.Common.{◌++◌, ap, ◌∙◌}
use Rattle.std.proofs.lemmas.Str.{chars-IsAscii}
use Rattle.gl_nodes.proofs.Views.{on_ok}
use Rattle.gl_print.proofs.lines.push_number.Goals as goal

pub returns : goal.returns
returns c = on_ok c.push_str.result (λ h. h ∙ ap (λ t. c.args.out.now ++ t) (chars-IsAscii c.format.result.now c.format.ensures.ascii ∙ c.format.ensures.text)) c.push_str.ensures.ok
