use Rattle.std.proofs.Common.{◌∙◌}
use Rattle.std.proofs.lemmas.Result.{on_ok_weaker}
use Rattle.gl_append.proofs.ElementSteps.{entered_with}
use Rattle.gl_append.proofs.machine.Machine.enter_element.Goals as goal

pub returns : goal.returns
returns c =
    on_ok_weaker c.begin.result
    (entered_with c.args.self.now c.advance.new.self c.begin.new.self c.replace-made.new.dest c.replace-made.result c.args.node c.args.attrs c.args.parts c.args.path
    c.in_ok-advance.ensures (c.replace-made.ensures.after ∙ c.new.ensures) c.replace-made.ensures.value) c.begin.ensures
