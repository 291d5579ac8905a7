use Rattle.std.proofs.Common.{◌∙◌}
use Rattle.std.proofs.lemmas.Result.{on_ok_weaker}
use Rattle.gl_append.proofs.ComponentBegins.{program_begun}
use Rattle.gl_append.proofs.machine.Machine.enter_program.Goals as goal

pub returns : goal.returns
returns c =
    on_ok_weaker c.begin.result
    (program_begun c.args.self.now c.in_ok-back.back c.args.sight c.args.owner c.args.args c.args.block c.args.path c.begin.new.self c.replace-made.new.dest c.new.result c.replace-made.result c.in_ok-self.field-0 c.leave_for.new.self
    c.in_ok-back.ensures (c.replace-made.ensures.after ∙ c.new-2.ensures) c.new.ensures c.replace-made.ensures.value c.in_ok-self.ensures) c.begin.ensures
