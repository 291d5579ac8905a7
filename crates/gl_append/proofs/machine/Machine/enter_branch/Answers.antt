use Rattle.std.proofs.Common.{◌∙◌}
use Rattle.std.proofs.lemmas.Result.{on_ok_weaker}
use Rattle.gl_append.proofs.BranchBegins.{branched}
use Rattle.gl_append.proofs.machine.Machine.enter_branch.Goals as goal

pub returns : goal.returns
returns c =
    on_ok_weaker c.begin.result
    (branched c.args.self.now c.begin.new.self c.args.choice c.args.id c.args.main c.args.path c.replace-made.result c.replace-made.new.dest c.chosen-self.result
    (c.replace-made.ensures.after ∙ c.new.ensures) c.replace-made.ensures.value c.chosen-self.ensures) c.begin.ensures
