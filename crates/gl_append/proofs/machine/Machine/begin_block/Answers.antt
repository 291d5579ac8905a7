use Rattle.std.proofs.Common.{◌∙◌}
use Rattle.std.proofs.lemmas.Result.{on_ok_weaker}
use Rattle.gl_append.proofs.Yields.{block_begun}
use Rattle.gl_append.proofs.machine.Machine.begin_block.Goals as goal

pub returns : goal.returns
returns c =
    on_ok_weaker c.begin.result
    (block_begun c.args.self.now c.leave_for.new.self c.begin.new.self c.in_ok-back.back c.args.written c.args.pending c.replace-made.new.dest c.replace-made.result c.args.path c.args.name c.len-locals.result
    c.in_ok-back.ensures (c.replace-made.ensures.after ∙ c.new.ensures) c.len-locals.ensures c.replace-made.ensures.value) c.begin.ensures
