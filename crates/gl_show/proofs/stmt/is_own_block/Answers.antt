use Rattle.std.proofs.Common.{sym}
use Rattle.gl_show.proofs.Bodies.{several_blocks}
use Rattle.gl_show.proofs.stmt.is_own_block.Goals as goal

pub returns-in-len1-up : goal.returns-in-len1-up
returns-in-len1-up c = sym (several_blocks c.args.name.now c.args.others.now c.in-len1-up.len_at_least)
