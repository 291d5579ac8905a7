use Rattle.gl_opc.specs.State.{state_view}
use Rattle.gl_opc.proofs.Blocks.{not_bare}
use Rattle.gl_opc.proofs.link_stmt.push_bare.Goals as goal

pub returns-in-len1-up : goal.returns-in-len1-up
returns-in-len1-up c = not_bare c.as_slice.result.now c.args.slots.now (state_view c.args.out.now) c.in-len1-up.len_at_least c.as_slice.ensures
