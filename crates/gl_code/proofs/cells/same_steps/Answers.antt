use Rattle.gl_code.proofs.SamePaths.{differ_steps}
use Rattle.gl_code.proofs.cells.same_steps.Goals as goal

pub returns-then-one-with : goal.returns-then-one-with
returns-then-one-with c = differ_steps c.args.one.now c.args.with.now c.if-one-with.true
