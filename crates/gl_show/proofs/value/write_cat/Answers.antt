use Rattle.gl_show.proofs.Bodies.{cat_parts}
use Rattle.gl_show.proofs.value.write_cat.Goals as goal

pub loop-rest-init : goal.loop-rest-init
loop-rest-init c = cat_parts c.as_slice-rest.result.now c.args.exprs.now c.args.out.now c.as_slice-rest.ensures
