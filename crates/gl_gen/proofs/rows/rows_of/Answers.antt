use Rattle.std.proofs.Common.{arith}
use Rattle.std.proofs.lemmas.Grind.{common_steps}
use Rattle.gl_gen.specs.Rows.{rows}
use Rattle.gl_gen.proofs.Arrays.{map_row-more}
use Rattle.gl_gen.proofs.rows.rows_of.Goals as goal

pub loop-number-preserved : goal.loop-number-preserved
loop-number-preserved c =
    let more = map_row-more c.loop-number.number in
    grind (arith, common_steps)

pub returns : goal.returns
unfolding rows
returns c = grind (arith, common_steps)
