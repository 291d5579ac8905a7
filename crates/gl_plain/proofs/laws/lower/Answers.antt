use Rattle.gl_plain.proofs.laws.lower.Goals as goal
use Rattle.gl_plain.proofs.Roots.{rows_stay_lower}

pub returns : goal.returns
returns c = rows_stay_lower
