use Rattle.gl_opc.proofs.NumbersRise.{numbers_rise}
use Rattle.gl_opc.proofs.laws.numbers_rise.Goals as goal

pub returns : goal.returns
returns c = λ names rise m n i k at_m at_n. numbers_rise names rise m n i k at_m at_n
