use Rattle.gl_ast.specs.declared.mode.Mode.TheVariants as m
use Rattle.gl_ast.proofs.Readings.{one_reading}
use Rattle.gl_lex.proofs.laws.one_reading.Goals as goal

pub returns : goal.returns
returns c = λ text list other. one_reading m.Content 0 text list other
