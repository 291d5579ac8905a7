use Rattle.gl_plain.specs.Live.{times_in}
use Rattle.gl_machine.specs.Code.{lives_of}
use Rattle.gl_code.specs.CodeView.{seen_codes}
use Rattle.gl_ends.proofs.Joins.{does_of}
use Rattle.gl_ends.proofs.endings.end_codes.Goals as goal

pub returns-clause-step : goal.returns-clause-step
returns-clause-step c = does_of c.drop_codes.result c.args.vm.now c.drop_codes.new.vm (λ n q. times_in q (lives_of (seen_codes n c.args.codes.now))) c.requires.calm.led c.drop_codes.ensures.ends
