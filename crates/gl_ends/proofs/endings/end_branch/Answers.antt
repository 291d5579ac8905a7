use Rattle.std.proofs.Common.{◌+◌}
use Rattle.gl_nodes.specs.Flat.{stamp_of}
use Rattle.gl_plain.specs.Live.{times_in, times_comment}
use Rattle.gl_machine.specs.Code.{lives_of}
use Rattle.gl_code.specs.CodeView.{seen_codes}
use Rattle.gl_ends.proofs.Joins.{does_of}
use Rattle.gl_ends.proofs.endings.end_branch.Goals as goal

pub returns-clause-step : goal.returns-clause-step
returns-clause-step c = does_of c.drop_body.result c.args.vm.now c.drop_body.new.vm (λ n q. times_in q (lives_of (seen_codes n c.args.codes.now)) + times_comment q (stamp_of c.args.comment.now)) c.requires.calm.led c.drop_body.ensures.ends
