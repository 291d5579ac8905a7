use Rattle.std.proofs.Common.{[], ap, ◌∙◌}
use Rattle.std.specs.Prelude.{min}
use Rattle.gl_machine.specs.Code.{live_of}
use Rattle.gl_code.specs.CodeView.{seen_code}
use Rattle.gl_live.specs.Most.{most}
use Rattle.gl_live.proofs.Stands.{nodes_weigh, instances_weigh}
use Rattle.gl_live.proofs.counting.count.Goals as goal

pub returns-clause-nodes : goal.returns-clause-nodes
returns-clause-nodes c = λ n. (c.in_code.ensures n).nodes ∙ ap (λ k. min k most) (nodes_weigh [] (live_of (seen_code n c.args.code.now)))

pub returns-clause-instances : goal.returns-clause-instances
returns-clause-instances c = λ n. (c.in_code.ensures n).instances ∙ ap (λ k. min k most) (instances_weigh [] (live_of (seen_code n c.args.code.now)))
