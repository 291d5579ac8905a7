use Rattle.std.proofs.Common.{ap, sym, ◌∙◌}
use Rattle.gl_nodes.specs.Flat.{stamp_of}
use Rattle.gl_seats.specs.Parts.{body_nest}
use Rattle.gl_seats.proofs.Replacing.{before_first}
use Rattle.gl_seats.proofs.places.before.Goals as goal

pub returns-in-Some-clause-before : goal.returns-in-Some-clause-before
returns-in-Some-clause-before c = λ n. before_first c.in-Some.node.1 (body_nest n c.args.body.now c.args.comment.now) (ap stamp_of (sym c.in-Some.is) ∙ c.first_top.ensures n)
