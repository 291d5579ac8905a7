use Rattle.std.proofs.Common.{ap, ◌∙◌}
use Rattle.std.specs.Prelude.{min}
use Rattle.gl_meaning.specs.View.{manifest_view}
use Rattle.gl_code.specs.Tables.{tables_of}
use Rattle.gl_live.specs.Most.{most}
use Rattle.gl_session.proofs.Alive.{nodes_are, instances_are}
use Rattle.gl_session.proofs.session.Session.live.Goals as goal

pub returns-clause-nodes : goal.returns-clause-nodes
returns-clause-nodes c = λ app templates s h. c.count.ensures.nodes (tables_of (manifest_view app.manifest)) ∙ ap (λ k. min k most) (nodes_are app templates c.args.self.now.page s h.page)

pub returns-clause-instances : goal.returns-clause-instances
returns-clause-instances c = λ app templates s h. c.count.ensures.instances (tables_of (manifest_view app.manifest)) ∙ ap (λ k. min k most) (instances_are app templates c.args.self.now.page s h.page)
