use Rattle.gl_meaning.proofs.laws.settled_store.Goals as goal
use Rattle.gl_meaning.proofs.Settled.{render_settled, draw_settles}

pub returns-clause-rendered : goal.returns-clause-rendered
returns-clause-rendered c = render_settled

pub returns-clause-settled : goal.returns-clause-settled
returns-clause-settled c = draw_settles
