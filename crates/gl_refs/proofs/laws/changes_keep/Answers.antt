use Rattle.gl_refs.proofs.Setting.{set_sound}
use Rattle.gl_refs.proofs.Binding.{bind_sound}
use Rattle.gl_refs.proofs.Evaluating.{evaluated}
use Rattle.gl_refs.proofs.Freeing.{free_sound}
use Rattle.gl_refs.proofs.laws.changes_keep.Goals as goal

pub returns-clause-set : goal.returns-clause-set
returns-clause-set c tags tags' rows rows' i value sound s after = set_sound tags tags' rows rows' i value sound s after

pub returns-clause-bind : goal.returns-clause-bind
returns-clause-bind c tags rows rows' n form sound b bound = bind_sound tags rows rows' n form sound b bound

pub returns-clause-evaluation : goal.returns-clause-evaluation
returns-clause-evaluation c tags tags' rows rows' i sound s = evaluated tags tags' rows rows' i sound s

pub returns-clause-free : goal.returns-clause-free
returns-clause-free c tags tags' rows rows' i sound s = free_sound tags tags' rows rows' i sound s
