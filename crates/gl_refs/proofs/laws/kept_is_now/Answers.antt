use Rattle.gl_refs.proofs.Computing.{value_now}
use Rattle.gl_refs.proofs.laws.kept_is_now.Goals as goal

pub returns : goal.returns
returns c tags rows i sound h = value_now tags rows i sound h
