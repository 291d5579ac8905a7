use Rattle.gl_refs.proofs.Leading.{sources_named}
use Rattle.gl_refs.proofs.laws.sources_are_named.Goals as goal

pub returns : goal.returns
returns c tags rows i k s sound source apart = sources_named rows i k s sound.owned source apart
