use Rattle.gl_refs.proofs.Telling.{kept_like, valid_by_tag}
use Rattle.gl_refs.proofs.laws.tags_tell.Goals as goal

pub returns-clause-sources : goal.returns-clause-sources
returns-clause-sources c tags rows i sound h = kept_like tags rows i sound h

pub returns-clause-valid : goal.returns-clause-valid
returns-clause-valid c tags rows i since sound h = valid_by_tag tags rows i since sound h
