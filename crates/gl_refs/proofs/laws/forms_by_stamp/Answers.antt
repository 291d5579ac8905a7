use Rattle.gl_refs.proofs.Telling as telling
use Rattle.gl_refs.proofs.laws.forms_by_stamp.Goals as goal

pub returns : goal.returns
returns c old new id was is reads s = telling.forms_by_stamp old new id was is reads s
