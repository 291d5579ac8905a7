use Rattle.gl_load.proofs.IsLoaded.{app_gave, app_goes, whole_gave, whole_goes}
use Rattle.gl_load.proofs.laws.loaded_as_said.Goals as goal

pub returns-clause-app : goal.returns-clause-app
returns-clause-app c = app_gave

pub returns-clause-app_given : goal.returns-clause-app_given
returns-clause-app_given c = app_goes

pub returns-clause-whole : goal.returns-clause-whole
returns-clause-whole c = whole_gave

pub returns-clause-whole_given : goal.returns-clause-whole_given
returns-clause-whole_given c = whole_goes
