use Rattle.std.specs.Str.{chars}
use Rattle.gl_load.proofs.IsLoaded.{app_loaded}
use Rattle.gl_load.proofs.application.load_app.Goals as goal

pub returns-clause-loaded : goal.returns-clause-loaded
returns-clause-loaded g c = λ files e. app_loaded files (chars c.args.manifest.now) c.application_in.result (c.application_in.ensures.told files e)
