use Rattle.std.specs.Str.{chars}
use Rattle.gl_load.proofs.IsLoaded.{whole_loaded}
use Rattle.gl_load.proofs.whole.load.Goals as goal

pub returns-clause-loaded : goal.returns-clause-loaded
returns-clause-loaded g c = λ files e. whole_loaded files (chars c.args.manifest.now) (chars c.args.script.now) c.whole_in.result (c.whole_in.ensures.told files e)
