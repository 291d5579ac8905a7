use Rattle.gl_meaning.specs.View.{manifest_view}
use Rattle.gl_load.proofs.ManifestSpelled.{manifest_spelled}
use Rattle.gl_load.proofs.application.manifest_of.Goals as goal

pub returns-in-Ok-clause-spelled : goal.returns-in-Ok-clause-spelled
returns-in-Ok-clause-spelled c = manifest_spelled c.args.bytes.now (manifest_view c.in-Ok.manifest) c.in-Ok.ensures.reads
