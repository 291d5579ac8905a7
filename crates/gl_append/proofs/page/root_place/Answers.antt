use Rattle.std.proofs.Common.{◌∙◌}
use Rattle.gl_append.proofs.RootNumbers.{number_seen}
use Rattle.gl_append.proofs.page.root_place.Goals as goal

pub returns : goal.returns
returns c = c.place_of.ensures ∙ number_seen c.args.manifest.now.root c.as_slice.result.now _ c.as_slice.ensures
