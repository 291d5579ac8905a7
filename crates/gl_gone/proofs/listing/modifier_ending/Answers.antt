use Rattle.gl_mods.specs.View.{seen_installed}
use Rattle.gl_gone.proofs.KeptRows.{modifier_kept}
use Rattle.gl_gone.proofs.listing.modifier_ending.Goals as goal

pub returns-clause-kept : goal.returns-clause-kept
returns-clause-kept c = modifier_kept c.args.vm.now.mods.table c.args.id (seen_installed c.get-installed.result.now) c.sound.ensures.stamps c.get-installed.ensures
