use Rattle.gl_manifest.proofs.Order.{read_rises, rise_differ}
use Rattle.gl_manifest.proofs.laws.names_rise.Goals as goal

pub returns-clause-read : goal.returns-clause-read
returns-clause-read c = read_rises

pub returns-clause-differ : goal.returns-clause-differ
returns-clause-differ c = rise_differ
