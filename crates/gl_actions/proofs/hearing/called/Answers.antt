use Rattle.std.proofs.Common.{Some, None, sym}
use Rattle.gl_value.specs.View.{view}
use Rattle.gl_mods.specs.View.{seen_installed}
use Rattle.gl_mods.proofs.Arguments.{argument-is, copied}
use Rattle.gl_actions.proofs.hearing.called.Goals as goal

pub returns-in-Some : goal.returns-in-Some
returns-in-Some c = copied c.copy.result c.in-Some.second.now _ c.copy.ensures (sym (argument-is 1 (seen_installed c.args.installed.now) (Some (view c.in-Some.second.now)) c.in-Some.ensures))

pub returns-in-None : goal.returns-in-None
returns-in-None c = sym (argument-is 1 (seen_installed c.args.installed.now) None c.in-None.ensures)
