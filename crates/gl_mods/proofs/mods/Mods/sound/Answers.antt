use Rattle.std.proofs.Common.{subst}
use Rattle.gl_mods.specs.Mods.{IsSound}
use Rattle.gl_mods.specs.View.{seen_table, lists_in}
use Rattle.gl_mods.proofs.Calls.{sound}
use Rattle.gl_mods.proofs.mods.Mods.sound.Goals as goal

pub returns : goal.returns
returns c = let s = c.self.inside in subst IsSound c.self.view_is (sound (seen_table s.table) (lists_in s.lists) s.installs.items s.updates.items c.self.invariant)
