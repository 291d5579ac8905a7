use Rattle.std.proofs.Common.{◌≡◌, ◌++◌, drop}
use Rattle.std.specs.Prelude.{filter_map}
use Rattle.std.specs.Str.{chars}
use Rattle.gl_arena.specs.Arena.{named}
use Rattle.gl_mods.specs.Mods.{listeners}
use Rattle.gl_mods.specs.View.{seen_table}
use Rattle.gl_mods.proofs.listening.called_by.Given as goal

abbrev pub invariant-loop-id : goal.invariant-loop-id
invariant-loop-id l = l.acts ++ listeners (chars l.event) (filter_map (named (seen_table l.table)) (drop l.id-index l.ids)) ≡ listeners (chars l.event) (filter_map (named (seen_table l.table)) l.ids)
