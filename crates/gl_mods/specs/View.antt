-- What the code's modifiers stand for.
use Rattle.std.specs.Prelude.{List, Vec, map}
use Rattle.std.specs.BTreeMap.{BTreeMap}
use Rattle.gl_arena.specs.Id.{Id}
use Rattle.gl_arena.specs.Arena.{Arena}
use Rattle.gl_arena.specs.Mapped.{mapped}
use Rattle.gl_mods.specs.Mods as m
use Rattle.gl_mods.specs.declared.installed.Installed.{Installed}

abbrev pub seen_installed : Installed → m.Installed
seen_installed i = record { node = i.node; place = i.place; name = i.name; args = i.args; named = i.named }

abbrev pub seen_table : Arena Installed → Arena m.Installed
seen_table a = mapped seen_installed a

abbrev pub seen_list : {A : Type 0} → Id × Vec Id A → Id × List Id
seen_list e = (e.0, e.1.items)

-- the ids of each node
abbrev pub lists_in : {A : Type 0} → BTreeMap Id (Vec Id A) → List (Id × List Id)
lists_in m = map seen_list m.entries
