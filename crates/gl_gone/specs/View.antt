-- What stands in a page that an update may destroy.
use Rattle.std.specs.Prelude.{◌≡◌, ℕ, List, [], ◌∷◌, map, Bool, Some, is_some, option_map}
use Rattle.gl_arena.specs.Arena.{named, by_stamp}
use Rattle.gl_mods.specs.Mods as m
use Rattle.gl_machine.specs.Code.{live_of}
use Rattle.gl_machine.specs.Gone.{Gone, gone_modifier, gone_instance, none_lives, gone}
use Rattle.gl_vm.specs.View.{Tables}
use Rattle.gl_vm.specs.declared.vm.Vm.{Vm}
use Rattle.gl_code.specs.View.{seen_owner}
use Rattle.gl_code.specs.CodeView.{seen_code}
use Rattle.gl_code.specs.declared.page.Page.{Page}
use Rattle.gl_gone.specs.declared.endings.Ending.{Ending}
use Rattle.gl_gone.specs.declared.endings.Ending.TheVariants as ending

-- what it is to a log: a modifier by its number, or an instance with its path
abbrev pub seen_ending : Tables → Ending → Gone
seen_ending n (ending.Modifier i node name) = gone_modifier i.1
seen_ending n (ending.Instance o) = gone_instance (seen_owner n o.value)

abbrev pub all_seen : Tables → List Ending → List Gone
all_seen n xs = map (seen_ending n) xs

-- the number of a modifier's node, and the number of its name
abbrev pub line_of : m.Installed → ℕ × ℕ
line_of x = (x.node.1, x.name)

-- The node and the name of a modifier are those that are kept for its number.
abbrev pub IsKept : Vm → Ending → Type 0
IsKept vm (ending.Modifier i node name) = option_map line_of (by_stamp vm.mods.table i.1) ≡ Some (node.1, name)
IsKept vm (ending.Instance o) = Unit {0}

abbrev pub AllKept : Vm → List Ending → Type 0
AllKept vm [] = Unit {0}
AllKept vm (x ∷ xs) = IsKept vm x × AllKept vm xs

-- The list is all that would go if all of the page went, children first.
pub record Lists (page : Page) (xs : List Ending) : Type 0 where
  pub list : (n : Tables) → all_seen n xs ≡ gone none_lives (live_of (seen_code n page.code))
  pub kept : AllKept page.vm xs

-- it lives in a machine, by its id
abbrev pub is_live : Vm → Ending → Bool
is_live vm (ending.Modifier i node name) = is_some (named vm.mods.table i)
is_live vm (ending.Instance o) = is_some (named vm.instances o.value.id)
