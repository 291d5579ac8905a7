-- The lines of modifiers, by their ids.
use Rattle.std.specs.Prelude.{option_map}
use Rattle.gl_base.specs.Texts.{Text}
use Rattle.gl_arena.specs.Id.{Id}
use Rattle.gl_arena.specs.Arena.{named}
use Rattle.gl_plain.specs.State.{modifier_row}
use Rattle.gl_texts.specs.Lines.{told_row}
use Rattle.gl_vm.specs.View.{Tables, seen_modifier}
use Rattle.gl_vm.specs.declared.vm.Vm.{Vm}

-- what is told of the modifier that an id names, where there is one
unfoldable pub told_id : Text → Tables → Vm → Id → Text
told_id word n vm id = told_row word (option_map (λ x. modifier_row (seen_modifier n x)) (named vm.mods.table id))
