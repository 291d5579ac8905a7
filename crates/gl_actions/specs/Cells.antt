-- The cell that a set sets.
use Rattle.std.specs.Prelude.{◌≡◌, Some}
use Rattle.gl_base.specs.Texts.{Text}
use Rattle.gl_arena.specs.Id.{Id}
use Rattle.gl_meaning.specs.Path.{Path}
use Rattle.gl_meaning.specs.Eval.{field_member, member_of}
use Rattle.gl_plain.specs.State.{Names, Inst, cell_ref}
use Rattle.gl_machine.specs.Code.{live_of}
use Rattle.gl_code.specs.CodeView.{seen_code}
use Rattle.gl_code.specs.declared.page.Page.{Page}
use Rattle.gl_actions.specs.Found.{instance_in}
use Rattle.gl_actions.specs.Sets.{Set}
use Rattle.gl_actions.specs.World.{World, tables_in, owner_in, class_in, field_in}

-- the path of the instance that is set
abbrev pub target_in : World → Set → Path
target_in w s = owner_in w s.owner.1

-- the name of the field that is set
abbrev pub target_name : World → Set → Text
target_name w s = field_in w (target_in w s) s.field

-- The page has the instance, the name is that of a field of its class, and the cell is that of this field.
pub record CellFor (w : World) (page : Page) (s : Set) (r : Id) : Type 0 where
  pub inst : Inst
  pub args : Names
  pub found : instance_in s.owner.1 (live_of (seen_code (tables_in w) page.code)) ≡ Some (inst, args)
  pub field : member_of (class_in w (target_in w s)) (target_name w s) ≡ field_member
  pub cell : r.1 ≡ cell_ref inst (target_name w s)
