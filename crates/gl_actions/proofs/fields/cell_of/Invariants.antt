use Rattle.std.proofs.Common.{◌≡◌, drop}
use Rattle.gl_base.specs.Names.{named}
use Rattle.gl_plain.specs.State.{named_as}
use Rattle.gl_vm.specs.View.{stamps}
use Rattle.gl_actions.specs.LastSet.{field_names}
use Rattle.gl_actions.proofs.fields.cell_of.Given as goal

-- what is left decides
abbrev pub invariant-loop-field : goal.invariant-loop-field
invariant-loop-field l = named l.name (named_as (field_names (drop l.field-index l.fields)) (stamps l.rest)) ≡ named l.name (named_as (field_names l.fields) (stamps l.cells))
