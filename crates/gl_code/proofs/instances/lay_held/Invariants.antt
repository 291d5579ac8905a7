use Rattle.std.proofs.Common.{◌≡◌, drop, Some}
use Rattle.gl_value.specs.View.{seen_entries}
use Rattle.gl_vm.specs.View.{Calm}
use Rattle.gl_code.proofs.Laying.{StillLays}
use Rattle.gl_code.proofs.instances.lay_held.Given as goal

abbrev pub invariant-loop-field : goal.invariant-loop-field
invariant-loop-field l = StillLays (Some l.held) (seen_entries l.fields) (seen_entries (drop l._field-index l.fields)) l.ids l.fn.vm l.vm × (Calm l.fn.vm → Calm l.vm) × (l.vm.tree ≡ l.fn.vm.tree)
