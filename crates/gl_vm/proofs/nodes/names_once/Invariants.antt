use Rattle.std.proofs.Common.{◌≡◌, ◌+◌, drop}
use Rattle.std.specs.Prelude.{if◌then◌else◌}
use Rattle.std.specs.Str.{chars}
use Rattle.gl_vm.specs.Steps.{times_named}
use Rattle.gl_vm.proofs.nodes.names_once.Given as goal

abbrev pub invariant-loop-attr : goal.invariant-loop-attr
invariant-loop-attr l = (if l.found then 1 else 0) + times_named (chars l.name) (drop l.attr-index l.attrs) ≡ times_named (chars l.name) l.attrs
