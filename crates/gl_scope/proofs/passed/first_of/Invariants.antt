use Rattle.std.proofs.Common.{◌≡◌, drop}
use Rattle.std.specs.Str.{chars}
use Rattle.gl_base.specs.Names.{named}
use Rattle.gl_scope.proofs.passed.first_of.Given as goal

abbrev pub invariant-loop-entry : goal.invariant-loop-entry
invariant-loop-entry l = named (chars l.name) (drop l.entry-index l.blocks) ≡ named (chars l.name) l.blocks
