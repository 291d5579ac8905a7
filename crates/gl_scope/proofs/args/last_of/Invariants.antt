use Rattle.std.proofs.Common.{◌≡◌, drop}
use Rattle.std.specs.Str.{chars}
use Rattle.gl_base.specs.Names.{last_named, or_else}
use Rattle.gl_scope.proofs.args.last_of.Given as goal

abbrev pub invariant-loop-entry : goal.invariant-loop-entry
invariant-loop-entry l = or_else (last_named (chars l.name) (drop l.entry-index l.args)) l.found ≡ last_named (chars l.name) l.args
