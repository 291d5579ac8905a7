use Rattle.std.proofs.Common.{◌≡◌, ◌++◌, drop}
use Rattle.gl_scope.proofs.args.copied.Given as goal

abbrev pub invariant-loop-entry : goal.invariant-loop-entry
invariant-loop-entry l = l.list.items ++ drop l.entry-index l.entries ≡ l.entries
