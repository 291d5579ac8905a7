use Rattle.std.proofs.Common.{◌≡◌, drop}
use Rattle.gl_base.specs.Names.{or_else}
use Rattle.gl_scope.specs.Scope.{last_at}
use Rattle.gl_scope.proofs.locals.innermost.Given as goal

abbrev pub invariant-loop-entry : goal.invariant-loop-entry
invariant-loop-entry l = or_else (last_at l.symbol (drop l.entry-index l.locals)) l.found ≡ last_at l.symbol l.locals
