use Rattle.std.proofs.Common.{◌≡◌, ◌++◌, map, drop}
use Rattle.std.specs.Prelude.{filter}
use Rattle.gl_destroy.specs.What.{is_logged}
use Rattle.gl_destroy.specs.View.{seen_what}
use Rattle.gl_destroy.proofs.log.lines_of.Given as goal

abbrev pub invariant-loop-entry : goal.invariant-loop-entry
invariant-loop-entry l = map seen_what l.lines.items ++ filter is_logged (map (λ e. seen_what e.1) (drop l.entry-index l.order)) ≡ filter is_logged (map (λ e. seen_what e.1) l.order)
