use Rattle.std.proofs.Common.{◌≡◌, drop, option_map}
use Rattle.gl_base.specs.Names.{last_named, or_else}
use Rattle.gl_value.specs.View.{view, seen_entries}
use Rattle.gl_actions.proofs.lookup.parameter_of.Given as goal

abbrev pub invariant-loop-param : goal.invariant-loop-param
invariant-loop-param l = or_else (last_named l.name (seen_entries (drop l.param-index l.params))) (option_map (λ v. view v.now) l.found) ≡ last_named l.name (seen_entries l.params)
