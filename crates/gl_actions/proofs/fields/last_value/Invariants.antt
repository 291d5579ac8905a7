use Rattle.std.proofs.Common.{◌≡◌, drop, option_map}
use Rattle.gl_base.specs.Names.{or_else}
use Rattle.gl_value.specs.View.{view}
use Rattle.gl_actions.specs.LastSet.{last_set, field_names}
use Rattle.gl_actions.proofs.fields.last_value.Given as goal

abbrev pub invariant-loop-set : goal.invariant-loop-set
invariant-loop-set l =
    or_else (last_set l.number (field_names l.fields) l.name (drop l.set-index l.sets)) (option_map (λ v. view v.now) l.found) ≡ last_set l.number (field_names l.fields) l.name l.sets
