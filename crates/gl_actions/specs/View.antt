-- What the code's sets stand for.
use Rattle.std.specs.Prelude.{List, map}
use Rattle.gl_value.specs.View.{view}
use Rattle.gl_actions.specs.Sets as s
use Rattle.gl_actions.specs.declared.sets.Set.{Set}

abbrev pub seen_set : Set → s.Set
seen_set x = record { owner = x.owner; field = x.field; to = view x.to }

abbrev pub seen_sets : List Set → List s.Set
seen_sets xs = map seen_set xs
