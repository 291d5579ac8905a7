-- What the code's keys and steps stand for.
use Rattle.std.specs.Prelude.{List, map}
use Rattle.gl_value.specs.View.{view}
use Rattle.gl_each.specs.Key as k
use Rattle.gl_each.specs.Sync as s
use Rattle.gl_each.specs.declared.key.Key.{Key}
use Rattle.gl_each.specs.declared.step.PlanStep.{PlanStep}
use Rattle.gl_each.specs.declared.step.PlanStep.TheVariants as code

abbrev pub key_view : Key → k.Key
key_view a = (view a.value, a.occurrence)

abbrev pub seen_keys : List Key → List k.Key
seen_keys ks = map key_view ks

abbrev pub step_view : PlanStep → s.Step
step_view (code.Retain i) = s.retain i
step_view (code.Move i) = s.move i
step_view code.Insert = s.insert

abbrev pub seen_steps : List PlanStep → List s.Step
seen_steps ss = map step_view ss
