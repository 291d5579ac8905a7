use Rattle.std.specs.Prelude.{◌≡◌, ◌++◌, ◌∷◌, take, flat_map}
use Rattle.gl_value.specs.Value.{text_of}
use Rattle.gl_value.specs.Quote.{quoted}
use Rattle.gl_value.specs.View.{view}
use Rattle.gl_meaning.specs.Signs.{blank}
use Rattle.gl_lines.proofs.log.push_values.Given as goal

abbrev pub invariant-loop-value : goal.invariant-loop-value
invariant-loop-value l = l.out ≡ l.initial.out ++ flat_map (λ v. blank ∷ quoted (text_of (view v))) (take l.value-index l.values)
