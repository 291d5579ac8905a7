use Rattle.std.specs.Prelude.{◌≡◌, ◌++◌, ◌∷◌, take, flat_map}
use Rattle.gl_value.specs.Value.{text_of}
use Rattle.gl_value.specs.Quote.{quoted}
use Rattle.gl_value.specs.View.{view}
use Rattle.gl_meaning.specs.Signs.{blank, equals}
use Rattle.gl_lines.proofs.log.push_entries.Given as goal

abbrev pub invariant-loop-entry : goal.invariant-loop-entry
invariant-loop-entry l = l.out ≡ l.initial.out ++ flat_map (λ n. blank ∷ (n.0 ++ equals ∷ quoted (text_of (view n.1)))) (take l.entry-index l.entries)
