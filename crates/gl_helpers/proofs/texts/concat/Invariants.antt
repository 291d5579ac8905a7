use Rattle.std.proofs.Common.{◌≡◌, ◌++◌, drop}
use Rattle.std.specs.Prelude.{flat_map}
use Rattle.gl_value.specs.Value.{text_of}
use Rattle.gl_value.specs.View.{seen_items}
use Rattle.gl_helpers.proofs.texts.concat.Given as goal

-- the text so far and those of what is left are the whole text
abbrev pub invariant-loop-value : goal.invariant-loop-value
invariant-loop-value l = l.text ++ flat_map text_of (seen_items (drop l.value-index l.values)) ≡ flat_map text_of (seen_items l.values)
