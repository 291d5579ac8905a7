use Rattle.std.proofs.Common.{◌≡◌, ◌++◌, drop, map}
use Rattle.std.specs.Prelude.{flat_map}
use Rattle.gl_value.specs.Value.{text_of}
use Rattle.gl_value.specs.View.{seen_items}
use Rattle.gl_helpers.proofs.texts.write_after.Given as goal

-- the text so far and those of what is left are the whole text
abbrev pub invariant-loop-item : goal.invariant-loop-item
invariant-loop-item l = l.text ++ flat_map (λ u. l.between ++ u) (map text_of (seen_items (drop l.item-index l.items))) ≡ l.fn.text ++ flat_map (λ u. l.between ++ u) (map text_of (seen_items l.items))
