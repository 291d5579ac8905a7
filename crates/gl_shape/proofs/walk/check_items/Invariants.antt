use Rattle.std.proofs.Common.{◌≡◌, drop}
use Rattle.serde_json.specs.View.{items_view}
use Rattle.gl_meaning.specs.Walk.{check_items}
use Rattle.gl_shape.proofs.walk.check_items.Given as goal

-- what is left decides
abbrev pub invariant-loop-place : goal.invariant-loop-place
invariant-loop-place g l = check_items (g.R.ItemRule.rule l.rule) l.place (items_view (drop l.place l.items)) ≡ check_items (g.R.ItemRule.rule l.rule) 0 (items_view l.items)
