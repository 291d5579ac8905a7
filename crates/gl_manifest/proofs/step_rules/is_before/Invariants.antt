use Rattle.std.proofs.Common.{◌≡◌, ◌-◌, drop}
use Rattle.serde_json.specs.View.{items_view}
use Rattle.gl_meaning.specs.ManifestShape.{is_before}
use Rattle.gl_manifest.proofs.step_rules.is_before.Given as goal

-- what is left decides
abbrev pub invariant-loop-at : goal.invariant-loop-at
invariant-loop-at l = is_before (l.place - l.at) l.name (items_view (drop l.at l.items)) ≡ is_before l.place l.name (items_view l.items)
