use Rattle.std.proofs.Common.{◌≡◌, false, ap, ◌∙◌}
use Rattle.std.specs.Str.{chars}
use Rattle.serde_json.specs.View.{view}
use Rattle.serde_json.specs.Written.{compact_text, has_float}
use Rattle.gl_wire.specs.Json.{wire_text}
use Rattle.gl_wire.specs.View.{wire_view}
use Rattle.gl_wire.specs.declared.version.Version.TheVariants.{Second}
use Rattle.gl_wire.proofs.NoFloats.{no_float}
use Rattle.gl_wire.proofs.json.to_text.Goals as goal

pub returns : goal.returns
unfolding wire_text
returns c =
    let same = c.in_ok-json.ensures in
    let whole : has_float (view c.in_ok-json.json) ≡ false = ap has_float same ∙ no_float Second (wire_view c.args.wire.now) in
    c.in_ok-from_string.ensures ∙ ap chars (c.in_ok-to_string.ensures.text whole ∙ ap compact_text same)
