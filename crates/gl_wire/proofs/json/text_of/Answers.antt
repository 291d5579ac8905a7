use Rattle.std.proofs.Common.{◌++◌, ap, ◌∙◌}
use Rattle.std.specs.Prelude.{ℕ, List, string_bytes}
use Rattle.std.specs.Str.{chars}
use Rattle.serde_json.specs.Written.{compact_text, has_float}
use Rattle.gl_wire.specs.Json.{wire_text}
use Rattle.gl_wire.specs.Wire.{Wire, body_of}
use Rattle.gl_wire.proofs.NoFloats.{texts}
use Rattle.gl_wire.proofs.RowTexts.{wire_written}
use Rattle.gl_wire.proofs.json.text_of.Goals as goal

pub write_value-requires : goal.write_value-requires
write_value-requires c = ap has_float c.in_ok-texts_value.ensures ∙ texts c.args.symbols.now

pub returns : goal.returns
unfolding wire_text
returns c =
    let w : Wire = record { symbols = c.args.symbols.now; body = body_of c.args.body } in
    let named = string_bytes c.push_str.new.self in
    let symbols = c.in_ok-write_value.ensures ∙ ap (λ (d : List ℕ). named ++ d) (ap compact_text c.in_ok-texts_value.ensures) in
    let all = wire_written w _ _ _ _ _ c.in_ok-text.ensures.ok c.in_ok-write_body.ensures c.in_ok-push_str.ensures.bytes symbols c.in_ok-push_str-2.ensures.bytes in
    c.in_ok-from_string.ensures ∙ ap chars all
