-- What is read again.
use Rattle.std.specs.Prelude.{◌≡◌, ℕ, List}
use Rattle.gl_ast.specs.Grammar.{Spells}
use Rattle.gl_ast.specs.Template.{Body}
use Rattle.gl_wire.specs.Wire.{Wire}
use Rattle.gl_wire.specs.WireOf.{wire_of}

-- the wire of a template, with bytes that spell it
abbrev pub IsTemplateWire : Wire → Type 0
IsTemplateWire w = (bytes : List ℕ) × (b : Body) × Spells bytes b × (wire_of b ≡ w)
