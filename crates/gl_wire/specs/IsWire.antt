-- What a wire is: that of some template.
use Rattle.std.specs.Prelude.{◌≡◌, List}
use Rattle.gl_base.specs.Texts.{Text}
use Rattle.gl_ast.specs.Grammar.{IsTemplate}
use Rattle.gl_ast.specs.Template as t
use Rattle.gl_wire.specs.Wire.{Body, Wire}
use Rattle.gl_wire.specs.WireOf.{wire_of}

-- the wire of a tree that some bytes spell
abbrev pub IsWire : Wire → Type 0
IsWire w = ∥ ((b : t.Body) × IsTemplate b × (wire_of b ≡ w)) ∥₁

-- the wire of these symbols and this body
abbrev pub wire : List Text → Body → Wire
wire symbols body = record { symbols = symbols; body = body }

abbrev pub IsWireOf : List Text → Body → Type 0
IsWireOf symbols body = IsWire (wire symbols body)
