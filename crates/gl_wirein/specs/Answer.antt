-- What the reading of a wire answers.
use Rattle.std.specs.Prelude.{Option, Some, None, Result, Ok, Err, if◌then◌else◌}
use Rattle.serde_json.specs.Data.{Data}
use Rattle.gl_base.specs.Answers.{◌>>=◌}
use Rattle.gl_base.specs.Texts.{bytes_of}
use Rattle.gl_ast.specs.Canon.{canonical}
use Rattle.gl_exprs.specs.declared.fault.ParseFault.{ParseFault}
use Rattle.gl_exprs.specs.declared.fault.ParseFault.TheVariants as parse
use Rattle.gl_parse.specs.ReadStmt.{template_of}
use Rattle.gl_wire.specs.IsWire.{IsWire}
use Rattle.gl_wire.specs.Versions.{IsJsonOf}
use Rattle.gl_wire.specs.Wire.{Wire}
use Rattle.gl_wire.specs.WireOf.{wire_of}
use Rattle.gl_wirein.specs.ReadRows.{tree_in}
use Rattle.gl_wirein.specs.Versions.{is_json_of}
use Rattle.gl_wirein.specs.declared.fault.WireFault.{WireFault}
use Rattle.gl_wirein.specs.declared.fault.WireFault.TheVariants as v

-- what no bytes spell has no wire
abbrev pub fault_of : ParseFault → WireFault
fault_of (parse.NotInGrammar offset) = v.BadWire
fault_of parse.Memory = v.Memory

-- The wire that JSON is of, in version 1 or 2, as it is found: the tree that its rows give is spelled, what that spells has a wire, and the
-- JSON is that wire's.
unfoldable pub wire_in : Data → Option Wire
wire_in d = tree_in d >>= λ b. (template_of (bytes_of (canonical b)) >>= λ t. (if is_json_of (wire_of t) d then Some (wire_of t) else None))

-- The answer tells whose JSON this is: the JSON is that of the wire in one of the versions, and where it is bad, it is that of no
-- template's wire in either.
abbrev pub Tells : {X : Type 0} → (X → Wire) → Data → Result X WireFault → Type 0
Tells view d (Ok x) = IsJsonOf (view x) d
Tells view d (Err v.BadWire) = (w : Wire) → IsWire w → IsJsonOf w d → ⊥
Tells view d (Err v.Memory) = Unit {0}
