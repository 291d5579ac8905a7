-- Each statement of a wire is less deep than the body that holds it, and each body than the slots that hold it.
use Rattle.std.specs.Prelude.{◌≤◌, suc, List, [], ◌∷◌}
use Rattle.std.proofs.Common.{arith}
use Rattle.gl_wire.specs.Wire.{body_of, slots_of}
use Rattle.gl_wire.specs.Depth.{stmt_depth, body_depth, slots_depth}
use Rattle.gl_wire.specs.View.{stmt_view, seen_stmts, seen_slots}
use Rattle.gl_wire.specs.declared.stmt.WireStmt.{WireStmt}
use Rattle.gl_wire.specs.declared.stmt.WireStmt.TheVariants as code
use Rattle.gl_wire.specs.declared.stmt.WireSlot.{WireSlot}
use Rattle.gl_wire.specs.declared.stmt.WireBody.TheDeep.{deep-WireStmt, deep-WireSlot, deep-WireBody, deep-WireSlots}
use Rattle.gl_wire.specs.declared.stmt.WireBody.TheInside.{Inside as BodyInside}
use Rattle.gl_wire.specs.declared.stmt.WireSlots.TheInside.{Inside as SlotsInside}
use denote.Param.Weighed.{most}

stmt_falls : (s : WireStmt) → deep-WireStmt s ≤ suc (stmt_depth (stmt_view s))
stmt_falls (code.Text s) = omega arith
stmt_falls (code.Comment s) = omega arith
stmt_falls (code.Put e) = omega arith
stmt_falls (code.Element t ps b) = omega arith
stmt_falls (code.Component c ps es bs) = omega arith
stmt_falls (code.If e u b c) = omega arith
stmt_falls (code.Each h b c) = omega arith
stmt_falls (code.Let es is b) = omega arith
stmt_falls (code.Yield es s) = omega arith

most_stmts : (ss : List WireStmt) → most deep-WireStmt ss ≤ suc (body_depth (body_of (seen_stmts ss)))
most_stmts [] = omega arith
most_stmts (s ∷ ss) = omega (arith, stmt_falls s, most_stmts ss)

most_slots : (ss : List WireSlot) → most deep-WireSlot ss ≤ suc (slots_depth (slots_of (seen_slots ss)))
most_slots [] = omega arith
most_slots (s ∷ ss) = omega (arith, most_slots ss)

pub body_falls : (a : BodyInside) → deep-WireBody a ≤ suc (body_depth (body_of (seen_stmts a.list.items)))
body_falls a = omega (arith, most_stmts a.list.items)

pub slots_falls : (a : SlotsInside) → deep-WireSlots a ≤ suc (slots_depth (slots_of (seen_slots a.list.items)))
slots_falls a = omega (arith, most_slots a.list.items)
