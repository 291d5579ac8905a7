-- Each statement is less deep than the body that holds it, and each body than the slots that hold it.
use Rattle.std.specs.Prelude.{◌≤◌, suc, List, [], ◌∷◌}
use Rattle.std.proofs.Common.{arith}
use Rattle.gl_ast.specs.Template.{body_of, slots_of}
use Rattle.gl_ast.specs.Depth.{stmt_depth, body_depth, slots_depth}
use Rattle.gl_ast.specs.View.{stmt_view, seen_stmts, seen_slots}
use Rattle.gl_ast.specs.declared.stmt.Stmt.{Stmt}
use Rattle.gl_ast.specs.declared.stmt.Stmt.TheVariants as code
use Rattle.gl_ast.specs.declared.stmt.Slot.{Slot}
use Rattle.gl_ast.specs.declared.stmt.Body.TheDeep.{deep-Stmt, deep-Slot, deep-Body, deep-Slots}
use Rattle.gl_ast.specs.declared.stmt.Body.TheInside.{Inside as BodyInside}
use Rattle.gl_ast.specs.declared.stmt.Slots.TheInside.{Inside as SlotsInside}
use denote.Param.Weighed.{most}

stmt_falls : (s : Stmt) → deep-Stmt s ≤ suc (stmt_depth (stmt_view s))
stmt_falls (code.Text s) = omega arith
stmt_falls (code.Comment s) = omega arith
stmt_falls (code.Put e) = omega arith
stmt_falls (code.Element t ps b) = omega arith
stmt_falls (code.Component c ps es bs) = omega arith
stmt_falls (code.If e u b c) = omega arith
stmt_falls (code.Each h b c) = omega arith
stmt_falls (code.Let es ts b) = omega arith
stmt_falls (code.Yield es s) = omega arith

most_stmts : (ss : List Stmt) → most deep-Stmt ss ≤ suc (body_depth (body_of (seen_stmts ss)))
most_stmts [] = omega arith
most_stmts (s ∷ ss) = omega (arith, stmt_falls s, most_stmts ss)

most_slots : (ss : List Slot) → most deep-Slot ss ≤ suc (slots_depth (slots_of (seen_slots ss)))
most_slots [] = omega arith
most_slots (s ∷ ss) = omega (arith, most_slots ss)

pub body_falls : (a : BodyInside) → deep-Body a ≤ suc (body_depth (body_of (seen_stmts a.list.items)))
body_falls a = omega (arith, most_stmts a.list.items)

pub slots_falls : (a : SlotsInside) → deep-Slots a ≤ suc (slots_depth (slots_of (seen_slots a.list.items)))
slots_falls a = omega (arith, most_slots a.list.items)
