-- What the code's wires stand for.
use Rattle.std.specs.Prelude.{ℕ, List, map}
use Rattle.gl_base.specs.Texts.{Text}
use Rattle.gl_ast.specs.View.{lit_view}
use Rattle.gl_wire.specs.Wire as w
use Rattle.gl_wire.specs.declared.expr.WireExpr.{WireExpr}
use Rattle.gl_wire.specs.declared.expr.WireExpr.TheVariants as expr
use Rattle.gl_wire.specs.declared.expr.WirePair.{WirePair}
use Rattle.gl_wire.specs.declared.part.WirePart.{WirePart}
use Rattle.gl_wire.specs.declared.part.WirePart.TheVariants as part
use Rattle.gl_wire.specs.declared.stmt.WireStmt.{WireStmt}
use Rattle.gl_wire.specs.declared.stmt.WireStmt.TheVariants as stmt
use Rattle.gl_wire.specs.declared.stmt.WireSlot.{WireSlot}
use Rattle.gl_wire.specs.declared.wire.Wire.{Wire}
use Rattle.gl_wire.specs.declared.wire.ExprWire.{ExprWire}

abbrev pub expr_view : WireExpr → w.Expr
expr_view (expr.Lit l) = w.literal (lit_view l)
expr_view (expr.Sym i) = w.symbol i
expr_view (expr.This s) = w.this s
expr_view (expr.Get e ts) = w.get e ts
expr_view (expr.Free s) = w.free s
expr_view (expr.Call s es ns) = w.call s (w.exprs_of es) (w.named_of ns.value)
expr_view (expr.Cat es) = w.cat (w.exprs_of es)

abbrev pub seen_exprs : List WireExpr → List w.Expr
seen_exprs es = map expr_view es

abbrev pub pair_view : WirePair → Text × w.Expr
pair_view n = (n.name, expr_view n.value)

abbrev pub seen_pairs : List WirePair → List (Text × w.Expr)
seen_pairs ns = map pair_view ns

abbrev pub part_view : WirePart → w.Part
part_view (part.Attr n s) = w.attribute n s
part_view (part.Live n e) = w.live n (expr_view e.value)
part_view (part.Mod n es ns) = w.modifier n (w.exprs_of es) (w.named_of ns.value)
part_view part.Spread = w.spread

abbrev pub seen_parts : List WirePart → List w.Part
seen_parts ps = map part_view ps

abbrev pub stmt_view : WireStmt → w.Stmt
stmt_view (stmt.Text s) = w.text_stmt s
stmt_view (stmt.Comment s) = w.comment_stmt s
stmt_view (stmt.Put e) = w.put (expr_view e)
stmt_view (stmt.Element n ps b) = w.element n ps (w.body_of b)
stmt_view (stmt.Component c ps es bs) = w.component_stmt c ps (w.named_of es.value) (w.slots_of bs.value)
stmt_view (stmt.If e u b c) = w.if_stmt (expr_view e.value) u (w.body_of b) (w.body_of c)
stmt_view (stmt.Each h b c) = w.each (expr_view h.value.list) h.value.key h.value.params (w.body_of b) (w.body_of c)
stmt_view (stmt.Let es is b) = w.let_stmt (w.exprs_of es) is (w.body_of b)
stmt_view (stmt.Yield es s) = w.yield (w.exprs_of es) s

abbrev pub seen_stmts : List WireStmt → List w.Stmt
seen_stmts ss = map stmt_view ss

abbrev pub slot_view : WireSlot → Text × (List ℕ × w.Body)
slot_view s = (s.name, (s.params, w.body_of s.body))

abbrev pub seen_slots : List WireSlot → List (Text × (List ℕ × w.Body))
seen_slots ss = map slot_view ss

abbrev pub wire_view : Wire → w.Wire
wire_view x = record { symbols = x.symbols; body = w.body_of x.body }

abbrev pub expr_wire_view : ExprWire → w.ExprWire
expr_wire_view x = record { symbols = x.symbols; value = expr_view x.value }
