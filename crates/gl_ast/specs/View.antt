-- What the code's trees stand for.
use Rattle.std.specs.Prelude.{List, map}
use Rattle.gl_base.specs.Texts.{Text}
use Rattle.gl_value.specs.Value as v
use Rattle.gl_ast.specs.Template as t
use Rattle.gl_ast.specs.declared.expr.Lit.{Lit}
use Rattle.gl_ast.specs.declared.expr.Lit.TheVariants as lit
use Rattle.gl_ast.specs.declared.expr.Expr.{Expr}
use Rattle.gl_ast.specs.declared.expr.Expr.TheVariants as expr
use Rattle.gl_ast.specs.declared.expr.NamedExpr.{NamedExpr}
use Rattle.gl_ast.specs.declared.part.AttrValue.{AttrValue}
use Rattle.gl_ast.specs.declared.part.AttrValue.TheVariants as attr
use Rattle.gl_ast.specs.declared.part.Part.{Part}
use Rattle.gl_ast.specs.declared.part.Part.TheVariants as part
use Rattle.gl_ast.specs.declared.part.Argument.{Argument}
use Rattle.gl_ast.specs.declared.stmt.Stmt.{Stmt}
use Rattle.gl_ast.specs.declared.stmt.Stmt.TheVariants as stmt
use Rattle.gl_ast.specs.declared.stmt.Block.{Block}
use Rattle.gl_ast.specs.declared.stmt.Slot.{Slot}

abbrev pub lit_view : Lit → t.Plain
lit_view lit.Undefined = v.undefined
lit_view lit.Null = v.null
lit_view (lit.Bool b) = v.boolean b
lit_view (lit.Int i) = v.integer i
lit_view (lit.Str s) = v.text s

abbrev pub expr_view : Expr → t.Expr
expr_view (expr.Lit l) = t.literal (lit_view l)
expr_view (expr.This s ts) = t.this s ts
expr_view (expr.Arg s ts) = t.argument s ts
expr_view (expr.Bare s ts) = t.bare s ts
expr_view (expr.Call s es ns) = t.call s (t.exprs_of es) (t.named_of ns.value)
expr_view (expr.Cat es) = t.cat (t.exprs_of es)

abbrev pub seen_exprs : List Expr → List t.Expr
seen_exprs es = map expr_view es

abbrev pub named_view : NamedExpr → Text × t.Expr
named_view n = (n.name, expr_view n.value)

abbrev pub seen_pairs : List NamedExpr → List (Text × t.Expr)
seen_pairs ns = map named_view ns

abbrev pub attr_view : AttrValue → t.AttrValue
attr_view (attr.Fixed s) = t.fixed s
attr_view (attr.Live e) = t.live (expr_view e.value)

abbrev pub part_view : Part → t.Part
part_view (part.Attr n a) = t.attribute n (attr_view a)
part_view (part.Mod n es ns) = t.modifier n (t.exprs_of es) (t.named_of ns.value)
part_view part.Spread = t.spread

abbrev pub seen_parts : List Part → List t.Part
seen_parts ps = map part_view ps

abbrev pub argument_view : Argument → Text × t.AttrValue
argument_view a = (a.name, attr_view a.value)

abbrev pub seen_args : List Argument → List (Text × t.AttrValue)
seen_args as_given = map argument_view as_given

abbrev pub stmt_view : Stmt → t.Stmt
stmt_view (stmt.Text s) = t.text_stmt s
stmt_view (stmt.Comment s) = t.comment_stmt s
stmt_view (stmt.Put e) = t.put (expr_view e)
stmt_view (stmt.Element n ps b) = t.element n ps (t.body_of b)
stmt_view (stmt.Component c ps es bs) = t.component_stmt c ps es.value (t.slots_of bs.value)
stmt_view (stmt.If e u b c) = t.if_stmt (expr_view e.value) u (t.body_of b) (t.body_of c)
stmt_view (stmt.Each h b c) = t.each (expr_view h.value.list) h.value.key h.value.params (t.body_of b) (t.body_of c)
stmt_view (stmt.Let es ts b) = t.let_stmt (t.exprs_of es) ts (t.body_of b)
stmt_view (stmt.Yield es s) = t.yield (t.exprs_of es) s

abbrev pub seen_stmts : List Stmt → List t.Stmt
seen_stmts ss = map stmt_view ss

abbrev pub block_view : Block → List Text × t.Body
block_view b = (b.params, t.body_of b.body)

abbrev pub slot_view : Slot → Text × (List Text × t.Body)
slot_view s = (s.name, block_view s.block)

abbrev pub seen_slots : List Slot → List (Text × (List Text × t.Body))
seen_slots ss = map slot_view ss
