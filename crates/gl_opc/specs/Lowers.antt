-- What a program lowers: the template of a class, or one expression.
use Rattle.std.specs.Prelude.{ℕ, List, [], false, length}
use Rattle.gl_base.specs.Texts.{Text}
use Rattle.gl_ast.specs.Template.{Expr, Body}
use Rattle.gl_ops.specs.declared.op.Op.TheVariants.{Done}
use Rattle.gl_meaning.specs.Manifest.{Manifest, ClassEntry}
use Rattle.gl_wire.specs.Symbols.{symbols_of, expr_symbols_of}
use Rattle.gl_program.specs.Program.{Program, Stands}
use Rattle.gl_opc.specs.Spans.{ExprAt, BodyAt}

-- The words of the template stand from address 0 on, and Done is the last.
abbrev pub Lowers : Program → Body → Manifest → ClassEntry → Type 0
Lowers p b m c = (last : ℕ) × BodyAt p m c (symbols_of b) [] 0 b last × Stands p last Done (length p.words)

-- The words of the expression, where these parameters are in scope, stand from address 0 on, and Done is the last.
abbrev pub LowersExpr : Program → Expr → List Text → Manifest → ClassEntry → Type 0
LowersExpr p e params m c = (last : ℕ) × ExprAt p m c (expr_symbols_of params e) false params 0 e last × Stands p last Done (length p.words)
