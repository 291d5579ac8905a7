-- What a wire doesn't tell of a tree: a name alone that is no parameter is the call of its helper without arguments, and
-- a literal text as an argument is a fixed text. The normal tree has the second of each two.
use Rattle.std.specs.Prelude.{List, [], ◌∷◌, Bool, true, false}
use Rattle.gl_base.specs.Names.{has_text}
use Rattle.gl_base.specs.Texts.{Text}
use Rattle.gl_ast.specs.Template.{Expr, bare, call, cat, Exprs, no_exprs, expr, no_named, AttrValue, fixed, live, Part, attribute, modifier, spread, Stmt, text_stmt, comment_stmt, put, element, component_stmt, if_stmt, each, let_stmt, yield, Body, end, stmt, Slots, no_slots, block}
use Rattle.gl_wire.specs.Symbols.{with_names}
use Rattle.gl_wirein.specs.ReadTag.{given}

-- a name alone, by whether it is a parameter
abbrev pub normal_name : Bool → Text → Expr
normal_name true n = bare n []
normal_name false n = call n no_exprs no_named

-- what a whole mustache has
abbrev pub normal_expr : List Text → Expr → Expr
normal_expr scope (bare n []) = normal_name (has_text n scope) n
normal_expr scope e = e

abbrev pub normal_exprs : List Text → Exprs → Exprs
normal_exprs scope no_exprs = no_exprs
normal_exprs scope (expr e es) = expr (normal_expr scope e) (normal_exprs scope es)

-- the value of an attribute or an argument
abbrev pub normal_live : List Text → Expr → Expr
normal_live scope (cat es) = cat (normal_exprs scope es)
normal_live scope e = normal_expr scope e

abbrev pub normal_part : List Text → Part → Part
normal_part scope (attribute n (fixed s)) = attribute n (fixed s)
normal_part scope (attribute n (live e)) = attribute n (live (normal_live scope e))
normal_part scope (modifier n es ns) = modifier n es ns
normal_part scope spread = spread

abbrev pub normal_parts : List Text → List Part → List Part
normal_parts scope [] = []
normal_parts scope (p ∷ ps) = normal_part scope p ∷ normal_parts scope ps

abbrev pub normal_value : List Text → AttrValue → AttrValue
normal_value scope (fixed s) = fixed s
normal_value scope (live e) = given (normal_live scope e)

abbrev pub normal_arguments : List Text → List (Text × AttrValue) → List (Text × AttrValue)
normal_arguments scope [] = []
normal_arguments scope (a ∷ as_given) = (a.0, normal_value scope a.1) ∷ normal_arguments scope as_given

-- a statement, by the parameters in scope
abbrev mutual
  pub normal_stmt : List Text → Stmt → Stmt
  normal_stmt scope (text_stmt s) = text_stmt s
  normal_stmt scope (comment_stmt s) = comment_stmt s
  normal_stmt scope (put e) = put (normal_expr scope e)
  normal_stmt scope (element tag ps b) = element tag (normal_parts scope ps) (normal_body scope b)
  normal_stmt scope (component_stmt c ps args ss) = component_stmt c (normal_parts scope ps) (normal_arguments scope args) (normal_slots scope ss)
  normal_stmt scope (if_stmt e unless b c) = if_stmt e unless (normal_body scope b) (normal_body scope c)
  normal_stmt scope (each e key ns b c) = each e key ns (normal_body (with_names scope ns) b) (normal_body scope c)
  normal_stmt scope (let_stmt es ns b) = let_stmt es ns (normal_body (with_names scope ns) b)
  normal_stmt scope (yield es to) = yield es to

  pub normal_body : List Text → Body → Body
  normal_body scope end = end
  normal_body scope (stmt s b) = stmt (normal_stmt scope s) (normal_body scope b)

  pub normal_slots : List Text → Slots → Slots
  normal_slots scope no_slots = no_slots
  normal_slots scope (block name ns b ss) = block name ns (normal_body (with_names scope ns) b) (normal_slots scope ss)
