-- Expressions, statements and templates.
use Rattle.std.specs.Prelude.{List, [], ◌∷◌, Bool}
use Rattle.gl_base.specs.Texts.{Text}
use Rattle.gl_value.specs.Value.{Value}

-- a value that no instance owns
abbrev pub Plain : Type 0
Plain = Value ⊥

mutual
  pub data Expr : Type 0 where
    literal : Plain → Expr
    this : Text → List Text → Expr
    argument : Text → List Text → Expr
    bare : Text → List Text → Expr
    call : Text → Exprs → NamedExprs → Expr
    cat : Exprs → Expr

  pub data Exprs : Type 0 where
    no_exprs : Exprs
    expr : Expr → Exprs → Exprs

  pub data NamedExprs : Type 0 where
    no_named : NamedExprs
    named_expr : Text → Expr → NamedExprs → NamedExprs

pub data AttrValue : Type 0 where
  fixed : Text → AttrValue
  live : Expr → AttrValue

pub data Part : Type 0 where
  attribute : Text → AttrValue → Part
  modifier : Text → Exprs → NamedExprs → Part
  spread : Part

mutual
  pub data Stmt : Type 0 where
    text_stmt : Text → Stmt
    comment_stmt : Text → Stmt
    put : Expr → Stmt
    element : Text → List Part → Body → Stmt
    component_stmt : Text → List Part → List (Text × AttrValue) → Slots → Stmt
    if_stmt : Expr → Bool → Body → Body → Stmt
    each : Expr → Text → List Text → Body → Body → Stmt
    let_stmt : Exprs → List Text → Body → Stmt
    yield : Exprs → Text → Stmt

  pub data Body : Type 0 where
    end : Body
    stmt : Stmt → Body → Body

  pub data Slots : Type 0 where
    no_slots : Slots
    block : Text → List Text → Body → Slots → Slots

-- the arguments of these expressions
abbrev pub exprs_of : List Expr → Exprs
exprs_of [] = no_exprs
exprs_of (e ∷ es) = expr e (exprs_of es)

-- the named arguments of these names with expressions
abbrev pub named_of : List (Text × Expr) → NamedExprs
named_of [] = no_named
named_of (n ∷ ns) = named_expr n.0 n.1 (named_of ns)

-- the slots of these names, each with its parameters and its body
abbrev pub slots_of : List (Text × (List Text × Body)) → Slots
slots_of [] = no_slots
slots_of (b ∷ bs) = block b.0 b.1.0 b.1.1 (slots_of bs)

-- the body of these statements
abbrev pub body_of : List Stmt → Body
body_of [] = end
body_of (s ∷ ss) = stmt s (body_of ss)
