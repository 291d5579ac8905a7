-- The wire of a template: its tree, in which names that are read by place stand once, in a list.
use Rattle.std.specs.Prelude.{ℕ, List, [], ◌∷◌, Bool}
use Rattle.gl_base.specs.Texts.{Text}
use Rattle.gl_ast.specs.Template.{Plain}

mutual
  -- `symbol` is an argument or a parameter in scope, by its place in the list of symbols; `get` has the segments of a path
  pub data Expr : Type 0 where
    literal : Plain → Expr
    symbol : ℕ → Expr
    this : Text → Expr
    get : Expr → List Text → Expr
    free : Text → Expr
    call : Text → Exprs → NamedExprs → Expr
    cat : Exprs → Expr

  pub data Exprs : Type 0 where
    no_exprs : Exprs
    expr : Expr → Exprs → Exprs

  pub data NamedExprs : Type 0 where
    no_named : NamedExprs
    named_expr : Text → Expr → NamedExprs → NamedExprs

-- an attribute with a text, one with an expression, a modifier, and the place of the attributes that a component was given
pub data Part : Type 0 where
  attribute : Text → Text → Part
  live : Text → Expr → Part
  modifier : Text → Exprs → NamedExprs → Part
  spread : Part

mutual
  -- parameters stand by their places in the list of symbols
  pub data Stmt : Type 0 where
    text_stmt : Text → Stmt
    comment_stmt : Text → Stmt
    put : Expr → Stmt
    element : Text → List Part → Body → Stmt
    component_stmt : Text → List Part → NamedExprs → Slots → Stmt
    if_stmt : Expr → Bool → Body → Body → Stmt
    each : Expr → Text → List ℕ → Body → Body → Stmt
    let_stmt : Exprs → List ℕ → Body → Stmt
    yield : Exprs → Text → Stmt

  pub data Body : Type 0 where
    end : Body
    stmt : Stmt → Body → Body

  pub data Slots : Type 0 where
    no_slots : Slots
    block : Text → List ℕ → Body → Slots → Slots

-- the wire of a template
pub record Wire : Type 0 where
  pub symbols : List Text
  pub body : Body

-- the wire of one expression
pub record ExprWire : Type 0 where
  pub symbols : List Text
  pub value : Expr

-- the expressions of a list
abbrev pub exprs_of : List Expr → Exprs
exprs_of [] = no_exprs
exprs_of (e ∷ es) = expr e (exprs_of es)

-- the named expressions of a list
abbrev pub named_of : List (Text × Expr) → NamedExprs
named_of [] = no_named
named_of (n ∷ ns) = named_expr n.0 n.1 (named_of ns)

-- the slots of a list, each with its parameters and its body
abbrev pub slots_of : List (Text × (List ℕ × Body)) → Slots
slots_of [] = no_slots
slots_of (b ∷ bs) = block b.0 b.1.0 b.1.1 (slots_of bs)

-- the body of these statements
abbrev pub body_of : List Stmt → Body
body_of [] = end
body_of (s ∷ ss) = stmt s (body_of ss)
