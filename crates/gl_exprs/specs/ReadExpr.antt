-- Expressions, read from the front of the tokens.
use Rattle.std.specs.Prelude.{ℕ, zero, suc, List, [], ◌∷◌, Bool, true, false, ◌&&◌, ◌||◌, not, length, drop, codes, if◌then◌else◌, Option, Some, None, option_map}
use Rattle.std.specs.Str.{bytes_eq}
use Rattle.gl_base.specs.Answers.{◌>>=◌}
use Rattle.gl_base.specs.Names.{has_text}
use Rattle.gl_base.specs.Texts.{Text}
use Rattle.gl_value.specs.Value as v
use Rattle.gl_ast.specs.Grammar.{deepest_calls, has_argument}
use Rattle.gl_ast.specs.Scans.{begins}
use Rattle.gl_ast.specs.Template.{Plain, Expr, literal, this, argument, bare, call, Exprs, NamedExprs, exprs_of, named_of}
use Rattle.gl_ast.specs.TokenText.{string_of, whole_of, names_of, is_free, has_char}
use Rattle.gl_ast.specs.Words.{reserved}
use Rattle.gl_ast.specs.declared.token.Token.{Token}
use Rattle.gl_ast.specs.declared.token.TokenKind.{TokenKind}
use Rattle.gl_ast.specs.declared.token.TokenKind.TheVariants as k
use Rattle.gl_exprs.specs.Take.{Taken, same_kind, stands, take_kind, read_many}

-- the constant that a word stands for
unfoldable pub constant_of : Text → Option Plain
constant_of n =
    if bytes_eq (codes "true") n then Some (v.boolean true)
    else (if bytes_eq (codes "false") n then Some (v.boolean false)
    else (if bytes_eq (codes "null") n then Some v.null
    else (if bytes_eq (codes "undefined") n then Some v.undefined else None)))

-- after `this`
abbrev pub this_path : List Text → Option Expr
this_path [] = None
this_path (n ∷ ns) = Some (this n ns)

-- after another reserved name
abbrev pub constant_path : Text → List Text → Option Expr
constant_path n [] = option_map literal (constant_of n)
constant_path n (m ∷ ns) = None

-- the expression that a path's names are
unfoldable pub path_expr : List Text → Option Expr
path_expr [] = None
path_expr (n ∷ ns) =
    if begins (64 ∷ []) n then Some (argument (drop 1 n) ns)
    else (if bytes_eq (codes "this") n then this_path ns
    else (if has_text n reserved then constant_path n ns else Some (bare n ns)))

-- the expression that one token is
unfoldable pub token_expr : TokenKind → Text → Option Expr
token_expr kind x =
    if same_kind kind k.Path then path_expr (names_of x)
    else (if same_kind kind k.Number then option_map (λ z. literal (v.integer z)) (whole_of x)
    else (if same_kind kind k.StringLit then Some (literal (v.text (string_of x))) else None))

unfoldable pub read_token : List Token → Taken Expr
read_token [] = None
read_token (t ∷ ts) = option_map (λ e. (e, ts)) (token_expr t.kind t.text)

-- a path of one name that is not reserved
abbrev pub is_lone : Text → Bool
is_lone x = not (has_char 46 x) && is_free x

unfoldable pub read_name : List Token → Taken Text
read_name ts = take_kind k.Path ts >>= λ p. (if is_lone p.0 then Some p else None)

-- such a name comes first
unfoldable pub stands_name : List Token → Bool
stands_name [] = false
stands_name (t ∷ ts) = same_kind t.kind k.Path && is_lone t.text

-- a name and `=` come first
unfoldable pub stands_named : List Token → Bool
stands_named ts = stands_name ts && stands k.Equals (drop 1 ts)

-- the first token of an expression comes first, and is no name before `=`
unfoldable pub starts_expr : List Token → Bool
starts_expr ts = (stands k.Path ts || stands k.Number ts || stands k.StringLit ts || stands k.OpenParen ts) && not (stands_named ts)

-- expressions one after another, at most so many, where `one` reads one of them
abbrev pub read_exprs : (List Token → Taken Expr) → ℕ → List Token → Taken (List Expr)
read_exprs one n ts = read_many starts_expr one n ts

-- one after its name and `=`
unfoldable pub read_pair : (List Token → Taken Expr) → List Token → Taken (Text × Expr)
read_pair one ts = do
  name ← read_name ts
  mark ← take_kind k.Equals name.1
  value ← one mark.1
  Some ((name.0, value.0), value.1)

abbrev pub read_named : (List Token → Taken Expr) → ℕ → List Token → Taken (List (Text × Expr))
read_named one n ts = read_many stands_name (read_pair one) n ts

-- positional arguments, then named ones
unfoldable pub read_arguments : (List Token → Taken Expr) → List Token → Taken (Exprs × NamedExprs)
read_arguments one ts = do
  given ← read_exprs one (length ts) ts
  more ← read_named one (length given.1) given.1
  Some ((exprs_of given.0, named_of more.0), more.1)

-- a call in parentheses, where `one` reads the expressions in it
unfoldable pub read_call : (List Token → Taken Expr) → List Token → Taken Expr
read_call one ts = do
  front ← take_kind k.OpenParen ts
  name ← read_name front.1
  given ← read_arguments one name.1
  back ← take_kind k.CloseParen given.1
  Some (call name.0 given.0.0 given.0.1, back.1)

-- an expression, where so many calls may nest
unfoldable pub read_expr : ℕ → List Token → Taken Expr
read_expr zero ts = read_token ts
read_expr (suc calls) ts = if stands k.OpenParen ts then read_call (read_expr calls) ts else read_token ts

-- a name with its arguments is a call; a lone name is bare
abbrev pub called : Text → Exprs → NamedExprs → Expr
called n es ns = if has_argument es ns then call n es ns else bare n []

-- a name with arguments, and no parentheses
unfoldable pub read_called : List Token → Taken Expr
read_called ts = do
  name ← read_name ts
  given ← read_arguments (read_expr deepest_calls) name.1
  Some (called name.0 given.0.0 given.0.1, given.1)

-- what stands in a mustache
unfoldable pub read_inner : List Token → Taken Expr
read_inner ts = if stands_name ts then read_called ts else read_expr deepest_calls ts

unfoldable pub read_mustache : List Token → Taken Expr
read_mustache ts = do
  front ← take_kind k.OpenMustache ts
  inner ← read_inner front.1
  back ← take_kind k.CloseMustache inner.1
  Some (inner.0, back.1)
