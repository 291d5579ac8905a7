-- Lists of expressions and arguments as the tree has them, and where none begins.
use Rattle.std.proofs.Common.{◌≡◌, List, [], ◌∷◌, Bool, false, ◌||◌, refl, ap}
use Rattle.gl_ast.specs.Grammar.{Mark}
use Rattle.gl_ast.specs.Template.{Expr, Exprs, no_exprs, expr, exprs_of}
use Rattle.gl_ast.specs.declared.token.Token.{Token}
use Rattle.gl_ast.specs.declared.token.TokenKind.{TokenKind}
use Rattle.gl_ast.specs.declared.token.TokenKind.TheVariants as k
use Rattle.gl_exprs.specs.ReadExpr.{starts_expr}
use Rattle.gl_exprs.specs.Take.{same_kind}
use Rattle.gl_exprs.proofs.FirstTokens.{stands_mark}

abbrev pub exprs_list : Exprs → List Expr
exprs_list no_exprs = []
exprs_list (expr e es) = e ∷ exprs_list es

pub exprs_of-list : (es : Exprs) → exprs_of (exprs_list es) ≡ es
exprs_of-list no_exprs = refl
exprs_of-list (expr e es) = ap (λ l. expr e l) (exprs_of-list es)

-- a kind that begins an expression
abbrev pub begins_expr : TokenKind → Bool
begins_expr kind = same_kind kind k.Path || same_kind kind k.Number || same_kind kind k.StringLit || same_kind kind k.OpenParen

pub no_expr : (kind : TokenKind) (ts us : List Token) → Mark kind ts us → begins_expr kind ≡ false → starts_expr ts ≡ false
unfolding starts_expr
no_expr kind ts us m e =
    rw (stands_mark kind k.Path ts us m, stands_mark kind k.Number ts us m, stands_mark kind k.StringLit ts us m, stands_mark kind k.OpenParen ts us m, e) refl
