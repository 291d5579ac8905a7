-- The place of a fault: that of the first token which no template, or no expression, has after the tokens before it.
use Rattle.std.specs.Prelude.{◌≡◌, ◌⊎◌, ℕ, List, [], ◌∷◌, ◌++◌, true, false, length, Result, Ok, Err}
use Rattle.std.specs.Str.{is_utf8}
use Rattle.std.specs.Str.Lossy.{utf8_valid_len}
use Rattle.gl_ast.specs.Grammar.{deepest_nesting, deepest_calls, AreStmts, IsExpr}
use Rattle.gl_ast.specs.Settling.{settled}
use Rattle.gl_ast.specs.Template.{Body, Expr}
use Rattle.gl_ast.specs.declared.mode.Mode.TheVariants as m
use Rattle.gl_ast.specs.declared.token.Token.{Token}
use Rattle.gl_exprs.specs.declared.fault.ParseFault.{ParseFault}
use Rattle.gl_exprs.specs.declared.fault.ParseFault.TheVariants as v
use Rattle.gl_lex.specs.Front.{front_from}
use Rattle.gl_parse.specs.FaultPlace.{stop_of}

-- some template begins with these tokens
abbrev pub BeginsTemplate : List Token → Type 0
BeginsTemplate front = (rest : List Token) × (tree : Body) × AreStmts deepest_nesting (front ++ rest) tree []

-- some expression begins with these tokens
abbrev pub BeginsExpression : List Token → Type 0
BeginsExpression front = (rest : List Token) × (e : Expr) × IsExpr deepest_calls (front ++ rest) e []

-- Some begins with the tokens before this one, and none with it as well.
pub record IsFaulty (Begins : List Token → Type 0) (list : List Token) (n : ℕ) : Type 0 where
  pub front : List Token
  pub token : Token
  pub rest : List Token
  pub here : list ≡ front ++ token ∷ rest
  pub begins : Begins front
  pub stops : Begins (front ++ token ∷ []) → ⊥
  pub place : n ≡ token.start

-- It is the place of the first such token, or where there is none that at which the tokens end.
abbrev pub IsPlaceAmong : (List Token → Type 0) → List Token → ℕ → ℕ → Type 0
IsPlaceAmong Begins list end n = IsFaulty Begins list n ⊎ (Begins list × (n ≡ end))

-- The tokens of a template are taken after white-space control, which leaves their kinds and places as they are. Of bytes
-- that aren't UTF-8 the place is that of the first that isn't.
abbrev pub IsTemplatePlace : List ℕ → ℕ → Type 0
IsTemplatePlace bytes n =
    ((is_utf8 bytes ≡ false) × (n ≡ utf8_valid_len bytes))
    ⊎ ((is_utf8 bytes ≡ true)
    × IsPlaceAmong BeginsTemplate (settled bytes (front_from m.Content 0 0 bytes).0) (stop_of (length bytes) (front_from m.Content 0 0 bytes).1) n)

abbrev pub IsExpressionPlace : List ℕ → ℕ → Type 0
IsExpressionPlace text n =
    IsPlaceAmong BeginsExpression (front_from m.Expression 0 0 text).0 (stop_of (length text) (front_from m.Expression 0 0 text).1) n

-- The answer tells all: it is the tree that is spelled; where the fault is that the input is not in the grammar, nothing
-- is spelled, and the offset is the place of the fault.
abbrev pub Answers : {X T : Type 0} → (X → T) → (T → Type 0) → (ℕ → Type 0) → Result X ParseFault → Type 0
Answers view IsSpelled IsPlace (Ok x) = IsSpelled (view x)
Answers view IsSpelled IsPlace (Err (v.NotInGrammar offset)) = ((tree : _) → IsSpelled tree → ⊥) × IsPlace offset
Answers view IsSpelled IsPlace (Err v.Memory) = Unit {0}
