-- What the first token says of what can be read.
use Rattle.std.proofs.Common.{◌≡◌, inl, inr, List, ◌∷◌, Bool, true, false, drop, refl, ap, ◌∙◌}
use Rattle.std.specs.Prelude.{not, ◌&&◌, ◌||◌}
use Rattle.gl_base.specs.Texts.{Text}
use Rattle.gl_ast.specs.Grammar.{Mark, IsName}
use Rattle.gl_ast.specs.Template.{Expr}
use Rattle.gl_ast.specs.declared.token.Token.{Token}
use Rattle.gl_ast.specs.declared.token.TokenKind.{TokenKind}
use Rattle.gl_ast.specs.declared.token.TokenKind.TheVariants as k
use Rattle.gl_exprs.specs.ReadExpr.{stands_name, stands_named, starts_expr, is_lone}
use Rattle.gl_exprs.specs.Take.{same_kind, stands}
use Rattle.gl_exprs.proofs.Firsts.{kind_stands, other_stands, is_other}
use Rattle.gl_exprs.proofs.NameLaws.{name_stands}
use Rattle.gl_exprs.proofs.TokenLaws.{IsSingle}

four_first : (a b c d : Bool) → a ≡ true → (a || b || c || d) ≡ true
four_first a b c d e = ap (λ x. x || b || c || d) e

four_second : (a b c d : Bool) → b ≡ true → (a || b || c || d) ≡ true
four_second true b c d e = refl
four_second false b c d e = ap (λ x. x || c || d) e

four_third : (a b c d : Bool) → c ≡ true → (a || b || c || d) ≡ true
four_third true b c d e = refl
four_third false true c d e = refl
four_third false false c d e = ap (λ x. x || d) e

four_last : (a b c d : Bool) → d ≡ true → (a || b || c || d) ≡ true
four_last true b c d e = refl
four_last false true c d e = refl
four_last false false true d e = refl
four_last false false false d e = e

four_none : (a b c d : Bool) → a ≡ false → b ≡ false → c ≡ false → d ≡ false → (a || b || c || d) ≡ false
four_none a b c d e f g h = ap (λ x. x || b || c || d) e ∙ ap (λ x. x || c || d) f ∙ ap (λ x. x || d) g ∙ h

both_true : (a b : Bool) → a ≡ true → b ≡ false → (a && not b) ≡ true
both_true a b e f = ap (λ x. x && not b) e ∙ ap not f

and_false : (a b : Bool) → b ≡ false → (a && b) ≡ false
and_false true b e = e
and_false false b e = refl

named_not : (a b : Bool) → a ≡ true → b ≡ true → (c : Bool) → (c && not (a && b)) ≡ false
named_not a b e f true = ap not (ap (λ x. x && b) e ∙ f)
named_not a b e f false = refl

-- no name comes first
pub no_name : (kind : TokenKind) (ts us : List Token) (t : Token) → ts ≡ t ∷ us → t.kind ≡ kind → same_kind kind k.Path ≡ false → stands_name ts ≡ false
unfolding stands_name
no_name kind ts us t e f g = ap stands_name e ∙ ap (λ x. x && is_lone t.text) (is_other t.kind kind k.Path f g)

not_named : (ts vs : List Token) (t : Token) → ts ≡ t ∷ vs → stands k.Equals vs ≡ false → stands_named ts ≡ false
unfolding stands_named
not_named ts vs t e f = and_false (stands_name ts) (stands k.Equals (drop 1 ts)) (ap (λ x. stands k.Equals (drop 1 x)) e ∙ f)

starts_when : (ts : List Token) → (stands k.Path ts || stands k.Number ts || stands k.StringLit ts || stands k.OpenParen ts) ≡ true → stands_named ts ≡ false → starts_expr ts ≡ true
unfolding starts_expr
starts_when ts e f = both_true (stands k.Path ts || stands k.Number ts || stands k.StringLit ts || stands k.OpenParen ts) (stands_named ts) e f

-- an expression of one token starts one, where no `=` follows
pub starts_single : (ts : List Token) (e : Expr) (vs : List Token) → IsSingle ts e vs → stands k.Equals vs ≡ false → starts_expr ts ≡ true
starts_single ts e vs s f =
    let named = not_named ts vs s.token s.here f in
    elim s.operand [
      | inl path ↦ starts_when ts (four_first (stands k.Path ts) (stands k.Number ts) (stands k.StringLit ts) (stands k.OpenParen ts) (kind_stands k.Path ts vs s.token s.here path)) named
      | inr other ↦ elim other [
        | inl number ↦ starts_when ts (four_second (stands k.Path ts) (stands k.Number ts) (stands k.StringLit ts) (stands k.OpenParen ts) (kind_stands k.Number ts vs s.token s.here number)) named
        | inr string ↦ starts_when ts (four_third (stands k.Path ts) (stands k.Number ts) (stands k.StringLit ts) (stands k.OpenParen ts) (kind_stands k.StringLit ts vs s.token s.here string)) named
      ]
    ]

-- it is none of another kind
pub single_other : (ts : List Token) (e : Expr) (vs : List Token) (kind : TokenKind) → IsSingle ts e vs → same_kind k.Path kind ≡ false → same_kind k.Number kind ≡ false → same_kind k.StringLit kind ≡ false → stands kind ts ≡ false
single_other ts e vs kind s f g h = elim s.operand [
  | inl path ↦ other_stands k.Path kind ts vs s.token s.here path f
  | inr other ↦ elim other [
    | inl number ↦ other_stands k.Number kind ts vs s.token s.here number g
    | inr string ↦ other_stands k.StringLit kind ts vs s.token s.here string h
  ]
]

not_named_open : (ts vs : List Token) (t : Token) → ts ≡ t ∷ vs → t.kind ≡ k.OpenParen → stands_named ts ≡ false
unfolding stands_named
not_named_open ts vs t e f = ap (λ x. x && stands k.Equals (drop 1 ts)) (no_name k.OpenParen ts vs t e f refl)

-- so does a parenthesis
pub starts_open : (ts vs : List Token) → Mark k.OpenParen ts vs → starts_expr ts ≡ true
starts_open ts vs m = starts_when ts (four_last (stands k.Path ts) (stands k.Number ts) (stands k.StringLit ts) (stands k.OpenParen ts) (kind_stands k.OpenParen ts vs m.0 m.1 m.2)) (not_named_open ts vs m.0 m.1 m.2)

-- a name and `=` start none
pub named_starts : (ts : List Token) (n : Text) (vs ws : List Token) → IsName ts n vs → Mark k.Equals vs ws → starts_expr ts ≡ false
unfolding starts_expr stands_named
named_starts ts n vs ws h m =
    named_not (stands_name ts) (stands k.Equals (drop 1 ts)) (name_stands ts n vs h) (ap (λ x. stands k.Equals (drop 1 x)) h.1 ∙ kind_stands k.Equals vs ws m.0 m.1 m.2)
    (stands k.Path ts || stands k.Number ts || stands k.StringLit ts || stands k.OpenParen ts)

-- no argument and no `=` follows
pub record IsEnd (us : List Token) : Type 0 where
  pub no_expr : starts_expr us ≡ false
  pub no_pair : stands_name us ≡ false
  pub no_equals : stands k.Equals us ≡ false

starts_not : (ts : List Token) → (stands k.Path ts || stands k.Number ts || stands k.StringLit ts || stands k.OpenParen ts) ≡ false → starts_expr ts ≡ false
unfolding starts_expr
starts_not ts e = ap (λ x. x && not (stands_named ts)) e

pub end_at : (kind : TokenKind) (ts us : List Token) → same_kind kind k.Path ≡ false → same_kind kind k.Number ≡ false → same_kind kind k.StringLit ≡ false → same_kind kind k.OpenParen ≡ false → same_kind kind k.Equals ≡ false → Mark kind ts us → IsEnd ts
end_at kind ts us f g h i j m = record {
  no_expr = starts_not ts (four_none (stands k.Path ts) (stands k.Number ts) (stands k.StringLit ts) (stands k.OpenParen ts) (other_stands kind k.Path ts us m.0 m.1 m.2 f) (other_stands kind k.Number ts us m.0 m.1 m.2 g) (other_stands kind k.StringLit ts us m.0 m.1 m.2 h) (other_stands kind k.OpenParen ts us m.0 m.1 m.2 i));
  no_pair = no_name kind ts us m.0 m.1 m.2 f;
  no_equals = other_stands kind k.Equals ts us m.0 m.1 m.2 j;
}

pub end_paren : (ts us : List Token) → Mark k.CloseParen ts us → IsEnd ts
end_paren ts us m = end_at k.CloseParen ts us refl refl refl refl refl m

pub end_mustache : (ts us : List Token) → Mark k.CloseMustache ts us → IsEnd ts
end_mustache ts us m = end_at k.CloseMustache ts us refl refl refl refl refl m
