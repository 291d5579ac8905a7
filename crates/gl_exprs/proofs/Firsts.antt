-- Laws of the first token, by its kind.
use Rattle.std.proofs.Common.{◌≡◌, ℕ, List, [], ◌∷◌, true, false, Some, refl, sym, ap, ◌∙◌, arith}
use Rattle.std.proofs.lemmas.Bool.Decides.{nat_tests}
use Rattle.std.proofs.lemmas.Option.{cond_some}
use Rattle.gl_base.specs.Names.{at_place}
use Rattle.gl_base.specs.Texts.{Text}
use Rattle.gl_ast.specs.declared.token.Token.{Token}
use Rattle.gl_ast.specs.declared.token.TokenKind.{TokenKind}
use Rattle.gl_ast.specs.declared.token.TokenKind.TheVariants as k
use Rattle.gl_exprs.specs.Take.{kind_number, same_kind, stands, take_kind}

-- the kinds in the order of their numbers
abbrev kinds : List TokenKind
kinds =
    k.Text ∷ k.HtmlComment ∷ k.MustacheComment ∷ k.EndTag ∷ k.TagOpening ∷ k.OpenMustache ∷ k.OpenBlock ∷ k.OpenClosing ∷ k.Attribute ∷ k.Argument ∷ k.Spread ∷ k.Equals
    ∷ k.Unquoted ∷ k.OpenQuote ∷ k.CloseQuote ∷ k.TagEnd ∷ k.SelfEnd ∷ k.Parameters ∷ k.Path ∷ k.Number ∷ k.StringLit ∷ k.OpenParen ∷ k.CloseParen ∷ k.CloseMustache ∷ []

abbrev kind_at : ℕ → TokenKind
kind_at n = at_place k.Text n kinds

kind_at-number : (a : TokenKind) → kind_at (kind_number a) ≡ a
kind_at-number k.Text = refl
kind_at-number k.HtmlComment = refl
kind_at-number k.MustacheComment = refl
kind_at-number k.EndTag = refl
kind_at-number k.TagOpening = refl
kind_at-number k.OpenMustache = refl
kind_at-number k.OpenBlock = refl
kind_at-number k.OpenClosing = refl
kind_at-number k.Attribute = refl
kind_at-number k.Argument = refl
kind_at-number k.Spread = refl
kind_at-number k.Equals = refl
kind_at-number k.Unquoted = refl
kind_at-number k.OpenQuote = refl
kind_at-number k.CloseQuote = refl
kind_at-number k.TagEnd = refl
kind_at-number k.SelfEnd = refl
kind_at-number k.Parameters = refl
kind_at-number k.Path = refl
kind_at-number k.Number = refl
kind_at-number k.StringLit = refl
kind_at-number k.OpenParen = refl
kind_at-number k.CloseParen = refl
kind_at-number k.CloseMustache = refl

-- two kinds that test as the same are the same
pub same_kind-is : (a b : TokenKind) → same_kind a b ≡ true → a ≡ b
same_kind-is a b e =
    let same : kind_number a ≡ kind_number b = grind (arith, nat_tests) in
    sym (kind_at-number a) ∙ ap kind_at same ∙ kind_at-number b

pub same_kind-self : (a : TokenKind) → same_kind a a ≡ true
same_kind-self a = grind (arith, nat_tests)

pub is_same : (a b : TokenKind) → a ≡ b → same_kind a b ≡ true
is_same a b e = ap (λ x. same_kind x b) e ∙ same_kind-self b

-- a token of one kind is none of another
pub is_other : (a b c : TokenKind) → a ≡ b → same_kind b c ≡ false → same_kind a c ≡ false
is_other a b c e f = ap (λ x. same_kind x c) e ∙ f

-- one token of this kind, with this text
pub record IsFirst (kind : TokenKind) (ts : List Token) (text : Text) (us : List Token) : Type 0 where
  pub token : Token
  pub here : ts ≡ token ∷ us
  pub is_kind : token.kind ≡ kind
  pub is_text : token.text ≡ text

-- what is taken comes first
pub kind_is : (kind : TokenKind) (ts : List Token) (x : Text × List Token) → take_kind kind ts ≡ Some x → IsFirst kind ts x.0 x.1
unfolding take_kind
kind_is kind [] x e = absurd cc
kind_is kind (t ∷ ts) x e =
    let h = cond_some (same_kind t.kind kind) (t.text, ts) x e in
    record {
      token = t;
      here = ap (λ (y : Text × List Token). t ∷ y.1) h.1;
      is_kind = same_kind-is t.kind kind h.0;
      is_text = ap (λ (y : Text × List Token). y.0) h.1;
    }

-- and the other way round
pub takes_kind : (kind : TokenKind) (ts us : List Token) (t : Token) → ts ≡ t ∷ us → t.kind ≡ kind → take_kind kind ts ≡ Some (t.text, us)
unfolding take_kind
takes_kind kind ts us t e f = ap (take_kind kind) e ∙ rw (is_same t.kind kind f) refl

pub kind_stands : (kind : TokenKind) (ts us : List Token) (t : Token) → ts ≡ t ∷ us → t.kind ≡ kind → stands kind ts ≡ true
unfolding stands
kind_stands kind ts us t e f = ap (stands kind) e ∙ is_same t.kind kind f

-- a token of this kind is none of another
pub other_stands : (kind other : TokenKind) (ts us : List Token) (t : Token) → ts ≡ t ∷ us → t.kind ≡ kind → same_kind kind other ≡ false → stands other ts ≡ false
unfolding stands
other_stands kind other ts us t e f g = ap (stands other) e ∙ is_other t.kind kind other f g
