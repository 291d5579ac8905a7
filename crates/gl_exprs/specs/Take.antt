-- The first token, by its kind.
use Rattle.std.specs.Prelude.{ℕ, zero, suc, List, [], ◌∷◌, ◌++◌, Bool, false, ◌&&◌, nat_eq, if◌then◌else◌, Option, Some, None}
use Rattle.std.specs.Str.{bytes_eq}
use Rattle.gl_base.specs.Answers.{◌>>=◌}
use Rattle.gl_base.specs.Texts.{Text}
use Rattle.gl_ast.specs.declared.token.Token.{Token}
use Rattle.gl_ast.specs.declared.token.TokenKind.{TokenKind}
use Rattle.gl_ast.specs.declared.token.TokenKind.TheVariants as k

-- what was read, and the tokens that are left
abbrev pub Taken : Type 0 → Type 0
Taken A = Option (A × List Token)

-- a number for each kind
abbrev pub kind_number : TokenKind → ℕ
kind_number k.Text = 0
kind_number k.HtmlComment = 1
kind_number k.MustacheComment = 2
kind_number k.EndTag = 3
kind_number k.TagOpening = 4
kind_number k.OpenMustache = 5
kind_number k.OpenBlock = 6
kind_number k.OpenClosing = 7
kind_number k.Attribute = 8
kind_number k.Argument = 9
kind_number k.Spread = 10
kind_number k.Equals = 11
kind_number k.Unquoted = 12
kind_number k.OpenQuote = 13
kind_number k.CloseQuote = 14
kind_number k.TagEnd = 15
kind_number k.SelfEnd = 16
kind_number k.Parameters = 17
kind_number k.Path = 18
kind_number k.Number = 19
kind_number k.StringLit = 20
kind_number k.OpenParen = 21
kind_number k.CloseParen = 22
kind_number k.CloseMustache = 23

abbrev pub same_kind : TokenKind → TokenKind → Bool
same_kind a b = nat_eq (kind_number a) (kind_number b)

-- the first token is of this kind
unfoldable pub stands : TokenKind → List Token → Bool
stands kind [] = false
stands kind (t ∷ ts) = same_kind t.kind kind

-- its text, where it is of this kind
unfoldable pub take_kind : TokenKind → List Token → Taken Text
take_kind kind [] = None
take_kind kind (t ∷ ts) = if same_kind t.kind kind then Some (t.text, ts) else None

-- the first token is a path that is this word
unfoldable pub stands_word : Text → List Token → Bool
stands_word w [] = false
stands_word w (t ∷ ts) = same_kind t.kind k.Path && bytes_eq w t.text

-- it is a path of this word, and these are the tokens after it
unfoldable pub take_word : Text → List Token → Option (List Token)
take_word w [] = None
take_word w (t ∷ ts) = if same_kind t.kind k.Path && bytes_eq w t.text then Some ts else None

-- as many as stand there one after another, and at most so many, where `starts` tells whether one more comes and `one`
-- reads it
unfoldable pub read_many : {A : Type 0} → (List Token → Bool) → (List Token → Taken A) → ℕ → List Token → Taken (List A)
read_many starts one zero ts = if starts ts then None else Some ([], ts)
read_many starts one (suc n) ts =
    if starts ts then (one ts >>= λ x. (read_many starts one n x.1 >>= λ more. Some (x.0 ∷ more.0, more.1))) else Some ([], ts)

-- a reading of a list, with a front before the list
abbrev pub with_front : {A B : Type 0} → List A → Option (List A × B) → Option (List A × B)
with_front front read = read >>= λ x. Some (front ++ x.0, x.1)
