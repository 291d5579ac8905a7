-- What is left after a value or an item is shorter.
use Rattle.std.proofs.Common.{◌≡◌, ◌≤◌, ◌<◌, ℕ, List, [], ◌∷◌, ◌++◌, Bool, true, false, length, Some, None, refl, arith}
use Rattle.std.specs.Prelude.{if◌then◌else◌, option_map}
use Rattle.std.proofs.lemmas.Option.{option_and_then_some}
use Rattle.gl_base.specs.Answers.{◌>>=◌}
use Rattle.gl_base.specs.Texts.{Text}
use Rattle.gl_value.specs.Value as v
use Rattle.gl_ast.specs.Grammar.{deepest_calls}
use Rattle.gl_ast.specs.Template.{Expr, literal, AttrValue, fixed, live}
use Rattle.gl_ast.specs.TokenText.{decoded}
use Rattle.gl_ast.specs.declared.token.Token.{Token}
use Rattle.gl_ast.specs.declared.token.TokenKind.{TokenKind}
use Rattle.gl_ast.specs.declared.token.TokenKind.TheVariants as k
use Rattle.gl_exprs.specs.ReadExpr.{stands_name, read_expr, read_called, read_inner, read_mustache}
use Rattle.gl_parse.specs.ReadValue as r
use Rattle.gl_exprs.specs.Take.{Taken, stands, take_kind, read_many, with_front}
use Rattle.gl_exprs.proofs.Shorter.{left_is, kind_shorter, name_shorter, many_leaves, arguments_leave, expr_shorter}

called_shorter : (ts : List Token) (x : Expr × List Token) → read_called ts ≡ Some x → length x.1 < length ts
unfolding read_called
called_shorter ts x e = option_and_then_some _ _ x e (λ name p e1. option_and_then_some _ _ x e1 (λ given q last.
    let f = name_shorter ts name p in
    let g = arguments_leave (read_expr deepest_calls) name.1 given (expr_shorter deepest_calls) q in
    let i = left_is given.1 _ x last in
    omega arith))

inner_case : (b : Bool) (ts : List Token) (x : Expr × List Token) → (if b then read_called ts else read_expr deepest_calls ts) ≡ Some x → length x.1 < length ts
inner_case true ts x e = called_shorter ts x e
inner_case false ts x e = expr_shorter deepest_calls ts x e

pub mustache_shorter : (ts : List Token) (x : Expr × List Token) → read_mustache ts ≡ Some x → length x.1 < length ts
unfolding read_mustache read_inner
mustache_shorter ts x e = option_and_then_some _ _ x e (λ front p e1. option_and_then_some _ _ x e1 (λ inner q e2. option_and_then_some _ _ x e2 (λ back s last.
    let f = kind_shorter k.OpenMustache ts front p in
    let g = inner_case (stands_name front.1) front.1 inner q in
    let i = kind_shorter k.CloseMustache inner.1 back s in
    let j = left_is back.1 inner.0 x last in
    omega arith)))

-- what a function makes of a reading leaves the same
made : {A B : Type 0} (o : Taken A) (f : A × List Token → B) (x : B × List Token) (P : Type 0) → option_map (λ (t : A × List Token). (f t, t.1)) o ≡ Some x → ((t : A × List Token) → o ≡ Some t → length x.1 ≡ length t.1 → P) → P
made None f x P e h = absurd cc
made (Some t) f x P e h = h t refl (left_is t.1 (f t) x e)

pub fixed_shorter : (kind : TokenKind) (ts : List Token) (x : AttrValue × List Token) → r.read_fixed kind ts ≡ Some x → length x.1 < length ts
unfolding r.read_fixed
fixed_shorter kind ts x e = made (take_kind kind ts) (λ (t : Text × List Token). fixed (decoded t.0)) x (length x.1 < length ts) e (λ t p same. let f = kind_shorter kind ts t p in omega arith)

pub quoted_text_shorter : (ts : List Token) (x : Expr × List Token) → r.read_quoted_text ts ≡ Some x → length x.1 < length ts
unfolding r.read_quoted_text
quoted_text_shorter ts x e = made (take_kind k.Text ts) (λ (t : Text × List Token). literal (v.text (decoded t.0))) x (length x.1 < length ts) e (λ t p same. let f = kind_shorter k.Text ts t p in omega arith)

quoted_case : (b : Bool) (ts : List Token) (x : Expr × List Token) → (if b then r.read_quoted_text ts else read_mustache ts) ≡ Some x → length x.1 < length ts
quoted_case true ts x e = quoted_text_shorter ts x e
quoted_case false ts x e = mustache_shorter ts x e

pub quoted_shorter : (ts : List Token) (x : Expr × List Token) → r.read_quoted ts ≡ Some x → length x.1 < length ts
unfolding r.read_quoted
quoted_shorter ts x e = quoted_case (stands k.Text ts) ts x e

front_leaves : {A : Type 0} (front : List A) (o : Taken (List A)) (n : ℕ) (x : List A × List Token) → ((y : List A × List Token) → o ≡ Some y → length y.1 ≤ n) → with_front front o ≡ Some x → length x.1 ≤ n
front_leaves front None n x h e = absurd cc
front_leaves front (Some y) n x h e = let f = h y refl in let g = left_is y.1 (front ++ y.0) x e in omega arith

cat_shorter : (ts : List Token) (x : AttrValue × List Token) → r.read_cat ts ≡ Some x → length x.1 < length ts
unfolding r.read_cat
cat_shorter ts x e = option_and_then_some _ _ x e (λ texts p e1. option_and_then_some _ _ x e1 (λ first q e2. option_and_then_some _ _ x e2 (λ all s last.
    let f = many_leaves (stands k.Text) r.read_quoted_text (length ts) ts texts quoted_text_shorter p in
    let g = mustache_shorter texts.1 first q in
    let i = front_leaves (texts.0 ++ first.0 ∷ []) (read_many r.starts_quoted r.read_quoted (length first.1) first.1) (length first.1) all (λ y t. many_leaves r.starts_quoted r.read_quoted (length first.1) first.1 y quoted_shorter t) s in
    let j = left_is all.1 _ x last in
    omega arith)))

between_case : (a b : Bool) (ts : List Token) (x : AttrValue × List Token) → (if a then Some (fixed [], ts) else (if b then r.read_fixed k.Text ts else r.read_cat ts)) ≡ Some x → length x.1 ≤ length ts
between_case true b ts x e = let f = left_is ts (fixed []) x e in omega arith
between_case false true ts x e = let f = fixed_shorter k.Text ts x e in omega arith
between_case false false ts x e = let f = cat_shorter ts x e in omega arith

quote_shorter : (ts : List Token) (x : AttrValue × List Token) → r.read_quote ts ≡ Some x → length x.1 < length ts
unfolding r.read_quote r.read_between
quote_shorter ts x e = option_and_then_some _ _ x e (λ front p e1. option_and_then_some _ _ x e1 (λ value q e2. option_and_then_some _ _ x e2 (λ back s last.
    let f = kind_shorter k.OpenQuote ts front p in
    let g = between_case (stands k.CloseQuote front.1) (r.stands_plain front.1) front.1 value q in
    let i = kind_shorter k.CloseQuote value.1 back s in
    let j = left_is back.1 value.0 x last in
    omega arith)))

value_case : (a b : Bool) (ts : List Token) (x : AttrValue × List Token) → (if a then r.read_fixed k.Unquoted ts else (if b then option_map (λ e. (live e.0, e.1)) (read_mustache ts) else r.read_quote ts)) ≡ Some x → length x.1 < length ts
value_case true b ts x e = fixed_shorter k.Unquoted ts x e
value_case false true ts x e = made (read_mustache ts) (λ (t : Expr × List Token). live t.0) x (length x.1 < length ts) e (λ t p same. let f = mustache_shorter ts t p in omega arith)
value_case false false ts x e = quote_shorter ts x e

pub value_shorter : (ts : List Token) (x : AttrValue × List Token) → r.read_value ts ≡ Some x → length x.1 < length ts
unfolding r.read_value
value_shorter ts x e = value_case (stands k.Unquoted ts) (stands k.OpenMustache ts) ts x e

given_case : (a : Bool) (ts : List Token) (x : AttrValue × List Token) → (if a then (take_kind k.Equals ts >>= λ mark. r.read_value mark.1) else Some (fixed [], ts)) ≡ Some x → length x.1 ≤ length ts
given_case true ts x e = option_and_then_some _ _ x e (λ mark p last. let f = kind_shorter k.Equals ts mark p in let g = value_shorter mark.1 x last in omega arith)
given_case false ts x e = let f = left_is ts (fixed []) x e in omega arith

pub given_leaves : (ts : List Token) (x : AttrValue × List Token) → r.read_given ts ≡ Some x → length x.1 ≤ length ts
unfolding r.read_given
given_leaves ts x e = given_case (stands k.Equals ts) ts x e
