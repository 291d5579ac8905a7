-- What is left after reading is shorter.
use Rattle.std.proofs.Common.{◌≡◌, ◌≤◌, ◌<◌, ℕ, zero, suc, List, [], ◌∷◌, Bool, true, false, length, Option, Some, None, sym, ap, arith}
use Rattle.std.specs.Prelude.{if◌then◌else◌, option_map}
use Rattle.std.proofs.lemmas.Option.{cond_some, option_and_then_some, same_Some}
use Rattle.gl_base.specs.Answers.{◌>>=◌}
use Rattle.gl_base.specs.Texts.{Text}
use Rattle.gl_ast.specs.Template.{Expr, Exprs, NamedExprs}
use Rattle.gl_ast.specs.declared.token.Token.{Token}
use Rattle.gl_ast.specs.declared.token.TokenKind.{TokenKind}
use Rattle.gl_ast.specs.declared.token.TokenKind.TheVariants as k
use Rattle.gl_exprs.specs.ReadExpr.{token_expr, read_token, is_lone, read_name, stands_name, starts_expr, read_pair, read_arguments, read_call, read_expr}
use Rattle.gl_exprs.specs.Take.{Taken, same_kind, stands, take_kind, read_many}

-- what the answer leaves is what x leaves
pub left_is : {A : Type 0} (ts : List Token) (a : A) (x : A × List Token) → ◌≡◌ {A = Option (A × List Token)} (Some (a, ts)) (Some x) → length x.1 ≡ length ts
left_is {A} ts a x e = ap (λ (y : A × List Token). length y.1) (sym (same_Some {A = A × List Token} (a, ts) x e))

pub kind_shorter : (kind : TokenKind) (ts : List Token) (x : Text × List Token) → take_kind kind ts ≡ Some x → length x.1 < length ts
unfolding take_kind
kind_shorter kind [] x e = absurd cc
kind_shorter kind (t ∷ ts) x e =
    let h = cond_some (same_kind t.kind kind) (t.text, ts) x e in
    let f : length x.1 ≡ length ts = ap (λ (y : Text × List Token). length y.1) (sym h.1) in
    omega (arith, f)

mapped : {A B : Type 0} (o : Option A) (f : A → B) (ts : List Token) (x : B × List Token) → option_map (λ (a : A). (f a, ts)) o ≡ Some x → length x.1 ≡ length ts
mapped None f ts x e = absurd cc
mapped (Some a) f ts x e = left_is ts (f a) x e

pub token_shorter : (ts : List Token) (x : Expr × List Token) → read_token ts ≡ Some x → length x.1 < length ts
unfolding read_token
token_shorter [] x e = absurd cc
token_shorter (t ∷ ts) x e = let f = mapped (token_expr t.kind t.text) (λ (a : Expr). a) ts x e in omega (arith, f)

pub name_shorter : (ts : List Token) (x : Text × List Token) → read_name ts ≡ Some x → length x.1 < length ts
unfolding read_name
name_shorter ts x e = option_and_then_some _ _ x e (λ p front last.
    let h = cond_some (is_lone p.0) p x last in
    let f = kind_shorter k.Path ts p front in
    let g : length x.1 ≡ length p.1 = ap (λ (y : Text × List Token). length y.1) (sym h.1) in
    omega arith)

many_case : {A : Type 0} (b : Bool) (n : ℕ) (starts : List Token → Bool) (one : List Token → Taken A) (ts : List Token) (x : List A × List Token) → ((us : List Token) (y : A × List Token) → one us ≡ Some y → length y.1 < length us) → ((us : List Token) (y : List A × List Token) → read_many starts one n us ≡ Some y → length y.1 ≤ length us) → (if b then (one ts >>= λ x. (read_many starts one n x.1 >>= λ more. Some (x.0 ∷ more.0, more.1))) else Some ([], ts)) ≡ Some x → length x.1 ≤ length ts
many_case true n starts one ts x h more e = option_and_then_some _ _ x e (λ y first later. option_and_then_some _ _ x later (λ z rest last.
    let f = h ts y first in
    let g = more y.1 z rest in
    let i = left_is z.1 (y.0 ∷ z.0) x last in
    omega arith))
many_case {A} false n starts one ts x h more e = let f = left_is {A = List A} ts [] x e in omega arith

pub many_leaves : {A : Type 0} (starts : List Token → Bool) (one : List Token → Taken A) (n : ℕ) (ts : List Token) (x : List A × List Token) → ((us : List Token) (y : A × List Token) → one us ≡ Some y → length y.1 < length us) → read_many starts one n ts ≡ Some x → length x.1 ≤ length ts
unfolding read_many
many_leaves {A} starts one zero ts x h e = elim (starts ts) as (λ b. (if b then None else Some ([], ts)) ≡ Some x → length x.1 ≤ length ts) [
  | true ↦ λ f. absurd cc
  | false ↦ λ f. let g = left_is {A = List A} ts [] x f in omega arith
] e
many_leaves starts one (suc n) ts x h e = many_case (starts ts) n starts one ts x h (λ us y. many_leaves starts one n us y h) e

pub pair_shorter : (one : List Token → Taken Expr) (ts : List Token) (x : (Text × Expr) × List Token) → ((us : List Token) (y : Expr × List Token) → one us ≡ Some y → length y.1 < length us) → read_pair one ts ≡ Some x → length x.1 < length ts
unfolding read_pair
pair_shorter one ts x h e = option_and_then_some _ _ x e (λ name p e1. option_and_then_some _ _ x e1 (λ mark q e2. option_and_then_some _ _ x e2 (λ value r last.
    let f = name_shorter ts name p in
    let g = kind_shorter k.Equals name.1 mark q in
    let i = h mark.1 value r in
    let j = left_is value.1 (name.0, value.0) x last in
    omega arith)))

pub arguments_leave : (one : List Token → Taken Expr) (ts : List Token) (x : (Exprs × NamedExprs) × List Token) → ((us : List Token) (y : Expr × List Token) → one us ≡ Some y → length y.1 < length us) → read_arguments one ts ≡ Some x → length x.1 ≤ length ts
unfolding read_arguments
arguments_leave one ts x h e = option_and_then_some _ _ x e (λ given p e1. option_and_then_some _ _ x e1 (λ more q last.
    let f = many_leaves starts_expr one (length ts) ts given h p in
    let g = many_leaves stands_name (read_pair one) (length given.1) given.1 more (λ us y. pair_shorter one us y h) q in
    let i = left_is more.1 _ x last in
    omega arith))

pub call_shorter : (one : List Token → Taken Expr) (ts : List Token) (x : Expr × List Token) → ((us : List Token) (y : Expr × List Token) → one us ≡ Some y → length y.1 < length us) → read_call one ts ≡ Some x → length x.1 < length ts
unfolding read_call
call_shorter one ts x h e = option_and_then_some _ _ x e (λ front p e1. option_and_then_some _ _ x e1 (λ name q e2. option_and_then_some _ _ x e2 (λ given r e3. option_and_then_some _ _ x e3 (λ back s last.
    let f = kind_shorter k.OpenParen ts front p in
    let g = name_shorter front.1 name q in
    let i = arguments_leave one name.1 given h r in
    let j = kind_shorter k.CloseParen given.1 back s in
    let l = left_is back.1 _ x last in
    omega arith))))

expr_case : (b : Bool) (one : List Token → Taken Expr) (ts : List Token) (x : Expr × List Token) → ((us : List Token) (y : Expr × List Token) → one us ≡ Some y → length y.1 < length us) → (if b then read_call one ts else read_token ts) ≡ Some x → length x.1 < length ts
expr_case true one ts x h e = call_shorter one ts x h e
expr_case false one ts x h e = token_shorter ts x e

-- an expression takes tokens
pub expr_shorter : (calls : ℕ) (ts : List Token) (x : Expr × List Token) → read_expr calls ts ≡ Some x → length x.1 < length ts
unfolding read_expr
expr_shorter zero ts x e = token_shorter ts x e
expr_shorter (suc calls) ts x e = expr_case (stands k.OpenParen ts) (read_expr calls) ts x (expr_shorter calls) e
