-- Bytes spell just the tree that is read from them.
use Rattle.std.proofs.Common.{◌≡◌, ℕ, List, [], ◌∷◌, true, Option, Some, refl, sym, ap, ◌∙◌}
use Rattle.std.specs.Str.{is_utf8}
use Rattle.gl_ast.specs.Grammar.{Spells, SpellsExpr, deepest_nesting, deepest_calls, AreStmts}
use Rattle.gl_ast.specs.Settling.{settled}
use Rattle.gl_ast.specs.Template.{Expr, Body}
use Rattle.gl_ast.specs.TokenReading.{template_tokens, lone_tokens}
use Rattle.gl_ast.specs.declared.mode.Mode.TheVariants as m
use Rattle.gl_ast.specs.declared.token.Token.{Token}
use Rattle.gl_ast.proofs.Readings.{reading_read, read_reading}
use Rattle.gl_exprs.specs.ReadExpr.{read_expr}
use Rattle.gl_parse.specs.ReadStmt.{read_stmt, read_body, nothing_left, whole, read_template, read_lone, text_tree, template_of, expression_of}
use Rattle.gl_exprs.proofs.FirstTokens.{test_some}
use Rattle.gl_parse.proofs.Lower.{read_expr_is, reads_expr}
use Rattle.gl_parse.proofs.StmtLaws.{read_stmt_is, reads_stmt, bodies_sound, reads_body}
use Rattle.gl_exprs.proofs.Takings.{first_gave, some_is}

-- nothing was left
none_left : (ts : List Token) → nothing_left ts ≡ true → ts ≡ []
none_left [] e = refl
none_left (t ∷ ts) e = let r : ⊥ = cc in absurd r

pub whole_is : {A : Type 0} (o : Option (A × List Token)) (x : A) → whole o ≡ Some x → o ≡ Some (x, [])
unfolding whole
whole_is o x e =
    let p = first_gave o _ x e in
    let s = test_some (nothing_left p.0.1) _ x p.2 in
    let a = some_is _ _ s.1 in
    let b = none_left p.0.1 s.0 in
    p.1 ∙ ap (λ y. Some (y, p.0.1)) a ∙ ap (λ l. Some (x, l)) b

pub is_whole : {A : Type 0} (o : Option (A × List Token)) (x : A) → o ≡ Some (x, []) → whole o ≡ Some x
unfolding whole
is_whole o x e = rw e refl

read_template_is : (list : List Token) (b : Body) → read_template list ≡ Some b → AreStmts deepest_nesting list b []
unfolding read_template
read_template_is list b e =
    bodies_sound deepest_nesting (read_stmt deepest_nesting) (read_stmt_is deepest_nesting) list (b, []) (whole_is (read_body (read_stmt deepest_nesting) list) b e)

reads_template : (list : List Token) (b : Body) → AreStmts deepest_nesting list b [] → read_template list ≡ Some b
unfolding read_template
reads_template list b h =
    is_whole (read_body (read_stmt deepest_nesting) list) b (reads_body deepest_nesting (read_stmt deepest_nesting) (reads_stmt deepest_nesting) list b [] refl h)

pub read_spells : (bytes : List ℕ) (b : Body) → template_of bytes ≡ Some b → Spells bytes b
unfolding template_of text_tree template_tokens
read_spells bytes b e =
    let s = test_some (is_utf8 bytes) _ b e in
    let list = first_gave (template_tokens bytes) _ b s.1 in
    (list.0, s.0, read_reading m.Content 0 bytes list.0 list.1, read_template_is (settled bytes list.0) b list.2)

pub spells_read : (bytes : List ℕ) (b : Body) → Spells bytes b → template_of bytes ≡ Some b
unfolding template_of text_tree template_tokens
spells_read bytes b (list, utf8, tokens, are) =
    rw (utf8, reading_read m.Content 0 bytes list tokens) (reads_template (settled bytes list) b are)

pub read_spells_expr : (bytes : List ℕ) (e : Expr) → is_utf8 bytes ≡ true → expression_of bytes ≡ Some e → SpellsExpr bytes e
unfolding expression_of lone_tokens read_lone
read_spells_expr bytes e utf8 h =
    let list = first_gave (lone_tokens bytes) _ e h in
    (list.0, utf8, read_reading m.Expression 0 bytes list.0 list.1, read_expr_is deepest_calls list.0 e [] (whole_is (read_expr deepest_calls list.0) e list.2))

pub spells_read_expr : (bytes : List ℕ) (e : Expr) → SpellsExpr bytes e → expression_of bytes ≡ Some e
unfolding expression_of lone_tokens read_lone
spells_read_expr bytes e (list, utf8, tokens, is) =
    rw (reading_read m.Expression 0 bytes list tokens) (is_whole (read_expr deepest_calls list) e (reads_expr deepest_calls list e [] is))

-- so no bytes spell two
pub spells_one : (bytes : List ℕ) (b c : Body) → Spells bytes b → Spells bytes c → b ≡ c
spells_one bytes b c p q = some_is b c (sym (spells_read bytes b p) ∙ spells_read bytes c q)

pub spells_one_expr : (bytes : List ℕ) (d e : Expr) → SpellsExpr bytes d → SpellsExpr bytes e → d ≡ e
spells_one_expr bytes d e p q = some_is d e (sym (spells_read_expr bytes d p) ∙ spells_read_expr bytes e q)
