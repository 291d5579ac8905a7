-- The laws of what stands below statements, as statements use them.
use Rattle.std.proofs.Common.{◌≡◌, ◌<◌, ◌≤◌, ℕ, List, [], ◌∷◌, Bool, true, false, Some, length, map, refl, ap, ◌∙◌, arith}
use Rattle.gl_ast.specs.Grammar.{IsExpr, AreExprs, IsMustache, Item, part_item, AreItems, parts_among}
use Rattle.gl_ast.specs.Template.{Expr, Exprs, no_exprs, expr, exprs_of, Part}
use Rattle.gl_ast.specs.declared.token.Token.{Token}
use Rattle.gl_ast.specs.declared.token.TokenKind.TheVariants as k
use Rattle.gl_exprs.specs.ReadExpr.{read_expr, read_exprs, read_mustache, starts_expr}
use Rattle.gl_parse.specs.ReadItem.{read_items, starts_item}
use Rattle.gl_exprs.specs.Take.{stands}
use Rattle.gl_exprs.proofs.ExprLaws as e
use Rattle.gl_parse.proofs.ItemLaws as i
use Rattle.gl_exprs.proofs.Shorter.{expr_shorter}
use Rattle.gl_parse.proofs.ShorterValues.{mustache_shorter}

pub read_expr_is : (d : ℕ) (ts : List Token) (e : Expr) (us : List Token) → read_expr d ts ≡ Some (e, us) → IsExpr d ts e us
read_expr_is d ts x us h = e.read_expr_is d ts x us h

pub reads_expr : (d : ℕ) (ts : List Token) (e : Expr) (us : List Token) → IsExpr d ts e us → read_expr d ts ≡ Some (e, us)
reads_expr d ts x us h = e.reads_expr d ts x us h

pub expr_falls : (d : ℕ) (ts : List Token) (e : Expr) (us : List Token) → IsExpr d ts e us → length us < length ts
expr_falls d ts x us h = expr_shorter d ts (x, us) (reads_expr d ts x us h)

pub read_exprs_are : (d n : ℕ) (ts : List Token) (es : List Expr) (us : List Token) → read_exprs (read_expr d) n ts ≡ Some (es, us) → AreExprs d ts (exprs_of es) us
read_exprs_are d n ts es us h = e.read_exprs_are d n ts (es, us) h

list_of-exprs_of : (es : List Expr) → e.list_of (exprs_of es) ≡ es
list_of-exprs_of [] = refl
list_of-exprs_of (x ∷ es) = ap (λ ys. x ∷ ys) (list_of-exprs_of es)

pub reads_exprs : (d n : ℕ) (ts : List Token) (es : List Expr) (us : List Token) → length ts ≤ n → starts_expr us ≡ false → stands k.Equals us ≡ false → AreExprs d ts (exprs_of es) us → read_exprs (read_expr d) n ts ≡ Some (es, us)
reads_exprs d n ts es us h p q r = e.reads_exprs d n ts (exprs_of es) us r p q h ∙ ap (λ x. Some (x, us)) (list_of-exprs_of es)

pub exprs_fall : (d : ℕ) (ts : List Token) (es : Exprs) (us : List Token) → AreExprs d ts es us → length us ≤ length ts
exprs_fall d ts no_exprs us h = let same : length ts ≡ length us = ap length h in omega arith
exprs_fall d ts (expr x es) us h = let f = expr_falls d ts x h.0 h.1 in let g = exprs_fall d h.0 es us h.2 in omega arith

pub read_mustache_is : (ts : List Token) (e : Expr) (us : List Token) → read_mustache ts ≡ Some (e, us) → IsMustache ts e us
read_mustache_is ts x us h = e.read_mustache_is ts (x, us) h

pub reads_mustache : (ts : List Token) (e : Expr) (us : List Token) → IsMustache ts e us → read_mustache ts ≡ Some (e, us)
reads_mustache ts x us h = e.reads_mustache ts x us h

pub mustache_falls : (ts : List Token) (e : Expr) (us : List Token) → IsMustache ts e us → length us < length ts
mustache_falls ts x us h = mustache_shorter ts (x, us) (reads_mustache ts x us h)

pub read_items_are : (component : Bool) (n : ℕ) (ts : List Token) (is : List Item) (us : List Token) → read_items component n ts ≡ Some (is, us) → AreItems ts is us
read_items_are component n ts is us h = (i.read_items_are component n ts (is, us) h).0

pub items_are_parts : (n : ℕ) (ts : List Token) (is : List Item) (us : List Token) → read_items false n ts ≡ Some (is, us) → map part_item (parts_among is) ≡ is
items_are_parts n ts is us h = i.allowed_parts is (i.read_items_are false n ts (is, us) h).1

pub reads_items : (n : ℕ) (ts : List Token) (is : List Item) (us : List Token) → length ts ≤ n → starts_item true us ≡ false → stands k.Equals us ≡ false → AreItems ts is us → read_items true n ts ≡ Some (is, us)
reads_items n ts is us h p q are = i.reads_items true n ts is us are (i.all_allowed is) p q h

pub reads_parts : (n : ℕ) (ts : List Token) (ps : List Part) (us : List Token) → length ts ≤ n → starts_item false us ≡ false → stands k.Equals us ≡ false → AreItems ts (map part_item ps) us → read_items false n ts ≡ Some (map part_item ps, us)
reads_parts n ts ps us h p q are = i.reads_items false n ts (map part_item ps) us are (i.parts_allowed ps) p q h

pub items_fall : (ts : List Token) (is : List Item) (us : List Token) → AreItems ts is us → length us ≤ length ts
items_fall ts is us h = i.items_leave ts is us h
