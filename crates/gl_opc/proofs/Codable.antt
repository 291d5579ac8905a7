-- The trees of which a code can be made: their literals are of one word, and none of their bare names begins with `@`. Those
-- that some bytes spell are among them.
use Rattle.std.proofs.Common.{◌≡◌, ℕ, zero, suc, List, [], ◌∷◌, Bool, true, false, ◌==◌, inl, inr, arith}
use Rattle.std.proofs.Math.Bool.{Bool-set}
use Rattle.std.proofs.Math.Logic.{∥∥₁_elim}
use Rattle.std.proofs.lemmas.Bool.Decides.{nat_tests}
use Rattle.gl_base.specs.Texts.{Text}
use Rattle.gl_value.specs.Value as v
use Rattle.gl_ast.specs.Canon.{is_own_block}
use Rattle.gl_ast.specs.Grammar.{deepest_calls, deepest_nesting, IsTemplate, SpellsExpr}
use Rattle.gl_ast.specs.Marks.{starts_name}
use Rattle.gl_ast.specs.Template.{Plain, Expr, literal, this, argument, bare, call, cat, Exprs, no_exprs, expr, NamedExprs, no_named, named_expr, AttrValue, fixed, live, Part, attribute, modifier, spread, Stmt, text_stmt, comment_stmt, put, element, component_stmt, if_stmt, each, let_stmt, yield, Body, end, stmt, Slots, no_slots, block}
use Rattle.gl_ast.proofs.Forward.{both}
use Rattle.gl_show.specs.Spellable.{is_name, CanLiteral, CanExpr, CanExprs, CanNamed, CanInner, CanQuotedPart, needs_text, CanQuoted, CanCat, CanValue, CanPart, CanParts, CanArguments, CanStmt, CanBody, CanSlots, CanBlocks}
use Rattle.gl_show.proofs.CanStmts.{spelled_can, spelled_expr_can}

abbrev pub CodablePlain : Plain → Type 0
CodablePlain v.undefined = Unit {0}
CodablePlain v.null = Unit {0}
CodablePlain (v.boolean b) = Unit {0}
CodablePlain (v.integer z) = Unit {0}
CodablePlain (v.text s) = Unit {0}
CodablePlain _ = ⊥

-- the name begins with `@`
abbrev pub is_marked : Text → Bool
is_marked [] = false
is_marked (c ∷ cs) = c == 64

abbrev mutual
  pub CodableExpr : Expr → Type 0
  CodableExpr (literal x) = CodablePlain x
  CodableExpr (this n ns) = Unit {0}
  CodableExpr (argument n ns) = Unit {0}
  CodableExpr (bare n ns) = is_marked n ≡ false
  CodableExpr (call n es ns) = CodableExprs es × CodableNamed ns
  CodableExpr (cat es) = CodableExprs es

  pub CodableExprs : Exprs → Type 0
  CodableExprs no_exprs = Unit {0}
  CodableExprs (expr e es) = CodableExpr e × CodableExprs es

  pub CodableNamed : NamedExprs → Type 0
  CodableNamed no_named = Unit {0}
  CodableNamed (named_expr n e ns) = CodableExpr e × CodableNamed ns

abbrev pub CodableValue : AttrValue → Type 0
CodableValue (fixed s) = Unit {0}
CodableValue (live e) = CodableExpr e

abbrev pub CodablePart : Part → Type 0
CodablePart (attribute n x) = CodableValue x
CodablePart (modifier n es ns) = CodableExprs es × CodableNamed ns
CodablePart spread = Unit {0}

abbrev pub CodableParts : List Part → Type 0
CodableParts [] = Unit {0}
CodableParts (p ∷ ps) = CodablePart p × CodableParts ps

abbrev pub CodableArguments : List (Text × AttrValue) → Type 0
CodableArguments [] = Unit {0}
CodableArguments (g ∷ given) = CodableValue g.1 × CodableArguments given

abbrev mutual
  pub CodableStmt : Stmt → Type 0
  CodableStmt (text_stmt s) = Unit {0}
  CodableStmt (comment_stmt s) = Unit {0}
  CodableStmt (put e) = CodableExpr e
  CodableStmt (element tag ps b) = CodableParts ps × CodableBody b
  CodableStmt (component_stmt n ps given ss) = CodableParts ps × CodableArguments given × CodableSlots ss
  CodableStmt (if_stmt e unless b c) = CodableExpr e × CodableBody b × CodableBody c
  CodableStmt (each e key ns b c) = CodableExpr e × CodableBody b × CodableBody c
  CodableStmt (let_stmt es ns b) = CodableExprs es × CodableBody b
  CodableStmt (yield es to) = CodableExprs es

  pub CodableBody : Body → Type 0
  CodableBody end = Unit {0}
  CodableBody (stmt s b) = CodableStmt s × CodableBody b

  pub CodableSlots : Slots → Type 0
  CodableSlots no_slots = Unit {0}
  CodableSlots (block name ns b ss) = CodableBody b × CodableSlots ss

-- Each is a proposition

plain_prop : (x : Plain) → IsProp (CodablePlain x)
plain_prop v.undefined = hlevel
plain_prop v.null = hlevel
plain_prop (v.boolean b) = hlevel
plain_prop (v.integer z) = hlevel
plain_prop (v.text s) = hlevel
plain_prop _ = hlevel

mutual
  expr_prop : (e : Expr) → IsProp (CodableExpr e)
  expr_prop (literal x) = plain_prop x
  expr_prop (this n ns) = hlevel
  expr_prop (argument n ns) = hlevel
  expr_prop (bare n ns) = hlevel Bool-set
  expr_prop (call n es ns) = hlevel (exprs_prop es, named_prop ns)
  expr_prop (cat es) = exprs_prop es

  exprs_prop : (es : Exprs) → IsProp (CodableExprs es)
  exprs_prop no_exprs = hlevel
  exprs_prop (expr e es) = hlevel (expr_prop e, exprs_prop es)

  named_prop : (ns : NamedExprs) → IsProp (CodableNamed ns)
  named_prop no_named = hlevel
  named_prop (named_expr n e ns) = hlevel (expr_prop e, named_prop ns)

value_prop : (x : AttrValue) → IsProp (CodableValue x)
value_prop (fixed s) = hlevel
value_prop (live e) = expr_prop e

part_prop : (p : Part) → IsProp (CodablePart p)
part_prop (attribute n x) = value_prop x
part_prop (modifier n es ns) = hlevel (exprs_prop es, named_prop ns)
part_prop spread = hlevel

parts_prop : (ps : List Part) → IsProp (CodableParts ps)
parts_prop [] = hlevel
parts_prop (p ∷ ps) = hlevel (part_prop p, parts_prop ps)

arguments_prop : (given : List (Text × AttrValue)) → IsProp (CodableArguments given)
arguments_prop [] = hlevel
arguments_prop (g ∷ given) = hlevel (value_prop g.1, arguments_prop given)

mutual
  stmt_prop : (s : Stmt) → IsProp (CodableStmt s)
  stmt_prop (text_stmt s) = hlevel
  stmt_prop (comment_stmt s) = hlevel
  stmt_prop (put e) = expr_prop e
  stmt_prop (element tag ps b) = hlevel (parts_prop ps, body_prop b)
  stmt_prop (component_stmt n ps given ss) = hlevel (parts_prop ps, arguments_prop given, slots_prop ss)
  stmt_prop (if_stmt e unless b c) = hlevel (expr_prop e, body_prop b, body_prop c)
  stmt_prop (each e key ns b c) = hlevel (expr_prop e, body_prop b, body_prop c)
  stmt_prop (let_stmt es ns b) = hlevel (exprs_prop es, body_prop b)
  stmt_prop (yield es to) = exprs_prop es

  body_prop : (b : Body) → IsProp (CodableBody b)
  body_prop end = hlevel
  body_prop (stmt s b) = hlevel (stmt_prop s, body_prop b)

  slots_prop : (ss : Slots) → IsProp (CodableSlots ss)
  slots_prop no_slots = hlevel
  slots_prop (block name ns b ss) = hlevel (body_prop b, slots_prop ss)

-- What can be spelled is codable

plain_codable : (x : Plain) → CanLiteral x → CodablePlain x
plain_codable v.undefined h = tt
plain_codable v.null h = tt
plain_codable (v.boolean b) h = tt
plain_codable (v.integer z) h = tt
plain_codable (v.text s) h = tt
plain_codable _ h = absurd h

first_unmarked : (c : ℕ) → starts_name c ≡ true → (c == 64) ≡ false
first_unmarked c h = grind (arith, nat_tests)

name_unmarked : (n : Text) → is_name n ≡ true → is_marked n ≡ false
name_unmarked [] h = cc
name_unmarked (c ∷ cs) h = first_unmarked c (both (starts_name c) _ h).0

mutual
  expr_codable : (calls : ℕ) (e : Expr) → CanExpr calls e → CodableExpr e
  expr_codable calls (literal x) h = plain_codable x h
  expr_codable calls (this n ns) h = tt
  expr_codable calls (argument n ns) h = tt
  expr_codable calls (bare n ns) h = name_unmarked n h.0.0
  expr_codable zero (call n es ns) h = absurd h
  expr_codable (suc calls) (call n es ns) h = (exprs_codable calls es h.1, named_codable calls ns h.2)
  expr_codable calls (cat es) h = absurd h

  exprs_codable : (calls : ℕ) (es : Exprs) → CanExprs calls es → CodableExprs es
  exprs_codable calls no_exprs h = tt
  exprs_codable calls (expr e es) h = (expr_codable calls e h.0, exprs_codable calls es h.1)

  named_codable : (calls : ℕ) (ns : NamedExprs) → CanNamed calls ns → CodableNamed ns
  named_codable calls no_named h = tt
  named_codable calls (named_expr n e ns) h = (expr_codable calls e h.1, named_codable calls ns h.2)

inner_codable : (e : Expr) → CanInner e → CodableExpr e
inner_codable (literal x) h = plain_codable x h
inner_codable (this n ns) h = tt
inner_codable (argument n ns) h = tt
inner_codable (bare n ns) h = name_unmarked n h.0.0
inner_codable (call n es ns) h = (exprs_codable deepest_calls es h.1, named_codable deepest_calls ns h.2)
inner_codable (cat es) h = absurd h

quoted_part_codable : (e : Expr) → CanQuotedPart e → CodableExpr e
quoted_part_codable (literal (v.text s)) h = tt
quoted_part_codable e h = inner_codable e h

quoted_codable : (before : Bool) (es : Exprs) → CanQuoted before es → CodableExprs es
quoted_codable before no_exprs h = tt
quoted_codable before (expr e es) h = (quoted_part_codable e h.0, quoted_codable (needs_text e) es h.2)

cat_codable : (es : Exprs) → CanCat es → CodableExprs es
cat_codable no_exprs h = absurd h
cat_codable (expr e no_exprs) h = (quoted_part_codable e h.0, tt)
cat_codable (expr e (expr f es)) h = quoted_codable false (expr e (expr f es)) h

value_codable : (x : AttrValue) → CanValue x → CodableValue x
value_codable (fixed s) h = tt
value_codable (live (cat es)) h = cat_codable es h
value_codable (live e) h = inner_codable e h

part_codable : (p : Part) → CanPart p → CodablePart p
part_codable (attribute n x) h = value_codable x h.1
part_codable (modifier n es ns) h = (exprs_codable deepest_calls es h.1, named_codable deepest_calls ns h.2)
part_codable spread h = tt

parts_codable : (ps : List Part) → CanParts ps → CodableParts ps
parts_codable [] h = tt
parts_codable (p ∷ ps) h = (part_codable p h.0, parts_codable ps h.1)

arguments_codable : (given : List (Text × AttrValue)) → CanArguments given → CodableArguments given
arguments_codable [] h = tt
arguments_codable (g ∷ given) h = (value_codable g.1 h.1, arguments_codable given h.2)

-- behind a block that stands for itself there is none
own_codable : (name : Text) (ss : Slots) → is_own_block name ss ≡ true → CodableSlots ss
own_codable name no_slots h = tt
own_codable name (block other ms c ss) h = let r : ⊥ = cc in absurd r

mutual
  stmt_codable : (depth : ℕ) (s : Stmt) → CanStmt depth s → CodableStmt s
  stmt_codable depth (text_stmt s) h = tt
  stmt_codable depth (comment_stmt s) h = tt
  stmt_codable depth (put e) h = inner_codable e h
  stmt_codable depth (yield es to) h = exprs_codable deepest_calls es h.1
  stmt_codable zero (element tag ps b) h = absurd h
  stmt_codable zero (component_stmt n ps given ss) h = absurd h
  stmt_codable zero (if_stmt e unless b c) h = absurd h
  stmt_codable zero (each e key ns b c) h = absurd h
  stmt_codable zero (let_stmt es ns b) h = absurd h
  stmt_codable (suc depth) (element tag ps b) h = (parts_codable ps h.1, body_codable depth b h.3)
  stmt_codable (suc depth) (component_stmt n ps given ss) h = (parts_codable ps h.1, arguments_codable given h.2, slots_codable depth ss h.3)
  stmt_codable (suc depth) (if_stmt e unless b c) h = (expr_codable deepest_calls e h.0, body_codable depth b h.1, body_codable depth c h.2)
  stmt_codable (suc depth) (each e key ns b c) h = (expr_codable deepest_calls e h.0, body_codable depth b h.4, body_codable depth c h.5)
  stmt_codable (suc depth) (let_stmt es ns b) h = (exprs_codable deepest_calls es h.1, body_codable depth b h.3)

  body_codable : (depth : ℕ) (b : Body) → CanBody depth b → CodableBody b
  body_codable depth end h = tt
  body_codable depth (stmt s b) h = (stmt_codable depth s h.0, body_codable depth b h.1)

  slots_codable : (depth : ℕ) (ss : Slots) → CanSlots depth ss → CodableSlots ss
  slots_codable depth no_slots h = tt
  slots_codable zero (block name ns b ss) h = (body_codable zero b h.2, own_codable name ss h.0)
  slots_codable (suc depth) (block name ns b ss) (inl h) = (body_codable (suc depth) b h.2, own_codable name ss h.0)
  slots_codable (suc depth) (block name ns b ss) (inr h) = (body_codable depth b h.3, blocks_codable depth ss h.4)

  blocks_codable : (depth : ℕ) (ss : Slots) → CanBlocks depth ss → CodableSlots ss
  blocks_codable depth no_slots h = tt
  blocks_codable depth (block name ns b ss) h = (body_codable depth b h.2, blocks_codable depth ss h.3)

pub template_codable : (b : Body) → IsTemplate b → CodableBody b
template_codable b h = ∥∥₁_elim h (body_prop b) (λ s. body_codable deepest_nesting b (spelled_can s.0 b s.1))

pub expression_codable : (bytes : List ℕ) (e : Expr) → SpellsExpr bytes e → CodableExpr e
expression_codable bytes e h = expr_codable deepest_calls e (spelled_expr_can bytes e h)
