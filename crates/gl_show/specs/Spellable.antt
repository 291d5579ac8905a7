-- Which trees can be spelled: of which names, texts and numbers they are made, and how deep they nest.
use Rattle.std.specs.Prelude.{◌≡◌, ◌≤◌, ◌⊎◌, ℕ, zero, suc, ℤ, pos, negsuc, List, [], ◌∷◌, ◌++◌, Bool, true, false, ◌&&◌, ◌||◌, nat_le, codes, length}
use Rattle.std.specs.List.{list_all, flat_map}
use Rattle.std.specs.Str.{all_scalars}
use Rattle.gl_base.specs.Texts.{Text}
use Rattle.gl_value.specs.Value as v
use Rattle.gl_ast.specs.Canon.{ends_backslash, is_own_block}
use Rattle.gl_ast.specs.Grammar.{deepest_calls, is_some_expr, is_empty_text, is_void, are_new, slot_names}
use Rattle.gl_ast.specs.Marks.{is_capital, is_small, is_digit, starts_name, in_name, in_class, in_tag, starts_attribute, in_attribute}
use Rattle.gl_ast.specs.Scans.{begins}
use Rattle.gl_ast.specs.Template.{Plain, Expr, literal, this, argument, bare, call, cat, Exprs, no_exprs, expr, NamedExprs, no_named, named_expr, AttrValue, fixed, live, Part, attribute, modifier, spread, Stmt, text_stmt, comment_stmt, put, element, component_stmt, if_stmt, each, let_stmt, yield, Body, end, stmt, Slots, no_slots, block}
use Rattle.gl_ast.specs.TokenText.{is_free, is_block_name}
use Rattle.gl_ast.specs.Words.{greatest}

-- a character that passes the first test, and then others that pass the second
abbrev pub is_word : (ℕ → Bool) → (ℕ → Bool) → Text → Bool
is_word first more [] = false
is_word first more (c ∷ cs) = first c && list_all more cs

abbrev pub is_name : Text → Bool
is_name n = is_word starts_name in_name n

-- a segment of a path is a name or digits
abbrev pub is_segment : Text → Bool
is_segment s = is_name s || is_word is_digit is_digit s

-- a name that is not reserved
abbrev pub IsFreeName : Text → Type 0
IsFreeName n = (is_name n ≡ true) × (is_free n ≡ true)

abbrev pub AreFreeNames : List Text → Type 0
AreFreeNames [] = Unit {0}
AreFreeNames (n ∷ ns) = IsFreeName n × AreFreeNames ns

-- an integer within the bounds
abbrev pub is_within : ℤ → Bool
is_within (pos n) = nat_le n greatest
is_within (negsuc n) = nat_le (suc n) greatest

-- a text of characters
abbrev pub IsTextual : Text → Type 0
IsTextual s = all_scalars s ≡ true

-- No string ends with a `\`, which would take away the meaning of its closing quote.
abbrev pub IsString : Text → Type 0
IsString s = IsTextual s × (ends_backslash s ≡ false)

abbrev pub CanLiteral : Plain → Type 0
CanLiteral v.undefined = Unit {0}
CanLiteral v.null = Unit {0}
CanLiteral (v.boolean b) = Unit {0}
CanLiteral (v.integer z) = is_within z ≡ true
CanLiteral (v.text s) = IsString s
CanLiteral _ = ⊥

-- an expression, where so many calls may nest
abbrev mutual
  pub CanExpr : ℕ → Expr → Type 0
  CanExpr calls (literal x) = CanLiteral x
  CanExpr calls (this n ns) = list_all is_segment (n ∷ ns) ≡ true
  CanExpr calls (argument n ns) = (is_name n ≡ true) × (list_all is_segment ns ≡ true)
  CanExpr calls (bare n ns) = IsFreeName n × (list_all is_segment ns ≡ true)
  CanExpr zero (call n es ns) = ⊥
  CanExpr (suc calls) (call n es ns) = IsFreeName n × CanExprs calls es × CanNamed calls ns
  CanExpr calls (cat es) = ⊥

  pub CanExprs : ℕ → Exprs → Type 0
  CanExprs calls no_exprs = Unit {0}
  CanExprs calls (expr e es) = CanExpr calls e × CanExprs calls es

  pub CanNamed : ℕ → NamedExprs → Type 0
  CanNamed calls no_named = Unit {0}
  CanNamed calls (named_expr n e ns) = IsFreeName n × CanExpr calls e × CanNamed calls ns

-- a name with arguments
abbrev pub CanCall : Text → Exprs → NamedExprs → Type 0
CanCall n es ns = IsFreeName n × CanExprs deepest_calls es × CanNamed deepest_calls ns

-- what stands in a mustache
abbrev pub CanInner : Expr → Type 0
CanInner (call n es ns) = CanCall n es ns
CanInner e = CanExpr deepest_calls e

-- A string among the parts of a quoted value may be a text, and may then end with a `\`.
abbrev pub CanQuotedPart : Expr → Type 0
CanQuotedPart (literal (v.text s)) = IsTextual s
CanQuotedPart e = CanInner e

abbrev pub needs_text : Expr → Bool
needs_text (literal (v.text s)) = ends_backslash s
needs_text _ = false

-- Two strings that can only be texts do not stand side by side, where `before` says that one stands directly before.
abbrev pub CanQuoted : Bool → Exprs → Type 0
CanQuoted before no_exprs = Unit {0}
CanQuoted before (expr e es) = CanQuotedPart e × ((before && needs_text e) ≡ false) × CanQuoted (needs_text e) es

-- A part that is alone is a mustache.
abbrev pub CanCat : Exprs → Type 0
CanCat no_exprs = ⊥
CanCat (expr e no_exprs) = CanQuotedPart e × (needs_text e ≡ false)
CanCat es = CanQuoted false es

abbrev pub CanValue : AttrValue → Type 0
CanValue (fixed s) = IsTextual s
CanValue (live (cat es)) = CanCat es
CanValue (live e) = CanInner e

abbrev pub CanPart : Part → Type 0
CanPart (attribute n x) = (is_word starts_attribute in_attribute n ≡ true) × CanValue x
CanPart (modifier n es ns) = CanCall n es ns
CanPart spread = Unit {0}

abbrev pub CanParts : List Part → Type 0
CanParts [] = Unit {0}
CanParts (p ∷ ps) = CanPart p × CanParts ps

abbrev pub CanArguments : List (Text × AttrValue) → Type 0
CanArguments [] = Unit {0}
CanArguments (a ∷ given) = (is_name a.0 ≡ true) × CanValue a.1 × CanArguments given

-- a class name: a capital and then letters and digits, and further such parts after `::`
abbrev pub is_class_part : Text → Bool
is_class_part p = is_word is_capital in_class p

abbrev pub IsClassName : Text → Type 0
IsClassName c = (p : Text) × (ps : List Text) × (is_class_part p ≡ true) × (list_all is_class_part ps ≡ true) × (c ≡ p ++ flat_map (λ q. 58 ∷ 58 ∷ q) ps)

-- `-->` stands in the text
abbrev pub ends_comment : Text → Bool
ends_comment [] = false
ends_comment (c ∷ cs) = begins (codes "-->") (c ∷ cs) || ends_comment cs

-- statements, where elements and blocks may nest so deep
abbrev mutual
  pub CanBody : ℕ → Body → Type 0
  CanBody depth end = Unit {0}
  CanBody depth (stmt s b) = CanStmt depth s × CanBody depth b

  pub CanStmt : ℕ → Stmt → Type 0
  CanStmt depth (text_stmt s) = IsTextual s × (is_empty_text s ≡ false)
  CanStmt depth (comment_stmt s) = IsTextual s × (ends_comment s ≡ false)
  CanStmt depth (put e) = CanInner e
  CanStmt depth (yield es to) = (is_block_name to ≡ true) × CanExprs deepest_calls es
  CanStmt zero _ = ⊥
  CanStmt (suc depth) (element tag ps b) = (is_word is_small in_tag tag ≡ true) × CanParts ps × (is_void tag ≡ true → b ≡ end) × CanBody depth b
  CanStmt (suc depth) (component_stmt c ps given ss) = IsClassName c × CanParts ps × CanArguments given × CanSlots depth ss
  CanStmt (suc depth) (if_stmt e unless b c) = CanExpr deepest_calls e × CanBody depth b × CanBody depth c
  CanStmt (suc depth) (each e key ns b c) = CanExpr deepest_calls e × IsString key × AreFreeNames ns × (length ns ≤ 2) × CanBody depth b × CanBody depth c
  CanStmt (suc depth) (let_stmt es ns b) = (is_some_expr es ≡ true) × CanExprs deepest_calls es × AreFreeNames ns × CanBody depth b

  -- A component has no block, one that is named `default` and stands for itself, or several of different names, which are
  -- nested in it.
  pub CanSlots : ℕ → Slots → Type 0
  CanSlots depth no_slots = Unit {0}
  CanSlots zero (block name ns b ss) = (is_own_block name ss ≡ true) × AreFreeNames ns × CanBody zero b
  CanSlots (suc depth) (block name ns b ss) =
      ((is_own_block name ss ≡ true) × AreFreeNames ns × CanBody (suc depth) b)
      ⊎ ((are_new [] (name ∷ slot_names ss) ≡ true) × (is_block_name name ≡ true) × AreFreeNames ns × CanBody depth b × CanBlocks depth ss)

  pub CanBlocks : ℕ → Slots → Type 0
  CanBlocks depth no_slots = Unit {0}
  CanBlocks depth (block name ns b ss) = (is_block_name name ≡ true) × AreFreeNames ns × CanBody depth b × CanBlocks depth ss
