-- Which tokens spell which tree. Each relation says that a tree is spelled by the tokens that stand in front of a list,
-- and what is left after them. A tree is spelled by one alternative of the grammar for each of its kinds.
use Rattle.std.specs.Prelude.{◌≡◌, ◌≤◌, ◌⊎◌, ℕ, zero, suc, List, [], ◌∷◌, ◌++◌, Bool, true, false, not, ◌||◌, ◌&&◌, codes, length, map, if◌then◌else◌, Some}
use Rattle.std.specs.List.{list_all}
use Rattle.std.specs.Str.{is_utf8}
use Rattle.gl_base.specs.Names.{has_text}
use Rattle.gl_base.specs.Texts.{Text}
use Rattle.gl_value.specs.Value as v
use Rattle.gl_ast.specs.Marks.{is_white, is_capital, is_small}
use Rattle.gl_ast.specs.Settling.{settled, is_text, is_comment}
use Rattle.gl_ast.specs.Template.{Plain, Expr, literal, this, argument, bare, call, cat, Exprs, no_exprs, expr, NamedExprs, no_named, named_expr, AttrValue, fixed, live, Part, attribute, modifier, spread, Stmt, text_stmt, comment_stmt, put, element, component_stmt, if_stmt, each, let_stmt, yield, Body, end, stmt, Slots, no_slots, block}
use Rattle.gl_ast.specs.Tokens.{IsTokens, IsLoneTokens}
use Rattle.gl_ast.specs.TokenText.{decoded, string_of, whole_of, names_of, is_free, is_block_name, comment_of, end_name_of, parameters_of, leads}
use Rattle.gl_ast.specs.Void.{void_names}
use Rattle.gl_ast.specs.declared.token.Token.{Token}
use Rattle.gl_ast.specs.declared.token.TokenKind.{TokenKind}
use Rattle.gl_ast.specs.declared.token.TokenKind.TheVariants as k

-- how deep elements and blocks may nest
abbrev pub deepest_nesting : ℕ
deepest_nesting = 100

-- how deep calls in parentheses may nest
abbrev pub deepest_calls : ℕ
deepest_calls = 16

-- one token of a kind, whose text is such
abbrev pub Stands : TokenKind → (Text → Type 0) → List Token → List Token → Type 0
Stands kind Such ts us = (t : Token) × (ts ≡ t ∷ us) × (t.kind ≡ kind) × Such t.text

-- one token of a kind
abbrev pub Mark : TokenKind → List Token → List Token → Type 0
Mark kind ts us = (t : Token) × (ts ≡ t ∷ us) × (t.kind ≡ kind)

-- a path that is this word
abbrev pub Word : Text → List Token → List Token → Type 0
Word w ts us = Stands k.Path (λ x. x ≡ w) ts us

-- a path of one name that is not reserved
abbrev pub IsName : List Token → Text → List Token → Type 0
IsName ts n us = Stands k.Path (λ x. (names_of x ≡ n ∷ []) × (is_free n ≡ true)) ts us

-- a word for a constant, a number or a string
abbrev pub IsLiteral : List Token → Plain → List Token → Type 0
IsLiteral ts v.undefined us = Word (codes "undefined") ts us
IsLiteral ts v.null us = Word (codes "null") ts us
IsLiteral ts (v.boolean true) us = Word (codes "true") ts us
IsLiteral ts (v.boolean false) us = Word (codes "false") ts us
IsLiteral ts (v.integer z) us = Stands k.Number (λ x. whole_of x ≡ Some z) ts us
IsLiteral ts (v.text s) us = Stands k.StringLit (λ x. string_of x ≡ s) ts us
IsLiteral ts _ us = ⊥

-- An expression is a literal, a path or a call in parentheses, where so many calls may nest. A path that begins with
-- `this` has a segment. A path that begins with another reserved name is the literal of that name.
abbrev mutual
  pub IsExpr : ℕ → List Token → Expr → List Token → Type 0
  IsExpr calls ts (literal v) us = IsLiteral ts v us
  IsExpr calls ts (this n ns) us = Stands k.Path (λ x. names_of x ≡ codes "this" ∷ n ∷ ns) ts us
  IsExpr calls ts (argument n ns) us = Stands k.Path (λ x. names_of x ≡ (64 ∷ n) ∷ ns) ts us
  IsExpr calls ts (bare n ns) us = Stands k.Path (λ x. (names_of x ≡ n ∷ ns) × (is_free n ≡ true)) ts us
  IsExpr zero ts (call n es ns) us = ⊥
  IsExpr (suc calls) ts (call n es ns) us =
      (vs ws xs ys : List Token) × Mark k.OpenParen ts vs × IsName vs n ws × AreExprs calls ws es xs × AreNamed calls xs ns ys × Mark k.CloseParen ys us
  IsExpr calls ts (cat es) us = ⊥

  -- one after another
  pub AreExprs : ℕ → List Token → Exprs → List Token → Type 0
  AreExprs calls ts no_exprs us = ts ≡ us
  AreExprs calls ts (expr e es) us = (vs : List Token) × IsExpr calls ts e vs × AreExprs calls vs es us

  -- each after its name and `=`
  pub AreNamed : ℕ → List Token → NamedExprs → List Token → Type 0
  AreNamed calls ts no_named us = ts ≡ us
  AreNamed calls ts (named_expr n e ns) us =
      (vs ws xs : List Token) × IsName ts n vs × Mark k.Equals vs ws × IsExpr calls ws e xs × AreNamed calls xs ns us

abbrev pub is_some_expr : Exprs → Bool
is_some_expr no_exprs = false
is_some_expr (expr e es) = true

-- a name with arguments, the positional ones first
abbrev pub IsCall : List Token → Text → Exprs → NamedExprs → List Token → Type 0
IsCall ts n es ns us = (vs ws : List Token) × IsName ts n vs × AreExprs deepest_calls vs es ws × AreNamed deepest_calls ws ns us

-- some argument is there
abbrev pub has_argument : Exprs → NamedExprs → Bool
has_argument no_exprs no_named = false
has_argument _ _ = true

-- What stands in a mustache: an expression, or a name with arguments. A lone name is bare.
abbrev pub IsInner : List Token → Expr → List Token → Type 0
IsInner ts (call n es ns) us = IsExpr deepest_calls ts (call n es ns) us ⊎ (IsCall ts n es ns us × (has_argument es ns ≡ true))
IsInner ts e us = IsExpr deepest_calls ts e us

-- `{{`, an expression, `}}`
abbrev pub IsMustache : List Token → Expr → List Token → Type 0
IsMustache ts e us = (vs ws : List Token) × Mark k.OpenMustache ts vs × IsInner vs e ws × Mark k.CloseMustache ws us

-- a text in a quoted value
abbrev pub IsQuotedText : List Token → Expr → List Token → Type 0
IsQuotedText ts (literal (v.text s)) us = Stands k.Text (λ x. decoded x ≡ s) ts us
IsQuotedText ts _ us = ⊥

-- the texts and mustaches of a quoted value; where `wanting` is true a mustache is among them
abbrev pub AreQuoted : Bool → List Token → Exprs → List Token → Type 0
AreQuoted wanting ts no_exprs us = (wanting ≡ false) × (ts ≡ us)
AreQuoted wanting ts (expr e es) us =
    (vs : List Token) × ((IsQuotedText ts e vs × AreQuoted wanting vs es us) ⊎ (IsMustache ts e vs × AreQuoted false vs es us))

-- the text of a quoted value without a mustache
abbrev pub IsPlainValue : List Token → Text → List Token → Type 0
IsPlainValue ts s us = (Mark k.CloseQuote ts us × (s ≡ [])) ⊎ ((vs : List Token) × Stands k.Text (λ x. decoded x ≡ s) ts vs × Mark k.CloseQuote vs us)

-- A value without mustaches is a text. One that is a mustache is its expression, and one with mustaches in quotes is
-- all its parts.
abbrev pub IsValue : List Token → AttrValue → List Token → Type 0
IsValue ts (fixed s) us = Stands k.Unquoted (λ x. decoded x ≡ s) ts us ⊎ ((vs : List Token) × Mark k.OpenQuote ts vs × IsPlainValue vs s us)
IsValue ts (live (cat es)) us = (vs ws : List Token) × Mark k.OpenQuote ts vs × AreQuoted true vs es ws × Mark k.CloseQuote ws us
IsValue ts (live e) us = IsMustache ts e us

-- `=` and a value; without them it is the empty text
abbrev pub IsGiven : List Token → AttrValue → List Token → Type 0
IsGiven ts v us = ((ts ≡ us) × (v ≡ fixed [])) ⊎ ((vs : List Token) × Mark k.Equals ts vs × IsValue vs v us)

-- an attribute, a modifier or `...attributes`
abbrev pub IsPart : List Token → Part → List Token → Type 0
IsPart ts (attribute n v) us = (vs : List Token) × Stands k.Attribute (λ x. x ≡ n) ts vs × IsGiven vs v us
IsPart ts (modifier n es ns) us = (vs ws : List Token) × Mark k.OpenMustache ts vs × IsCall vs n es ns ws × Mark k.CloseMustache ws us
IsPart ts spread us = Mark k.Spread ts us

-- what an opening tag has: parts, and on a component arguments
pub data Item : Type 0 where
  part_item : Part → Item
  argument_item : Text → AttrValue → Item

abbrev pub IsItem : List Token → Item → List Token → Type 0
IsItem ts (part_item p) us = IsPart ts p us
IsItem ts (argument_item n v) us = (vs : List Token) × Stands k.Argument (λ x. x ≡ 64 ∷ n) ts vs × IsGiven vs v us

-- mustache comments in a tag give nothing
abbrev pub after_comments : List Token → List Token
after_comments [] = []
after_comments (t ∷ ts) = if is_comment t.kind then after_comments ts else t ∷ ts

abbrev pub AreItems : List Token → List Item → List Token → Type 0
AreItems ts [] us = after_comments ts ≡ us
AreItems ts (i ∷ is) us = (vs : List Token) × IsItem (after_comments ts) i vs × AreItems vs is us

abbrev pub parts_among : List Item → List Part
parts_among [] = []
parts_among (part_item p ∷ is) = p ∷ parts_among is
parts_among (argument_item n v ∷ is) = parts_among is

abbrev pub arguments_among : List Item → List (Text × AttrValue)
arguments_among [] = []
arguments_among (part_item p ∷ is) = arguments_among is
arguments_among (argument_item n v ∷ is) = (n, v) ∷ arguments_among is

-- `as |..|`, or no parameters
abbrev pub AreParameters : List Token → List Text → List Token → Type 0
AreParameters ts ns us = ((ts ≡ us) × (ns ≡ [])) ⊎ Stands k.Parameters (λ x. parameters_of x ≡ ns) ts us

-- `<` and a name, whose first letter tells elements from components
abbrev pub IsOpening : (ℕ → Bool) → List Token → Text → List Token → Type 0
IsOpening first ts n us = Stands k.TagOpening (λ x. (x ≡ 60 ∷ n) × (leads first n ≡ true)) ts us

abbrev pub IsEndTag : List Token → Text → List Token → Type 0
IsEndTag ts n us = Stands k.EndTag (λ x. end_name_of x ≡ n) ts us

-- `<:` and the name of a block, and its end
abbrev pub IsSlotOpening : List Token → Text → List Token → Type 0
IsSlotOpening ts n us = Stands k.TagOpening (λ x. x ≡ 60 ∷ 58 ∷ n) ts us

abbrev pub IsSlotEnd : List Token → Text → List Token → Type 0
IsSlotEnd ts n us = IsEndTag ts (58 ∷ n) us

abbrev pub is_void : Text → Bool
is_void tag = has_text tag void_names

-- the key of an `each`, which is `@identity` where it is not written
abbrev pub IsKey : List Token → Text → List Token → Type 0
IsKey ts key us =
    ((ts ≡ us) × (key ≡ codes "@identity"))
    ⊎ ((vs ws : List Token) × Word (codes "key") ts vs × Mark k.Equals vs ws × Stands k.StringLit (λ x. string_of x ≡ key) ws us)

-- the block that a yield names, which is `default` where it is not written
abbrev pub IsTarget : List Token → Text → List Token → Type 0
IsTarget ts to us =
    ((ts ≡ us) × (to ≡ codes "default"))
    ⊎ ((vs ws : List Token) × Word (codes "to") ts vs × Mark k.Equals vs ws × Stands k.StringLit (λ x. (string_of x ≡ to) × (is_block_name to ≡ true)) ws us)

abbrev pub if_word : Bool → Text
if_word unless = if unless then codes "unless" else codes "if"

-- the end of a block
abbrev pub IsClosing : List Token → Text → List Token → Type 0
IsClosing ts word us = (vs ws : List Token) × Mark k.OpenClosing ts vs × Word word vs ws × Mark k.CloseMustache ws us

abbrev pub is_empty_text : Text → Bool
is_empty_text [] = true
is_empty_text (c ∷ cs) = false

-- Mustache comments, and texts of which white-space control left nothing, give no statement.
abbrev pub is_silent : Token → Bool
is_silent t = is_comment t.kind || (is_text t.kind && is_empty_text t.text)

abbrev pub after_silent : List Token → List Token
after_silent [] = []
after_silent (t ∷ ts) = if is_silent t then after_silent ts else t ∷ ts

-- Among blocks that are passed, mustache comments and texts of white space give nothing. A reference is no white space.
abbrev pub is_gap : Token → Bool
is_gap t = is_comment t.kind || (is_text t.kind && list_all is_white t.text)

abbrev pub after_gaps : List Token → List Token
after_gaps [] = []
after_gaps (t ∷ ts) = if is_gap t then after_gaps ts else t ∷ ts

-- tokens from one list to what is left of it, as a relation says it of a tree
abbrev pub Reach : Type 1
Reach = List Token → List Token → Type 0

-- The end of an element's opening tag, and what follows. A void element and one with `/>` have no body and no end tag.
abbrev pub IsElementRest : Reach → List Token → Text → Body → List Token → Type 0
IsElementRest Inner ts tag b us =
    (Mark k.SelfEnd ts us × (b ≡ end))
    ⊎ ((is_void tag ≡ true) × Mark k.TagEnd ts us × (b ≡ end))
    ⊎ ((is_void tag ≡ false) × ((vs ws : List Token) × Mark k.TagEnd ts vs × Inner vs ws × IsEndTag ws tag us))

-- a block that is passed, with its name, parameters and body
abbrev pub IsSlot : Reach → List Token → Text → List Text → List Token → Type 0
IsSlot Inner ts name ns us =
    (vs ws xs ys : List Token) × IsSlotOpening ts name vs × AreParameters vs ns ws × Mark k.TagEnd ws xs × Inner xs ys × IsSlotEnd ys name us

-- none of these names is taken or stands twice
abbrev pub are_new : List Text → List Text → Bool
are_new taken [] = true
are_new taken (n ∷ ns) = not (has_text n taken) && are_new (taken ++ n ∷ []) ns

abbrev pub slot_names : Slots → List Text
slot_names no_slots = []
slot_names (block name ns b ss) = name ∷ slot_names ss

abbrev pub is_some_slot : Slots → Bool
is_some_slot no_slots = false
is_some_slot (block name ns b ss) = true

-- The end of a component's opening tag, and what follows. One with `/>` has no block. Any other has statements, or blocks
-- with names, at least one, each of another name; then the component itself has no parameters.
abbrev pub IsComponentRest : Reach → Reach → List Token → Text → List Text → Slots → List Token → Type 0
IsComponentRest Own Named ts c ns ss us =
    (Mark k.SelfEnd ts us × (ss ≡ no_slots))
    ⊎ ((vs ws : List Token) × Mark k.TagEnd ts vs × (Own vs ws ⊎ ((ns ≡ []) × (is_some_slot ss ≡ true) × (are_new [] (slot_names ss) ≡ true) × Named vs ws)) × IsEndTag ws c us)

-- the blocks, from their word on up to what closes them
abbrev pub IsIf : Reach → Reach → List Token → Expr → Bool → List Token → Type 0
IsIf Inner Else ts e unless us =
    (vs ws xs ys : List Token) × Word (if_word unless) ts vs × IsExpr deepest_calls vs e ws × Mark k.CloseMustache ws xs × Inner xs ys × Else ys us

abbrev pub IsEach : Reach → Reach → List Token → Expr → Text → List Text → List Token → Type 0
IsEach Inner Else ts e key ns us =
    (length ns ≤ 2) × ((us1 us2 us3 us4 us5 us6 : List Token) × Word (codes "each") ts us1 × IsExpr deepest_calls us1 e us2 × IsKey us2 key us3
    × AreParameters us3 ns us4 × Mark k.CloseMustache us4 us5 × Inner us5 us6 × Else us6 us)

abbrev pub IsLet : Reach → List Token → Exprs → List Text → List Token → Type 0
IsLet Inner ts es ns us =
    (is_some_expr es ≡ true) × ((vs ws xs ys : List Token) × Word (codes "let") ts vs × AreExprs deepest_calls vs es ws × AreParameters ws ns xs
    × Mark k.CloseMustache xs ys × Inner ys us)

-- An empty else is none. One with a head is a block of that head, which ends where the outer one ends.
abbrev pub IsElse : Reach → Reach → List Token → Body → List Token → Type 0
IsElse Plain Chained ts c us =
    ((ts ≡ us) × (c ≡ end))
    ⊎ ((vs ws : List Token) × Mark k.OpenMustache ts vs × Word (codes "else") vs ws
    × (((xs : List Token) × Mark k.CloseMustache ws xs × Plain xs us) ⊎ Chained ws us))

-- Statements, where elements and blocks may nest so deep.
abbrev mutual
  pub AreStmts : ℕ → List Token → Body → List Token → Type 0
  AreStmts depth ts end us = after_silent ts ≡ us
  AreStmts depth ts (stmt s b) us = (vs : List Token) × IsStmt depth (after_silent ts) s vs × AreStmts depth vs b us

  pub IsStmt : ℕ → List Token → Stmt → List Token → Type 0
  IsStmt depth ts (text_stmt s) us = Stands k.Text (λ x. decoded x ≡ s) ts us
  IsStmt depth ts (comment_stmt s) us = Stands k.HtmlComment (λ x. comment_of x ≡ s) ts us
  IsStmt depth ts (put e) us = IsMustache ts e us
  IsStmt depth ts (yield es to) us =
      (vs ws xs ys : List Token) × Mark k.OpenMustache ts vs × Word (codes "yield") vs ws × AreExprs deepest_calls ws es xs × IsTarget xs to ys × Mark k.CloseMustache ys us
  IsStmt zero ts _ us = ⊥
  IsStmt (suc depth) ts (element tag ps b) us =
      (vs ws : List Token) × IsOpening is_small ts tag vs × AreItems vs (map part_item ps) ws × IsElementRest (λ xs ys. AreStmts depth xs b ys) ws tag b us
  IsStmt (suc depth) ts (component_stmt c ps given ss) us =
      (is : List Item) × (ns : List Text) × ((vs ws xs : List Token) × IsOpening is_capital ts c vs
      × AreItems vs is ws × (parts_among is ≡ ps) × (arguments_among is ≡ given) × AreParameters ws ns xs
      × IsComponentRest (λ ys zs. IsOwnBlock depth ns ys ss zs) (λ ys zs. AreSlots depth ys ss zs) xs c ns ss us)
  IsStmt (suc depth) ts (if_stmt e unless b c) us =
      (vs ws : List Token) × Mark k.OpenBlock ts vs × IsIf (λ xs ys. AreStmts depth xs b ys) (λ xs ys. IsElse (λ zs. AreStmts depth zs c) (λ zs. IsChained depth zs c) xs c ys) vs e unless ws
      × IsClosing ws (if_word unless) us
  IsStmt (suc depth) ts (each e key ns b c) us =
      (vs ws : List Token) × Mark k.OpenBlock ts vs × IsEach (λ xs ys. AreStmts depth xs b ys) (λ xs ys. IsElse (λ zs. AreStmts depth zs c) (λ zs. IsChained depth zs c) xs c ys) vs e key ns ws
      × IsClosing ws (codes "each") us
  IsStmt (suc depth) ts (let_stmt es ns b) us =
      (vs ws : List Token) × Mark k.OpenBlock ts vs × IsLet (λ xs ys. AreStmts depth xs b ys) vs es ns ws × IsClosing ws (codes "let") us

  -- the statements of a component, which are its block `default`
  pub IsOwnBlock : ℕ → List Text → List Token → Slots → List Token → Type 0
  IsOwnBlock depth ns ts (block name params b no_slots) us = (name ≡ codes "default") × (params ≡ ns) × AreStmts depth ts b us
  IsOwnBlock depth ns ts _ us = ⊥

  -- Blocks with names and the gaps round them. A block is nested in its component.
  pub AreSlots : ℕ → List Token → Slots → List Token → Type 0
  AreSlots depth ts no_slots us = after_gaps ts ≡ us
  AreSlots zero ts _ us = ⊥
  AreSlots (suc depth) ts (block name params b ss) us =
      (vs : List Token) × IsSlot (λ xs ys. AreStmts depth xs b ys) (after_gaps ts) name params vs × AreSlots (suc depth) vs ss us

  -- an else body that is one block, written as the head of the else
  pub IsChained : ℕ → List Token → Body → List Token → Type 0
  IsChained (suc depth) ts (stmt (if_stmt e unless b c) end) us =
      IsIf (λ xs ys. AreStmts depth xs b ys) (λ xs ys. IsElse (λ zs. AreStmts depth zs c) (λ zs. IsChained depth zs c) xs c ys) ts e unless us
  IsChained (suc depth) ts (stmt (each e key ns b c) end) us =
      IsEach (λ xs ys. AreStmts depth xs b ys) (λ xs ys. IsElse (λ zs. AreStmts depth zs c) (λ zs. IsChained depth zs c) xs c ys) ts e key ns us
  IsChained (suc depth) ts (stmt (let_stmt es ns b) end) us = IsLet (λ xs ys. AreStmts depth xs b ys) ts es ns us
  IsChained depth ts _ us = ⊥

-- The bytes spell the template: they are UTF-8, and their tokens, after white-space control, are those of its statements.
abbrev pub Spells : List ℕ → Body → Type 0
Spells bytes b = (list : List Token) × (is_utf8 bytes ≡ true) × IsTokens bytes list × AreStmts deepest_nesting (settled bytes list) b []

-- some bytes spell it
abbrev pub IsTemplate : Body → Type 0
IsTemplate b = ∥ ((bytes : List ℕ) × Spells bytes b) ∥₁

-- The bytes spell the expression, with white space round it or not.
abbrev pub SpellsExpr : List ℕ → Expr → Type 0
SpellsExpr bytes e = (list : List Token) × (is_utf8 bytes ≡ true) × IsLoneTokens bytes list × IsExpr deepest_calls list e []
