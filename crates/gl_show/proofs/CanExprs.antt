-- What tokens with texts of their kinds spell can be spelled: expressions, values and parts of tags.
use Rattle.std.proofs.Common.{◌≡◌, inl, inr, ℕ, zero, suc, List, [], ◌∷◌, Bool, true, false, refl, sym, ap, subst, ◌∙◌}
use Rattle.std.specs.Prelude.{◌&&◌, ◌==◌, cond, codes, map, nat_le, ℤ, Some}
use Rattle.std.specs.List.{list_all}
use Rattle.std.specs.Str.{NonePass}
use Rattle.gl_base.specs.Texts.{Text}
use Rattle.gl_value.specs.Value as v
use Rattle.gl_ast.specs.Grammar.{deepest_calls, Mark, Stands, IsName, IsLiteral, IsExpr, AreExprs, AreNamed, IsCall, IsInner, IsMustache, IsQuotedText, AreQuoted, IsPlainValue, IsValue, IsGiven, IsPart, Item, part_item, argument_item, IsItem, after_comments, AreItems, parts_among, arguments_among, AreParameters}
use Rattle.gl_ast.specs.Settling.{is_text, is_comment}
use Rattle.gl_ast.specs.Template.{Plain, Expr, literal, this, argument, bare, call, cat, Exprs, no_exprs, expr, NamedExprs, no_named, named_expr, AttrValue, fixed, live, Part, attribute, modifier, spread}
use Rattle.gl_ast.specs.TokenText.{names_of, is_free, integer_of, magnitude_of, whole_of, string_of, decoded, parameters_of}
use Rattle.gl_ast.specs.Words.{greatest}
use Rattle.gl_ast.specs.declared.token.Token.{Token}
use Rattle.gl_ast.specs.declared.token.TokenKind.{TokenKind}
use Rattle.gl_ast.specs.declared.token.TokenKind.TheVariants as k
use Rattle.gl_ast.proofs.Forward.{if_some}
use Rattle.gl_show.specs.Spellable.{is_name, is_segment, is_within, IsTextual, IsString, IsFreeName, AreFreeNames, CanLiteral, CanExpr, CanExprs, CanNamed, CanCall, CanInner, CanQuotedPart, needs_text, CanQuoted, CanCat, CanValue, CanPart, CanParts, CanArguments}
use Rattle.gl_show.proofs.LexedExpr.{path_names, name_no_dots}
use Rattle.gl_show.proofs.ProperTokens.{AreProper, begins_text}
use Rattle.gl_show.proofs.SettledProper.{decoded_scalars}
use Rattle.gl_show.proofs.Shapes.{IsHead, IsPathText}
use Rattle.gl_show.proofs.TokenForms.{IsProper}

-- the first of proper tokens, and those after it
pub after_first : (t : Token) (ts us : List Token) → AreProper ts → ts ≡ t ∷ us → IsProper t.kind t.text × (is_text t.kind ≡ true → begins_text us ≡ false) × AreProper us
after_first t ts us p e = subst (λ (xs : List Token). AreProper xs) e p

pub mark_proper : (kind : TokenKind) (ts us : List Token) → AreProper ts → Mark kind ts us → AreProper us
mark_proper kind ts us p g = (after_first g.0 ts us p g.1).2

pub stands_proper : (kind : TokenKind) (Such : Text → Type 0) (ts us : List Token) → AreProper ts → Stands kind Such ts us → (x : Text) × IsProper kind x × Such x × AreProper us
stands_proper kind Such ts us p g = let h = after_first g.0 ts us p g.1 in (g.0.text, subst (λ (y : TokenKind). IsProper y g.0.text) g.2 h.0, g.3, h.2)

-- names of paths
head_no_dots : (h : List ℕ) → IsHead h → NonePass (λ d. d == 46) h
head_no_dots h (inl w) = name_no_dots h w
head_no_dots h (inr m) = subst (λ (x : List ℕ). NonePass (λ d. d == 46) x) (sym m.1) (refl, name_no_dots m.0 m.2)

path_parts : (x n : Text) (ns : List Text) → IsPathText x → names_of x ≡ n ∷ ns → IsHead n × (list_all is_segment ns ≡ true)
path_parts x n ns p e =
    let same : p.0 ∷ p.1 ≡ n ∷ ns = sym (ap names_of p.2 ∙ path_names p.0 p.1 (head_no_dots p.0 p.3) p.4) ∙ e in
    let h : p.0 ≡ n = cc in
    let t : p.1 ≡ ns = cc in
    (subst (λ (y : Text). IsHead y) h p.3, subst (λ (y : List Text). list_all is_segment y ≡ true) t p.4)

free_head : (n : Text) → IsHead n → is_free n ≡ true → is_name n ≡ true
free_head n (inl w) f = w
free_head n (inr m) f = let g = subst (λ (y : Text). is_free y ≡ true) m.1 f in cc

at_head : (n : Text) → IsHead (64 ∷ n) → is_name n ≡ true
at_head n (inl w) = cc
at_head n (inr m) = let h : m.0 ≡ n = (let e = m.1 in cc) in subst (λ (y : Text). is_name y ≡ true) h m.2

pub name_can : (n : Text) (ts us : List Token) → AreProper ts → IsName ts n us → IsFreeName n × AreProper us
name_can n ts us p g =
    let s = stands_proper k.Path (λ x. (names_of x ≡ n ∷ []) × (is_free n ≡ true)) ts us p g in
    ((free_head n (path_parts s.0 n [] s.1 s.2.0).0 s.2.1, s.2.1), s.3)

-- literals
whole_is : (x : Text) (z : ℤ) → whole_of x ≡ Some z → integer_of x ≡ z
whole_is x z e = let h = (if_some (nat_le (magnitude_of x) greatest) (Some (integer_of x)) z e).1 in cc

pub literal_can : (x : Plain) (ts us : List Token) → AreProper ts → IsLiteral ts x us → CanLiteral x × AreProper us
literal_can v.undefined ts us p g = (tt, (stands_proper k.Path (λ y. y ≡ codes "undefined") ts us p g).3)
literal_can v.null ts us p g = (tt, (stands_proper k.Path (λ y. y ≡ codes "null") ts us p g).3)
literal_can (v.boolean true) ts us p g = (tt, (stands_proper k.Path (λ y. y ≡ codes "true") ts us p g).3)
literal_can (v.boolean false) ts us p g = (tt, (stands_proper k.Path (λ y. y ≡ codes "false") ts us p g).3)
literal_can (v.integer z) ts us p g = let s = stands_proper k.Number (λ y. whole_of y ≡ Some z) ts us p g in (ap is_within (sym (whole_is s.0 z s.2)) ∙ s.1, s.3)
literal_can (v.text x) ts us p g = let s = stands_proper k.StringLit (λ y. string_of y ≡ x) ts us p g in (subst (λ (y : Text). IsString y) s.2 s.1, s.3)
literal_can _ ts us p g = absurd g

mutual
  pub expr_can : (calls : ℕ) (e : Expr) (ts us : List Token) → AreProper ts → IsExpr calls ts e us → CanExpr calls e × AreProper us
  expr_can calls (literal x) ts us p g = literal_can x ts us p g
  expr_can calls (this n ns) ts us p g = let s = stands_proper k.Path (λ x. names_of x ≡ codes "this" ∷ n ∷ ns) ts us p g in ((path_parts s.0 (codes "this") (n ∷ ns) s.1 s.2).1, s.3)
  expr_can calls (argument n ns) ts us p g =
      let s = stands_proper k.Path (λ x. names_of x ≡ (64 ∷ n) ∷ ns) ts us p g in
      let h = path_parts s.0 (64 ∷ n) ns s.1 s.2 in
      ((at_head n h.0, h.1), s.3)
  expr_can calls (bare n ns) ts us p g =
      let s = stands_proper k.Path (λ x. (names_of x ≡ n ∷ ns) × (is_free n ≡ true)) ts us p g in
      let h = path_parts s.0 n ns s.1 s.2.0 in
      (((free_head n h.0 s.2.1, s.2.1), h.1), s.3)
  expr_can zero (call n es ns) ts us p g = absurd g
  expr_can (suc calls) (call n es ns) ts us p g =
      let a = mark_proper k.OpenParen ts g.0 p g.4 in
      let b = name_can n g.0 g.1 a g.5 in
      let c = exprs_can calls es g.1 g.2 b.1 g.6 in
      let d = named_can calls ns g.2 g.3 c.1 g.7 in
      ((b.0, c.0, d.0), mark_proper k.CloseParen g.3 us d.1 g.8)
  expr_can calls (cat es) ts us p g = absurd g

  pub exprs_can : (calls : ℕ) (es : Exprs) (ts us : List Token) → AreProper ts → AreExprs calls ts es us → CanExprs calls es × AreProper us
  exprs_can calls no_exprs ts us p g = (tt, subst (λ (xs : List Token). AreProper xs) g p)
  exprs_can calls (expr e es) ts us p g =
      let a = expr_can calls e ts g.0 p g.1 in
      let b = exprs_can calls es g.0 us a.1 g.2 in
      ((a.0, b.0), b.1)

  pub named_can : (calls : ℕ) (ns : NamedExprs) (ts us : List Token) → AreProper ts → AreNamed calls ts ns us → CanNamed calls ns × AreProper us
  named_can calls no_named ts us p g = (tt, subst (λ (xs : List Token). AreProper xs) g p)
  named_can calls (named_expr n e ns) ts us p g =
      let a = name_can n ts g.0 p g.3 in
      let b = mark_proper k.Equals g.0 g.1 a.1 g.4 in
      let c = expr_can calls e g.1 g.2 b g.5 in
      let d = named_can calls ns g.2 us c.1 g.6 in
      ((a.0, c.0, d.0), d.1)

-- where one more call may nest
mutual
  lift_expr : (calls : ℕ) (e : Expr) → CanExpr calls e → CanExpr (suc calls) e
  lift_expr calls (literal x) c = c
  lift_expr calls (this n ns) c = c
  lift_expr calls (argument n ns) c = c
  lift_expr calls (bare n ns) c = c
  lift_expr zero (call n es ns) c = absurd c
  lift_expr (suc calls) (call n es ns) c = (c.0, lift_exprs calls es c.1, lift_named calls ns c.2)
  lift_expr calls (cat es) c = absurd c

  lift_exprs : (calls : ℕ) (es : Exprs) → CanExprs calls es → CanExprs (suc calls) es
  lift_exprs calls no_exprs c = tt
  lift_exprs calls (expr e es) c = (lift_expr calls e c.0, lift_exprs calls es c.1)

  lift_named : (calls : ℕ) (ns : NamedExprs) → CanNamed calls ns → CanNamed (suc calls) ns
  lift_named calls no_named c = tt
  lift_named calls (named_expr n e ns) c = (c.0, lift_expr calls e c.1, lift_named calls ns c.2)

pub call_can : (n : Text) (es : Exprs) (ns : NamedExprs) (ts us : List Token) → AreProper ts → IsCall ts n es ns us → CanCall n es ns × AreProper us
call_can n es ns ts us p g =
    let a = name_can n ts g.0 p g.2 in
    let b = exprs_can deepest_calls es g.0 g.1 a.1 g.3 in
    let c = named_can deepest_calls ns g.1 us b.1 g.4 in
    ((a.0, b.0, c.0), c.1)

pub inner_can : (e : Expr) (ts us : List Token) → AreProper ts → IsInner ts e us → CanInner e × AreProper us
inner_can (literal x) ts us p g = expr_can deepest_calls (literal x) ts us p g
inner_can (this n ns) ts us p g = expr_can deepest_calls (this n ns) ts us p g
inner_can (argument n ns) ts us p g = expr_can deepest_calls (argument n ns) ts us p g
inner_can (bare n ns) ts us p g = expr_can deepest_calls (bare n ns) ts us p g
inner_can (call n es ns) ts us p (inl g) =
    let h = expr_can deepest_calls (call n es ns) ts us p g in
    ((h.0.0, lift_exprs 15 es h.0.1, lift_named 15 ns h.0.2), h.1)
inner_can (call n es ns) ts us p (inr g) = call_can n es ns ts us p g.0
inner_can (cat es) ts us p g = absurd g

pub mustache_can : (e : Expr) (ts us : List Token) → AreProper ts → IsMustache ts e us → CanInner e × AreProper us
mustache_can e ts us p g =
    let a = mark_proper k.OpenMustache ts g.0 p g.2 in
    let b = inner_can e g.0 g.1 a g.3 in
    (b.0, mark_proper k.CloseMustache g.1 us b.1 g.4)

-- quoted values
inner_quoted : (e : Expr) → CanInner e → CanQuotedPart e × (needs_text e ≡ false)
inner_quoted (literal (v.text s)) c = (c.0, c.1)
inner_quoted (literal v.undefined) c = (c, refl)
inner_quoted (literal v.null) c = (c, refl)
inner_quoted (literal (v.boolean b)) c = (c, refl)
inner_quoted (literal (v.integer z)) c = (c, refl)
inner_quoted (literal x) c = absurd c
inner_quoted (this n ns) c = (c, refl)
inner_quoted (argument n ns) c = (c, refl)
inner_quoted (bare n ns) c = (c, refl)
inner_quoted (call n es ns) c = (c, refl)
inner_quoted (cat es) c = absurd c

quoted_text : (e : Expr) (ts us : List Token) → IsQuotedText ts e us → (s : Text) × (e ≡ literal (v.text s)) × Stands k.Text (λ x. decoded x ≡ s) ts us
quoted_text (literal (v.text s)) ts us g = (s, refl, g)
quoted_text (literal v.undefined) ts us g = absurd g
quoted_text (literal v.null) ts us g = absurd g
quoted_text (literal (v.boolean b)) ts us g = absurd g
quoted_text (literal (v.integer z)) ts us g = absurd g
quoted_text (literal x) ts us g = absurd g
quoted_text (this n ns) ts us g = absurd g
quoted_text (argument n ns) ts us g = absurd g
quoted_text (bare n ns) ts us g = absurd g
quoted_text (call n es ns) ts us g = absurd g
quoted_text (cat es) ts us g = absurd g

-- a text among the tokens
text_can : (s : Text) (ts us : List Token) → AreProper ts → Stands k.Text (λ x. decoded x ≡ s) ts us → IsTextual s × (begins_text ts ≡ true) × (begins_text us ≡ false) × AreProper us
text_can s ts us p g =
    let t = stands_proper k.Text (λ x. decoded x ≡ s) ts us p g in
    let h = after_first g.0 ts us p g.1 in
    (subst (λ (x : Text). IsTextual x) t.2 (decoded_scalars t.0 t.1), ap begins_text g.1 ∙ ap is_text g.2, h.1 (ap is_text g.2), t.3)

not_before : (before : Bool) (ts : List Token) → (before ≡ true → begins_text ts ≡ false) → begins_text ts ≡ true → before ≡ false
not_before true ts f e = let h = f refl in cc
not_before false ts f e = refl

never : (b : Bool) → (b && false) ≡ false
never true = refl
never false = refl

pub quoted_can : (wanting before : Bool) (es : Exprs) (ts us : List Token) → AreProper ts → (before ≡ true → begins_text ts ≡ false) → AreQuoted wanting ts es us → CanQuoted before es × AreProper us
quoted_can wanting before no_exprs ts us p f g = (tt, subst (λ (xs : List Token). AreProper xs) g.1 p)
quoted_can wanting before (expr e es) ts us p f g = elim g.1 [
  | inl h ↦
      let q = quoted_text e ts g.0 h.0 in
      let t = text_can q.0 ts g.0 p q.2 in
      let no = not_before before ts f t.1 in
      let more = quoted_can wanting (needs_text e) es g.0 us t.3 (λ b. t.2) h.1 in
      ((subst (λ (x : Expr). CanQuotedPart x) (sym q.1) t.0, ap (λ b. b && needs_text e) no, more.0), more.1)
  | inr h ↦
      let a = mustache_can e ts g.0 p h.0 in
      let i = inner_quoted e a.0 in
      let n = i.1 in
      let more = quoted_can false (needs_text e) es g.0 us a.1 (λ b. let z = sym n ∙ b in cc) h.1 in
      ((i.0, ap (λ b. before && b) n ∙ never before, more.0), more.1)
]

pub cat_can : (es : Exprs) (ts us : List Token) → AreProper ts → AreQuoted true ts es us → CanCat es × AreProper us
cat_can no_exprs ts us p g = let h = g.0 in cc
cat_can (expr e no_exprs) ts us p g = elim g.1 [
  | inl h ↦ let w = h.1.0 in cc
  | inr h ↦
      let a = mustache_can e ts g.0 p h.0 in
      (inner_quoted e a.0, subst (λ (xs : List Token). AreProper xs) h.1.1 a.1)
]
cat_can (expr e (expr f es)) ts us p g = quoted_can true false (expr e (expr f es)) ts us p (λ b. cc) g

plain_can : (s : Text) (ts us : List Token) → AreProper ts → IsPlainValue ts s us → IsTextual s × AreProper us
plain_can s ts us p (inl g) = (subst (λ (x : Text). IsTextual x) (sym g.1) refl, mark_proper k.CloseQuote ts us p g.0)
plain_can s ts us p (inr g) = let t = text_can s ts g.0 p g.1 in (t.0, mark_proper k.CloseQuote g.0 us t.3 g.2)

value_can : (x : AttrValue) (ts us : List Token) → AreProper ts → IsValue ts x us → CanValue x × AreProper us
value_can (fixed s) ts us p (inl g) = let t = stands_proper k.Unquoted (λ x. decoded x ≡ s) ts us p g in (subst (λ (x : Text). IsTextual x) t.2 (decoded_scalars t.0 t.1), t.3)
value_can (fixed s) ts us p (inr g) = plain_can s g.0 us (mark_proper k.OpenQuote ts g.0 p g.1) g.2
value_can (live (cat es)) ts us p g =
    let a = mark_proper k.OpenQuote ts g.0 p g.2 in
    let b = cat_can es g.0 g.1 a g.3 in
    (b.0, mark_proper k.CloseQuote g.1 us b.1 g.4)
value_can (live (literal x)) ts us p g = mustache_can (literal x) ts us p g
value_can (live (this n ns)) ts us p g = mustache_can (this n ns) ts us p g
value_can (live (argument n ns)) ts us p g = mustache_can (argument n ns) ts us p g
value_can (live (bare n ns)) ts us p g = mustache_can (bare n ns) ts us p g
value_can (live (call n es ns)) ts us p g = mustache_can (call n es ns) ts us p g

given_can : (x : AttrValue) (ts us : List Token) → AreProper ts → IsGiven ts x us → CanValue x × AreProper us
given_can x ts us p (inl g) = (subst (λ (y : AttrValue). CanValue y) (sym g.1) refl, subst (λ (xs : List Token). AreProper xs) g.0 p)
given_can x ts us p (inr g) = value_can x g.0 us (mark_proper k.Equals ts g.0 p g.1) g.2

part_can : (x : Part) (ts us : List Token) → AreProper ts → IsPart ts x us → CanPart x × AreProper us
part_can (attribute n x) ts us p g =
    let a = stands_proper k.Attribute (λ y. y ≡ n) ts g.0 p g.1 in
    let b = given_can x g.0 us a.3 g.2 in
    ((subst (λ (y : Text). IsProper k.Attribute y) a.2 a.1, b.0), b.1)
part_can (modifier n es ns) ts us p g =
    let a = mark_proper k.OpenMustache ts g.0 p g.2 in
    let b = call_can n es ns g.0 g.1 a g.3 in
    (b.0, mark_proper k.CloseMustache g.1 us b.1 g.4)
part_can spread ts us p g = (tt, mark_proper k.Spread ts us p g)

-- comments are passed over
pub comments_proper : (ts : List Token) → AreProper ts → AreProper (after_comments ts)
comments_proper [] p = tt
comments_proper (t ∷ ts) p = comment_case (is_comment t.kind) (comments_proper ts p.2)
  where
    comment_case : (x : Bool) → AreProper (after_comments ts) → AreProper (cond x (after_comments ts) (t ∷ ts))
    comment_case true more = more
    comment_case false more = p

abbrev pub CanItem : Item → Type 0
CanItem (part_item p) = CanPart p
CanItem (argument_item n x) = (is_name n ≡ true) × CanValue x

abbrev pub CanItems : List Item → Type 0
CanItems [] = Unit {0}
CanItems (i ∷ is) = CanItem i × CanItems is

item_can : (i : Item) (ts us : List Token) → AreProper ts → IsItem ts i us → CanItem i × AreProper us
item_can (part_item x) ts us p g = part_can x ts us p g
item_can (argument_item n x) ts us p g =
    let a = stands_proper k.Argument (λ y. y ≡ 64 ∷ n) ts g.0 p g.1 in
    let b = given_can x g.0 us a.3 g.2 in
    let same : a.1.0 ≡ n = (let e = a.1.1 in let f = a.2 in cc) in
    ((subst (λ (y : Text). is_name y ≡ true) same a.1.2, b.0), b.1)

pub items_can : (is : List Item) (ts us : List Token) → AreProper ts → AreItems ts is us → CanItems is × AreProper us
items_can [] ts us p g = (tt, subst (λ (xs : List Token). AreProper xs) g (comments_proper ts p))
items_can (i ∷ is) ts us p g =
    let a = item_can i (after_comments ts) g.0 (comments_proper ts p) g.1 in
    let b = items_can is g.0 us a.1 g.2 in
    ((a.0, b.0), b.1)

pub items_parts_can : (is : List Item) → CanItems is → CanParts (parts_among is) × CanArguments (arguments_among is)
items_parts_can [] c = (tt, tt)
items_parts_can (part_item x ∷ is) c = let m = items_parts_can is c.1 in ((c.0, m.0), m.1)
items_parts_can (argument_item n x ∷ is) c = let m = items_parts_can is c.1 in (m.0, (c.0.0, c.0.1, m.1))

pub parts_can : (ps : List Part) → CanItems (map part_item ps) → CanParts ps
parts_can [] c = tt
parts_can (x ∷ ps) c = (c.0, parts_can ps c.1)

pub parameters_can : (ns : List Text) (ts us : List Token) → AreProper ts → AreParameters ts ns us → AreFreeNames ns × AreProper us
parameters_can ns ts us p (inl g) = (subst (λ (y : List Text). AreFreeNames y) (sym g.1) tt, subst (λ (xs : List Token). AreProper xs) g.0 p)
parameters_can ns ts us p (inr g) = let s = stands_proper k.Parameters (λ x. parameters_of x ≡ ns) ts us p g in (subst (λ (y : List Text). AreFreeNames y) s.2 s.1, s.3)
