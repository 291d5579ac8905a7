-- Where some bytes spell a tree, some spell its normal tree.
use Rattle.std.proofs.Common.{◌≡◌, ℕ, zero, suc, List, [], ◌∷◌, Bool, true, false, inl, inr, refl, ap, ◌∙◌}
use Rattle.gl_base.specs.Names.{has_text}
use Rattle.gl_base.specs.Texts.{Text}
use Rattle.gl_value.specs.Value as v
use Rattle.gl_ast.specs.Canon.{is_own_block}
use Rattle.gl_ast.specs.Grammar.{are_new, slot_names}
use Rattle.gl_ast.specs.Template.{Expr, literal, this, argument, bare, call, cat, Exprs, no_exprs, expr, AttrValue, fixed, live, Part, attribute, modifier, spread, Stmt, text_stmt, comment_stmt, put, element, component_stmt, if_stmt, each, let_stmt, yield, Body, end, stmt, Slots, no_slots, block}
use Rattle.gl_show.specs.Spellable.{CanInner, CanQuotedPart, needs_text, CanQuoted, CanCat, CanValue, CanPart, CanParts, CanArguments, CanBody, CanStmt, CanSlots, CanBlocks}
use Rattle.gl_wire.specs.Symbols.{with_names}
use Rattle.gl_wirein.specs.ReadTag.{given, given_plain}
use Rattle.gl_wirein.specs.Normal.{normal_name, normal_expr, normal_exprs, normal_live, normal_part, normal_parts, normal_value, normal_arguments, normal_stmt, normal_body, normal_slots}

can_name : (b : Bool) (n : Text) → CanInner (bare n []) → CanInner (normal_name b n)
can_name true n h = h
can_name false n h = (h.0, tt, tt)

can_inner : (scope : List Text) (e : Expr) → CanInner e → CanInner (normal_expr scope e)
can_inner scope (literal x) h = h
can_inner scope (this n ns) h = h
can_inner scope (argument n ns) h = h
can_inner scope (bare n []) h = can_name (has_text n scope) n h
can_inner scope (bare n (m ∷ ns)) h = h
can_inner scope (call n es ns) h = h
can_inner scope (cat es) h = h

quoted_name : (b : Bool) (n : Text) → CanInner (bare n []) → CanQuotedPart (normal_name b n)
quoted_name true n h = h
quoted_name false n h = (h.0, tt, tt)

can_quoted_part : (scope : List Text) (e : Expr) → CanQuotedPart e → CanQuotedPart (normal_expr scope e)
can_quoted_part scope (literal x) h = h
can_quoted_part scope (this n ns) h = h
can_quoted_part scope (argument n ns) h = h
can_quoted_part scope (bare n []) h = quoted_name (has_text n scope) n h
can_quoted_part scope (bare n (m ∷ ns)) h = h
can_quoted_part scope (call n es ns) h = h
can_quoted_part scope (cat es) h = h

name_needs : (b : Bool) (n : Text) → needs_text (normal_name b n) ≡ false
name_needs true n = refl
name_needs false n = refl

same_needs : (scope : List Text) (e : Expr) → needs_text (normal_expr scope e) ≡ needs_text e
same_needs scope (literal x) = refl
same_needs scope (this n ns) = refl
same_needs scope (argument n ns) = refl
same_needs scope (bare n []) = name_needs (has_text n scope) n
same_needs scope (bare n (m ∷ ns)) = refl
same_needs scope (call n es ns) = refl
same_needs scope (cat es) = refl

can_quoted : (scope : List Text) (before : Bool) (es : Exprs) → CanQuoted before es → CanQuoted before (normal_exprs scope es)
can_quoted scope before no_exprs h = h
can_quoted scope before (expr e es) h = rw (same_needs scope e) (can_quoted_part scope e h.0, h.1, can_quoted scope (needs_text e) es h.2)

can_cat : (scope : List Text) (es : Exprs) → CanCat es → CanCat (normal_exprs scope es)
can_cat scope no_exprs h = h
can_cat scope (expr e no_exprs) h = (can_quoted_part scope e h.0, same_needs scope e ∙ h.1)
can_cat scope (expr e (expr f es)) h = can_quoted scope false (expr e (expr f es)) h

live_name : (b : Bool) (n : Text) → CanInner (bare n []) → CanValue (live (normal_name b n))
live_name true n h = h
live_name false n h = (h.0, tt, tt)

can_live : (scope : List Text) (e : Expr) → CanValue (live e) → CanValue (live (normal_live scope e))
can_live scope (literal x) h = h
can_live scope (this n ns) h = h
can_live scope (argument n ns) h = h
can_live scope (bare n []) h = live_name (has_text n scope) n h
can_live scope (bare n (m ∷ ns)) h = h
can_live scope (call n es ns) h = h
can_live scope (cat es) h = can_cat scope es h

can_plain : (x : v.Value ⊥) → CanValue (live (literal x)) → CanValue (given_plain x)
can_plain (v.text s) h = h.0
can_plain v.undefined h = h
can_plain v.null h = h
can_plain (v.boolean b) h = h
can_plain (v.integer z) h = h
can_plain _ h = absurd h

can_given : (e : Expr) → CanValue (live e) → CanValue (given e)
can_given (literal x) h = can_plain x h
can_given (this n ns) h = h
can_given (argument n ns) h = h
can_given (bare n ns) h = h
can_given (call n es ns) h = h
can_given (cat es) h = h

can_part : (scope : List Text) (p : Part) → CanPart p → CanPart (normal_part scope p)
can_part scope (attribute n (fixed s)) h = h
can_part scope (attribute n (live e)) h = (h.0, can_live scope e h.1)
can_part scope (modifier n es ns) h = h
can_part scope spread h = h

can_parts : (scope : List Text) (ps : List Part) → CanParts ps → CanParts (normal_parts scope ps)
can_parts scope [] h = h
can_parts scope (p ∷ ps) h = (can_part scope p h.0, can_parts scope ps h.1)

can_value : (scope : List Text) (x : AttrValue) → CanValue x → CanValue (normal_value scope x)
can_value scope (fixed s) h = h
can_value scope (live e) h = can_given (normal_live scope e) (can_live scope e h)

can_arguments : (scope : List Text) (args : List (Text × AttrValue)) → CanArguments args → CanArguments (normal_arguments scope args)
can_arguments scope [] h = h
can_arguments scope (a ∷ args) h = (h.0, can_value scope a.1 h.1, can_arguments scope args h.2)

-- blocks keep their names
own_kept : (scope : List Text) (name : Text) (ss : Slots) → is_own_block name (normal_slots scope ss) ≡ is_own_block name ss
own_kept scope name no_slots = refl
own_kept scope name (block other ns b ss) = refl

names_kept : (scope : List Text) (ss : Slots) → slot_names (normal_slots scope ss) ≡ slot_names ss
names_kept scope no_slots = refl
names_kept scope (block name ns b ss) = ap (λ l. name ∷ l) (names_kept scope ss)

mutual
  can_stmt : (depth : ℕ) (scope : List Text) (s : Stmt) → CanStmt depth s → CanStmt depth (normal_stmt scope s)
  can_stmt zero scope (text_stmt s) h = h
  can_stmt (suc depth) scope (text_stmt s) h = h
  can_stmt zero scope (comment_stmt s) h = h
  can_stmt (suc depth) scope (comment_stmt s) h = h
  can_stmt zero scope (put e) h = can_inner scope e h
  can_stmt (suc depth) scope (put e) h = can_inner scope e h
  can_stmt zero scope (yield es to) h = h
  can_stmt (suc depth) scope (yield es to) h = h
  can_stmt zero scope (element tag ps b) h = absurd h
  can_stmt zero scope (component_stmt c ps args ss) h = absurd h
  can_stmt zero scope (if_stmt e unless b c) h = absurd h
  can_stmt zero scope (each e key ns b c) h = absurd h
  can_stmt zero scope (let_stmt es ns b) h = absurd h
  can_stmt (suc depth) scope (element tag ps b) h = (h.0, can_parts scope ps h.1, (λ is. ap (λ c. normal_body scope c) (h.2 is)), can_body depth scope b h.3)
  can_stmt (suc depth) scope (component_stmt c ps args ss) h = (h.0, can_parts scope ps h.1, can_arguments scope args h.2, can_slots depth scope ss h.3)
  can_stmt (suc depth) scope (if_stmt e unless b c) h = (h.0, can_body depth scope b h.1, can_body depth scope c h.2)
  can_stmt (suc depth) scope (each e key ns b c) h = (h.0, h.1, h.2, h.3, can_body depth (with_names scope ns) b h.4, can_body depth scope c h.5)
  can_stmt (suc depth) scope (let_stmt es ns b) h = (h.0, h.1, h.2, can_body depth (with_names scope ns) b h.3)

  pub can_body : (depth : ℕ) (scope : List Text) (b : Body) → CanBody depth b → CanBody depth (normal_body scope b)
  can_body depth scope end h = h
  can_body depth scope (stmt s b) h = (can_stmt depth scope s h.0, can_body depth scope b h.1)

  can_slots : (depth : ℕ) (scope : List Text) (ss : Slots) → CanSlots depth ss → CanSlots depth (normal_slots scope ss)
  can_slots zero scope no_slots h = h
  can_slots (suc depth) scope no_slots h = h
  can_slots zero scope (block name ns b ss) h = (own_kept scope name ss ∙ h.0, h.1, can_body zero (with_names scope ns) b h.2)
  can_slots (suc depth) scope (block name ns b ss) (inl h) = inl (own_kept scope name ss ∙ h.0, h.1, can_body (suc depth) (with_names scope ns) b h.2)
  can_slots (suc depth) scope (block name ns b ss) (inr h) =
      inr (ap (λ l. are_new [] (name ∷ l)) (names_kept scope ss) ∙ h.0, h.1, h.2, can_body depth (with_names scope ns) b h.3, can_blocks depth scope ss h.4)

  can_blocks : (depth : ℕ) (scope : List Text) (ss : Slots) → CanBlocks depth ss → CanBlocks depth (normal_slots scope ss)
  can_blocks depth scope no_slots h = h
  can_blocks depth scope (block name ns b ss) h = (h.0, h.1, can_body depth (with_names scope ns) b h.2, can_blocks depth scope ss h.3)
