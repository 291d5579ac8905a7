-- What tokens with texts of their kinds spell can be spelled: statements and templates.
use Rattle.std.proofs.Common.{◌≡◌, inl, inr, ℕ, zero, suc, List, [], ◌∷◌, ◌++◌, Bool, true, false, cond, refl, sym, ap, subst, ◌∙◌, arith}
use Rattle.std.specs.Prelude.{◌&&◌, ◌||◌, codes, map}
use Rattle.std.specs.List.{list_all}
use Rattle.std.proofs.lemmas.Bool.Decides.{nat_tests}
use Rattle.std.proofs.lemmas.Str.{IsUtf8-from_is_utf8}
use Rattle.gl_base.specs.Texts.{Text, bytes_of}
use Rattle.gl_ast.specs.Canon.{canonical, expr_text, is_own_block}
use Rattle.gl_ast.specs.Grammar.{deepest_calls, deepest_nesting, IsOpening, IsSlotOpening, IsSlot, IsClosing, IsKey, IsTarget, IsOwnBlock, AreSlots, is_gap, after_gaps, part_item, AreItems, IsElementRest, IsComponentRest, IsIf, IsEach, IsLet, IsElse, IsChained, AreStmts, IsStmt, Reach, if_word, is_void, is_empty_text, is_silent, after_silent, Spells, SpellsExpr}
use Rattle.gl_ast.specs.Marks.{is_capital, is_small, in_class, in_tag}
use Rattle.gl_ast.specs.Settling.{is_text, is_comment, settled}
use Rattle.gl_ast.specs.Template.{Expr, Exprs, Stmt, text_stmt, comment_stmt, put, element, component_stmt, if_stmt, each, let_stmt, yield, Body, end, stmt, Slots, no_slots, block, Part, AttrValue}
use Rattle.gl_ast.specs.TokenText.{decoded, comment_of, end_name_of, string_of, is_block_name, leads}
use Rattle.gl_ast.specs.declared.mode.Mode.TheVariants as m
use Rattle.gl_ast.specs.declared.token.Token.{Token}
use Rattle.gl_ast.specs.declared.token.TokenKind.{TokenKind}
use Rattle.gl_ast.specs.declared.token.TokenKind.TheVariants as k
use Rattle.gl_ast.proofs.Forward.{both}
use Rattle.gl_show.specs.Spellable.{is_word, is_class_part, IsClassName, IsTextual, IsString, AreFreeNames, CanExpr, CanParts, CanArguments, CanBody, CanStmt, CanSlots, CanBlocks, ends_comment}
use Rattle.gl_show.proofs.CanExprs.{mark_proper, stands_proper, expr_can, exprs_can, mustache_can, items_can, items_parts_can, parts_can, parameters_can}
use Rattle.gl_show.proofs.ContentTokens.{class_rest}
use Rattle.gl_show.proofs.ProperTokens.{AreProper, reads_proper}
use Rattle.gl_show.proofs.SettledProper.{decoded_scalars, decoded_some, settled_proper}
use Rattle.gl_show.proofs.Shapes.{IsElementName, IsLabel}
use Rattle.gl_show.proofs.SpelledCanon.{spelled_canonical, spelled_expression}

-- what is passed over
pub silent_proper : (ts : List Token) → AreProper ts → AreProper (after_silent ts)
silent_proper [] p = tt
silent_proper (t ∷ ts) p = silent_case (is_silent t) (silent_proper ts p.2)
  where
    silent_case : (x : Bool) → AreProper (after_silent ts) → AreProper (cond x (after_silent ts) (t ∷ ts))
    silent_case true more = more
    silent_case false more = p

-- a token that is not passed over
not_silent : (ts : List Token) (t : Token) (us : List Token) → after_silent ts ≡ t ∷ us → is_silent t ≡ false
not_silent [] t us e = cc
not_silent (x ∷ ts) t us e = silent_case (is_silent x) refl (not_silent ts t us) e
  where
    silent_case : (y : Bool) → is_silent x ≡ y → (after_silent ts ≡ t ∷ us → is_silent t ≡ false) → cond y (after_silent ts) (x ∷ ts) ≡ t ∷ us → is_silent t ≡ false
    silent_case true h more e = more e
    silent_case false h more e = let same : x ≡ t = cc in subst (λ (z : Token). is_silent z ≡ false) same h

some_text : (t : Token) → is_silent t ≡ false → t.kind ≡ k.Text → is_empty_text t.text ≡ false
some_text t s h = text_case t.kind h s
  where
    text_case : (kind : TokenKind) → kind ≡ k.Text → (is_comment kind || (is_text kind && is_empty_text t.text)) ≡ false → is_empty_text t.text ≡ false
    text_case k.Text e g = g
    text_case _ e g = cc

-- names of elements and classes, by their first letters
capital_small : (b : ℕ) → is_capital b ≡ true → is_small b ≡ true → ⊥
capital_small b e f = let h : is_small b ≡ false = grind (arith, nat_tests) in cc

class_first : (c : Text) → IsClassName c → leads is_capital c ≡ true
class_first c is = ap (λ n. leads is_capital n) is.4 ∙ part_first is.0 (class_rest is.1) is.2
  where
    part_first : (n rest : Text) → is_class_part n ≡ true → leads is_capital (n ++ rest) ≡ true
    part_first [] rest w = cc
    part_first (c ∷ cs) rest w = (both (is_capital c) (list_all in_class cs) w).0

tag_first : (n : Text) → is_word is_small in_tag n ≡ true → leads is_small n ≡ true
tag_first [] w = cc
tag_first (c ∷ cs) w = (both (is_small c) (list_all in_tag cs) w).0

never_both : (n : Text) → leads is_capital n ≡ true → leads is_small n ≡ true → ⊥
never_both [] c s = cc
never_both (x ∷ xs) c s = capital_small x c s

small_name : (n : Text) → IsElementName n → leads is_small n ≡ true → is_word is_small in_tag n ≡ true
small_name n (inl w) l = w
small_name n (inr w) l = absurd (never_both n (class_first n w) l)

capital_name : (n : Text) → IsElementName n → leads is_capital n ≡ true → IsClassName n
capital_name n (inl w) l = absurd (never_both n l (tag_first n w))
capital_name n (inr w) l = w

label_element : (first : ℕ → Bool) (n : Text) → first 58 ≡ false → leads first n ≡ true → IsLabel n → IsElementName n
label_element first n other l (inl w) = w
label_element first n other l (inr w) = let e = w.1 in let r : first 58 ≡ true = sym (ap (λ x. leads first x) e) ∙ l in absurd (never (sym r ∙ other))
  where
    never : true ≡ false → ⊥
    never e = cc

opening_can : (first : ℕ → Bool) (n : Text) (ts us : List Token) → first 58 ≡ false → AreProper ts → IsOpening first ts n us → IsElementName n × (leads first n ≡ true) × AreProper us
opening_can first n ts us other p g =
    let s = stands_proper k.TagOpening (λ x. (x ≡ 60 ∷ n) × (leads first n ≡ true)) ts us p g in
    let same : s.1.0 ≡ n = (let e = s.1.1 in let f = s.2.0 in cc) in
    (label_element first n other s.2.1 (subst (λ (y : Text). IsLabel y) same s.1.2), s.2.1, s.3)

-- the name of a block that is passed
label_block : (n : Text) → IsLabel (58 ∷ n) → is_block_name n ≡ true
label_block n (inl (inl w)) = let l : is_small 58 ≡ true = tag_first (58 ∷ n) w in let r : ⊥ = cc in absurd r
label_block n (inl (inr w)) = let l : is_capital 58 ≡ true = class_first (58 ∷ n) w in let r : ⊥ = cc in absurd r
label_block n (inr w) = let same : n ≡ w.0 = (let e = w.1 in cc) in ap is_block_name same ∙ w.2

slot_opening_can : (n : Text) (ts us : List Token) → AreProper ts → IsSlotOpening ts n us → (is_block_name n ≡ true) × AreProper us
slot_opening_can n ts us p g =
    let s = stands_proper k.TagOpening (λ x. x ≡ 60 ∷ 58 ∷ n) ts us p g in
    let same : s.1.0 ≡ 58 ∷ n = (let e = s.1.1 in let f = s.2 in cc) in
    (label_block n (subst (λ (y : Text). IsLabel y) same s.1.2), s.3)

closing_proper : (word : Text) (ts us : List Token) → AreProper ts → IsClosing ts word us → AreProper us
closing_proper word ts us p g =
    let a = mark_proper k.OpenClosing ts g.0 p g.2 in
    let b = (stands_proper k.Path (λ x. x ≡ word) g.0 g.1 a g.3).3 in
    mark_proper k.CloseMustache g.1 us b g.4

identity : IsString (codes "@identity")
identity = (refl, refl)

key_can : (key : Text) (ts us : List Token) → AreProper ts → IsKey ts key us → IsString key × AreProper us
key_can key ts us p (inl g) = (subst (λ (x : Text). IsString x) (sym g.1) identity, subst (λ (xs : List Token). AreProper xs) g.0 p)
key_can key ts us p (inr g) =
    let a = (stands_proper k.Path (λ x. x ≡ codes "key") ts g.0 p g.2).3 in
    let b = mark_proper k.Equals g.0 g.1 a g.3 in
    let s = stands_proper k.StringLit (λ x. string_of x ≡ key) g.1 us b g.4 in
    (subst (λ (x : Text). IsString x) s.2 s.1, s.3)

target_can : (to : Text) (ts us : List Token) → AreProper ts → IsTarget ts to us → (is_block_name to ≡ true) × AreProper us
target_can to ts us p (inl g) = (ap is_block_name g.1, subst (λ (xs : List Token). AreProper xs) g.0 p)
target_can to ts us p (inr g) =
    let a = (stands_proper k.Path (λ x. x ≡ codes "to") ts g.0 p g.2).3 in
    let b = mark_proper k.Equals g.0 g.1 a g.3 in
    let s = stands_proper k.StringLit (λ x. (string_of x ≡ to) × (is_block_name to ≡ true)) g.1 us b g.4 in
    (s.2.1, s.3)

-- bodies, as the recursion gives them
abbrev pub BodyCan : ℕ → Body → Reach → Type 0
BodyCan depth b Rel = (ts us : List Token) → AreProper ts → Rel ts us → CanBody depth b × AreProper us

else_can : (depth : ℕ) (c : Body) (Plain Chained : Reach) → BodyCan depth c Plain → BodyCan depth c Chained → BodyCan depth c (λ ts us. IsElse Plain Chained ts c us)
else_can depth c Plain Chained plain chained ts us p g = elim g [
  | inl h ↦ (subst (λ (x : Body). CanBody depth x) (sym h.1) tt, subst (λ (xs : List Token). AreProper xs) h.0 p)
  | inr h ↦
      let a = mark_proper k.OpenMustache ts h.0 p h.2 in
      let b = (stands_proper k.Path (λ x. x ≡ codes "else") h.0 h.1 a h.3).3 in
      elim h.4 [
        | inl q ↦ plain q.0 us (mark_proper k.CloseMustache h.1 q.0 b q.1) q.2
        | inr q ↦ chained h.1 us b q
      ]
]

if_can : (depth : ℕ) (e : Expr) (unless : Bool) (b c : Body) (Inner Else : Reach) → BodyCan depth b Inner → BodyCan depth c Else → (ts us : List Token) → AreProper ts → IsIf Inner Else ts e unless us
    → (CanExpr deepest_calls e × CanBody depth b × CanBody depth c) × AreProper us
if_can depth e unless b c Inner Else body other ts us p g =
    let w = (stands_proper k.Path (λ x. x ≡ if_word unless) ts g.0 p g.4).3 in
    let v = expr_can deepest_calls e g.0 g.1 w g.5 in
    let z = mark_proper k.CloseMustache g.1 g.2 v.1 g.6 in
    let x = body g.2 g.3 z g.7 in
    let y = other g.3 us x.1 g.8 in
    ((v.0, x.0, y.0), y.1)

each_can : (depth : ℕ) (e : Expr) (key : Text) (ns : List Text) (b c : Body) (Inner Else : Reach) → BodyCan depth b Inner → BodyCan depth c Else → (ts us : List Token) → AreProper ts → IsEach Inner Else ts e key ns us
    → CanStmt (suc depth) (each e key ns b c) × AreProper us
each_can depth e key ns b c Inner Else body other ts us p g =
    let h = g.1 in
    let w = (stands_proper k.Path (λ x. x ≡ codes "each") ts h.0 p h.6).3 in
    let v = expr_can deepest_calls e h.0 h.1 w h.7 in
    let q = key_can key h.1 h.2 v.1 h.8 in
    let r = parameters_can ns h.2 h.3 q.1 h.9 in
    let z = mark_proper k.CloseMustache h.3 h.4 r.1 h.10 in
    let x = body h.4 h.5 z h.11 in
    let y = other h.5 us x.1 h.12 in
    ((v.0, q.0, r.0, g.0, x.0, y.0), y.1)

let_can : (depth : ℕ) (es : Exprs) (ns : List Text) (b : Body) (Inner : Reach) → BodyCan depth b Inner → (ts us : List Token) → AreProper ts → IsLet Inner ts es ns us → CanStmt (suc depth) (let_stmt es ns b) × AreProper us
let_can depth es ns b Inner body ts us p g =
    let h = g.1 in
    let w = (stands_proper k.Path (λ x. x ≡ codes "let") ts h.0 p h.4).3 in
    let v = exprs_can deepest_calls es h.0 h.1 w h.5 in
    let r = parameters_can ns h.1 h.2 v.1 h.6 in
    let z = mark_proper k.CloseMustache h.2 h.3 r.1 h.7 in
    let x = body h.3 us z h.8 in
    ((g.0, v.0, r.0, x.0), x.1)

element_can : (depth : ℕ) (tag : Text) (ps : List Part) (b : Body) (Inner : Reach) → BodyCan depth b Inner → (ts vs ws us : List Token) → AreProper ts → IsOpening is_small ts tag vs → AreItems vs (map part_item ps) ws → IsElementRest Inner ws tag b us
    → CanStmt (suc depth) (element tag ps b) × AreProper us
element_can depth tag ps b Inner body ts vs ws us p g h r =
    let o = opening_can is_small tag ts vs refl p g in
    let i = items_can (map part_item ps) vs ws o.2 h in
    let name = small_name tag o.0 o.1 in
    let parts = parts_can ps i.0 in
    elim r [
      | inl s ↦ ((name, parts, (λ v. s.1), subst (λ (x : Body). CanBody depth x) (sym s.1) tt), mark_proper k.SelfEnd ws us i.1 s.0)
      | inr s ↦ elim s [
        | inl q ↦ ((name, parts, (λ v. q.2), subst (λ (x : Body). CanBody depth x) (sym q.2) tt), mark_proper k.TagEnd ws us i.1 q.1)
        | inr q ↦
            let z = mark_proper k.TagEnd ws q.1.0 i.1 q.1.2 in
            let x = body q.1.0 q.1.1 z q.1.3 in
            let no : is_void tag ≡ true → b ≡ end = (λ v. let w = sym v ∙ q.0 in absurd (true_false w)) in
            ((name, parts, no, x.0), (stands_proper k.EndTag (λ y. end_name_of y ≡ tag) q.1.1 us x.1 q.1.4).3)
      ]
    ]
  where
    true_false : true ≡ false → ⊥
    true_false e = cc

-- what follows the items of a component's tag
abbrev RestOf : ℕ → List Token → Text → List Text → Slots → List Token → Type 0
RestOf depth ts c ns ss us = IsComponentRest (λ xs ys. IsOwnBlock depth ns xs ss ys) (λ xs ys. AreSlots depth xs ss ys) ts c ns ss us

-- among blocks that are passed
gaps_proper : (ts : List Token) → AreProper ts → AreProper (after_gaps ts)
gaps_proper [] p = tt
gaps_proper (t ∷ ts) p = gap_case (is_gap t) (gaps_proper ts p.2)
  where
    gap_case : (x : Bool) → AreProper (after_gaps ts) → AreProper (cond x (after_gaps ts) (t ∷ ts))
    gap_case true more = more
    gap_case false more = p

slot_can : (depth : ℕ) (name : Text) (ns : List Text) (b : Body) (Inner : Reach) → BodyCan depth b Inner → (ts us : List Token) → AreProper ts → IsSlot Inner ts name ns us
    → ((is_block_name name ≡ true) × AreFreeNames ns × CanBody depth b) × AreProper us
slot_can depth name ns b Inner body ts us p g =
    let o = slot_opening_can name ts g.0 p g.4 in
    let r = parameters_can ns g.0 g.1 o.1 g.5 in
    let z = mark_proper k.TagEnd g.1 g.2 r.1 g.6 in
    let x = body g.2 g.3 z g.7 in
    ((o.0, r.0, x.0), (stands_proper k.EndTag (λ y. end_name_of y ≡ 58 ∷ name) g.3 us x.1 g.8).3)

alone_can : (depth : ℕ) (name : Text) (ns : List Text) (b : Body) → is_own_block name no_slots ≡ true → AreFreeNames ns → CanBody depth b → CanSlots depth (block name ns b no_slots)
alone_can zero name ns b own free can = (own, free, can)
alone_can (suc depth) name ns b own free can = inl (own, free, can)

-- the block that is the statements of a component
own_is : (name : Text) → name ≡ codes "default" → is_own_block name no_slots ≡ true
own_is name e = ap (λ n. is_own_block n no_slots) e

component_can : (depth : ℕ) (c : Text) (ps : List Part) (given : List (Text × AttrValue)) (ss : Slots) (ts us : List Token) → AreProper ts
    → ((ns : List Text) (xs zs : List Token) → AreProper xs → AreFreeNames ns → RestOf depth xs c ns ss zs → CanSlots depth ss × AreProper zs)
    → IsStmt (suc depth) ts (component_stmt c ps given ss) us → CanStmt (suc depth) (component_stmt c ps given ss) × AreProper us
component_can depth c ps given ss ts us p slots g =
    let h = g.2 in
    let o = opening_can is_capital c ts h.0 refl p h.3 in
    let i = items_can g.0 h.0 h.1 o.2 h.4 in
    let both_can = items_parts_can g.0 i.0 in
    let r = parameters_can g.1 h.1 h.2 i.1 h.7 in
    let s = slots g.1 h.2 us r.1 r.0 h.8 in
    ((capital_name c o.0 o.1, subst (λ (x : List Part). CanParts x) h.5 both_can.0, subst (λ (x : List (Text × AttrValue)). CanArguments x) h.6 both_can.1, s.0), s.1)

mutual
  pub body_can : (depth : ℕ) (b : Body) (ts us : List Token) → AreProper ts → AreStmts depth ts b us → CanBody depth b × AreProper us
  body_can depth end ts us p g = (tt, subst (λ (xs : List Token). AreProper xs) g (silent_proper ts p))
  body_can depth (stmt s b) ts us p g =
      let x = stmt_can depth s ts g.0 p g.1 in
      let y = body_can depth b g.0 us x.1 g.2 in
      ((x.0, y.0), y.1)

  stmt_can : (depth : ℕ) (s : Stmt) (ts us : List Token) → AreProper ts → IsStmt depth (after_silent ts) s us → CanStmt depth s × AreProper us
  stmt_can depth (text_stmt s) ts us p g =
      let a = stands_proper k.Text (λ x. decoded x ≡ s) (after_silent ts) us (silent_proper ts p) g in
      let quiet = not_silent ts g.0 us g.1 in
      let some = some_text g.0 quiet g.2 in
      ((subst (λ (x : Text). IsTextual x) a.2 (decoded_scalars a.0 a.1), ap is_empty_text (sym g.3) ∙ decoded_some g.0.text some), a.3)
  stmt_can depth (comment_stmt s) ts us p g =
      let a = stands_proper k.HtmlComment (λ x. comment_of x ≡ s) (after_silent ts) us (silent_proper ts p) g in
      (subst (λ (x : Text). IsTextual x × (ends_comment x ≡ false)) a.2 a.1, a.3)
  stmt_can depth (put e) ts us p g = mustache_can e (after_silent ts) us (silent_proper ts p) g
  stmt_can depth (yield es to) ts us p g =
      let a = mark_proper k.OpenMustache (after_silent ts) g.0 (silent_proper ts p) g.4 in
      let b = (stands_proper k.Path (λ x. x ≡ codes "yield") g.0 g.1 a g.5).3 in
      let c = exprs_can deepest_calls es g.1 g.2 b g.6 in
      let t = target_can to g.2 g.3 c.1 g.7 in
      ((t.0, c.0), mark_proper k.CloseMustache g.3 us t.1 g.8)
  stmt_can zero (element tag ps b) ts us p g = absurd g
  stmt_can zero (component_stmt c ps given ss) ts us p g = absurd g
  stmt_can zero (if_stmt e unless b c) ts us p g = absurd g
  stmt_can zero (each e key ns b c) ts us p g = absurd g
  stmt_can zero (let_stmt es ns b) ts us p g = absurd g
  stmt_can (suc depth) (element tag ps b) ts us p g =
      element_can depth tag ps b (λ xs ys. AreStmts depth xs b ys) (λ xs ys q r. body_can depth b xs ys q r) (after_silent ts) g.0 g.1 us (silent_proper ts p) g.2 g.3 g.4
  stmt_can (suc depth) (component_stmt c ps given ss) ts us p g =
      component_can depth c ps given ss (after_silent ts) us (silent_proper ts p) (λ ns xs zs q w r. slots_can depth c ss ns xs zs q w r) g
  stmt_can (suc depth) (if_stmt e unless b c) ts us p g =
      let a = mark_proper k.OpenBlock (after_silent ts) g.0 (silent_proper ts p) g.2 in
      let x = if_can depth e unless b c (λ xs ys. AreStmts depth xs b ys) (λ xs ys. IsElse (λ zs. AreStmts depth zs c) (λ zs. IsChained depth zs c) xs c ys) (λ xs ys q r. body_can depth b xs ys q r)
      (else_can depth c (λ zs. AreStmts depth zs c) (λ zs. IsChained depth zs c) (λ xs ys q r. body_can depth c xs ys q r) (λ xs ys q r. chained_can depth c xs ys q r)) g.0 g.1 a g.3 in
      (x.0, closing_proper (if_word unless) g.1 us x.1 g.4)
  stmt_can (suc depth) (each e key ns b c) ts us p g =
      let a = mark_proper k.OpenBlock (after_silent ts) g.0 (silent_proper ts p) g.2 in
      let x = each_can depth e key ns b c (λ xs ys. AreStmts depth xs b ys) (λ xs ys. IsElse (λ zs. AreStmts depth zs c) (λ zs. IsChained depth zs c) xs c ys) (λ xs ys q r. body_can depth b xs ys q r)
      (else_can depth c (λ zs. AreStmts depth zs c) (λ zs. IsChained depth zs c) (λ xs ys q r. body_can depth c xs ys q r) (λ xs ys q r. chained_can depth c xs ys q r)) g.0 g.1 a g.3 in
      (x.0, closing_proper (codes "each") g.1 us x.1 g.4)
  stmt_can (suc depth) (let_stmt es ns b) ts us p g =
      let a = mark_proper k.OpenBlock (after_silent ts) g.0 (silent_proper ts p) g.2 in
      let x = let_can depth es ns b (λ xs ys. AreStmts depth xs b ys) (λ xs ys q r. body_can depth b xs ys q r) g.0 g.1 a g.3 in
      (x.0, closing_proper (codes "let") g.1 us x.1 g.4)

  -- what follows the items of a component's tag, and its end tag
  slots_can : (depth : ℕ) (c : Text) (ss : Slots) (ns : List Text) (ts us : List Token) → AreProper ts → AreFreeNames ns → RestOf depth ts c ns ss us → CanSlots depth ss × AreProper us
  slots_can depth c no_slots ns ts us p w (inl (m, e)) = (tt, mark_proper k.SelfEnd ts us p m)
  slots_can depth c no_slots ns ts us p w (inr (vs, ws, m, inl own, t)) = absurd own
  slots_can depth c no_slots ns ts us p w (inr (vs, ws, m, inr (none, some, new, slots), t)) = let r : ⊥ = cc in absurd r
  slots_can depth c (block name params b ss) ns ts us p w (inl (m, e)) = let r : ⊥ = cc in absurd r
  slots_can depth c (block name params b no_slots) ns ts us p w (inr (vs, ws, m, inl own, t)) =
      let a = mark_proper k.TagEnd ts vs p m in
      let x = body_can depth b vs ws a own.2 in
      (alone_can depth name params b (own_is name own.0) (subst (λ (y : List Text). AreFreeNames y) (sym own.1) w) x.0, (stands_proper k.EndTag (λ y. end_name_of y ≡ c) ws us x.1 t).3)
  slots_can depth c (block name params b (block x y z more)) ns ts us p w (inr (vs, ws, m, inl own, t)) = absurd own
  slots_can zero c (block name params b ss) ns ts us p w (inr (vs, ws, m, inr (none, some, new, slots), t)) = absurd slots
  slots_can (suc depth) c (block name params b ss) ns ts us p w (inr (vs, ws, m, inr (none, some, new, slots), t)) =
      let a = mark_proper k.TagEnd ts vs p m in
      let x = slot_can depth name params b (λ xs ys. AreStmts depth xs b ys) (λ xs ys q r. body_can depth b xs ys q r) (after_gaps vs) slots.0 (gaps_proper vs a) slots.1 in
      let y = blocks_can depth ss slots.0 ws x.1 slots.2 in
      (inr (new, x.0.0, x.0.1, x.0.2, y.0), (stands_proper k.EndTag (λ y. end_name_of y ≡ c) ws us y.1 t).3)

  blocks_can : (depth : ℕ) (ss : Slots) (ts us : List Token) → AreProper ts → AreSlots (suc depth) ts ss us → CanBlocks depth ss × AreProper us
  blocks_can depth no_slots ts us p g = (tt, subst (λ (xs : List Token). AreProper xs) g (gaps_proper ts p))
  blocks_can depth (block name params b ss) ts us p g =
      let x = slot_can depth name params b (λ xs ys. AreStmts depth xs b ys) (λ xs ys q r. body_can depth b xs ys q r) (after_gaps ts) g.0 (gaps_proper ts p) g.1 in
      let y = blocks_can depth ss g.0 us x.1 g.2 in
      ((x.0.0, x.0.1, x.0.2, y.0), y.1)

  chained_can : (depth : ℕ) (c : Body) (ts us : List Token) → AreProper ts → IsChained depth ts c us → CanBody depth c × AreProper us
  chained_can zero end ts us p g = absurd g
  chained_can zero (stmt s b) ts us p g = absurd g
  chained_can (suc depth) end ts us p g = absurd g
  chained_can (suc depth) (stmt (if_stmt e unless b c) end) ts us p g =
      let x = if_can depth e unless b c (λ xs ys. AreStmts depth xs b ys) (λ xs ys. IsElse (λ zs. AreStmts depth zs c) (λ zs. IsChained depth zs c) xs c ys) (λ xs ys q r. body_can depth b xs ys q r)
      (else_can depth c (λ zs. AreStmts depth zs c) (λ zs. IsChained depth zs c) (λ xs ys q r. body_can depth c xs ys q r) (λ xs ys q r. chained_can depth c xs ys q r)) ts us p g in
      ((x.0, tt), x.1)
  chained_can (suc depth) (stmt (each e key ns b c) end) ts us p g =
      let x = each_can depth e key ns b c (λ xs ys. AreStmts depth xs b ys) (λ xs ys. IsElse (λ zs. AreStmts depth zs c) (λ zs. IsChained depth zs c) xs c ys) (λ xs ys q r. body_can depth b xs ys q r)
      (else_can depth c (λ zs. AreStmts depth zs c) (λ zs. IsChained depth zs c) (λ xs ys q r. body_can depth c xs ys q r) (λ xs ys q r. chained_can depth c xs ys q r)) ts us p g in
      ((x.0, tt), x.1)
  chained_can (suc depth) (stmt (let_stmt es ns b) end) ts us p g =
      let x = let_can depth es ns b (λ xs ys. AreStmts depth xs b ys) (λ xs ys q r. body_can depth b xs ys q r) ts us p g in
      ((x.0, tt), x.1)
  chained_can (suc depth) (stmt s b) ts us p g = absurd g

-- what some bytes spell can be spelled
pub spelled_can : (bytes : List ℕ) (b : Body) → Spells bytes b → CanBody deepest_nesting b
spelled_can bytes b s =
    let u = IsUtf8-from_is_utf8 bytes s.1 in
    (body_can deepest_nesting b (settled bytes s.0) [] (settled_proper bytes s.0 (reads_proper m.Content 0 bytes s.0 u s.2)) s.3).0

pub spelled_expr_can : (bytes : List ℕ) (e : Expr) → SpellsExpr bytes e → CanExpr deepest_calls e
spelled_expr_can bytes e s = (expr_can deepest_calls e s.0 [] (reads_proper m.Expression 0 bytes s.0 (IsUtf8-from_is_utf8 bytes s.1) s.2) s.3).0

-- so the canonical spelling of what some bytes spell spells it
pub canonical_spells : (bytes : List ℕ) (b : Body) → Spells bytes b → Spells (bytes_of (canonical b)) b
canonical_spells bytes b s = spelled_canonical b (spelled_can bytes b s)

pub canonical_expression : (bytes : List ℕ) (e : Expr) → SpellsExpr bytes e → SpellsExpr (bytes_of (expr_text e)) e
canonical_expression bytes e s = spelled_expression e (spelled_expr_can bytes e s)
