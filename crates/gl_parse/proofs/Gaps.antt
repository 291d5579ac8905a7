-- Gaps among blocks that are passed, and where the opening of such a block comes next.
use Rattle.std.proofs.Common.{◌≡◌, ◌≤◌, ℕ, zero, suc, List, [], ◌∷◌, Bool, true, false, ◌||◌, ◌&&◌, None, length, refl, sym, ap, ◌∙◌, arith}
use Rattle.std.specs.Prelude.{if◌then◌else◌, ◌==◌}
use Rattle.std.specs.List.{list_all}
use Rattle.std.proofs.lemmas.Bool.Decides.{nat_tests}
use Rattle.gl_base.specs.Texts.{Text}
use Rattle.gl_ast.specs.Grammar.{Mark, IsStmt, AreStmts, AreSlots, IsOpening, IsSlotOpening, IsEndTag, IsOwnBlock, IsComponentRest, is_silent, after_silent, is_gap, after_gaps, is_empty_text, is_some_slot, slot_names}
use Rattle.gl_ast.specs.Marks.{is_white, is_small, is_capital}
use Rattle.gl_ast.specs.Settling.{is_text, is_comment}
use Rattle.gl_ast.specs.Template.{Stmt, text_stmt, comment_stmt, put, element, component_stmt, if_stmt, each, let_stmt, yield, Body, end, stmt, Slots, no_slots, block, slots_of}
use Rattle.gl_ast.specs.TokenText.{leads}
use Rattle.gl_ast.specs.declared.token.Token.{Token}
use Rattle.gl_ast.specs.declared.token.TokenKind.{TokenKind}
use Rattle.gl_ast.specs.declared.token.TokenKind.TheVariants as k
use Rattle.gl_exprs.specs.Take.{same_kind}
use Rattle.gl_parse.specs.ReadStmt.{slot_name, is_slot_opening, stands_slot, stands_next, names_in}
use Rattle.gl_parse.proofs.Labels.{names_slot, other_name}

-- the end of a component's opening tag, and what follows
abbrev pub RestOf : ℕ → List Token → Text → List Text → Slots → List Token → Type 0
RestOf depth ts c ns ss us = IsComponentRest (λ ys zs. IsOwnBlock depth ns ys ss zs) (λ ys zs. AreSlots depth ys ss zs) ts c ns ss us

empty_white : (x : Text) → is_empty_text x ≡ true → list_all is_white x ≡ true
empty_white [] e = refl
empty_white (c ∷ cs) e = let r : ⊥ = cc in absurd r

-- what gives no statement is a gap
pub silent_gap : (t : Token) → is_silent t ≡ true → is_gap t ≡ true
silent_gap t e = by_kind (is_comment t.kind) (is_text t.kind) refl refl e where
  by_kind : (a b : Bool) → is_comment t.kind ≡ a → is_text t.kind ≡ b → (a || (b && is_empty_text t.text)) ≡ true → is_gap t ≡ true
  by_kind true b f g h = rw f refl
  by_kind false true f g h = rw (f, g) (empty_white t.text h)
  by_kind false false f g h = let r : ⊥ = cc in absurd r

pub skip_gap : (t : Token) (ts : List Token) → is_gap t ≡ true → after_gaps (t ∷ ts) ≡ after_gaps ts
skip_gap t ts e = rw e refl

pub no_gap : (t : Token) (ts : List Token) → is_gap t ≡ false → after_gaps (t ∷ ts) ≡ t ∷ ts
no_gap t ts e = rw e refl

pub silent_gaps : (ts : List Token) → after_gaps (after_silent ts) ≡ after_gaps ts
silent_gaps [] = refl
silent_gaps (t ∷ ts) = by_token (is_silent t) refl (silent_gaps ts) where
  by_token : (b : Bool) → is_silent t ≡ b → after_gaps (after_silent ts) ≡ after_gaps ts → after_gaps (if b then after_silent ts else t ∷ ts) ≡ after_gaps (t ∷ ts)
  by_token true e more = more ∙ sym (skip_gap t ts (silent_gap t e))
  by_token false e more = refl

pub gaps_twice : (ts : List Token) → after_gaps (after_gaps ts) ≡ after_gaps ts
gaps_twice [] = refl
gaps_twice (t ∷ ts) = by_token (is_gap t) refl (gaps_twice ts) where
  by_token : (b : Bool) → is_gap t ≡ b → after_gaps (after_gaps ts) ≡ after_gaps ts → after_gaps (if b then after_gaps ts else t ∷ ts) ≡ (if b then after_gaps ts else t ∷ ts)
  by_token true e more = more
  by_token false e more = no_gap t ts e

pub gaps_leave : (ts : List Token) → length (after_gaps ts) ≤ length ts
gaps_leave [] = omega arith
gaps_leave (t ∷ ts) = by_token (is_gap t) (gaps_leave ts) where
  by_token : (b : Bool) → length (after_gaps ts) ≤ length ts → length (if b then after_gaps ts else t ∷ ts) ≤ length (t ∷ ts)
  by_token true h = omega (arith, h)
  by_token false h = omega arith

-- a token of a kind that is neither a gap nor the opening of a block
pub kind_no_gap : (t : Token) (kind : TokenKind) → t.kind ≡ kind → is_comment kind ≡ false → is_text kind ≡ false → is_gap t ≡ false
kind_no_gap t kind e f g = rw (e, f, g) refl

mark_gaps : (kind : TokenKind) (ts us : List Token) → Mark kind ts us → is_comment kind ≡ false → is_text kind ≡ false → after_gaps ts ≡ ts
mark_gaps kind ts us m f g = ap after_gaps m.1 ∙ no_gap m.0 us (kind_no_gap m.0 kind m.2 f g) ∙ sym m.1

pub mark_no_slot : (kind : TokenKind) (ts us : List Token) → Mark kind ts us → same_kind kind k.TagOpening ≡ false → stands_slot ts ≡ false
unfolding stands_slot
mark_no_slot kind ts us m e = rw (m.1, m.2, e) refl

pub mark_no_next : (kind : TokenKind) (ts us : List Token) → Mark kind ts us → is_comment kind ≡ false → is_text kind ≡ false → same_kind kind k.TagOpening ≡ false → stands_next ts ≡ false
mark_no_next kind ts us m f g e = ap stands_slot (mark_gaps kind ts us m f g) ∙ mark_no_slot kind ts us m e

-- the opening of an element or a component
no_colon : (first : ℕ → Bool) (c : ℕ) → first 58 ≡ false → first c ≡ true → (c == 58) ≡ false
no_colon first c e f = by_test (c == 58) refl where
  by_test : (b : Bool) → (c == 58) ≡ b → b ≡ false
  by_test false g = refl
  by_test true g =
      let same : c ≡ 58 = grind (arith, nat_tests) in
      let both : true ≡ false = sym f ∙ ap first same ∙ e in
      let r : ⊥ = cc in
      absurd r

opening_name : (first : ℕ → Bool) (x n : Text) → first 58 ≡ false → x ≡ 60 ∷ n → leads first n ≡ true → slot_name x ≡ None
opening_name first x [] e f g = let r : ⊥ = cc in absurd r
opening_name first x (c ∷ cs) e f g = other_name x (c ∷ cs) c cs f refl (no_colon first c e g)

pub opening_no_next : (first : ℕ → Bool) (ts : List Token) (n : Text) (us : List Token) → first 58 ≡ false → IsOpening first ts n us → stands_next ts ≡ false
unfolding stands_slot
opening_no_next first ts n us e m =
    ap stands_slot (mark_gaps k.TagOpening ts us (m.0, m.1, m.2) refl refl)
    ∙ rw (m.1, m.2, opening_name first m.0.text n e m.3.0 m.3.1) refl

-- the opening of a block
pub opens_slot : (t : Token) (n : Text) → t.kind ≡ k.TagOpening → t.text ≡ 60 ∷ 58 ∷ n → is_slot_opening t ≡ true
opens_slot t n e f = rw (e, names_slot t.text n f) refl

pub opening_stands : (ts : List Token) (n : Text) (us : List Token) → IsSlotOpening ts n us → stands_slot ts ≡ true
unfolding stands_slot
opening_stands ts n us m = ap stands_slot m.1 ∙ opens_slot m.0 n m.2 m.3

pub slots_stand : (depth : ℕ) (ts : List Token) (ss : Slots) (us : List Token) → is_some_slot ss ≡ true → AreSlots depth ts ss us → stands_next ts ≡ true
slots_stand depth ts no_slots us e h = let r : ⊥ = cc in absurd r
slots_stand zero ts (block name ns b ss) us e h = absurd h
slots_stand (suc depth) ts (block name ns b ss) us e (vs, is, more) = opening_stands (after_gaps ts) name is.0 is.4

pub end_tag_no_next : (ts : List Token) (n : Text) (us : List Token) → IsEndTag ts n us → stands_next ts ≡ false
end_tag_no_next ts n us m = mark_no_next k.EndTag ts us (m.0, m.1, m.2) refl refl refl

pub end_tag_no_slot : (ts : List Token) (n : Text) (us : List Token) → IsEndTag ts n us → stands_slot ts ≡ false
end_tag_no_slot ts n us m = mark_no_slot k.EndTag ts us (m.0, m.1, m.2) refl

-- A statement is no block that is passed, and neither is what it leaves.
stmt_no_next : (depth : ℕ) (ts : List Token) (s : Stmt) (us : List Token) → IsStmt depth ts s us → stands_next us ≡ false → stands_next ts ≡ false
stmt_no_next depth ts (text_stmt x) us m e = by_token (is_gap m.0) refl where
  by_token : (b : Bool) → is_gap m.0 ≡ b → stands_next ts ≡ false
  by_token true f = ap (λ l. stands_slot (after_gaps l)) m.1 ∙ ap stands_slot (skip_gap m.0 us f) ∙ e
  by_token false f = ap (λ l. stands_slot (after_gaps l)) m.1 ∙ ap stands_slot (no_gap m.0 us f) ∙ mark_no_slot k.Text (m.0 ∷ us) us (m.0, refl, m.2) refl
stmt_no_next depth ts (comment_stmt x) us m e = mark_no_next k.HtmlComment ts us (m.0, m.1, m.2) refl refl refl
stmt_no_next depth ts (put x) us h e = mark_no_next k.OpenMustache ts h.0 h.2 refl refl refl
stmt_no_next depth ts (yield es to) us h e = mark_no_next k.OpenMustache ts h.0 h.4 refl refl refl
stmt_no_next zero ts (element tag ps b) us h e = absurd h
stmt_no_next zero ts (component_stmt c ps given ss) us h e = absurd h
stmt_no_next zero ts (if_stmt x unless b c) us h e = absurd h
stmt_no_next zero ts (each x key ns b c) us h e = absurd h
stmt_no_next zero ts (let_stmt es ns b) us h e = absurd h
stmt_no_next (suc depth) ts (element tag ps b) us h e = opening_no_next is_small ts tag h.0 refl h.2
stmt_no_next (suc depth) ts (component_stmt c ps given ss) us (is, ns, h) e = opening_no_next is_capital ts c h.0 refl h.3
stmt_no_next (suc depth) ts (if_stmt x unless b c) us h e = mark_no_next k.OpenBlock ts h.0 h.2 refl refl refl
stmt_no_next (suc depth) ts (each x key ns b c) us h e = mark_no_next k.OpenBlock ts h.0 h.2 refl refl refl
stmt_no_next (suc depth) ts (let_stmt es ns b) us h e = mark_no_next k.OpenBlock ts h.0 h.2 refl refl refl

pub stmts_no_next : (depth : ℕ) (ts : List Token) (b : Body) (us : List Token) → AreStmts depth ts b us → stands_next us ≡ false → stands_next ts ≡ false
stmts_no_next depth ts end us h e = ap stands_slot (sym (silent_gaps ts)) ∙ ap (λ l. stands_slot (after_gaps l)) h ∙ e
stmts_no_next depth ts (stmt s b) us (vs, is, are) e =
    ap stands_slot (sym (silent_gaps ts)) ∙ stmt_no_next depth (after_silent ts) s vs is (stmts_no_next depth vs b us are e)

-- slots as a list
abbrev pub slots_list : Slots → List (Text × (List Text × Body))
slots_list no_slots = []
slots_list (block name ns b ss) = (name, (ns, b)) ∷ slots_list ss

pub slots_of-list : (ss : Slots) → slots_of (slots_list ss) ≡ ss
slots_of-list no_slots = refl
slots_of-list (block name ns b ss) = ap (λ l. block name ns b l) (slots_of-list ss)

pub list_names : (ss : Slots) → names_in (slots_list ss) ≡ slot_names ss
list_names no_slots = refl
list_names (block name ns b ss) = ap (λ l. name ∷ l) (list_names ss)

pub of_names : (xs : List (Text × (List Text × Body))) → slot_names (slots_of xs) ≡ names_in xs
of_names [] = refl
of_names (x ∷ xs) = ap (λ l. x.0 ∷ l) (of_names xs)
