-- Both ways for content: statements and what ends them.
use Rattle.std.proofs.Common.{◌≡◌, ◌⊎◌, ◌-◌, ℕ, zero, suc, List, [], ◌∷◌, ◌++◌, not, Bool, true, false, ◌&&◌, ◌||◌, inl, inr, Some, map, refl, sym, ap, ◌∙◌, subst, arith}
use Rattle.std.specs.Prelude.{if◌then◌else◌, codes, ◌==◌}
use Rattle.std.proofs.lemmas.Bool.Decides.{nat_tests}
use Rattle.std.specs.List.{list_all}
use Rattle.gl_base.specs.Names.{has_text}
use Rattle.gl_base.specs.Texts.{Text}
use Rattle.gl_ast.specs.Grammar.{deepest_calls, Mark, Word, IsExpr, AreExprs, IsMustache, part_item, AreParameters, IsClosing, IsEndTag, if_word, is_silent, is_empty_text, after_silent, is_gap, after_gaps, AreStmts, IsStmt, IsChained, IsOwnBlock, AreSlots, are_new, slot_names, is_some_expr}
use Rattle.gl_ast.specs.Marks.{is_white, is_small, is_capital}
use Rattle.gl_ast.specs.Settling.{is_comment, is_text}
use Rattle.gl_ast.specs.Template.{Expr, Exprs, no_exprs, expr, Stmt, text_stmt, comment_stmt, put, element, component_stmt, if_stmt, each, let_stmt, yield, Body, end, stmt, Slots, no_slots, block}
use Rattle.gl_ast.specs.TokenText.{end_name_of, leads}
use Rattle.gl_ast.specs.declared.token.Token.{Token}
use Rattle.gl_ast.specs.declared.token.TokenKind.{TokenKind}
use Rattle.gl_ast.specs.declared.token.TokenKind.TheVariants as k
use Rattle.gl_exprs.specs.Take.{same_kind, stands, stands_word}
use Rattle.gl_exprs.proofs.Firsts.{is_same}
use Rattle.gl_exprs.proofs.FirstTokens.{is_bytes_eq}
use Rattle.gl_parse.specs.Due as d
use Rattle.gl_parse.specs.Due.{Due, Dues, Stop, and_then, due_after, is_path_word, is_flat, is_end_of, takes_closing, takes_else, after_opening, starts_inner, starts_nested, starts_content, starts_opened, starts_head, starts_chained, starts_after_else, starts_filling, starts_slots, starts_slot_tag, slot_due, test_head, each_head, let_head}
use Rattle.gl_parse.specs.ReadStmt.{stands_opened, word_of, slot_name, is_slot_opening, stands_slot, stands_next}
use Rattle.gl_parse.proofs.Accepts.{accepts, fed, accepts_step, fed_then}
use Rattle.gl_parse.proofs.BlockLaws.{IsOtherwise, IsHead, IsBlock, stmt_block, chained_only}
use Rattle.gl_parse.proofs.FlatLaws.{mustache_no_else, mustache_no_yield}
use Rattle.gl_parse.proofs.Gaps.{skip_gap, no_gap, opens_slot, end_tag_no_next, stmts_no_next}
use Rattle.gl_parse.proofs.Labels.{names_slot}
use Rattle.gl_parse.proofs.HeadWays.{KeyTo, passes_key, ValuesTo, passes_values_to}
use Rattle.gl_parse.proofs.ItemLaws.{parts_allowed, all_allowed}
use Rattle.gl_parse.proofs.TagLaws.{not_capital}
use Rattle.gl_parse.proofs.TagWays.{PassesTagged, PassesFilled, comment_is, passes_tag}
use Rattle.gl_parse.proofs.Ways.{never, passes_token, passes_kind, is_word, passes_word, passes_expr, passes_inner, Values, passes_values}

-- What a token leaves due.

pub flat_due : (depth : ℕ) (stop : Stop) (t : Token) → is_flat t ≡ true → due_after (d.content depth stop) t ≡ Some (d.content depth stop ∷ [])
unfolding due_after starts_content
flat_due depth stop t e = rw e refl

mustache_due : (depth : ℕ) (stop : Stop) (t : Token) → t.kind ≡ k.OpenMustache → due_after (d.content depth stop) t ≡ Some (d.opened depth stop ∷ [])
unfolding due_after starts_content
mustache_due depth stop t e = rw e refl

closing_due : (depth : ℕ) (w : Text) (o : Bool) (t : Token) → t.kind ≡ k.OpenClosing → due_after (d.content depth (d.block w o)) t ≡ Some (d.word w ∷ d.kind k.CloseMustache ∷ [])
unfolding due_after starts_content
closing_due depth w o t e = rw e refl

pub end_tag_due : (depth : ℕ) (n : Text) (t : Token) → t.kind ≡ k.EndTag → end_name_of t.text ≡ n → due_after (d.content depth (d.tag n)) t ≡ Some []
unfolding due_after starts_content
end_tag_due depth n t e f = rw (e, is_bytes_eq (end_name_of t.text) n f) refl

-- a depth that is left
pub is_left : (depth : ℕ) → (suc depth == 0) ≡ false
is_left depth = grind (arith, nat_tests)

pub one_less : (depth : ℕ) → suc depth - 1 ≡ depth
one_less depth = omega arith

block_due : (depth : ℕ) (stop : Stop) (t : Token) → t.kind ≡ k.OpenBlock → due_after (d.content (suc depth) stop) t ≡ Some (d.head depth ∷ d.content (suc depth) stop ∷ [])
unfolding due_after starts_content starts_nested
block_due depth stop t e = rw (e, is_left depth, one_less depth) refl

component_due : (depth : ℕ) (stop : Stop) (t : Token) (n : Text) → t.kind ≡ k.TagOpening → t.text ≡ 60 ∷ n → leads is_capital n ≡ true → due_after (d.content (suc depth) stop) t ≡ Some (d.items n true depth ∷ d.content (suc depth) stop ∷ [])
unfolding due_after starts_content starts_nested after_opening
component_due depth stop t n e f g = rw (e, f, is_left depth, one_less depth, g) refl

element_due : (depth : ℕ) (stop : Stop) (t : Token) (n : Text) → t.kind ≡ k.TagOpening → t.text ≡ 60 ∷ n → leads is_small n ≡ true → due_after (d.content (suc depth) stop) t ≡ Some (d.items n false depth ∷ d.content (suc depth) stop ∷ [])
unfolding due_after starts_content starts_nested after_opening
element_due depth stop t n e f g = rw (e, f, is_left depth, one_less depth, not_capital n g, g) refl

else_due : (depth : ℕ) (w : Text) (t : Token) → t.kind ≡ k.Path → t.text ≡ codes "else" → due_after (d.opened depth (d.block w true)) t ≡ Some (d.after_else depth w ∷ [])
unfolding due_after starts_opened
else_due depth w t e f = rw (is_word (codes "else") t e f) refl

yield_due : (depth : ℕ) (stop : Stop) (t : Token) → t.kind ≡ k.Path → t.text ≡ codes "yield" → due_after (d.opened depth stop) t ≡ Some (d.values ∷ d.content depth stop ∷ [])
unfolding due_after starts_opened
yield_due depth stop t e f = rw (e, f) refl

body_due : (depth : ℕ) (w : Text) (t : Token) → t.kind ≡ k.CloseMustache → due_after (d.after_else depth w) t ≡ Some (d.content depth (d.block w false) ∷ [])
unfolding due_after starts_after_else
body_due depth w t e = rw e refl

pub chained_due : (depth : ℕ) (w : Text) (t : Token) → t.kind ≡ k.Path → due_after (d.after_else (suc depth) w) t ≡ starts_chained w depth t
unfolding due_after starts_after_else
chained_due depth w t e = rw (e, is_left depth, one_less depth) refl

if_head : (unless : Bool) (depth : ℕ) (t : Token) → t.kind ≡ k.Path → t.text ≡ if_word unless → due_after (d.head depth) t ≡ test_head depth (if_word unless)
unfolding due_after starts_head
if_head true depth t e f = rw (e, f) refl
if_head false depth t e f = rw (e, f) refl

each_is : (depth : ℕ) (t : Token) → t.kind ≡ k.Path → t.text ≡ codes "each" → due_after (d.head depth) t ≡ each_head depth (codes "each")
unfolding due_after starts_head
each_is depth t e f = rw (e, f) refl

let_is : (depth : ℕ) (t : Token) → t.kind ≡ k.Path → t.text ≡ codes "let" → due_after (d.head depth) t ≡ let_head depth (codes "let")
unfolding due_after starts_head
let_is depth t e f = rw (e, f) refl

if_chain : (unless : Bool) (w : Text) (depth : ℕ) (t : Token) → t.kind ≡ k.Path → t.text ≡ if_word unless → starts_chained w depth t ≡ test_head depth w
unfolding starts_chained
if_chain true w depth t e f = rw (e, f) refl
if_chain false w depth t e f = rw (e, f) refl

each_chain : (w : Text) (depth : ℕ) (t : Token) → t.kind ≡ k.Path → t.text ≡ codes "each" → starts_chained w depth t ≡ each_head depth w
unfolding starts_chained
each_chain w depth t e f = rw (e, f) refl

let_chain : (w : Text) (depth : ℕ) (t : Token) → t.kind ≡ k.Path → t.text ≡ codes "let" → starts_chained w depth t ≡ let_head depth w
unfolding starts_chained
let_chain w depth t e f = rw (e, f) refl

-- What is spelled meets it.

abbrev pub PassBody : ℕ → Type 0
PassBody depth = (stop : Stop) (ds : List Due) (ts : List Token) (b : Body) (us : List Token) → AreStmts depth ts b us → accepts (d.content depth stop ∷ ds) ts ≡ accepts (d.content depth stop ∷ ds) us

abbrev PassStmt : ℕ → Type 0
PassStmt depth = (stop : Stop) (ds : List Due) (ts : List Token) (s : Stmt) (us : List Token) → IsStmt depth ts s us → accepts (d.content depth stop ∷ ds) ts ≡ accepts (d.content depth stop ∷ ds) us

-- a block that an else has as its head, and the end of the block round it
abbrev PassChained : ℕ → Type 0
PassChained depth = (w : Text) (ds : List Due) (ts : List Token) (c : Body) (us zs : List Token) → IsChained depth ts c us → IsClosing us w zs → accepts (d.after_else depth w ∷ ds) ts ≡ accepts ds zs

pub closing_pass : (depth : ℕ) (w : Text) (o : Bool) (ds : List Due) (ts us : List Token) → IsClosing ts w us → accepts (d.content depth (d.block w o) ∷ ds) ts ≡ accepts ds us
closing_pass depth w o ds ts us (vs, ws, m, word, n) =
    passes_token (d.content depth (d.block w o)) ds (d.word w ∷ d.kind k.CloseMustache ∷ []) m.0 ts vs m.1 (closing_due depth w o m.0 m.2)
    ∙ passes_word w (d.kind k.CloseMustache ∷ ds) vs ws word ∙ passes_kind k.CloseMustache ds ws us n

otherwise_pass : (depth : ℕ) → PassBody depth → PassChained depth → (w : Text) (ds : List Due) (ts : List Token) (c : Body) (us zs : List Token) → IsOtherwise depth ts c us → IsClosing us w zs → accepts (d.content depth (d.block w true) ∷ ds) ts ≡ accepts ds zs
otherwise_pass depth bodies chained w ds ts c us zs (inl (e, f)) closing = ap (accepts (d.content depth (d.block w true) ∷ ds)) e ∙ closing_pass depth w true ds us zs closing
otherwise_pass depth bodies chained w ds ts c us zs (inr (vs, ws, m, word, r)) closing =
    passes_token (d.content depth (d.block w true)) ds (d.opened depth (d.block w true) ∷ []) m.0 ts vs m.1 (mustache_due depth (d.block w true) m.0 m.2)
    ∙ passes_token (d.opened depth (d.block w true)) ds (d.after_else depth w ∷ []) word.0 vs ws word.1 (else_due depth w word.0 word.2 word.3)
    ∙ after r where
      after : ((xs : List Token) × Mark k.CloseMustache ws xs × AreStmts depth xs c us) ⊎ IsChained depth ws c us → accepts (d.after_else depth w ∷ ds) ws ≡ accepts ds zs
      after (inl (xs, n, are)) =
          passes_token (d.after_else depth w) ds (d.content depth (d.block w false) ∷ []) n.0 ws xs n.1 (body_due depth w n.0 n.2)
          ∙ bodies (d.block w false) ds xs c us are ∙ closing_pass depth w false ds us zs closing
      after (inr h) = chained w ds ws c us zs h closing

-- the parts of a block after its word
if_pass : (depth : ℕ) → PassBody depth → PassChained depth → (w : Text) (ds : List Due) (ts : List Token) (e : Expr) (b c : Body) (vs xs ys us zs : List Token)
    → IsExpr deepest_calls ts e vs → Mark k.CloseMustache vs xs → AreStmts depth xs b ys → IsOtherwise depth ys c us → IsClosing us w zs → fed (test_head depth w) ds ts ≡ accepts ds zs
if_pass depth bodies chained w ds ts e b c vs xs ys us zs is m are other closing =
    passes_expr (d.kind k.CloseMustache ∷ d.content depth (d.block w true) ∷ ds) ts vs (e, is) ∙ passes_kind k.CloseMustache (d.content depth (d.block w true) ∷ ds) vs xs m
    ∙ bodies (d.block w true) ds xs b ys are ∙ otherwise_pass depth bodies chained w ds ys c us zs other closing

each_pass : (depth : ℕ) → PassBody depth → PassChained depth → (w : Text) (ds : List Due) (ts : List Token) (e : Expr) (b c : Body) (vs xs ys us zs : List Token)
    → IsExpr deepest_calls ts e vs → KeyTo vs xs → AreStmts depth xs b ys → IsOtherwise depth ys c us → IsClosing us w zs → fed (each_head depth w) ds ts ≡ accepts ds zs
each_pass depth bodies chained w ds ts e b c vs xs ys us zs is key are other closing =
    passes_expr (d.each_key depth (d.block w true) ∷ ds) ts vs (e, is) ∙ passes_key depth (d.block w true) ds vs xs key
    ∙ bodies (d.block w true) ds xs b ys are ∙ otherwise_pass depth bodies chained w ds ys c us zs other closing

let_pass : (depth : ℕ) → PassBody depth → (w : Text) (ds : List Due) (ts : List Token) (b : Body) (xs us zs : List Token) → ValuesTo ts xs → AreStmts depth xs b us → IsClosing us w zs → fed (let_head depth w) ds ts ≡ accepts ds zs
let_pass depth bodies w ds ts b xs us zs values are closing =
    passes_values_to depth (d.block w false) ds ts xs values ∙ bodies (d.block w false) ds xs b us are ∙ closing_pass depth w false ds us zs closing

some_values : (es : Exprs) (ns : List Text) (ts vs xs us : List Token) → is_some_expr es ≡ true → AreExprs deepest_calls ts es vs → AreParameters vs ns xs → Mark k.CloseMustache xs us → ValuesTo ts us
some_values no_exprs ns ts vs xs us e are params m = never e
some_values (expr x es) ns ts vs xs us e are params m = (x, es, (vs, are, (ns, (xs, params, m))))

-- the word of a block
word_pass : (x : Due) (o : Dues) (ds : List Due) (t : Token) (ts us : List Token) → ts ≡ t ∷ us → due_after x t ≡ o → accepts (x ∷ ds) ts ≡ fed o ds us
word_pass x o ds t ts us here e = ap (accepts (x ∷ ds)) here ∙ accepts_step x ds t us ∙ ap (λ p. fed p ds us) e

head_pass : (depth : ℕ) → PassBody depth → PassChained depth → (s : Stmt) (ds : List Due) (ts us zs : List Token) → IsHead (suc depth) ts s us → IsClosing us (word_of s) zs → accepts (d.head depth ∷ ds) ts ≡ accepts ds zs
head_pass depth bodies chained (if_stmt e unless b c) ds ts us zs (vs, ws, xs, ys, w, is, m, are, other) closing =
    word_pass (d.head depth) (test_head depth (if_word unless)) ds w.0 ts vs w.1 (if_head unless depth w.0 w.2 w.3)
    ∙ if_pass depth bodies chained (if_word unless) ds vs e b c ws xs ys us zs is m are other closing
head_pass depth bodies chained (each e key ns b c) ds ts us zs (two, (us1, us2, us3, us4, us5, us6, w, is, keyed, params, m, are, other)) closing =
    word_pass (d.head depth) (each_head depth (codes "each")) ds w.0 ts us1 w.1 (each_is depth w.0 w.2 w.3)
    ∙ each_pass depth bodies chained (codes "each") ds us1 e b c us2 us5 us6 us zs is (key, (us3, keyed, (ns, (us4, params, two, m)))) are other closing
head_pass depth bodies chained (let_stmt es ns b) ds ts us zs (some, (vs, ws, xs, ys, w, are, params, m, is)) closing =
    word_pass (d.head depth) (let_head depth (codes "let")) ds w.0 ts vs w.1 (let_is depth w.0 w.2 w.3)
    ∙ let_pass depth bodies (codes "let") ds vs b ys us zs (some_values es ns vs ws xs ys some are params m) is closing
head_pass depth bodies chained s ds ts us zs h closing = absurd h

chained_pass : (depth : ℕ) → PassBody depth → PassChained depth → (s : Stmt) (w : Text) (ds : List Due) (ts us zs : List Token) → IsHead (suc depth) ts s us → IsClosing us w zs → accepts (d.after_else (suc depth) w ∷ ds) ts ≡ accepts ds zs
chained_pass depth bodies chained (if_stmt e unless b c) word ds ts us zs (vs, ws, xs, ys, w, is, m, are, other) closing =
    word_pass (d.after_else (suc depth) word) (test_head depth word) ds w.0 ts vs w.1 (chained_due depth word w.0 w.2 ∙ if_chain unless word depth w.0 w.2 w.3)
    ∙ if_pass depth bodies chained word ds vs e b c ws xs ys us zs is m are other closing
chained_pass depth bodies chained (each e key ns b c) word ds ts us zs (two, (us1, us2, us3, us4, us5, us6, w, is, keyed, params, m, are, other)) closing =
    word_pass (d.after_else (suc depth) word) (each_head depth word) ds w.0 ts us1 w.1 (chained_due depth word w.0 w.2 ∙ each_chain word depth w.0 w.2 w.3)
    ∙ each_pass depth bodies chained word ds us1 e b c us2 us5 us6 us zs is (key, (us3, keyed, (ns, (us4, params, two, m)))) are other closing
chained_pass depth bodies chained (let_stmt es ns b) word ds ts us zs (some, (vs, ws, xs, ys, w, are, params, m, is)) closing =
    word_pass (d.after_else (suc depth) word) (let_head depth word) ds w.0 ts vs w.1 (chained_due depth word w.0 w.2 ∙ let_chain word depth w.0 w.2 w.3)
    ∙ let_pass depth bodies word ds vs b ys us zs (some_values es ns vs ws xs ys some are params m) is closing
chained_pass depth bodies chained s word ds ts us zs h closing = absurd h

-- statements without another in them

-- after `{{`, where neither else nor yield stands
inner_opened : (depth : ℕ) (stop : Stop) (ds : List Due) (t : Token) (ts : List Token) → t.kind ≡ k.OpenMustache → stands_opened (codes "else") (t ∷ ts) ≡ false → stands_opened (codes "yield") (t ∷ ts) ≡ false
    → accepts (d.opened depth stop ∷ ds) ts ≡ accepts (d.inner ∷ d.content depth stop ∷ ds) ts
unfolding due_after starts_opened stands_opened stands stands_word
inner_opened depth stop ds t [] e f g = refl
inner_opened depth stop ds t (u ∷ us) e f g =
    let first : same_kind t.kind k.OpenMustache ≡ true = is_same t.kind k.OpenMustache e in
    let no_else : is_path_word (codes "else") u ≡ false = sym (ap (λ b. b && is_path_word (codes "else") u) first) ∙ f in
    let no_yield : is_path_word (codes "yield") u ≡ false = sym (ap (λ b. b && is_path_word (codes "yield") u) first) ∙ g in
    accepts_step (d.opened depth stop) ds u us ∙ rw (no_else, no_yield) refl ∙ fed_then (d.content depth stop) (starts_inner u) ds us ∙ sym (accepts_step d.inner (d.content depth stop ∷ ds) u us)

put_pass : (depth : ℕ) (stop : Stop) (ds : List Due) (ts : List Token) (e : Expr) (us : List Token) → IsMustache ts e us → accepts (d.content depth stop ∷ ds) ts ≡ accepts (d.content depth stop ∷ ds) us
put_pass depth stop ds ts e us (vs, ws, m, is, n) =
    let no_else = subst (λ l. stands_opened (codes "else") l ≡ false) m.1 (mustache_no_else ts e us (vs, ws, m, is, n)) in
    let no_yield = subst (λ l. stands_opened (codes "yield") l ≡ false) m.1 (mustache_no_yield ts e us (vs, ws, m, is, n)) in
    passes_token (d.content depth stop) ds (d.opened depth stop ∷ []) m.0 ts vs m.1 (mustache_due depth stop m.0 m.2)
    ∙ inner_opened depth stop ds m.0 vs m.2 no_else no_yield ∙ passes_inner (d.content depth stop ∷ ds) vs us (e, (ws, is, n))

yield_pass : (depth : ℕ) (stop : Stop) (ds : List Due) (ts vs ws us : List Token) → Mark k.OpenMustache ts vs → Word (codes "yield") vs ws → Values ws us → accepts (d.content depth stop ∷ ds) ts ≡ accepts (d.content depth stop ∷ ds) us
yield_pass depth stop ds ts vs ws us m w values =
    passes_token (d.content depth stop) ds (d.opened depth stop ∷ []) m.0 ts vs m.1 (mustache_due depth stop m.0 m.2)
    ∙ passes_token (d.opened depth stop) ds (d.values ∷ d.content depth stop ∷ []) w.0 vs ws w.1 (yield_due depth stop w.0 w.2 w.3)
    ∙ passes_values (d.content depth stop ∷ ds) ws us values

text_pass : (depth : ℕ) (stop : Stop) (ds : List Due) (ts us : List Token) → Mark k.Text ts us → accepts (d.content depth stop ∷ ds) ts ≡ accepts (d.content depth stop ∷ ds) us
text_pass depth stop ds ts us m = passes_token (d.content depth stop) ds (d.content depth stop ∷ []) m.0 ts us m.1 (flat_due depth stop m.0 (rw m.2 refl))

comment_pass : (depth : ℕ) (stop : Stop) (ds : List Due) (ts us : List Token) → Mark k.HtmlComment ts us → accepts (d.content depth stop ∷ ds) ts ≡ accepts (d.content depth stop ∷ ds) us
comment_pass depth stop ds ts us m = passes_token (d.content depth stop) ds (d.content depth stop ∷ []) m.0 ts us m.1 (flat_due depth stop m.0 (rw m.2 refl))

none_pass : PassStmt zero
none_pass stop ds ts (text_stmt x) us h = text_pass zero stop ds ts us (h.0, h.1, h.2)
none_pass stop ds ts (comment_stmt x) us h = comment_pass zero stop ds ts us (h.0, h.1, h.2)
none_pass stop ds ts (put e) us h = put_pass zero stop ds ts e us h
none_pass stop ds ts (yield es to) us (vs, ws, xs, ys, m, w, are, t, n) = yield_pass zero stop ds ts vs ws us m w (es, to, (xs, ys, are, t, n))
none_pass stop ds ts s us h = absurd h

-- statements with others in them

tagged_pass : (depth : ℕ) → PassBody depth → PassesTagged depth
tagged_pass depth bodies n ds ts us (b, (vs, are, e)) = bodies (d.tag n) ds ts b vs are ∙ passes_token (d.content depth (d.tag n)) ds [] e.0 vs us e.1 (end_tag_due depth n e.0 e.2 e.3)

block_pass : (depth : ℕ) → PassBody depth → PassChained depth → (s : Stmt) (stop : Stop) (ds : List Due) (ts us : List Token) → IsBlock depth ts s us → accepts (d.content (suc depth) stop ∷ ds) ts ≡ accepts (d.content (suc depth) stop ∷ ds) us
block_pass depth bodies chained s stop ds ts us (vs, ws, m, h, closing) =
    passes_token (d.content (suc depth) stop) ds (d.head depth ∷ d.content (suc depth) stop ∷ []) m.0 ts vs m.1 (block_due depth stop m.0 m.2)
    ∙ head_pass depth bodies chained s (d.content (suc depth) stop ∷ ds) vs ws us h closing

some_pass : (depth : ℕ) → PassBody depth → PassChained depth → PassesFilled depth → PassStmt (suc depth)
some_pass depth bodies chained filled stop ds ts (text_stmt x) us h = text_pass (suc depth) stop ds ts us (h.0, h.1, h.2)
some_pass depth bodies chained filled stop ds ts (comment_stmt x) us h = comment_pass (suc depth) stop ds ts us (h.0, h.1, h.2)
some_pass depth bodies chained filled stop ds ts (put e) us h = put_pass (suc depth) stop ds ts e us h
some_pass depth bodies chained filled stop ds ts (yield es to) us (vs, ws, xs, ys, m, w, are, t, n) = yield_pass (suc depth) stop ds ts vs ws us m w (es, to, (xs, ys, are, t, n))
some_pass depth bodies chained filled stop ds ts (element n ps b) us (vs, ws, o, are, r) =
    passes_token (d.content (suc depth) stop) ds (d.items n false depth ∷ d.content (suc depth) stop ∷ []) o.0 ts vs o.1 (element_due depth stop o.0 n o.2 o.3.0 o.3.1)
    ∙ passes_tag false n depth (tagged_pass depth bodies) filled (d.content (suc depth) stop ∷ ds) vs us (map part_item ps, (ws, are, parts_allowed ps, (b, r)))
some_pass depth bodies chained filled stop ds ts (component_stmt n ps given ss) us (is, ns, (vs, ws, xs, o, are, e, f, params, r)) =
    passes_token (d.content (suc depth) stop) ds (d.items n true depth ∷ d.content (suc depth) stop ∷ []) o.0 ts vs o.1 (component_due depth stop o.0 n o.2 o.3.0 o.3.1)
    ∙ passes_tag true n depth (tagged_pass depth bodies) filled (d.content (suc depth) stop ∷ ds) vs us (is, (ws, are, all_allowed is, (ns, ss, (xs, params, r))))
some_pass depth bodies chained filled stop ds ts (if_stmt e unless b c) us h = block_pass depth bodies chained (if_stmt e unless b c) stop ds ts us (stmt_block depth ts (if_stmt e unless b c) us refl h)
some_pass depth bodies chained filled stop ds ts (each e key ns b c) us h = block_pass depth bodies chained (each e key ns b c) stop ds ts us (stmt_block depth ts (each e key ns b c) us refl h)
some_pass depth bodies chained filled stop ds ts (let_stmt es ns b) us h = block_pass depth bodies chained (let_stmt es ns b) stop ds ts us (stmt_block depth ts (let_stmt es ns b) us refl h)

-- one statement after another

text_kind : (kind : TokenKind) → is_text kind ≡ true → kind ≡ k.Text
text_kind k.Text e = refl
text_kind _ e = let r : ⊥ = cc in absurd r

pub silent_flat : (t : Token) → is_silent t ≡ true → is_flat t ≡ true
silent_flat t e = by_kind (is_comment t.kind) (is_text t.kind) refl refl e where
  by_kind : (a b : Bool) → is_comment t.kind ≡ a → is_text t.kind ≡ b → (a || (b && is_empty_text t.text)) ≡ true → is_flat t ≡ true
  by_kind true b f g h = rw (comment_is t.kind f) refl
  by_kind false true f g h = rw (text_kind t.kind g) refl
  by_kind false false f g h = never h

silent_pass : (depth : ℕ) (stop : Stop) (ds : List Due) (ts : List Token) → accepts (d.content depth stop ∷ ds) ts ≡ accepts (d.content depth stop ∷ ds) (after_silent ts)
silent_pass depth stop ds [] = refl
silent_pass depth stop ds (t ∷ ts) = by_token (is_silent t) refl (silent_pass depth stop ds ts) where
  by_token : (b : Bool) → is_silent t ≡ b → accepts (d.content depth stop ∷ ds) ts ≡ accepts (d.content depth stop ∷ ds) (after_silent ts)
      → accepts (d.content depth stop ∷ ds) (t ∷ ts) ≡ accepts (d.content depth stop ∷ ds) (if b then after_silent ts else t ∷ ts)
  by_token true e more = passes_token (d.content depth stop) ds (d.content depth stop ∷ []) t (t ∷ ts) ts refl (flat_due depth stop t (silent_flat t e)) ∙ more
  by_token false e more = refl

body_pass : (depth : ℕ) → PassStmt depth → (b : Body) (stop : Stop) (ds : List Due) (ts us : List Token) → AreStmts depth ts b us → accepts (d.content depth stop ∷ ds) ts ≡ accepts (d.content depth stop ∷ ds) us
body_pass depth one end stop ds ts us e = silent_pass depth stop ds ts ∙ ap (accepts (d.content depth stop ∷ ds)) e
body_pass depth one (stmt s b) stop ds ts us (vs, is, are) = silent_pass depth stop ds ts ∙ one stop ds (after_silent ts) s vs is ∙ body_pass depth one b stop ds vs us are

heads_pass : (depth : ℕ) → PassBody depth → PassChained depth → PassChained (suc depth)
heads_pass depth bodies chained w ds ts c us zs h closing =
    let s = chained_only (suc depth) ts c us h in
    chained_pass depth bodies chained s.0 w ds ts us zs s.2 closing

no_head : PassChained zero
no_head w ds ts c us zs h closing = absurd h

-- Blocks that are passed.

pub gap_flat : (t : Token) → is_gap t ≡ true → is_flat t ≡ true
gap_flat t e = by_kind (is_comment t.kind) (is_text t.kind) refl refl e where
  by_kind : (a b : Bool) → is_comment t.kind ≡ a → is_text t.kind ≡ b → (a || (b && list_all is_white t.text)) ≡ true → is_flat t ≡ true
  by_kind true b f g h = rw (comment_is t.kind f) refl
  by_kind false true f g h = rw (text_kind t.kind g) refl
  by_kind false false f g h = never h

gap_due : (depth : ℕ) (n : Text) (t : Token) → is_gap t ≡ true → due_after (d.filling depth n) t ≡ Some (d.filling depth n ∷ [])
unfolding due_after starts_filling
gap_due depth n t e = rw e refl

later_gap : (depth : ℕ) (n : Text) (taken : List Text) (t : Token) → is_gap t ≡ true → due_after (d.slots depth n taken) t ≡ Some (d.slots depth n taken ∷ [])
unfolding due_after starts_slots
later_gap depth n taken t e = rw e refl

-- gaps are passed over
over_gaps : (x : Due) → ((t : Token) → is_gap t ≡ true → due_after x t ≡ Some (x ∷ [])) → (ds : List Due) (ts : List Token) → accepts (x ∷ ds) ts ≡ accepts (x ∷ ds) (after_gaps ts)
over_gaps x due ds [] = refl
over_gaps x due ds (t ∷ ts) = by_token (is_gap t) refl (over_gaps x due ds ts) where
  by_token : (b : Bool) → is_gap t ≡ b → accepts (x ∷ ds) ts ≡ accepts (x ∷ ds) (after_gaps ts) → accepts (x ∷ ds) (t ∷ ts) ≡ accepts (x ∷ ds) (if b then after_gaps ts else t ∷ ts)
  by_token true e more = passes_token x ds (x ∷ []) t (t ∷ ts) ts refl (due t e) ∙ more
  by_token false e more = refl

content_instead : (depth : ℕ) (n : Text) (t : Token) → is_gap t ≡ false → is_slot_opening t ≡ false → due_after (d.filling depth n) t ≡ due_after (d.content depth (d.tag n)) t
unfolding due_after starts_filling
content_instead depth n t e f = rw (e, f) refl

-- where no block comes next, statements do
filling_content : (depth : ℕ) (n : Text) (ds : List Due) (ts : List Token) → stands_next ts ≡ false → accepts (d.filling depth n ∷ ds) ts ≡ accepts (d.content depth (d.tag n) ∷ ds) ts
unfolding stands_slot
filling_content depth n [] [] e = refl
filling_content depth n (x ∷ ds) [] e = refl
filling_content depth n ds (t ∷ ts) e = by_token (is_gap t) refl (λ f. filling_content depth n ds ts f) where
  by_token : (b : Bool) → is_gap t ≡ b → (stands_next ts ≡ false → accepts (d.filling depth n ∷ ds) ts ≡ accepts (d.content depth (d.tag n) ∷ ds) ts) → accepts (d.filling depth n ∷ ds) (t ∷ ts) ≡ accepts (d.content depth (d.tag n) ∷ ds) (t ∷ ts)
  by_token true f more =
      passes_token (d.filling depth n) ds (d.filling depth n ∷ []) t (t ∷ ts) ts refl (gap_due depth n t f) ∙ more (ap stands_slot (sym (skip_gap t ts f)) ∙ e)
      ∙ sym (passes_token (d.content depth (d.tag n)) ds (d.content depth (d.tag n) ∷ []) t (t ∷ ts) ts refl (flat_due depth (d.tag n) t (gap_flat t f)))
  by_token false f more =
      let no_slot : is_slot_opening t ≡ false = ap stands_slot (sym (no_gap t ts f)) ∙ e in
      accepts_step (d.filling depth n) ds t ts ∙ ap (λ o. fed o ds ts) (content_instead depth n t f no_slot) ∙ sym (accepts_step (d.content depth (d.tag n)) ds t ts)

-- the opening of a block
named_due : (depth : ℕ) (n m : Text) (taken : List Text) (t : Token) → t.text ≡ 60 ∷ 58 ∷ m → has_text m taken ≡ false → slot_due (suc depth) n taken (slot_name t.text) ≡ Some (d.slot_tag depth (58 ∷ m) ∷ d.slots (suc depth) n (taken ++ m ∷ []) ∷ [])
named_due depth n m taken t e f = rw (names_slot t.text m e, f, is_left depth, one_less depth) refl

opening_no_gap : (t : Token) → t.kind ≡ k.TagOpening → is_gap t ≡ false
opening_no_gap t e = rw e refl

first_due : (depth : ℕ) (n m : Text) (t : Token) → t.kind ≡ k.TagOpening → t.text ≡ 60 ∷ 58 ∷ m → due_after (d.filling (suc depth) n) t ≡ Some (d.slot_tag depth (58 ∷ m) ∷ d.slots (suc depth) n (m ∷ []) ∷ [])
unfolding due_after starts_filling
first_due depth n m t e f = rw (opening_no_gap t e, opens_slot t m e f) (named_due depth n m [] t f refl)

later_due : (depth : ℕ) (n m : Text) (taken : List Text) (t : Token) → t.kind ≡ k.TagOpening → t.text ≡ 60 ∷ 58 ∷ m → has_text m taken ≡ false → due_after (d.slots (suc depth) n taken) t ≡ Some (d.slot_tag depth (58 ∷ m) ∷ d.slots (suc depth) n (taken ++ m ∷ []) ∷ [])
unfolding due_after starts_slots
later_due depth n m taken t e f g = rw (opening_no_gap t e, opens_slot t m e f) (named_due depth n m taken t f g)

pub slots_end_due : (depth : ℕ) (n : Text) (taken : List Text) (t : Token) → t.kind ≡ k.EndTag → end_name_of t.text ≡ n → due_after (d.slots depth n taken) t ≡ Some []
unfolding due_after starts_slots
slots_end_due depth n taken t e f = rw (e, is_bytes_eq (end_name_of t.text) n f) refl

tag_end_due : (depth : ℕ) (n : Text) (t : Token) → t.kind ≡ k.TagEnd → due_after (d.slot_tag depth n) t ≡ Some (d.content depth (d.tag n) ∷ [])
unfolding due_after starts_slot_tag
tag_end_due depth n t e = rw e refl

names_due : (depth : ℕ) (n : Text) (t : Token) → t.kind ≡ k.Parameters → due_after (d.slot_tag depth n) t ≡ Some (d.kind k.TagEnd ∷ d.content depth (d.tag n) ∷ [])
unfolding due_after starts_slot_tag
names_due depth n t e = rw e refl

-- a block after its opening
slot_pass : (depth : ℕ) → PassBody depth → (n : Text) (ns : List Text) (b : Body) (ds : List Due) (ts vs xs ys us : List Token) → AreParameters ts ns vs → Mark k.TagEnd vs xs → AreStmts depth xs b ys → IsEndTag ys n us → accepts (d.slot_tag depth n ∷ ds) ts ≡ accepts ds us
slot_pass depth bodies n ns b ds ts vs xs ys us (inl (e, f)) m are t =
    ap (accepts (d.slot_tag depth n ∷ ds)) e ∙ passes_token (d.slot_tag depth n) ds (d.content depth (d.tag n) ∷ []) m.0 vs xs m.1 (tag_end_due depth n m.0 m.2) ∙ tagged_pass depth bodies n ds xs us (b, (ys, are, t))
slot_pass depth bodies n ns b ds ts vs xs ys us (inr p) m are t =
    passes_token (d.slot_tag depth n) ds (d.kind k.TagEnd ∷ d.content depth (d.tag n) ∷ []) p.0 ts vs p.1 (names_due depth n p.0 p.2)
    ∙ passes_kind k.TagEnd (d.content depth (d.tag n) ∷ ds) vs xs m ∙ tagged_pass depth bodies n ds xs us (b, (ys, are, t))

no_more_taken : (b c : Bool) → (not b && c) ≡ true → (b ≡ false) × (c ≡ true)
no_more_taken true c e = never e
no_more_taken false c e = (refl, e)

-- the blocks after some of these names, and the end tag
slots_pass : (depth : ℕ) → PassBody depth → (n : Text) (ss : Slots) (taken : List Text) (ds : List Due) (ts vs us : List Token) → are_new taken (slot_names ss) ≡ true → AreSlots (suc depth) ts ss vs → IsEndTag vs n us → accepts (d.slots (suc depth) n taken ∷ ds) ts ≡ accepts ds us
slots_pass depth bodies n no_slots taken ds ts vs us new e t =
    over_gaps (d.slots (suc depth) n taken) (later_gap (suc depth) n taken) ds ts ∙ ap (accepts (d.slots (suc depth) n taken ∷ ds)) e
    ∙ passes_token (d.slots (suc depth) n taken) ds [] t.0 vs us t.1 (slots_end_due (suc depth) n taken t.0 t.2 t.3)
slots_pass depth bodies n (block m ns b ss) taken ds ts vs us new (ws, (x1, x2, x3, x4, o, params, mark, are, closing), more) t =
    let apart = no_more_taken (has_text m taken) (are_new (taken ++ m ∷ []) (slot_names ss)) new in
    over_gaps (d.slots (suc depth) n taken) (later_gap (suc depth) n taken) ds ts
    ∙ passes_token (d.slots (suc depth) n taken) ds (d.slot_tag depth (58 ∷ m) ∷ d.slots (suc depth) n (taken ++ m ∷ []) ∷ []) o.0 (after_gaps ts) x1 o.1 (later_due depth n m taken o.0 o.2 o.3 apart.0)
    ∙ slot_pass depth bodies (58 ∷ m) ns b (d.slots (suc depth) n (taken ++ m ∷ []) ∷ ds) x1 x2 x3 x4 ws params mark are closing
    ∙ slots_pass depth bodies n ss (taken ++ m ∷ []) ds ws vs us apart.1 more t

own_pass : (depth : ℕ) → PassBody depth → (n : Text) (ss : Slots) (ds : List Due) (ts vs us : List Token) → IsOwnBlock depth [] ts ss vs → IsEndTag vs n us → accepts (d.filling depth n ∷ ds) ts ≡ accepts ds us
own_pass depth bodies n (block x params b no_slots) ds ts vs us (e, f, are) t =
    filling_content depth n ds ts (stmts_no_next depth ts b vs are (end_tag_no_next vs n us t)) ∙ tagged_pass depth bodies n ds ts us (b, (vs, are, t))
own_pass depth bodies n ss ds ts vs us h t = absurd h

none_filled : PassBody zero → PassesFilled zero
none_filled bodies n ds ts us (ss, (vs, inl own, t)) = own_pass zero bodies n ss ds ts vs us own t
none_filled bodies n ds ts us (no_slots, (vs, inr (none, some, new, h), t)) = never some
none_filled bodies n ds ts us (block m ns b ss, (vs, inr (none, some, new, h), t)) = absurd h

some_filled : (depth : ℕ) → PassBody depth → PassBody (suc depth) → PassesFilled (suc depth)
some_filled depth bodies more n ds ts us (ss, (vs, inl own, t)) = own_pass (suc depth) more n ss ds ts vs us own t
some_filled depth bodies more n ds ts us (no_slots, (vs, inr (none, some, new, h), t)) = never some
some_filled depth bodies more n ds ts us (block m ns b ss, (vs, inr (none, some, new, (ws, (x1, x2, x3, x4, o, params, mark, are, closing), next)), t)) =
    over_gaps (d.filling (suc depth) n) (gap_due (suc depth) n) ds ts
    ∙ passes_token (d.filling (suc depth) n) ds (d.slot_tag depth (58 ∷ m) ∷ d.slots (suc depth) n (m ∷ []) ∷ []) o.0 (after_gaps ts) x1 o.1 (first_due depth n m o.0 o.2 o.3)
    ∙ slot_pass depth bodies (58 ∷ m) ns b (d.slots (suc depth) n (m ∷ []) ∷ ds) x1 x2 x3 x4 ws params mark are closing
    ∙ slots_pass depth bodies n ss (m ∷ []) ds ws vs us new next t

-- all at every depth
record AllPass (depth : ℕ) : Type 0 where
  stmts : PassStmt depth
  heads : PassChained depth
  filled : PassesFilled depth

all_pass : (depth : ℕ) → AllPass depth
all_pass zero = record { stmts = none_pass; heads = no_head; filled = none_filled (λ stop ds ts b us h. body_pass zero none_pass b stop ds ts us h) }
all_pass (suc depth) =
    let p = all_pass depth in
    let bodies : PassBody depth = λ stop ds ts b us h. body_pass depth p.stmts b stop ds ts us h in
    let stmts : PassStmt (suc depth) = some_pass depth bodies p.heads p.filled in
    record {
      stmts = stmts;
      heads = heads_pass depth bodies p.heads;
      filled = some_filled depth bodies (λ stop ds ts b us h. body_pass (suc depth) stmts b stop ds ts us h);
    }

-- statements meet what is due for content, which is due still after them
pub passes_body : (depth : ℕ) → PassBody depth
passes_body depth stop ds ts b us h = body_pass depth (all_pass depth).stmts b stop ds ts us h
