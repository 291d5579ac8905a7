-- What meets the due of content is spelled: statements, and what ends them.
use Rattle.std.proofs.Common.{◌≡◌, ◌⊎◌, ◌≤◌, ◌-◌, ℕ, zero, suc, List, [], ◌∷◌, ◌++◌, Bool, true, false, not, ◌||◌, inl, inr, Option, Some, None, length, refl, sym, ap, ◌∙◌, subst, arith}
use Rattle.std.specs.Prelude.{if◌then◌else◌, codes, ◌==◌, is_some, ◌&&◌}
use Rattle.std.specs.Str.{bytes_eq}
use Rattle.gl_base.specs.Names.{has_text}
use Rattle.std.proofs.lemmas.Bool.Decides.{nat_tests}
use Rattle.gl_base.specs.Texts.{Text}
use Rattle.gl_ast.specs.Grammar.{deepest_calls, Mark, IsExpr, AreItems, parts_among, arguments_among, AreParameters, IsEndTag, IsClosing, if_word, is_silent, after_silent, is_gap, are_new, slot_names, is_some_slot, IsSlot, AreSlots, AreStmts, IsStmt, IsChained}
use Rattle.gl_ast.specs.Marks.{is_small, is_capital}
use Rattle.gl_ast.specs.Template.{Expr, Exprs, expr, Stmt, text_stmt, comment_stmt, put, element, component_stmt, if_stmt, each, let_stmt, yield, Body, end, stmt, Slots, no_slots, block}
use Rattle.gl_ast.specs.TokenText.{decoded, comment_of, end_name_of, parameters_of, leads}
use Rattle.gl_ast.specs.declared.token.Token.{Token}
use Rattle.gl_ast.specs.declared.token.TokenKind.TheVariants as k
use Rattle.gl_exprs.specs.Take.{same_kind}
use Rattle.gl_exprs.proofs.Firsts.{same_kind-is}
use Rattle.gl_exprs.proofs.FirstTokens.{and_true, bytes_eq_is}
use Rattle.gl_parse.specs.Due as d
use Rattle.gl_parse.specs.Due.{Due, Dues, Stop, and_then, due_after, is_path_word, is_flat, is_end_of, takes_closing, takes_else, after_opening, starts_inner, starts_nested, starts_content, starts_opened, starts_head, starts_chained, starts_after_else, starts_filling, starts_slots, starts_slot_tag, slot_due, test_head, each_head, let_head}
use Rattle.gl_parse.specs.ReadStmt.{only, word_of, slot_name, is_slot_opening}
use Rattle.gl_parse.proofs.Accepts.{accepts, fed, accepts_step}
use Rattle.gl_parse.proofs.BlockLaws.{IsOtherwise, IsHead, block_stmt}
use Rattle.gl_parse.proofs.ContentWays.{is_left, one_less, silent_flat, gap_flat}
use Rattle.gl_parse.proofs.Falls.{stmt_falls, body_falls, slot_falls}
use Rattle.gl_parse.proofs.Gaps.{skip_gap, no_gap}
use Rattle.gl_parse.proofs.Labels.{slot_name_is}
use Rattle.gl_parse.proofs.HeadWays.{KeyTo, finds_key, ValuesTo, finds_values_to}
use Rattle.gl_parse.proofs.ItemLaws.{allowed_parts}
use Rattle.gl_parse.proofs.TagWays.{Tagged, Tag, Filled, FindsTagged, FindsFilled, finds_tag}
use Rattle.gl_parse.proofs.Ways.{Found, Finds, never, came, fed_if, fed_more, mark_of, finds_kind, word_is, finds_word, finds_expr, Inner, finds_inner, Values, finds_values}

abbrev Closed : Text → List Token → List Token → Type 0
Closed w ts us = IsClosing ts w us

abbrev ClosedElse : ℕ → Text → List Token → List Token → Type 0
ClosedElse depth w ts us = (c : Body) × ((zs : List Token) × IsOtherwise depth ts c zs × IsClosing zs w us)

abbrev EndTagged : Text → List Token → List Token → Type 0
EndTagged n ts us = IsEndTag ts n us

-- what ends statements, and the rest
abbrev pub Ends : ℕ → Stop → List Due → List Token → Type 0
Ends depth d.whole ds us = us ≡ []
Ends depth (d.tag n) ds us = Found (EndTagged n) ds us
Ends depth (d.block w false) ds us = Found (Closed w) ds us
Ends depth (d.block w true) ds us = Found (ClosedElse depth w) ds us

-- statements and what ends them
abbrev pub Content : ℕ → Stop → List Due → List Token → Type 0
Content depth stop ds ts = (b : Body) × ((us : List Token) × AreStmts depth ts b us × Ends depth stop ds us)

abbrev pub FindBody : ℕ → Type 0
FindBody depth = (stop : Stop) (ds : List Due) (ts : List Token) → accepts (d.content depth stop ∷ ds) ts ≡ true → Content depth stop ds ts

-- for no more than so many tokens
abbrev FindWithin : ℕ → ℕ → Type 0
FindWithin depth n = (stop : Stop) (ds : List Due) (ts : List Token) → length ts ≤ n → accepts (d.content depth stop ∷ ds) ts ≡ true → Content depth stop ds ts

-- a block that an else has as its head, and the end of the block round it
abbrev Chained : ℕ → Text → List Token → List Token → Type 0
Chained depth w ts us = (c : Body) × ((zs : List Token) × IsChained depth ts c zs × IsClosing zs w us)

abbrev FindChained : ℕ → Type 0
FindChained depth = (w : Text) (ds : List Due) (t : Token) (ts : List Token) → fed (if depth == 0 then None else starts_chained w (depth - 1) t) ds ts ≡ true → Found (Chained depth w) ds (t ∷ ts)

-- What comes before further statements.

silent_more : (depth : ℕ) (stop : Stop) (ds : List Due) (t : Token) (ts : List Token) → is_silent t ≡ true → Content depth stop ds ts → Content depth stop ds (t ∷ ts)
silent_more depth stop ds t ts e (end, (us, are, ends)) = let same : after_silent (t ∷ ts) ≡ after_silent ts = rw e refl in (end, (us, same ∙ are, ends))
silent_more depth stop ds t ts e (stmt s b, (us, (vs, is, are), ends)) =
    let same : after_silent ts ≡ after_silent (t ∷ ts) = rw e refl in
    (stmt s b, (us, (vs, subst (λ l. IsStmt depth l s vs) same is, are), ends))

stmt_more : (depth : ℕ) (stop : Stop) (ds : List Due) (t : Token) (ts : List Token) (s : Stmt) (vs : List Token) → is_silent t ≡ false → IsStmt depth (t ∷ ts) s vs → Content depth stop ds vs → Content depth stop ds (t ∷ ts)
stmt_more depth stop ds t ts s vs e is (b, (us, are, ends)) =
    let same : t ∷ ts ≡ after_silent (t ∷ ts) = rw e refl in
    (stmt s b, (us, (vs, subst (λ l. IsStmt depth l s vs) same is, are), ends))

ends_here : (depth : ℕ) (stop : Stop) (ds : List Due) (t : Token) (ts : List Token) → is_silent t ≡ false → Ends depth stop ds (t ∷ ts) → Content depth stop ds (t ∷ ts)
ends_here depth stop ds t ts e ends = let same : after_silent (t ∷ ts) ≡ t ∷ ts = rw e refl in (end, (t ∷ ts, same, ends))

no_tokens : (depth : ℕ) (stop : Stop) (ds : List Due) → accepts (d.content depth stop ∷ ds) [] ≡ true → Content depth stop ds []
no_tokens depth d.whole ds h = (end, ([], refl, refl))
no_tokens depth (d.tag n) ds h = never h
no_tokens depth (d.block w o) ds h = never h

-- a statement, and then more
then_more : (depth n : ℕ) → FindWithin depth n → (stop : Stop) (ds : List Due) (t : Token) (ts : List Token) → length (t ∷ ts) ≤ suc n → is_silent t ≡ false → (s : Stmt) (vs : List Token) → IsStmt depth (t ∷ ts) s vs → accepts (d.content depth stop ∷ ds) vs ≡ true → Content depth stop ds (t ∷ ts)
then_more depth n next stop ds t ts l e s vs is g =
    let f = stmt_falls depth (t ∷ ts) s vs is in
    stmt_more depth stop ds t ts s vs e is (next stop ds vs (omega (arith, l, f)) g)

not_silent : (t : Token) → is_flat t ≡ false → is_silent t ≡ false
not_silent t e = by_token (is_silent t) refl where
  by_token : (b : Bool) → is_silent t ≡ b → is_silent t ≡ false
  by_token true f = never (sym e ∙ silent_flat t f)
  by_token false f = f

flat_text : (depth : ℕ) (t : Token) (ts : List Token) → t.kind ≡ k.Text → IsStmt depth (t ∷ ts) (text_stmt (decoded t.text)) ts
flat_text depth t ts e = (t, refl, e, refl)

flat_comment : (depth : ℕ) (t : Token) (ts : List Token) → t.kind ≡ k.HtmlComment → IsStmt depth (t ∷ ts) (comment_stmt (comment_of t.text)) ts
flat_comment depth t ts e = (t, refl, e, refl)

flat_stmt : (depth : ℕ) (t : Token) (ts : List Token) → is_flat t ≡ true → is_silent t ≡ false → (s : Stmt) × IsStmt depth (t ∷ ts) s ts
flat_stmt depth t ts e f = by_kind (same_kind t.kind k.Text) (same_kind t.kind k.HtmlComment) (same_kind t.kind k.MustacheComment) refl refl refl e where
  by_kind : (a b c : Bool) → same_kind t.kind k.Text ≡ a → same_kind t.kind k.HtmlComment ≡ b → same_kind t.kind k.MustacheComment ≡ c → (a || b || c) ≡ true → (s : Stmt) × IsStmt depth (t ∷ ts) s ts
  by_kind true b c g h i j = (text_stmt (decoded t.text), flat_text depth t ts (same_kind-is t.kind k.Text g))
  by_kind false true c g h i j = (comment_stmt (comment_of t.text), flat_comment depth t ts (same_kind-is t.kind k.HtmlComment h))
  by_kind false false true g h i j = let silent : is_silent t ≡ true = rw (same_kind-is t.kind k.MustacheComment i) refl in never (sym f ∙ silent)
  by_kind false false false g h i j = never j

flat_found : (depth n : ℕ) → FindWithin depth n → (stop : Stop) (ds : List Due) (t : Token) (ts : List Token) → length (t ∷ ts) ≤ suc n → is_flat t ≡ true → accepts (d.content depth stop ∷ ds) ts ≡ true → Content depth stop ds (t ∷ ts)
flat_found depth n next stop ds t ts l e g = by_token (is_silent t) refl where
  by_token : (b : Bool) → is_silent t ≡ b → Content depth stop ds (t ∷ ts)
  by_token true f = silent_more depth stop ds t ts f (next stop ds ts (omega (arith, l)) g)
  by_token false f = let s = flat_stmt depth t ts e f in stmt_more depth stop ds t ts s.0 ts f s.1 (next stop ds ts (omega (arith, l)) g)

-- The ends of statements.

closing_found : (w : Text) (ds : List Due) (t : Token) (ts : List Token) → same_kind t.kind k.OpenClosing ≡ true → accepts (d.word w ∷ d.kind k.CloseMustache ∷ ds) ts ≡ true → Found (Closed w) ds (t ∷ ts)
closing_found w ds t ts s h =
    let x = finds_word w (d.kind k.CloseMustache ∷ ds) ts h in
    let y = finds_kind k.CloseMustache ds x.0 x.2 in
    (y.0, (ts, x.0, mark_of k.OpenClosing t ts s, x.1, y.1), y.2)

closing_ends : (depth : ℕ) (stop : Stop) (ds : List Due) (t : Token) (ts : List Token) → same_kind t.kind k.OpenClosing ≡ true → fed (takes_closing stop) ds ts ≡ true → Ends depth stop ds (t ∷ ts)
closing_ends depth d.whole ds t ts s h = never h
closing_ends depth (d.tag n) ds t ts s h = never h
closing_ends depth (d.block w false) ds t ts s h = closing_found w ds t ts s h
closing_ends depth (d.block w true) ds t ts s h = let x = closing_found w ds t ts s h in (x.0, (end, (t ∷ ts, inl (refl, refl), x.1)), x.2)

end_tag_ends : (depth : ℕ) (stop : Stop) (ds : List Due) (t : Token) (ts : List Token) → same_kind t.kind k.EndTag ≡ true → is_end_of stop t ≡ true → accepts ds ts ≡ true → Ends depth stop ds (t ∷ ts)
end_tag_ends depth d.whole ds t ts s e h = never e
end_tag_ends depth (d.tag n) ds t ts s e h = (ts, (t, refl, same_kind-is t.kind k.EndTag s, bytes_eq_is (end_name_of t.text) n e), h)
end_tag_ends depth (d.block w o) ds t ts s e h = never e

-- what follows an else, and the end of its block
abbrev AfterElse : ℕ → Text → List Token → List Token → Type 0
AfterElse depth w ts us = (c : Body) × ((zs : List Token) × (((xs : List Token) × Mark k.CloseMustache ts xs × AreStmts depth xs c zs) ⊎ IsChained depth ts c zs) × IsClosing zs w us)

after_else_found : (depth n : ℕ) → FindWithin depth n → FindChained depth → (w : Text) (ds : List Due) (ts : List Token) → length ts ≤ n → accepts (d.after_else depth w ∷ ds) ts ≡ true → Found (AfterElse depth w) ds ts
unfolding due_after starts_after_else
after_else_found depth n next chained w ds [] l h = never h
after_else_found depth n next chained w ds (t ∷ ts) l h =
    elim (fed_if (same_kind t.kind k.CloseMustache) (Some (d.content depth (d.block w false) ∷ [])) (if depth == 0 then None else starts_chained w (depth - 1) t) ds ts (came (d.after_else depth w) ds t ts h)) [
      | inl p ↦ by_body p.0 (next (d.block w false) ds ts (omega (arith, l)) p.1)
      | inr p ↦ by_head (chained w ds t ts p.1)
    ] where
      by_body : same_kind t.kind k.CloseMustache ≡ true → Content depth (d.block w false) ds ts → Found (AfterElse depth w) ds (t ∷ ts)
      by_body e (c, (zs, are, (us, closing, g))) = (us, (c, (zs, inl (ts, mark_of k.CloseMustache t ts e, are), closing)), g)

      by_head : Found (Chained depth w) ds (t ∷ ts) → Found (AfterElse depth w) ds (t ∷ ts)
      by_head (us, (c, (zs, is, closing)), g) = (us, (c, (zs, inr is, closing)), g)

-- an else after `{{`
else_ends : (depth n : ℕ) → FindWithin depth n → FindChained depth → (stop : Stop) (ds : List Due) (t u : Token) (us : List Token) → length us ≤ n → same_kind t.kind k.OpenMustache ≡ true → is_path_word (codes "else") u ≡ true → fed (takes_else depth stop) ds us ≡ true → Ends depth stop ds (t ∷ u ∷ us)
else_ends depth n next chained d.whole ds t u us l s e h = never h
else_ends depth n next chained (d.tag x) ds t u us l s e h = never h
else_ends depth n next chained (d.block w false) ds t u us l s e h = never h
else_ends depth n next chained (d.block w true) ds t u us l s e h =
    let x = after_else_found depth n next chained w ds us l h in
    (x.0, (x.1.0, (x.1.1.0, inr (u ∷ us, us, mark_of k.OpenMustache t (u ∷ us) s, word_is (codes "else") u us e, x.1.1.1), x.1.1.2)), x.2)

-- Mustaches.

opened_found : (depth n : ℕ) → FindWithin depth n → FindChained depth → (stop : Stop) (ds : List Due) (t : Token) (ts : List Token) → length (t ∷ ts) ≤ suc n → same_kind t.kind k.OpenMustache ≡ true → is_silent t ≡ false → accepts (d.opened depth stop ∷ ds) ts ≡ true → Content depth stop ds (t ∷ ts)
unfolding due_after starts_opened
opened_found depth n next chained stop ds t [] l s e h = never h
opened_found depth n next chained stop ds t (u ∷ us) l s e h =
    elim (fed_if (is_path_word (codes "else") u) (takes_else depth stop) _ ds us (came (d.opened depth stop) ds u us h)) [
      | inl p ↦ ends_here depth stop ds t (u ∷ us) e (else_ends depth n next chained stop ds t u us (omega (arith, l)) s p.0 p.1)
      | inr p ↦ elim (fed_if (is_path_word (codes "yield") u) (Some (d.values ∷ d.content depth stop ∷ [])) (and_then (d.content depth stop) (starts_inner u)) ds us p.1) [
        | inl q ↦ by_values q.0 (finds_values (d.content depth stop ∷ ds) us q.1)
        | inr q ↦ by_inner (finds_inner (d.content depth stop ∷ ds) (u ∷ us) (accepts_step d.inner (d.content depth stop ∷ ds) u us ∙ fed_more (d.content depth stop) (starts_inner u) ds us q.1))
      ]
    ] where
      by_values : is_path_word (codes "yield") u ≡ true → Found Values (d.content depth stop ∷ ds) us → Content depth stop ds (t ∷ u ∷ us)
      by_values f (vs, (es, to, (xs, ys, are, to_is, m)), g) =
          then_more depth n next stop ds t (u ∷ us) l e (yield es to) vs (u ∷ us, us, xs, ys, mark_of k.OpenMustache t (u ∷ us) s, word_is (codes "yield") u us f, are, to_is, m) g

      by_inner : Found Inner (d.content depth stop ∷ ds) (u ∷ us) → Content depth stop ds (t ∷ u ∷ us)
      by_inner (vs, (x, (xs, is, m)), g) = then_more depth n next stop ds t (u ∷ us) l e (put x) vs (u ∷ us, xs, mark_of k.OpenMustache t (u ∷ us) s, is, m) g

-- Blocks from their word on, up to the end of the block round them.

abbrev HeadTo : (Stmt → Text) → ℕ → List Token → List Token → Type 0
HeadTo word depth ts us = (s : Stmt) × ((zs : List Token) × IsHead (suc depth) ts s zs × IsClosing zs (word s) us)

if_found : (depth : ℕ) → FindBody depth → (word : Stmt → Text) (w : Text) (unless : Bool) → ((e : Expr) (b c : Body) → w ≡ word (if_stmt e unless b c)) → (ds : List Due) (t : Token) (ts : List Token) → is_path_word (if_word unless) t ≡ true → fed (test_head depth w) ds ts ≡ true → Found (HeadTo word depth) ds (t ∷ ts)
if_found depth bodies word w unless same ds t ts e h =
    let x = finds_expr (d.kind k.CloseMustache ∷ d.content depth (d.block w true) ∷ ds) ts h in
    let y = finds_kind k.CloseMustache (d.content depth (d.block w true) ∷ ds) x.0 x.2 in
    done x.1.0 x.0 y.0 x.1.1 y.1 (bodies (d.block w true) ds y.0 y.2) where
      done : (x : Expr) (vs xs : List Token) → IsExpr deepest_calls ts x vs → Mark k.CloseMustache vs xs → Content depth (d.block w true) ds xs → Found (HeadTo word depth) ds (t ∷ ts)
      done x vs xs is m (b, (ys, are, (us, (c, (zs, other, closing)), g))) =
          (us, (if_stmt x unless b c, (zs, (ts, vs, xs, ys, word_is (if_word unless) t ts e, is, m, are, other), subst (λ v. IsClosing zs v us) (same x b c) closing)), g)

each_found : (depth : ℕ) → FindBody depth → (word : Stmt → Text) (w : Text) → ((e : Expr) (key : Text) (ns : List Text) (b c : Body) → w ≡ word (each e key ns b c)) → (ds : List Due) (t : Token) (ts : List Token) → is_path_word (codes "each") t ≡ true → fed (each_head depth w) ds ts ≡ true → Found (HeadTo word depth) ds (t ∷ ts)
each_found depth bodies word w same ds t ts e h =
    let x = finds_expr (d.each_key depth (d.block w true) ∷ ds) ts h in
    let y = finds_key depth (d.block w true) ds x.0 x.2 in
    done x.1.0 x.0 y.0 x.1.1 y.1 (bodies (d.block w true) ds y.0 y.2) where
      done : (x : Expr) (vs xs : List Token) → IsExpr deepest_calls ts x vs → KeyTo vs xs → Content depth (d.block w true) ds xs → Found (HeadTo word depth) ds (t ∷ ts)
      done x vs xs is (key, (v1, keyed, (ns, (v2, params, two, m)))) (b, (ys, are, (us, (c, (zs, other, closing)), g))) =
          (us, (each x key ns b c, (zs, (two, (ts, vs, v1, v2, xs, ys, word_is (codes "each") t ts e, is, keyed, params, m, are, other)), subst (λ v. IsClosing zs v us) (same x key ns b c) closing)), g)

let_found : (depth : ℕ) → FindBody depth → (word : Stmt → Text) (w : Text) → ((es : Exprs) (ns : List Text) (b : Body) → w ≡ word (let_stmt es ns b)) → (ds : List Due) (t : Token) (ts : List Token) → is_path_word (codes "let") t ≡ true → fed (let_head depth w) ds ts ≡ true → Found (HeadTo word depth) ds (t ∷ ts)
let_found depth bodies word w same ds t ts e h =
    let x = finds_values_to depth (d.block w false) ds ts h in
    done x.0 x.1 (bodies (d.block w false) ds x.0 x.2) where
      done : (xs : List Token) → ValuesTo ts xs → Content depth (d.block w false) ds xs → Found (HeadTo word depth) ds (t ∷ ts)
      done xs (x, es, (vs, are, (ns, (ws, params, m)))) (b, (zs, body, (us, closing, g))) =
          (us, (let_stmt (expr x es) ns b, (zs, (refl, (ts, vs, ws, xs, word_is (codes "let") t ts e, are, params, m, body)), subst (λ v. IsClosing zs v us) (same (expr x es) ns b) closing)), g)

head_found : (depth : ℕ) → FindBody depth → Finds (d.head depth) (HeadTo word_of depth)
unfolding due_after starts_head
head_found depth bodies ds [] h = never h
head_found depth bodies ds (t ∷ ts) h =
    elim (fed_if (is_path_word (codes "if") t) (test_head depth (codes "if")) _ ds ts (came (d.head depth) ds t ts h)) [
      | inl p ↦ if_found depth bodies word_of (codes "if") false (λ e b c. refl) ds t ts p.0 p.1
      | inr p ↦ elim (fed_if (is_path_word (codes "unless") t) (test_head depth (codes "unless")) _ ds ts p.1) [
        | inl q ↦ if_found depth bodies word_of (codes "unless") true (λ e b c. refl) ds t ts q.0 q.1
        | inr q ↦ elim (fed_if (is_path_word (codes "each") t) (each_head depth (codes "each")) _ ds ts q.1) [
          | inl r ↦ each_found depth bodies word_of (codes "each") (λ e key ns b c. refl) ds t ts r.0 r.1
          | inr r ↦ elim (fed_if (is_path_word (codes "let") t) (let_head depth (codes "let")) None ds ts r.1) [ inl s ↦ let_found depth bodies word_of (codes "let") (λ es ns b. refl) ds t ts s.0 s.1 | inr s ↦ never s.1 ]
        ]
      ]
    ]

either : (a b : Bool) → (a || b) ≡ true → (a ≡ true) ⊎ (b ≡ true)
either true b e = inl refl
either false b e = inr e

starts_found : (depth : ℕ) → FindBody depth → (w : Text) (ds : List Due) (t : Token) (ts : List Token) → fed (starts_chained w depth t) ds ts ≡ true → Found (HeadTo (λ s. w) depth) ds (t ∷ ts)
unfolding starts_chained
starts_found depth bodies w ds t ts h =
    elim (fed_if (is_path_word (codes "if") t || is_path_word (codes "unless") t) (test_head depth w) _ ds ts h) [
      | inl p ↦ by_test (either (is_path_word (codes "if") t) (is_path_word (codes "unless") t) p.0) p.1
      | inr p ↦ elim (fed_if (is_path_word (codes "each") t) (each_head depth w) _ ds ts p.1) [
        | inl q ↦ each_found depth bodies (λ s. w) w (λ e key ns b c. refl) ds t ts q.0 q.1
        | inr q ↦ elim (fed_if (is_path_word (codes "let") t) (let_head depth w) None ds ts q.1) [ inl r ↦ let_found depth bodies (λ s. w) w (λ es ns b. refl) ds t ts r.0 r.1 | inr r ↦ never r.1 ]
      ]
    ] where
      by_test : (is_path_word (codes "if") t ≡ true) ⊎ (is_path_word (codes "unless") t ≡ true) → fed (test_head depth w) ds ts ≡ true → Found (HeadTo (λ s. w) depth) ds (t ∷ ts)
      by_test (inl e) g = if_found depth bodies (λ s. w) w false (λ x b c. refl) ds t ts e g
      by_test (inr e) g = if_found depth bodies (λ s. w) w true (λ x b c. refl) ds t ts e g

chained_found : (depth : ℕ) → FindBody depth → FindChained (suc depth)
chained_found depth bodies w ds t ts h =
    let same : (if suc depth == 0 then None else starts_chained w (suc depth - 1) t) ≡ starts_chained w depth t = rw (is_left depth, one_less depth) refl in
    let x = starts_found depth bodies w ds t ts (subst (λ o. fed o ds ts ≡ true) same h) in
    (x.0, (only x.1.0, (x.1.1.0, x.1.1.1, x.1.1.2)), x.2)

no_chained : FindChained zero
no_chained w ds t ts h = never h

-- Statements with others in them.

-- a statement, and then content as before
abbrev Nested : ℕ → Stop → List Due → List Token → Type 0
Nested depth stop ds ts = (s : Stmt) × ((us : List Token) × IsStmt depth ts s us × (accepts (d.content depth stop ∷ ds) us ≡ true))

abbrev FindNested : ℕ → Type 0
FindNested depth = (stop : Stop) (ds : List Due) (t : Token) (ts : List Token) → (same_kind t.kind k.OpenBlock || same_kind t.kind k.TagOpening) ≡ true → fed (starts_nested depth stop t) ds ts ≡ true → Nested depth stop ds (t ∷ ts)

tagged_found : (depth : ℕ) → FindBody depth → FindsTagged depth
tagged_found depth bodies n ds ts h = by_content (bodies (d.tag n) ds ts h) where
  by_content : Content depth (d.tag n) ds ts → Found (Tagged depth n) ds ts
  by_content (b, (vs, are, (us, e, g))) = (us, (b, (vs, are, e)), g)

component_found : (depth : ℕ) (stop : Stop) (ds : List Due) (t : Token) (ts : List Token) (n : Text) → t.kind ≡ k.TagOpening → t.text ≡ 60 ∷ n → leads is_capital n ≡ true → Found (Tag true n depth) (d.content (suc depth) stop ∷ ds) ts → Nested (suc depth) stop ds (t ∷ ts)
component_found depth stop ds t ts n e f c (us, (is, (ws, are, a, (ns, ss, (xs, params, r)))), g) =
    (component_stmt n (parts_among is) (arguments_among is) ss, (us, (is, ns, (ts, ws, xs, (t, refl, e, (f, c)), are, refl, refl, params, r)), g))

element_found : (depth : ℕ) (stop : Stop) (ds : List Due) (t : Token) (ts : List Token) (n : Text) → t.kind ≡ k.TagOpening → t.text ≡ 60 ∷ n → leads is_small n ≡ true → Found (Tag false n depth) (d.content (suc depth) stop ∷ ds) ts → Nested (suc depth) stop ds (t ∷ ts)
element_found depth stop ds t ts n e f c (us, (is, (ws, are, a, (b, r))), g) =
    (element n (parts_among is) b, (us, (ts, ws, (t, refl, e, (f, c)), subst (λ l. AreItems ts l ws) (sym (allowed_parts is a)) are, r), g))

pub sign_is : (c : ℕ) → not (c == 60) ≡ false → c ≡ 60
sign_is c e = grind (arith, nat_tests)

tag_opened : (depth : ℕ) → FindBody depth → FindsFilled depth → (stop : Stop) (ds : List Due) (t : Token) (ts : List Token) (x : Text) → t.kind ≡ k.TagOpening → t.text ≡ x → fed (after_opening depth x) (d.content (suc depth) stop ∷ ds) ts ≡ true → Nested (suc depth) stop ds (t ∷ ts)
unfolding after_opening
tag_opened depth bodies filled stop ds t ts [] e f h = never h
tag_opened depth bodies filled stop ds t ts (c ∷ n) e f h =
    elim (fed_if (not (c == 60)) None _ (d.content (suc depth) stop ∷ ds) ts h) [
      | inl p ↦ never p.1
      | inr p ↦ elim (fed_if (leads is_capital n) (Some (d.items n true depth ∷ [])) _ (d.content (suc depth) stop ∷ ds) ts p.1) [
        | inl q ↦ component_found depth stop ds t ts n e (f ∙ ap (λ y. y ∷ n) (sign_is c p.0)) q.0 (finds_tag true n depth (tagged_found depth bodies) filled (d.content (suc depth) stop ∷ ds) ts q.1)
        | inr q ↦ elim (fed_if (leads is_small n) (Some (d.items n false depth ∷ [])) None (d.content (suc depth) stop ∷ ds) ts q.1) [
          | inl r ↦ element_found depth stop ds t ts n e (f ∙ ap (λ y. y ∷ n) (sign_is c p.0)) r.0 (finds_tag false n depth (tagged_found depth bodies) filled (d.content (suc depth) stop ∷ ds) ts r.1)
          | inr r ↦ never r.1
        ]
      ]
    ]

block_opened : (depth : ℕ) → FindBody depth → (stop : Stop) (ds : List Due) (t : Token) (ts : List Token) → same_kind t.kind k.OpenBlock ≡ true → accepts (d.head depth ∷ d.content (suc depth) stop ∷ ds) ts ≡ true → Nested (suc depth) stop ds (t ∷ ts)
block_opened depth bodies stop ds t ts e h = by_head (head_found depth bodies (d.content (suc depth) stop ∷ ds) ts h) where
  by_head : Found (HeadTo word_of depth) (d.content (suc depth) stop ∷ ds) ts → Nested (suc depth) stop ds (t ∷ ts)
  by_head (us, (s, (zs, is, closing)), g) = (s, (us, block_stmt depth (t ∷ ts) s us (ts, zs, mark_of k.OpenBlock t ts e, is, closing), g))

nested_found : (depth : ℕ) → FindBody depth → FindsFilled depth → FindNested (suc depth)
unfolding starts_nested
nested_found depth bodies filled stop ds t ts e h =
    let same : (if suc depth == 0 then None else and_then (d.content (suc depth) stop) (if same_kind t.kind k.OpenBlock then Some (d.head (suc depth - 1) ∷ []) else after_opening (suc depth - 1) t.text))
    ≡ and_then (d.content (suc depth) stop) (if same_kind t.kind k.OpenBlock then Some (d.head depth ∷ []) else after_opening depth t.text) = rw (is_left depth, one_less depth) refl in
    let g = fed_more (d.content (suc depth) stop) (if same_kind t.kind k.OpenBlock then Some (d.head depth ∷ []) else after_opening depth t.text) ds ts (subst (λ o. fed o ds ts ≡ true) same h) in
    elim (fed_if (same_kind t.kind k.OpenBlock) (Some (d.head depth ∷ [])) (after_opening depth t.text) (d.content (suc depth) stop ∷ ds) ts g) [
      | inl p ↦ block_opened depth bodies stop ds t ts p.0 p.1
      | inr p ↦ tag_opened depth bodies filled stop ds t ts t.text (same_kind-is t.kind k.TagOpening (sym (ap (λ b. b || same_kind t.kind k.TagOpening) p.0) ∙ e)) refl p.1
    ]

no_nested : FindNested zero
unfolding starts_nested
no_nested stop ds t ts e h = never h

-- Content.

content_found : (depth : ℕ) → FindNested depth → FindChained depth → (n : ℕ) → FindWithin depth n
unfolding due_after starts_content
content_found depth nested chained n stop ds [] l h = no_tokens depth stop ds h
content_found depth nested chained zero stop ds (t ∷ ts) l h = absurd (omega (arith, l))
content_found depth nested chained (suc n) stop ds (t ∷ ts) l h =
    elim (fed_if (is_flat t) (Some (d.content depth stop ∷ [])) _ ds ts (came (d.content depth stop) ds t ts h)) [
      | inl p ↦ flat_found depth n (content_found depth nested chained n) stop ds t ts l p.0 p.1
      | inr p ↦ elim (fed_if (same_kind t.kind k.OpenMustache) (Some (d.opened depth stop ∷ [])) _ ds ts p.1) [
        | inl q ↦ opened_found depth n (content_found depth nested chained n) chained stop ds t ts l q.0 (not_silent t p.0) q.1
        | inr q ↦ elim (fed_if (same_kind t.kind k.OpenBlock || same_kind t.kind k.TagOpening) (starts_nested depth stop t) _ ds ts q.1) [
          | inl r ↦ let x = nested stop ds t ts r.0 r.1 in then_more depth n (content_found depth nested chained n) stop ds t ts l (not_silent t p.0) x.0 x.1.0 x.1.1 x.1.2
          | inr r ↦ ends_here depth stop ds t ts (not_silent t p.0) (by_end r.1)
        ]
      ]
    ] where
      by_end : fed (if same_kind t.kind k.EndTag then (if is_end_of stop t then Some [] else None) else (if same_kind t.kind k.OpenClosing then takes_closing stop else None)) ds ts ≡ true → Ends depth stop ds (t ∷ ts)
      by_end g =
          elim (fed_if (same_kind t.kind k.EndTag) (if is_end_of stop t then Some [] else None) _ ds ts g) [
            | inl p ↦ elim (fed_if (is_end_of stop t) (Some []) None ds ts p.1) [ inl q ↦ end_tag_ends depth stop ds t ts p.0 q.0 q.1 | inr q ↦ never q.1 ]
            | inr p ↦ elim (fed_if (same_kind t.kind k.OpenClosing) (takes_closing stop) None ds ts p.1) [ inl q ↦ closing_ends depth stop ds t ts q.0 q.1 | inr q ↦ never q.1 ]
          ]

whole_found : (depth : ℕ) → FindNested depth → FindChained depth → FindBody depth
whole_found depth nested chained stop ds ts h = let l : length ts ≤ length ts = omega arith in content_found depth nested chained (length ts) stop ds ts l h

-- Blocks that are passed.

-- the rest of such a block after its opening
abbrev SlotRest : ℕ → Text → List Token → List Token → Type 0
SlotRest depth n ts us = (ns : List Text) × (b : Body) × ((vs xs ys : List Token) × AreParameters ts ns vs × Mark k.TagEnd vs xs × AreStmts depth xs b ys × IsEndTag ys n us)

slot_found : (depth : ℕ) → FindsTagged depth → (n : Text) → Finds (d.slot_tag depth n) (SlotRest depth n)
unfolding due_after starts_slot_tag
slot_found depth tagged n ds [] h = never h
slot_found depth tagged n ds (t ∷ ts) h =
    elim (fed_if (same_kind t.kind k.TagEnd) (Some (d.content depth (d.tag n) ∷ [])) _ ds ts (came (d.slot_tag depth n) ds t ts h)) [
      | inl p ↦ by_body ts [] (t ∷ ts) (inl (refl, refl)) (mark_of k.TagEnd t ts p.0) (tagged n ds ts p.1)
      | inr p ↦ elim (fed_if (same_kind t.kind k.Parameters) (Some (d.kind k.TagEnd ∷ d.content depth (d.tag n) ∷ [])) None ds ts p.1) [
        | inl q ↦ let x = finds_kind k.TagEnd (d.content depth (d.tag n) ∷ ds) ts q.1 in
            by_body x.0 (parameters_of t.text) ts (inr (t, refl, same_kind-is t.kind k.Parameters q.0, refl)) x.1 (tagged n ds x.0 x.2)
        | inr q ↦ never q.1
      ]
    ] where
      by_body : (xs : List Token) (ns : List Text) (vs : List Token) → AreParameters (t ∷ ts) ns vs → Mark k.TagEnd vs xs → Found (Tagged depth n) ds xs → Found (SlotRest depth n) ds (t ∷ ts)
      by_body xs ns vs params m (us, (b, (ys, are, e)), g) = (us, (ns, b, (vs, xs, ys, params, m, are, e)), g)

-- blocks after some with these names, and the end tag
abbrev SlotsTo : ℕ → Text → List Text → List Token → List Token → Type 0
SlotsTo depth n taken ts us = (ss : Slots) × (are_new taken (slot_names ss) ≡ true) × ((vs : List Token) × AreSlots depth ts ss vs × IsEndTag vs n us)

-- the same of one at least
abbrev SomeSlots : ℕ → Text → List Text → List Token → List Token → Type 0
SomeSlots depth n taken ts us = (ss : Slots) × (is_some_slot ss ≡ true) × (are_new taken (slot_names ss) ≡ true) × ((vs : List Token) × AreSlots depth ts ss vs × IsEndTag vs n us)

abbrev FindSlots : ℕ → ℕ → Type 0
FindSlots depth limit = (n : Text) (taken : List Text) (ds : List Due) (ts : List Token) → length ts ≤ limit → accepts (d.slots depth n taken ∷ ds) ts ≡ true → Found (SlotsTo depth n taken) ds ts

-- one more block in front
one_more : (depth : ℕ) (n m : Text) (taken : List Text) (ns : List Text) (b : Body) (t : Token) (ts vs us : List Token) → is_gap t ≡ false → has_text m taken ≡ false → IsSlot (λ xs ys. AreStmts depth xs b ys) (t ∷ ts) m ns vs → SlotsTo (suc depth) n (taken ++ m ∷ []) vs us → SomeSlots (suc depth) n taken (t ∷ ts) us
one_more depth n m taken ns b t ts vs us gap free is (ss, new, (xs, are, e)) =
    let apart : are_new taken (slot_names (block m ns b ss)) ≡ true = rw free new in
    (block m ns b ss, refl, apart, (xs, (vs, subst (λ l. IsSlot (λ ys zs. AreStmts depth ys b zs) l m ns vs) (sym (no_gap t ts gap)) is, are), e))

either_false : (a b : Bool) → (a || b) ≡ false → (a ≡ false) × (b ≡ false)
either_false true b e = let r : ⊥ = cc in absurd r
either_false false b e = (refl, e)

opening_kind : (t : Token) → is_slot_opening t ≡ true → t.kind ≡ k.TagOpening
opening_kind t e = same_kind-is t.kind k.TagOpening (and_true (same_kind t.kind k.TagOpening) (is_some (slot_name t.text)) e).0

opening_gap : (t : Token) → is_slot_opening t ≡ true → is_gap t ≡ false
opening_gap t e = rw (opening_kind t e) refl

opened_slots : (depth limit : ℕ) → FindBody depth → FindSlots (suc depth) limit → (n : Text) (taken : List Text) (ds : List Due) (t : Token) (ts : List Token) → length (t ∷ ts) ≤ suc limit → is_slot_opening t ≡ true → fed (slot_due (suc depth) n taken (slot_name t.text)) ds ts ≡ true → Found (SomeSlots (suc depth) n taken) ds (t ∷ ts)
opened_slots depth limit bodies next n taken ds t ts l e h = by_name (slot_name t.text) refl h where
  by_name : (o : Option Text) → slot_name t.text ≡ o → fed (slot_due (suc depth) n taken o) ds ts ≡ true → Found (SomeSlots (suc depth) n taken) ds (t ∷ ts)
  by_name None f g = never g
  by_name (Some m) f g =
      elim (fed_if (suc depth == 0 || has_text m taken) None _ ds ts g) [
        | inl p ↦ never p.1
        | inr p ↦
            let free = (either_false (suc depth == 0) (has_text m taken) p.0).1 in
            let rest : accepts (d.slot_tag depth (58 ∷ m) ∷ d.slots (suc depth) n (taken ++ m ∷ []) ∷ ds) ts ≡ true =
            ap (λ i. accepts (d.slot_tag i (58 ∷ m) ∷ d.slots (suc depth) n (taken ++ m ∷ []) ∷ ds) ts) (sym (one_less depth)) ∙ p.1 in
            by_rest free (slot_found depth (tagged_found depth bodies) (58 ∷ m) (d.slots (suc depth) n (taken ++ m ∷ []) ∷ ds) ts rest)
      ] where
        by_rest : has_text m taken ≡ false → Found (SlotRest depth (58 ∷ m)) (d.slots (suc depth) n (taken ++ m ∷ []) ∷ ds) ts → Found (SomeSlots (suc depth) n taken) ds (t ∷ ts)
        by_rest free (us, (ns, b, (vs, xs, ys, params, mark, are, closing)), g) =
            let is : IsSlot (λ zs ws. AreStmts depth zs b ws) (t ∷ ts) m ns us = (ts, vs, xs, ys, (t, refl, opening_kind t e, slot_name_is t.text m f), params, mark, are, closing) in
            let falls = slot_falls depth (body_falls depth) (t ∷ ts) m ns b us is in
            let r = next n (taken ++ m ∷ []) ds us (omega (arith, l, falls)) g in
            (r.0, one_more depth n m taken ns b t ts us r.0 (opening_gap t e) free is r.1, r.2)

-- blocks after a gap
slots_gap : (depth : ℕ) (t : Token) (ts : List Token) (ss : Slots) (us : List Token) → is_gap t ≡ true → AreSlots depth ts ss us → AreSlots depth (t ∷ ts) ss us
slots_gap depth t ts no_slots us e are = skip_gap t ts e ∙ are
slots_gap zero t ts (block m ns b ss) us e are = absurd are
slots_gap (suc depth) t ts (block m ns b ss) us e (ws, is, more) = (ws, subst (λ l. IsSlot (λ xs ys. AreStmts depth xs b ys) l m ns ws) (sym (skip_gap t ts e)) is, more)

gap_more : (depth : ℕ) (n : Text) (taken : List Text) (t : Token) (ts us : List Token) → is_gap t ≡ true → SlotsTo depth n taken ts us → SlotsTo depth n taken (t ∷ ts) us
gap_more depth n taken t ts us e (ss, new, (vs, are, closing)) = (ss, new, (vs, slots_gap depth t ts ss vs e are, closing))

slots_found : (depth : ℕ) → FindBody depth → (limit : ℕ) → FindSlots (suc depth) limit
unfolding due_after starts_slots
slots_found depth bodies limit n taken ds [] l h = never h
slots_found depth bodies zero n taken ds (t ∷ ts) l h = absurd (omega (arith, l))
slots_found depth bodies (suc limit) n taken ds (t ∷ ts) l h =
    elim (fed_if (is_gap t) (Some (d.slots (suc depth) n taken ∷ [])) _ ds ts (came (d.slots (suc depth) n taken) ds t ts h)) [
      | inl p ↦ let r = slots_found depth bodies limit n taken ds ts (omega (arith, l)) p.1 in (r.0, gap_more (suc depth) n taken t ts r.0 p.0 r.1, r.2)
      | inr p ↦ elim (fed_if (is_slot_opening t) (slot_due (suc depth) n taken (slot_name t.text)) _ ds ts p.1) [
        | inl q ↦ let r = opened_slots depth limit bodies (slots_found depth bodies limit) n taken ds t ts l q.0 q.1 in (r.0, (r.1.0, r.1.2, r.1.3), r.2)
        | inr q ↦ elim (fed_if (same_kind t.kind k.EndTag && bytes_eq (end_name_of t.text) n) (Some []) None ds ts q.1) [
          | inl r ↦ let both = and_true (same_kind t.kind k.EndTag) (bytes_eq (end_name_of t.text) n) r.0 in
              (ts, (no_slots, refl, (t ∷ ts, no_gap t ts p.0, (t, refl, same_kind-is t.kind k.EndTag both.0, bytes_eq_is (end_name_of t.text) n both.1))), r.1)
          | inr r ↦ never r.1
        ]
      ]
    ]

-- where a block may nest, its opening and what follows it are found
abbrev FindOpened : ℕ → Type 0
FindOpened depth = (n : Text) (ds : List Due) (t : Token) (ts : List Token) → is_slot_opening t ≡ true → fed (slot_due depth n [] (slot_name t.text)) ds ts ≡ true → Found (SomeSlots depth n []) ds (t ∷ ts)

none_opened : FindOpened zero
none_opened n ds t ts e h = by_name (slot_name t.text) h where
  by_name : (o : Option Text) → fed (slot_due zero n [] o) ds ts ≡ true → Found (SomeSlots zero n []) ds (t ∷ ts)
  by_name None g = never g
  by_name (Some m) g = never g

some_opened : (depth : ℕ) → FindBody depth → FindOpened (suc depth)
some_opened depth bodies n ds t ts e h = let l : length (t ∷ ts) ≤ suc (length ts) = omega arith in opened_slots depth (length ts) bodies (slots_found depth bodies (length ts)) n [] ds t ts l e h

-- statements after a gap
body_gap : (depth : ℕ) (t : Token) (ts : List Token) (b : Body) (us : List Token) → is_gap t ≡ true → AreStmts depth ts b us → (c : Body) × AreStmts depth (t ∷ ts) c us
body_gap depth t ts b us e are = by_token (is_silent t) refl where
  silent : is_silent t ≡ true → (c : Body) → AreStmts depth ts c us → AreStmts depth (t ∷ ts) c us
  silent f end are = let same : after_silent (t ∷ ts) ≡ after_silent ts = rw f refl in same ∙ are
  silent f (stmt s c) (vs, is, more) = let same : after_silent ts ≡ after_silent (t ∷ ts) = rw f refl in (vs, subst (λ l. IsStmt depth l s vs) same is, more)

  by_token : (x : Bool) → is_silent t ≡ x → (c : Body) × AreStmts depth (t ∷ ts) c us
  by_token true f = (b, silent f b are)
  by_token false f =
      let s = flat_stmt depth t ts (gap_flat t e) f in
      let same : t ∷ ts ≡ after_silent (t ∷ ts) = rw f refl in
      (stmt s.0 b, (ts, subst (λ l. IsStmt depth l s.0 ts) same s.1, are))

filled_gap : (depth : ℕ) (n : Text) (t : Token) (ts us : List Token) → is_gap t ≡ true → Filled depth n [] ts us → Filled depth n [] (t ∷ ts) us
filled_gap depth n t ts us e (no_slots, (vs, inl own, closing)) = absurd own
filled_gap depth n t ts us e (block x params b no_slots, (vs, inl (f, g, are), closing)) = let c = body_gap depth t ts b vs e are in (block x params c.0 no_slots, (vs, inl (f, g, c.1), closing))
filled_gap depth n t ts us e (block x params b (block y ms c ss), (vs, inl own, closing)) = absurd own
filled_gap depth n t ts us e (ss, (vs, inr (none, some, new, are), closing)) = (ss, (vs, inr (none, some, new, slots_gap depth t ts ss vs e are), closing))

abbrev FindFilled : ℕ → ℕ → Type 0
FindFilled depth limit = (n : Text) (ds : List Due) (ts : List Token) → length ts ≤ limit → accepts (d.filling depth n ∷ ds) ts ≡ true → Found (Filled depth n []) ds ts

filled_found : (depth : ℕ) → FindsTagged depth → FindOpened depth → (limit : ℕ) → FindFilled depth limit
unfolding due_after starts_filling
filled_found depth tagged opened limit n ds [] l h = never h
filled_found depth tagged opened zero n ds (t ∷ ts) l h = absurd (omega (arith, l))
filled_found depth tagged opened (suc limit) n ds (t ∷ ts) l h =
    elim (fed_if (is_gap t) (Some (d.filling depth n ∷ [])) _ ds ts (came (d.filling depth n) ds t ts h)) [
      | inl p ↦ let r = filled_found depth tagged opened limit n ds ts (omega (arith, l)) p.1 in (r.0, filled_gap depth n t ts r.0 p.0 r.1, r.2)
      | inr p ↦ elim (fed_if (is_slot_opening t) (slot_due depth n [] (slot_name t.text)) (starts_content depth (d.tag n) t) ds ts p.1) [
        | inl q ↦ by_slots (opened n ds t ts q.0 q.1)
        | inr q ↦ by_body (tagged n ds (t ∷ ts) (accepts_step (d.content depth (d.tag n)) ds t ts ∙ q.1))
      ]
    ] where
      by_slots : Found (SomeSlots depth n []) ds (t ∷ ts) → Found (Filled depth n []) ds (t ∷ ts)
      by_slots (us, (ss, some, new, (vs, are, closing)), g) = (us, (ss, (vs, inr (refl, some, new, are), closing)), g)

      by_body : Found (Tagged depth n) ds (t ∷ ts) → Found (Filled depth n []) ds (t ∷ ts)
      by_body (us, (b, (vs, are, closing)), g) = (us, (block (codes "default") [] b no_slots, (vs, inl (refl, refl, are), closing)), g)

finds_filled : (depth : ℕ) → FindBody depth → FindOpened depth → FindsFilled depth
finds_filled depth bodies opened n ds ts h = let l : length ts ≤ length ts = omega arith in filled_found depth (tagged_found depth bodies) opened (length ts) n ds ts l h

-- all at every depth
record AllFound (depth : ℕ) : Type 0 where
  bodies : FindBody depth
  heads : FindChained depth
  filled : FindsFilled depth

all_found : (depth : ℕ) → AllFound depth
all_found zero = let bodies = whole_found zero no_nested no_chained in record { bodies = bodies; heads = no_chained; filled = finds_filled zero bodies none_opened }
all_found (suc depth) =
    let p = all_found depth in
    let heads = chained_found depth p.bodies in
    let bodies = whole_found (suc depth) (nested_found depth p.bodies p.filled) heads in
    record { bodies = bodies; heads = heads; filled = finds_filled (suc depth) bodies (some_opened depth p.bodies) }

-- what meets the due of content is statements and what ends them
pub finds_body : (depth : ℕ) → FindBody depth
finds_body depth = (all_found depth).bodies
