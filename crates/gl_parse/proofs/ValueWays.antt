-- Both ways for the values of a tag.
use Rattle.std.proofs.Common.{◌≡◌, ◌⊎◌, ◌≤◌, ℕ, zero, suc, List, [], ◌∷◌, Bool, true, false, inl, inr, Some, None, length, refl, sym, ap, ◌∙◌, arith}
use Rattle.std.specs.Prelude.{if◌then◌else◌}
use Rattle.gl_base.specs.Texts.{Text}
use Rattle.gl_value.specs.Value as v
use Rattle.gl_ast.specs.Grammar.{Mark, IsMustache, IsQuotedText, AreQuoted, IsPlainValue, IsValue}
use Rattle.gl_ast.specs.Template.{Expr, literal, this, argument, bare, call, cat, Exprs, no_exprs, expr, AttrValue, fixed, live}
use Rattle.gl_ast.specs.TokenText.{decoded}
use Rattle.gl_ast.specs.declared.token.Token.{Token}
use Rattle.gl_ast.specs.declared.token.TokenKind.TheVariants as k
use Rattle.gl_exprs.specs.Take.{same_kind}
use Rattle.gl_exprs.proofs.Firsts.{same_kind-is}
use Rattle.gl_parse.specs.Due as d
use Rattle.gl_parse.specs.Due.{Due, Quoted, nothing, text, texts, live as alive, and_text, may_end, due_after, starts_value, starts_quoted, starts_item, starts_given, ends_tag, is_at_name, is_plain, has_body}
use Rattle.gl_parse.proofs.Accepts.{accepts}
use Rattle.gl_parse.proofs.Lower.{mustache_falls}
use Rattle.gl_parse.proofs.ValueLaws.{text_first, live_value}
use Rattle.gl_parse.proofs.Ways.{Found, Finds, never, passes_token, came, fed_if, mark_of, Inner, passes_inner, finds_inner}

-- Quoted values.

-- parts with a mustache among them where one is wanting, and the quote that closes the value
abbrev Cats : Bool → List Token → List Token → Type 0
Cats wanting ts us = (es : Exprs) × ((ws : List Token) × AreQuoted wanting ts es ws × Mark k.CloseQuote ws us)

-- the rest of a quoted value after such parts
abbrev InQuotes : Quoted → List Token → List Token → Type 0
InQuotes nothing ts us = ((s : Text) × IsPlainValue ts s us) ⊎ Cats true ts us
InQuotes text ts us = Mark k.CloseQuote ts us ⊎ Cats true ts us
InQuotes texts ts us = Cats true ts us
InQuotes alive ts us = Cats false ts us

quote_due : (q : Quoted) (t : Token) → may_end q ≡ true → t.kind ≡ k.CloseQuote → due_after (d.quoted q) t ≡ Some []
unfolding due_after starts_quoted
quote_due q t e f = rw (f, e) refl

text_due : (q : Quoted) (t : Token) → t.kind ≡ k.Text → due_after (d.quoted q) t ≡ Some (d.quoted (and_text q) ∷ [])
unfolding due_after starts_quoted
text_due q t e = rw e refl

live_due : (q : Quoted) (t : Token) → t.kind ≡ k.OpenMustache → due_after (d.quoted q) t ≡ Some (d.inner ∷ d.quoted alive ∷ [])
unfolding due_after starts_quoted
live_due q t e = rw e refl

text_pass : (q : Quoted) (ds : List Due) (ts : List Token) (e : Expr) (us : List Token) → IsQuotedText ts e us → accepts (d.quoted q ∷ ds) ts ≡ accepts (d.quoted (and_text q) ∷ ds) us
text_pass q ds ts e us h = let f = text_first ts e us h in passes_token (d.quoted q) ds (d.quoted (and_text q) ∷ []) f.2.0 ts us f.2.1 (text_due q f.2.0 f.2.2)

mustache_pass : (q : Quoted) (ds : List Due) (ts : List Token) (e : Expr) (us : List Token) → IsMustache ts e us → accepts (d.quoted q ∷ ds) ts ≡ accepts (d.quoted alive ∷ ds) us
mustache_pass q ds ts e us (vs, ws, m, is, n) =
    passes_token (d.quoted q) ds (d.inner ∷ d.quoted alive ∷ []) m.0 ts vs m.1 (live_due q m.0 m.2) ∙ passes_inner (d.quoted alive ∷ ds) vs us (e, (ws, is, n))

close_pass : (q : Quoted) (ds : List Due) (ts us : List Token) → may_end q ≡ true → Mark k.CloseQuote ts us → accepts (d.quoted q ∷ ds) ts ≡ accepts ds us
close_pass q ds ts us e m = passes_token (d.quoted q) ds [] m.0 ts us m.1 (quote_due q m.0 e m.2)

live_pass : (es : Exprs) (wanting : Bool) (ds : List Due) (ts ws us : List Token) → AreQuoted wanting ts es ws → Mark k.CloseQuote ws us → accepts (d.quoted alive ∷ ds) ts ≡ accepts ds us
live_pass no_exprs wanting ds ts ws us (w, e) m = ap (accepts (d.quoted alive ∷ ds)) e ∙ close_pass alive ds ws us refl m
live_pass (expr x es) wanting ds ts ws us (vs, inl (h, are)) m = text_pass alive ds ts x vs h ∙ live_pass es wanting ds vs ws us are m
live_pass (expr x es) wanting ds ts ws us (vs, inr (h, are)) m = mustache_pass alive ds ts x vs h ∙ live_pass es false ds vs ws us are m

cat_pass : (es : Exprs) (q : Quoted) (ds : List Due) (ts ws us : List Token) → AreQuoted true ts es ws → Mark k.CloseQuote ws us → accepts (d.quoted q ∷ ds) ts ≡ accepts ds us
cat_pass no_exprs q ds ts ws us (w, e) m = never (sym w)
cat_pass (expr x es) q ds ts ws us (vs, inl (h, are)) m = text_pass q ds ts x vs h ∙ cat_pass es (and_text q) ds vs ws us are m
cat_pass (expr x es) q ds ts ws us (vs, inr (h, are)) m = mustache_pass q ds ts x vs h ∙ live_pass es false ds vs ws us are m

plain_pass : (ds : List Due) (ts : List Token) (s : Text) (us : List Token) → IsPlainValue ts s us → accepts (d.quoted nothing ∷ ds) ts ≡ accepts ds us
plain_pass ds ts s us (inl (m, e)) = close_pass nothing ds ts us refl m
plain_pass ds ts s us (inr (vs, t, m)) = passes_token (d.quoted nothing) ds (d.quoted text ∷ []) t.0 ts vs t.1 (text_due nothing t.0 t.2) ∙ close_pass text ds vs us refl m

cats_text : (wanting : Bool) (t : Token) (ts us : List Token) → t.kind ≡ k.Text → Cats wanting ts us → Cats wanting (t ∷ ts) us
cats_text wanting t ts us e (es, (ws, are, m)) = (expr (literal (v.text (decoded t.text))) es, (ws, (ts, inl ((t, refl, e, refl), are)), m))

cats_live : (wanting : Bool) (ts : List Token) (e : Expr) (vs us : List Token) → IsMustache ts e vs → Cats false vs us → Cats wanting ts us
cats_live wanting ts e vs us h (es, (ws, are, m)) = (expr e es, (ws, (vs, inr (h, are)), m))

closed : (q : Quoted) (ts us : List Token) → may_end q ≡ true → Mark k.CloseQuote ts us → InQuotes q ts us
closed nothing ts us e m = inl ([], inl (m, refl))
closed text ts us e m = inl m
closed texts ts us e m = never e
closed alive ts us e m = (no_exprs, (ts, (refl, refl), m))

text_more : (q : Quoted) (t : Token) (ts us : List Token) → t.kind ≡ k.Text → InQuotes (and_text q) ts us → InQuotes q (t ∷ ts) us
text_more nothing t ts us e (inl m) = inl (decoded t.text, inr (ts, (t, refl, e, refl), m))
text_more nothing t ts us e (inr c) = inr (cats_text true t ts us e c)
text_more text t ts us e c = inr (cats_text true t ts us e c)
text_more texts t ts us e c = cats_text true t ts us e c
text_more alive t ts us e c = cats_text false t ts us e c

live_more : (q : Quoted) (ts : List Token) (e : Expr) (vs us : List Token) → IsMustache ts e vs → InQuotes alive vs us → InQuotes q ts us
live_more nothing ts e vs us h c = inr (cats_live true ts e vs us h c)
live_more text ts e vs us h c = inr (cats_live true ts e vs us h c)
live_more texts ts e vs us h c = cats_live true ts e vs us h c
live_more alive ts e vs us h c = cats_live false ts e vs us h c

-- what a mustache is that was opened
mustache_of : (t : Token) (ts us : List Token) → same_kind t.kind k.OpenMustache ≡ true → Inner ts us → (e : Expr) × IsMustache (t ∷ ts) e us
mustache_of t ts us s (e, (vs, is, m)) = (e, (ts, vs, mark_of k.OpenMustache t ts s, is, m))

abbrev FindsQuoted : ℕ → Type 0
FindsQuoted n = (q : Quoted) (ds : List Due) (ts : List Token) → length ts ≤ n → accepts (d.quoted q ∷ ds) ts ≡ true → Found (InQuotes q) ds ts

quoted_live : (n : ℕ) → FindsQuoted n → (q : Quoted) (ds : List Due) (t : Token) (ts : List Token) → length (t ∷ ts) ≤ suc n → same_kind t.kind k.OpenMustache ≡ true → accepts (d.inner ∷ d.quoted alive ∷ ds) ts ≡ true → Found (InQuotes q) ds (t ∷ ts)
quoted_live n next q ds t ts l s h =
    let x = finds_inner (d.quoted alive ∷ ds) ts h in
    let m = mustache_of t ts x.0 s x.1 in
    let f = mustache_falls (t ∷ ts) m.0 x.0 m.1 in
    let r = next alive ds x.0 (omega (arith, l, f)) x.2 in
    (r.0, live_more q (t ∷ ts) m.0 x.0 r.0 m.1 r.1, r.2)

quoted_found : (n : ℕ) → FindsQuoted n
unfolding due_after starts_quoted
quoted_found n q ds [] l h = never h
quoted_found zero q ds (t ∷ ts) l h = absurd (omega (arith, l))
quoted_found (suc n) q ds (t ∷ ts) l h =
    elim (fed_if (same_kind t.kind k.CloseQuote) (if may_end q then Some [] else None) _ ds ts (came (d.quoted q) ds t ts h)) [
      | inl p ↦ elim (fed_if (may_end q) (Some []) None ds ts p.1) [ inl g ↦ (ts, closed q (t ∷ ts) ts g.0 (mark_of k.CloseQuote t ts p.0), g.1) | inr g ↦ never g.1 ]
      | inr p ↦ elim (fed_if (same_kind t.kind k.Text) (Some (d.quoted (and_text q) ∷ [])) _ ds ts p.1) [
        | inl g ↦ by_text (quoted_found n) (same_kind-is t.kind k.Text g.0) g.1
        | inr g ↦ elim (fed_if (same_kind t.kind k.OpenMustache) (Some (d.inner ∷ d.quoted alive ∷ [])) None ds ts g.1) [ inl i ↦ quoted_live n (quoted_found n) q ds t ts l i.0 i.1 | inr i ↦ never i.1 ]
      ]
    ] where
      by_text : FindsQuoted n → t.kind ≡ k.Text → accepts (d.quoted (and_text q) ∷ ds) ts ≡ true → Found (InQuotes q) ds (t ∷ ts)
      by_text next e g = let r = next (and_text q) ds ts (omega (arith, l)) g in (r.0, text_more q t ts r.0 e r.1, r.2)

-- Values.

abbrev pub SomeValue : List Token → List Token → Type 0
SomeValue ts us = (x : AttrValue) × IsValue ts x us

opened_pass : (ds : List Due) (ts : List Token) (e : Expr) (us : List Token) → IsMustache ts e us → accepts (d.value ∷ ds) ts ≡ accepts ds us
unfolding due_after starts_value
opened_pass ds ts e us (vs, ws, m, is, n) = passes_token d.value ds (d.inner ∷ []) m.0 ts vs m.1 (rw m.2 refl) ∙ passes_inner ds vs us (e, (ws, is, n))

quote_pass : (ds : List Due) (ts us : List Token) → Mark k.OpenQuote ts us → accepts (d.value ∷ ds) ts ≡ accepts (d.quoted nothing ∷ ds) us
unfolding due_after starts_value
quote_pass ds ts us m = passes_token d.value ds (d.quoted nothing ∷ []) m.0 ts us m.1 (rw m.2 refl)

unquoted_pass : (ds : List Due) (ts us : List Token) → Mark k.Unquoted ts us → accepts (d.value ∷ ds) ts ≡ accepts ds us
unfolding due_after starts_value
unquoted_pass ds ts us m = passes_token d.value ds [] m.0 ts us m.1 (rw m.2 refl)

pub value_pass : (x : AttrValue) (ds : List Due) (ts us : List Token) → IsValue ts x us → accepts (d.value ∷ ds) ts ≡ accepts ds us
value_pass (fixed s) ds ts us (inl h) = unquoted_pass ds ts us (h.0, h.1, h.2)
value_pass (fixed s) ds ts us (inr (vs, m, p)) = quote_pass ds ts vs m ∙ plain_pass ds vs s us p
value_pass (live (cat es)) ds ts us (vs, ws, m, are, n) = quote_pass ds ts vs m ∙ cat_pass es nothing ds vs ws us are n
value_pass (live (literal c)) ds ts us h = opened_pass ds ts (literal c) us h
value_pass (live (this n ns)) ds ts us h = opened_pass ds ts (this n ns) us h
value_pass (live (argument n ns)) ds ts us h = opened_pass ds ts (argument n ns) us h
value_pass (live (bare n ns)) ds ts us h = opened_pass ds ts (bare n ns) us h
value_pass (live (call n es ns)) ds ts us h = opened_pass ds ts (call n es ns) us h

quote_value : (t : Token) (ts us : List Token) → same_kind t.kind k.OpenQuote ≡ true → InQuotes nothing ts us → SomeValue (t ∷ ts) us
quote_value t ts us s (inl (x, p)) = (fixed x, inr (ts, mark_of k.OpenQuote t ts s, p))
quote_value t ts us s (inr (es, (ws, are, m))) = (live (cat es), (ts, ws, mark_of k.OpenQuote t ts s, are, m))

pub finds_value : Finds d.value SomeValue
unfolding due_after starts_value
finds_value ds [] h = never h
finds_value ds (t ∷ ts) h =
    elim (fed_if (same_kind t.kind k.Unquoted) (Some []) _ ds ts (came d.value ds t ts h)) [
      | inl p ↦ (ts, (fixed (decoded t.text), inl (t, refl, same_kind-is t.kind k.Unquoted p.0, refl)), p.1)
      | inr p ↦ elim (fed_if (same_kind t.kind k.OpenMustache) (Some (d.inner ∷ [])) _ ds ts p.1) [
        | inl q ↦ by_mustache q.0 (finds_inner ds ts q.1)
        | inr q ↦ elim (fed_if (same_kind t.kind k.OpenQuote) (Some (d.quoted nothing ∷ [])) None ds ts q.1) [ inl r ↦ by_quote r.0 r.1 | inr r ↦ never r.1 ]
      ]
    ] where
      by_mustache : same_kind t.kind k.OpenMustache ≡ true → Found Inner ds ts → Found SomeValue ds (t ∷ ts)
      by_mustache s x = let m = mustache_of t ts x.0 s x.1 in (x.0, (live m.0, live_value (t ∷ ts) m.0 x.0 m.1), x.2)

      by_quote : same_kind t.kind k.OpenQuote ≡ true → accepts (d.quoted nothing ∷ ds) ts ≡ true → Found SomeValue ds (t ∷ ts)
      by_quote s g =
          let l : length ts ≤ length ts = omega arith in
          let x = quoted_found (length ts) nothing ds ts l g in
          (x.0, quote_value t ts x.0 s x.1, x.2)
