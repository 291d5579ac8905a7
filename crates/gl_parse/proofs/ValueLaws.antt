-- Values are read exactly where they stand.
use Rattle.std.proofs.Common.{◌≡◌, ◌⊎◌, inl, inr, ◌<◌, List, [], ◌∷◌, ◌++◌, Bool, true, false, Some, None, length, drop, refl, sym, ap, ◌∙◌, subst, arith}
use Rattle.std.specs.Prelude.{if◌then◌else◌, ◌&&◌, ◌||◌, option_map}
use Rattle.std.proofs.lemmas.Option.{option_and_then_some, same_Some}
use Rattle.gl_base.specs.Answers.{◌>>=◌}
use Rattle.gl_base.specs.Texts.{Text}
use Rattle.gl_value.specs.Value as v
use Rattle.gl_ast.specs.Grammar.{Stands, Mark, IsMustache, IsQuotedText, AreQuoted, IsPlainValue, IsValue, IsGiven}
use Rattle.gl_ast.specs.Template.{Expr, literal, this, argument, bare, call, cat, Exprs, no_exprs, expr, AttrValue, fixed, live, exprs_of}
use Rattle.gl_ast.specs.TokenText.{decoded}
use Rattle.gl_ast.specs.declared.token.Token.{Token}
use Rattle.gl_ast.specs.declared.token.TokenKind.{TokenKind}
use Rattle.gl_ast.specs.declared.token.TokenKind.TheVariants as k
use Rattle.gl_exprs.specs.ReadExpr.{read_mustache}
use Rattle.gl_parse.specs.ReadValue.{stands_plain, read_fixed, read_quoted_text, starts_quoted, read_quoted, read_cat, read_between, read_quote, read_value, read_given}
use Rattle.gl_exprs.specs.Take.{Taken, same_kind, stands, take_kind, read_many, with_front}
use Rattle.gl_exprs.proofs.Chains.{Chain, many_chain, IsRead, chain_many}
use Rattle.gl_exprs.proofs.ExprLaws.{list_of, exprs_of-list_of, read_mustache_is, reads_mustache}
use Rattle.gl_exprs.proofs.Firsts.{kind_is, takes_kind, kind_stands, other_stands}
use Rattle.gl_parse.proofs.ShorterValues.{quoted_text_shorter, mustache_shorter}

-- a text that a token of this kind stands for
abbrev IsFixed : TokenKind → List Token → Text → List Token → Type 0
IsFixed kind ts s us = Stands kind (λ x. decoded x ≡ s) ts us

made : {A B P : Type 0} (f : A × List Token → B) (o : Taken A) (x : B × List Token) → option_map (λ (t : A × List Token). (f t, t.1)) o ≡ Some x → ((t : A × List Token) → o ≡ Some t → ◌≡◌ {A = B × List Token} (f t, t.1) x → P) → P
made f None x e h = absurd cc
made {A} {B} f (Some t) x e h = h t refl (same_Some {A = B × List Token} (f t, t.1) x e)

-- a value that is a text
fixed_is : (kind : TokenKind) (ts : List Token) (x : AttrValue × List Token) → read_fixed kind ts ≡ Some x → (s : Text) × (x.0 ≡ fixed s) × IsFixed kind ts s x.1
unfolding read_fixed
fixed_is kind ts x e = made (λ (t : Text × List Token). fixed (decoded t.0)) (take_kind kind ts) x e (λ t p same.
    let f = kind_is kind ts t p in
    (decoded t.0, ap (λ (y : AttrValue × List Token). y.0) (sym same), (f.token, f.here ∙ ap (λ (y : AttrValue × List Token). f.token ∷ y.1) same, f.is_kind, ap decoded f.is_text)))

reads_fixed : (kind : TokenKind) (ts : List Token) (s : Text) (us : List Token) → IsFixed kind ts s us → read_fixed kind ts ≡ Some (fixed s, us)
unfolding read_fixed
reads_fixed kind ts s us h = rw (takes_kind kind ts us h.0 h.1 h.2, h.3) refl

-- a text of a quoted value
text_is : (ts : List Token) (x : Expr × List Token) → read_quoted_text ts ≡ Some x → IsQuotedText ts x.0 x.1
unfolding read_quoted_text
text_is ts x e = made (λ (t : Text × List Token). literal (v.text (decoded t.0))) (take_kind k.Text ts) x e (λ t p same.
    let f = kind_is k.Text ts t p in
    subst (λ (y : Expr × List Token). IsQuotedText ts y.0 y.1) same (f.token, f.here, f.is_kind, ap decoded f.is_text))

-- such a text is a token of text
pub text_first : (ts : List Token) (e : Expr) (us : List Token) → IsQuotedText ts e us → (s : Text) × (e ≡ literal (v.text s)) × IsFixed k.Text ts s us
text_first ts (literal (v.text s)) us h = (s, refl, h)
text_first ts _ us h = absurd h

reads_text : (ts : List Token) (e : Expr) (us : List Token) → IsQuotedText ts e us → read_quoted_text ts ≡ Some (e, us)
unfolding read_quoted_text
reads_text ts e us h =
    let f = text_first ts e us h in
    ap (option_map (λ (t : Text × List Token). (literal (v.text (decoded t.0)), t.1))) (takes_kind k.Text ts us f.2.0 f.2.1 f.2.2)
    ∙ ap (λ x. Some (x, us)) (ap (λ x. literal (v.text x)) f.2.3 ∙ sym f.1)

text_stands : (ts : List Token) (e : Expr) (us : List Token) → IsQuotedText ts e us → stands k.Text ts ≡ true
text_stands ts e us h = let f = text_first ts e us h in kind_stands k.Text ts us f.2.0 f.2.1 f.2.2

-- a text or a mustache
abbrev IsQuoted : List Token → Expr → List Token → Type 0
IsQuoted ts e us = IsQuotedText ts e us ⊎ IsMustache ts e us

quoted_case : (b : Bool) (ts : List Token) (x : Expr × List Token) → (if b then read_quoted_text ts else read_mustache ts) ≡ Some x → IsQuoted ts x.0 x.1
quoted_case true ts x e = inl (text_is ts x e)
quoted_case false ts x e = inr (read_mustache_is ts x e)

quoted_is : (ts : List Token) (x : Expr × List Token) → read_quoted ts ≡ Some x → IsQuoted ts x.0 x.1
unfolding read_quoted
quoted_is ts x e = quoted_case (stands k.Text ts) ts x e

or_right : (a b : Bool) → b ≡ true → (a || b) ≡ true
or_right true b e = refl
or_right false b e = e

mustache_stands : (ts : List Token) (e : Expr) (us : List Token) → IsMustache ts e us → stands k.OpenMustache ts ≡ true
mustache_stands ts e us h = kind_stands k.OpenMustache ts h.0 h.2.0 h.2.1 h.2.2

mustache_other : (kind : TokenKind) (ts : List Token) (e : Expr) (us : List Token) → IsMustache ts e us → same_kind k.OpenMustache kind ≡ false → stands kind ts ≡ false
mustache_other kind ts e us h f = other_stands k.OpenMustache kind ts h.0 h.2.0 h.2.1 h.2.2 f

text_other : (kind : TokenKind) (ts : List Token) (e : Expr) (us : List Token) → IsQuotedText ts e us → same_kind k.Text kind ≡ false → stands kind ts ≡ false
text_other kind ts e us h f = let g = text_first ts e us h in other_stands k.Text kind ts us g.2.0 g.2.1 g.2.2 f

quoted_starts : (ts : List Token) (e : Expr) (us : List Token) → IsQuoted ts e us → starts_quoted ts ≡ true
unfolding starts_quoted
quoted_starts ts e us (inl h) = ap (λ x. x || stands k.OpenMustache ts) (text_stands ts e us h)
quoted_starts ts e us (inr h) = or_right (stands k.Text ts) (stands k.OpenMustache ts) (mustache_stands ts e us h)

reads_quoted : (ts : List Token) (e : Expr) (us : List Token) → IsQuoted ts e us → read_quoted ts ≡ Some (e, us)
unfolding read_quoted
reads_quoted ts e us (inl h) = rw (text_stands ts e us h) (reads_text ts e us h)
reads_quoted ts e us (inr h) = rw (mustache_other k.Text ts e us h refl) (reads_mustache ts e us h)

abbrev Any : List Token → Type 0
Any us = Unit {0}

text_read : (ts : List Token) (e : Expr) (us : List Token) → IsQuotedText ts e us → Any us → IsRead (stands k.Text) read_quoted_text Any ts e us
text_read ts e us h f = record { going = text_stands ts e us h; reads = reads_text ts e us h; less = quoted_text_shorter ts (e, us) (reads_text ts e us h); follows = tt }

quoted_less : (ts : List Token) (e : Expr) (us : List Token) → IsQuoted ts e us → length us < length ts
quoted_less ts e us (inl h) = quoted_text_shorter ts (e, us) (reads_text ts e us h)
quoted_less ts e us (inr h) = mustache_shorter ts (e, us) (reads_mustache ts e us h)

quoted_read : (ts : List Token) (e : Expr) (us : List Token) → IsQuoted ts e us → Any us → IsRead starts_quoted read_quoted Any ts e us
quoted_read ts e us h f = record { going = quoted_starts ts e us h; reads = reads_quoted ts e us h; less = quoted_less ts e us h; follows = tt }

-- Texts and mustaches after a mustache, as a chain.

rest_are : (ts : List Token) (es : List Expr) (us : List Token) → Chain IsQuoted ts es us → AreQuoted false ts (exprs_of es) us
rest_are ts [] us h = (refl, h)
rest_are ts (e ∷ es) us h = (h.0, elim h.1 [ inl t ↦ inl (t, rest_are h.0 es us h.2) | inr m ↦ inr (m, rest_are h.0 es us h.2) ])

rest_chain : (ts : List Token) (es : Exprs) (us : List Token) → AreQuoted false ts es us → Chain IsQuoted ts (list_of es) us
rest_chain ts no_exprs us h = h.1
rest_chain ts (expr e es) us h = elim h.1 [
  | inl t ↦ (h.0, inl t.0, rest_chain h.0 es us t.1)
  | inr m ↦ (h.0, inr m.0, rest_chain h.0 es us m.1)
]

-- Texts, the first mustache, and texts and mustaches.

cat_are : (ts vs ws us : List Token) (texts : List Expr) (e : Expr) (more : List Expr) → Chain IsQuotedText ts texts vs → IsMustache vs e ws → Chain IsQuoted ws more us → AreQuoted true ts (exprs_of ((texts ++ e ∷ []) ++ more)) us
cat_are ts vs ws us [] e more same m rest = (ws, inr (subst (λ (x : List Token). IsMustache x e ws) (sym same) m, rest_are ws more us rest))
cat_are ts vs ws us (t ∷ texts) e more c m rest = (c.0, inl (c.1, cat_are c.0 vs ws us texts e more c.2 m rest))

record IsCat (ts : List Token) (es : Exprs) (us : List Token) : Type 0 where
  texts : List Expr
  first : Expr
  more : List Expr
  middle : List Token
  after : List Token
  are_texts : Chain IsQuotedText ts texts middle
  is_first : IsMustache middle first after
  are_more : Chain IsQuoted after more us
  all : exprs_of ((texts ++ first ∷ []) ++ more) ≡ es

cat_parts : (ts : List Token) (es : Exprs) (us : List Token) → AreQuoted true ts es us → IsCat ts es us
cat_parts ts no_exprs us h = absurd cc
cat_parts ts (expr e es) us h = elim h.1 [
  | inl t ↦ let p = cat_parts h.0 es us t.1 in
      record { texts = e ∷ p.texts; first = p.first; more = p.more; middle = p.middle; after = p.after; are_texts = (h.0, t.0, p.are_texts); is_first = p.is_first; are_more = p.are_more; all = ap (λ x. expr e x) p.all }
  | inr m ↦ record { texts = []; first = e; more = list_of es; middle = ts; after = h.0; are_texts = refl; is_first = m.0; are_more = rest_chain h.0 es us m.1; all = ap (λ x. expr e x) (exprs_of-list_of es) }
]

front_some : {A P : Type 0} (front : List A) (o : Taken (List A)) (x : List A × List Token) → with_front front o ≡ Some x → ((y : List A × List Token) → o ≡ Some y → ◌≡◌ {A = List A × List Token} (front ++ y.0, y.1) x → P) → P
front_some front None x e h = absurd cc
front_some {A} front (Some y) x e h = h y refl (same_Some {A = List A × List Token} (front ++ y.0, y.1) x e)

cat_is : (ts : List Token) (x : AttrValue × List Token) → read_cat ts ≡ Some x → (es : Exprs) × (x.0 ≡ live (cat es)) × AreQuoted true ts es x.1
unfolding read_cat
cat_is ts x e = option_and_then_some _ _ x e (λ texts p e1. option_and_then_some _ _ x e1 (λ first q e2. option_and_then_some _ _ x e2 (λ all s last.
    front_some (texts.0 ++ first.0 ∷ []) (read_many starts_quoted read_quoted (length first.1) first.1) all s (λ more r same.
    let result = same_Some {A = AttrValue × List Token} (live (cat (exprs_of all.0)), all.1) x last in
    let are = cat_are ts texts.1 first.1 more.1 texts.0 first.0 more.0 (many_chain (stands k.Text) read_quoted_text IsQuotedText (length ts) ts texts text_is p) (read_mustache_is texts.1 first q) (many_chain starts_quoted read_quoted IsQuoted (length first.1) first.1 more quoted_is r) in (
      exprs_of all.0,
      ap (λ (y : AttrValue × List Token). y.0) (sym result),
      subst (λ (z : List Token). AreQuoted true ts (exprs_of all.0) z) (ap (λ (y : AttrValue × List Token). y.1) result)
          (subst (λ (y : List Expr × List Token). AreQuoted true ts (exprs_of y.0) y.1) same are),
    )))))

reads_cat : (ts : List Token) (es : Exprs) (us : List Token) → AreQuoted true ts es us → starts_quoted us ≡ false → read_cat ts ≡ Some (live (cat es), us)
unfolding read_cat
reads_cat ts es us h ends =
    let p = cat_parts ts es us h in
    let texts = chain_many (stands k.Text) read_quoted_text IsQuotedText Any text_read (length ts) ts p.texts p.middle p.are_texts (mustache_other k.Text p.middle p.first p.after p.is_first refl) tt (omega arith) in
    let more = chain_many starts_quoted read_quoted IsQuoted Any quoted_read (length p.after) p.after p.more us p.are_more ends tt (omega arith) in
    rw (texts, reads_mustache p.middle p.first p.after p.is_first, more) (ap (λ x. Some (live (cat x), us)) p.all)

-- what stands first between quotes where mustaches stand there
cat_first : (wanting : Bool) (ts : List Token) (e : Expr) (es : Exprs) (us : List Token) → AreQuoted wanting ts (expr e es) us → stands k.CloseQuote ts ≡ false
cat_first wanting ts e es us h = elim h.1 [
  | inl t ↦ text_other k.CloseQuote ts e h.0 t.0 refl
  | inr m ↦ mustache_other k.CloseQuote ts e h.0 m.0 refl
]

cat_opens : (ts : List Token) (es : Exprs) (us : List Token) → AreQuoted true ts es us → stands k.CloseQuote ts ≡ false
cat_opens ts no_exprs us h = absurd cc
cat_opens ts (expr e es) us h = cat_first true ts e es us h

and_false : (a b : Bool) → b ≡ false → (a && b) ≡ false
and_false true b e = e
and_false false b e = refl

cat_not_plain : (ts : List Token) (es : Exprs) (us : List Token) → AreQuoted true ts es us → stands_plain ts ≡ false
unfolding stands_plain
cat_not_plain ts no_exprs us h = absurd cc
cat_not_plain ts (expr e es) us h = elim h.1 [
  | inl t ↦ let f = text_first ts e h.0 t.0 in
      and_false (stands k.Text ts) (stands k.CloseQuote (drop 1 ts)) (ap (λ x. stands k.CloseQuote (drop 1 x)) f.2.1 ∙ cat_opens h.0 es us t.1)
  | inr m ↦ ap (λ x. x && stands k.CloseQuote (drop 1 ts)) (mustache_other k.Text ts e h.0 m.0 refl)
]

-- What stands between quotes.

data Between (ts : List Token) (us : List Token) : AttrValue → Type 0 where
  nothing : ts ≡ us → Between ts us (fixed [])
  plain : (s : Text) → IsFixed k.Text ts s us → Between ts us (fixed s)
  parts : (es : Exprs) → AreQuoted true ts es us → Between ts us (live (cat es))

between_is : (ts : List Token) (x : AttrValue × List Token) → read_between ts ≡ Some x → Between ts x.1 x.0
unfolding read_between
between_is ts x e = by_case (stands k.CloseQuote ts) (stands_plain ts) e where
  by_case : (a b : Bool) → (if a then Some (fixed [], ts) else (if b then read_fixed k.Text ts else read_cat ts)) ≡ Some x → Between ts x.1 x.0
  by_case true b f = subst (λ (y : AttrValue × List Token). Between ts y.1 y.0) (same_Some {A = AttrValue × List Token} (fixed [], ts) x f) (nothing refl)
  by_case false true f = let h = fixed_is k.Text ts x f in subst (Between ts x.1) (sym h.1) (plain h.0 h.2)
  by_case false false f = let h = cat_is ts x f in subst (Between ts x.1) (sym h.1) (parts h.0 h.2)

-- with the quotes round it, it is a value
between_value : (ts vs ws us : List Token) (x : AttrValue) → Mark k.OpenQuote ts vs → Between vs ws x → Mark k.CloseQuote ws us → IsValue ts x us
between_value ts vs ws us _ front (nothing same) back = inr (vs, front, inl ((back.0, same ∙ back.1, back.2), refl))
between_value ts vs ws us _ front (plain s h) back = inr (vs, front, inr (ws, h, back))
between_value ts vs ws us _ front (parts es h) back = (vs, ws, front, h, back)

quote_is : (ts : List Token) (x : AttrValue × List Token) → read_quote ts ≡ Some x → IsValue ts x.0 x.1
unfolding read_quote
quote_is ts x e = option_and_then_some _ _ x e (λ front p e1. option_and_then_some _ _ x e1 (λ value q e2. option_and_then_some _ _ x e2 (λ back s last.
    let f = kind_is k.OpenQuote ts front p in
    let g = kind_is k.CloseQuote value.1 back s in
    subst (λ (y : AttrValue × List Token). IsValue ts y.0 y.1) (same_Some {A = AttrValue × List Token} (value.0, back.1) x last)
    (between_value ts front.1 value.1 back.1 value.0 (f.token, f.here, f.is_kind) (between_is front.1 value q) (g.token, g.here, g.is_kind)))))

pub live_value : (ts : List Token) (e : Expr) (us : List Token) → IsMustache ts e us → IsValue ts (live e) us
live_value ts (literal c) us h = h
live_value ts (this n ns) us h = h
live_value ts (argument n ns) us h = h
live_value ts (bare n ns) us h = h
live_value ts (call n es ns) us h = h
live_value ts (cat es) us h = absurd h.3

pub read_value_is : (ts : List Token) (x : AttrValue × List Token) → read_value ts ≡ Some x → IsValue ts x.0 x.1
unfolding read_value
read_value_is ts x e = by_case (stands k.Unquoted ts) (stands k.OpenMustache ts) e where
  by_case : (a b : Bool) → (if a then read_fixed k.Unquoted ts else (if b then option_map (λ e. (live e.0, e.1)) (read_mustache ts) else read_quote ts)) ≡ Some x → IsValue ts x.0 x.1
  by_case true b f = let h = fixed_is k.Unquoted ts x f in subst (λ (y : AttrValue). IsValue ts y x.1) (sym h.1) (inl h.2)
  by_case false true f = made (λ (t : Expr × List Token). live t.0) (read_mustache ts) x f (λ t p same. subst (λ (y : AttrValue × List Token). IsValue ts y.0 y.1) same (live_value ts t.0 t.1 (read_mustache_is ts t p)))
  by_case false false f = quote_is ts x f

-- The other way round.

end_quoted : (ts us : List Token) → Mark k.CloseQuote ts us → starts_quoted ts ≡ false
unfolding starts_quoted
end_quoted ts us m = ap (λ x. x || stands k.OpenMustache ts) (other_stands k.CloseQuote k.Text ts us m.0 m.1 m.2 refl) ∙ other_stands k.CloseQuote k.OpenMustache ts us m.0 m.1 m.2 refl

plain_between : (ts : List Token) (s : Text) (us : List Token) → IsPlainValue ts s us → (ws : List Token) × (read_between ts ≡ Some (fixed s, ws)) × Mark k.CloseQuote ws us
unfolding read_between stands_plain
plain_between ts s us (inl h) = (ts, rw (kind_stands k.CloseQuote ts us h.0.0 h.0.1 h.0.2) (ap (λ x. Some (fixed x, ts)) (sym h.1)), h.0)
plain_between ts s us (inr h) =
    let t = h.1 in
    let m = h.2 in
    let open_quote = other_stands k.Text k.CloseQuote ts h.0 t.0 t.1 t.2 refl in
    let text = kind_stands k.Text ts h.0 t.0 t.1 t.2 in
    let close : stands k.CloseQuote (drop 1 ts) ≡ true = ap (λ x. stands k.CloseQuote (drop 1 x)) t.1 ∙ kind_stands k.CloseQuote h.0 us m.0 m.1 m.2 in
    (h.0, rw (open_quote, text, close) (reads_fixed k.Text ts s h.0 t), m)

cat_between : (ts : List Token) (es : Exprs) (ws us : List Token) → AreQuoted true ts es ws → Mark k.CloseQuote ws us → read_between ts ≡ Some (live (cat es), ws)
unfolding read_between
cat_between ts es ws us h m = rw (cat_opens ts es ws h, cat_not_plain ts es ws h) (reads_cat ts es ws h (end_quoted ws us m))

quote_read : (ts vs ws us : List Token) (x : AttrValue) → Mark k.OpenQuote ts vs → read_between vs ≡ Some (x, ws) → Mark k.CloseQuote ws us → read_quote ts ≡ Some (x, us)
unfolding read_quote
quote_read ts vs ws us x front h back = rw (takes_kind k.OpenQuote ts vs front.0 front.1 front.2, h, takes_kind k.CloseQuote ws us back.0 back.1 back.2) refl

in_quotes : (ts vs : List Token) (x : AttrValue) (us : List Token) → Mark k.OpenQuote ts vs → read_quote ts ≡ Some (x, us) → read_value ts ≡ Some (x, us)
unfolding read_value
in_quotes ts vs x us m h = rw (other_stands k.OpenQuote k.Unquoted ts vs m.0 m.1 m.2 refl, other_stands k.OpenQuote k.OpenMustache ts vs m.0 m.1 m.2 refl) h

unquoted_read : (ts : List Token) (s : Text) (us : List Token) → IsFixed k.Unquoted ts s us → read_value ts ≡ Some (fixed s, us)
unfolding read_value
unquoted_read ts s us h = rw (kind_stands k.Unquoted ts us h.0 h.1 h.2) (reads_fixed k.Unquoted ts s us h)

live_read : (ts : List Token) (e : Expr) (us : List Token) → IsMustache ts e us → read_value ts ≡ Some (live e, us)
unfolding read_value
live_read ts e us h = rw (mustache_other k.Unquoted ts e us h refl, mustache_stands ts e us h, reads_mustache ts e us h) refl

pub reads_value : (ts : List Token) (x : AttrValue) (us : List Token) → IsValue ts x us → read_value ts ≡ Some (x, us)
reads_value ts (fixed s) us (inl h) = unquoted_read ts s us h
reads_value ts (fixed s) us (inr h) =
    let p = plain_between h.0 s us h.2 in
    in_quotes ts h.0 (fixed s) us h.1 (quote_read ts h.0 p.0 us (fixed s) h.1 p.1 p.2)
reads_value ts (live (cat es)) us h = in_quotes ts h.0 (live (cat es)) us h.2 (quote_read ts h.0 h.1 us (live (cat es)) h.2 (cat_between h.0 es h.1 us h.3 h.4) h.4)
reads_value ts (live (literal c)) us h = live_read ts (literal c) us h
reads_value ts (live (this n ns)) us h = live_read ts (this n ns) us h
reads_value ts (live (argument n ns)) us h = live_read ts (argument n ns) us h
reads_value ts (live (bare n ns)) us h = live_read ts (bare n ns) us h
reads_value ts (live (call n es ns)) us h = live_read ts (call n es ns) us h

-- `=` and a value, or none

pub read_given_is : (ts : List Token) (x : AttrValue × List Token) → read_given ts ≡ Some x → IsGiven ts x.0 x.1
unfolding read_given
read_given_is ts x e = by_case (stands k.Equals ts) e where
  by_case : (b : Bool) → (if b then (take_kind k.Equals ts >>= λ mark. read_value mark.1) else Some (fixed [], ts)) ≡ Some x → IsGiven ts x.0 x.1
  by_case true f = option_and_then_some _ _ x f (λ mark p last. let g = kind_is k.Equals ts mark p in inr (mark.1, (g.token, g.here, g.is_kind), read_value_is mark.1 x last))
  by_case false f = let same = same_Some {A = AttrValue × List Token} (fixed [], ts) x f in inl (ap (λ (y : AttrValue × List Token). y.1) same, ap (λ (y : AttrValue × List Token). y.0) (sym same))

pub reads_given : (ts : List Token) (x : AttrValue) (us : List Token) → IsGiven ts x us → stands k.Equals us ≡ false → read_given ts ≡ Some (x, us)
unfolding read_given
reads_given ts x us (inl h) ends = rw (ap (stands k.Equals) h.0 ∙ ends) (ap (λ y. Some (fixed [], y)) h.0 ∙ ap (λ y. Some (y, us)) (sym h.1))
reads_given ts x us (inr h) ends = rw (kind_stands k.Equals ts h.0 h.1.0 h.1.1 h.1.2, takes_kind k.Equals ts h.0 h.1.0 h.1.1 h.1.2) (reads_value h.0 x us h.2)
