-- The spelling of mustaches, values and parts of a tag is read as tokens that spell them.
use Rattle.std.proofs.Common.{◌≡◌, ◌<◌, inl, inr, ℕ, List, [], ◌∷◌, ◌++◌, Bool, true, false, Some, length, refl, sym, ap, subst, ◌∙◌, arith}
use Rattle.std.specs.Prelude.{◌&&◌, not, if◌then◌else◌}
use Rattle.std.specs.List.{list_all}
use Rattle.std.specs.Str.{chars}
use Rattle.std.proofs.lemmas.Str.{chars-encodes, length-le-encodes}
use Rattle.gl_base.specs.Texts.{Text, bytes_of, is_ascii_text}
use Rattle.gl_value.specs.Value as v
use Rattle.gl_ast.specs.Canon.{value_text, expr_text, exprs_text, named_text, inner_text, mustache_text, is_string, is_plain_part, part_of_value}
use Rattle.gl_ast.specs.Grammar.{deepest_calls, Mark, Stands, IsCall, has_argument, IsInner, IsMustache, is_empty_text}
use Rattle.gl_ast.specs.Modes.{after_around, token}
use Rattle.gl_ast.specs.Settling.{is_text, opens_tag, closes_tag}
use Rattle.gl_ast.specs.Template.{Expr, literal, this, argument, bare, call, cat, Exprs, no_exprs, expr, NamedExprs, no_named, named_expr}
use Rattle.gl_ast.specs.TokenReading.{stands_white}
use Rattle.gl_ast.specs.TokenText.{decoded}
use Rattle.gl_ast.specs.Words.{ends_quoted}
use Rattle.gl_ast.specs.declared.mode.Quote.TheVariants.{Double}
use Rattle.gl_ast.specs.declared.mode.Around.{Around}
use Rattle.gl_ast.specs.declared.mode.Around.TheVariants as a
use Rattle.gl_ast.specs.declared.mode.Mode.{Mode}
use Rattle.gl_ast.specs.declared.mode.Mode.TheVariants as m
use Rattle.gl_ast.specs.declared.token.Token.{Token}
use Rattle.gl_ast.specs.declared.token.TokenKind.{TokenKind}
use Rattle.gl_ast.specs.declared.token.TokenKind.TheVariants as k
use Rattle.gl_show.specs.Spellable.{IsTextual, CanExpr, CanCall, CanInner, needs_text}
use Rattle.gl_show.proofs.Decoding.{value_text_writes}
use Rattle.gl_show.proofs.ExprTokens.{ReadsExprs, Breaks, in_mustache, mustache_end}
use Rattle.gl_show.proofs.Lexed.{Lexed, Then, lexed_as, lexed_plain, lexed_piece, marked}
use Rattle.gl_show.proofs.LexedExpr.{ascii_utf8, join2, low2, lexed_join, lexed_low, lexed_last, lexed_name, lexed_expr, lexed_exprs, lexed_named, stands_as, Opens, opens_first, opens_name, opens_expr, breaks_exprs, breaks_named, breaks_join, breaks_last}
use Rattle.gl_show.proofs.Runs.{in_value, RunEnds}
use Rattle.gl_show.proofs.Scanning.{name_ascii}
use Rattle.gl_show.proofs.TagTokens.{equals_tag_token, tag_mustache_token, quote_token, live_token, close_quote_token, value_mustache_token, value_text_token}

-- what stands in a mustache begins as an expression does
pub opens_inner : (e : Expr) (l : List ℕ) → CanInner e → Opens (bytes_of (inner_text e) ++ l)
opens_inner (literal x) l can = opens_expr deepest_calls (literal x) l can
opens_inner (this n ns) l can = opens_expr deepest_calls (this n ns) l can
opens_inner (argument n ns) l can = opens_expr deepest_calls (argument n ns) l can
opens_inner (bare n ns) l can = opens_expr deepest_calls (bare n ns) l can
opens_inner (call n es ns) l can = call_case (has_argument es ns)
  where
    call_case : (t : Bool) → Opens (bytes_of (if t then n ++ (exprs_text es ++ named_text ns) else expr_text (call n es ns)) ++ l)
    call_case true = opens_name n (exprs_text es ++ named_text ns) l can.0.0
    call_case false = opens_first 40 (n ++ (exprs_text es ++ (named_text ns ++ 41 ∷ []))) l refl refl
opens_inner (cat es) l can = absurd can

-- a name with arguments
pub lexed_call : {P : List Token → Type 0} (mode : Mode) (reads : ReadsExprs mode) (tag : Bool) (n : Text) (es : Exprs) (ns : NamedExprs) (rest : List ℕ) → CanCall n es ns → Breaks rest → Lexed mode tag rest P
    → Lexed mode tag (bytes_of (n ++ (exprs_text es ++ named_text ns)) ++ rest) (Then (λ ts us. IsCall ts n es ns us) P)
lexed_call {P} mode reads tag n es ns rest can b l =
    let bn = breaks_named deepest_calls ns rest can.2 b in
    let be : Breaks (bytes_of (exprs_text es ++ named_text ns) ++ rest) = breaks_join (exprs_text es) (named_text ns) rest (breaks_exprs deepest_calls es (bytes_of (named_text ns) ++ rest) can.1 bn) in
    let named = lexed_named mode reads tag deepest_calls ns rest can.2 b l in
    let args = lexed_join mode tag (exprs_text es) (named_text ns) rest (lexed_exprs mode reads tag deepest_calls es (bytes_of (named_text ns) ++ rest) can.1 bn named) in
    lexed_as mode tag (bytes_of (n ++ (exprs_text es ++ named_text ns)) ++ rest) (λ ts h. (h.2.2.0, (h.0, h.2.0, h.1, h.2.1, h.2.2.1), h.2.2.2))
    (lexed_low mode tag n (exprs_text es ++ named_text ns) rest (name_ascii n can.0.0) (lexed_name mode reads tag n (bytes_of (exprs_text es ++ named_text ns) ++ rest) can.0 be args))

no_argument : (es : Exprs) (ns : NamedExprs) → has_argument es ns ≡ false → (es ≡ no_exprs) × (ns ≡ no_named)
no_argument no_exprs no_named e = (refl, refl)
no_argument no_exprs (named_expr n x ns) e = cc
no_argument (expr x es) ns e = cc

pub lexed_inner : {P : List Token → Type 0} (mode : Mode) (reads : ReadsExprs mode) (tag : Bool) (e : Expr) (rest : List ℕ) → CanInner e → Breaks rest → Lexed mode tag rest P → Lexed mode tag (bytes_of (inner_text e) ++ rest) (Then (λ ts us. IsInner ts e us) P)
lexed_inner mode reads tag (literal x) rest can b l = lexed_expr mode reads tag deepest_calls (literal x) rest can b l
lexed_inner mode reads tag (this n ns) rest can b l = lexed_expr mode reads tag deepest_calls (this n ns) rest can b l
lexed_inner mode reads tag (argument n ns) rest can b l = lexed_expr mode reads tag deepest_calls (argument n ns) rest can b l
lexed_inner mode reads tag (bare n ns) rest can b l = lexed_expr mode reads tag deepest_calls (bare n ns) rest can b l
lexed_inner {P} mode reads tag (call n es ns) rest can b l = call_case (has_argument es ns) refl
  where
    lone_call : (xs : Exprs) (ys : NamedExprs) → xs ≡ no_exprs → ys ≡ no_named → CanExpr deepest_calls (call n xs ys)
    lone_call xs ys e f = rw (e, f) (can.0, tt, tt)

    call_case : (t : Bool) → has_argument es ns ≡ t → Lexed mode tag (bytes_of (if t then n ++ (exprs_text es ++ named_text ns) else expr_text (call n es ns)) ++ rest) (Then (λ ts us. IsInner ts (call n es ns) us) P)
    call_case true e =
        lexed_as mode tag (bytes_of (n ++ (exprs_text es ++ named_text ns)) ++ rest) (λ ts h. (h.0, inr (h.1, e), h.2)) (lexed_call mode reads tag n es ns rest can b l)
    call_case false e =
        let none = no_argument es ns e in
        lexed_as mode tag (bytes_of (expr_text (call n es ns)) ++ rest) (λ ts h. (h.0, inl h.1, h.2))
        (lexed_expr mode reads tag deepest_calls (call n es ns) rest (lone_call es ns none.0 none.1) b l)
lexed_inner mode reads tag (cat es) rest can b l = absurd can

-- where mustaches may stand
abbrev pub OpensMustache : Mode → Around → Type 0
OpensMustache mode around = ((rest : List ℕ) → Opens rest → token mode (123 ∷ 123 ∷ rest) ≡ Some (k.OpenMustache, rest, m.Mustache around)) × ((rest : List ℕ) → stands_white mode (123 ∷ rest) ≡ false)

-- an opening of two braces
pub lexed_opening : {P : List Token → Type 0} (mode : Mode) (around : Around) (tag : Bool) (rest : List ℕ) → OpensMustache mode around → Opens rest → Lexed (m.Mustache around) tag rest P → Lexed mode tag (123 ∷ 123 ∷ rest) (Then (Mark k.OpenMustache) P)
lexed_opening {P} mode around tag rest opens o l =
    lexed_as mode tag (123 ∷ 123 ∷ rest) (λ ts h. marked k.OpenMustache (λ x. x ≡ chars (123 ∷ 123 ∷ [])) ts h)
    (lexed_plain mode (m.Mustache around) tag k.OpenMustache 123 (123 ∷ []) rest refl refl refl (opens.1 (123 ∷ rest)) (opens.0 rest o) (ascii_utf8 (123 ∷ 123 ∷ []) refl) l)

-- the end of a mustache
pub lexed_close : {P : List Token → Type 0} (around : Around) (tag : Bool) (rest : List ℕ) → Lexed (after_around around) tag rest P → Lexed (m.Mustache around) tag (125 ∷ 125 ∷ rest) (Then (Mark k.CloseMustache) P)
lexed_close {P} around tag rest l =
    lexed_as (m.Mustache around) tag (125 ∷ 125 ∷ rest) (λ ts h. marked k.CloseMustache (λ x. x ≡ chars (125 ∷ 125 ∷ [])) ts h)
    (lexed_plain (m.Mustache around) (after_around around) tag k.CloseMustache 125 (125 ∷ []) rest refl refl refl refl (mustache_end around rest) (ascii_utf8 (125 ∷ 125 ∷ []) refl) l)

pub breaks_close : (rest : List ℕ) → Breaks (125 ∷ rest)
breaks_close rest = (refl, refl)

pub lexed_mustache : {P : List Token → Type 0} (mode : Mode) (around : Around) (tag : Bool) (e : Expr) (rest : List ℕ) → OpensMustache mode around → CanInner e → Lexed (after_around around) tag rest P → Lexed mode tag (bytes_of (mustache_text e) ++ rest) (Then (λ ts us. IsMustache ts e us) P)
lexed_mustache {P} mode around tag e rest opens can l =
    let ends = lexed_last (m.Mustache around) tag (125 ∷ 125 ∷ []) rest refl (lexed_close around tag rest l) in
    let be : Breaks (bytes_of (125 ∷ 125 ∷ []) ++ rest) = breaks_last (125 ∷ 125 ∷ []) rest refl (breaks_close (125 ∷ rest)) in
    let inner = lexed_join (m.Mustache around) tag (inner_text e) (125 ∷ 125 ∷ []) rest (lexed_inner (m.Mustache around) (in_mustache around) tag e (bytes_of (125 ∷ 125 ∷ []) ++ rest) can be ends) in
    let o : Opens (bytes_of (inner_text e ++ 125 ∷ 125 ∷ []) ++ rest) = subst (λ (x : List ℕ). Opens x) (sym (join2 (inner_text e) (125 ∷ 125 ∷ []) rest)) (opens_inner e (bytes_of (125 ∷ 125 ∷ []) ++ rest) can) in
    lexed_as mode tag (bytes_of (mustache_text e) ++ rest) (λ ts h. (h.2.2.0, (h.0, h.2.0, h.1, h.2.1, h.2.2.1), h.2.2.2))
    (lexed_low mode tag (123 ∷ 123 ∷ []) (inner_text e ++ 125 ∷ 125 ∷ []) rest refl (lexed_opening mode around tag (bytes_of (inner_text e ++ 125 ∷ 125 ∷ []) ++ rest) opens o inner))

pub tag_opens : OpensMustache m.Tag a.Tag
tag_opens = (tag_mustache_token, λ rest. refl)

pub equals_opens : OpensMustache m.Equals a.ValueEnd
equals_opens = (live_token, λ rest. refl)

pub value_opens : OpensMustache (m.Value Double) (a.Value Double)
value_opens = (value_mustache_token, λ rest. refl)

-- a text of a value
some_length : (cs : Text) → is_empty_text cs ≡ false → 0 < length (bytes_of cs)
some_length [] e = cc
some_length (c ∷ cs) e = omega (arith, length-le-encodes (c ∷ cs))

some_first : (cs : Text) → is_empty_text cs ≡ false → (rest : List ℕ) → list_all in_value cs ≡ true → RunEnds (ends_quoted 34) rest → token (m.Value Double) (bytes_of cs ++ rest) ≡ Some (k.Text, rest, m.Value Double)
some_first [] e rest a r = cc
some_first (c ∷ cs) e rest a r = value_text_token c cs rest a r

value_tight : (l : List ℕ) → stands_white (m.Value Double) l ≡ false
value_tight [] = refl
value_tight (b ∷ bs) = refl

pub lexed_value_text : {P : List Token → Type 0} (s : Text) (rest : List ℕ) → IsTextual s → is_empty_text s ≡ false → RunEnds (ends_quoted 34) rest → Lexed (m.Value Double) true rest P
    → Lexed (m.Value Double) true (bytes_of (value_text s) ++ rest) (Then (Stands k.Text (λ x. decoded x ≡ s)) P)
lexed_value_text {P} s rest can e r l =
    let w = value_text_writes s can in
    let some : is_empty_text (value_text s) ≡ false = w.3 ∙ e in
    lexed_as (m.Value Double) true (bytes_of (value_text s) ++ rest)
    (λ ts h. stands_as k.Text (λ x. x ≡ chars (bytes_of (value_text s))) (λ x. decoded x ≡ s) ts (λ x g. ap decoded (g ∙ chars-encodes (value_text s) w.2) ∙ w.0) h)
    (lexed_piece (m.Value Double) (m.Value Double) true true k.Text (bytes_of (value_text s)) rest (some_length (value_text s) some) (value_tight (bytes_of (value_text s) ++ rest)) (some_first (value_text s) some rest w.1 r) (value_text s, (w.2, refl)) tt refl l)

-- a mark of a tag
pub mark_of : {P : List Token → Type 0} (mode next : Mode) (kind : TokenKind) (b : ℕ) (piece rest : List ℕ) → opens_tag kind ≡ false → closes_tag kind ≡ false → is_text kind ≡ false → stands_white mode (b ∷ (piece ++ rest)) ≡ false
    → is_ascii_text (b ∷ piece) ≡ true → token mode (b ∷ (piece ++ rest)) ≡ Some (kind, rest, next) → Lexed next true rest P → Lexed mode true (b ∷ (piece ++ rest)) (Then (Mark kind) P)
mark_of {P} mode next kind b piece rest o c n tight low is l =
    lexed_as mode true (b ∷ (piece ++ rest)) (λ ts h. marked kind (λ x. x ≡ chars (b ∷ piece)) ts h) (lexed_plain mode next true kind b piece rest o c n tight is (ascii_utf8 (b ∷ piece) low) l)

-- `=` and a quote
pub lexed_equals : {P : List Token → Type 0} (rest : List ℕ) → Lexed m.Equals true rest P → Lexed m.Tag true (61 ∷ rest) (Then (Mark k.Equals) P)
lexed_equals rest l = mark_of m.Tag m.Equals k.Equals 61 [] rest refl refl refl refl refl (equals_tag_token rest) l

pub lexed_quote : {P : List Token → Type 0} (rest : List ℕ) → Lexed (m.Value Double) true rest P → Lexed m.Equals true (34 ∷ rest) (Then (Mark k.OpenQuote) P)
lexed_quote rest l = mark_of m.Equals (m.Value Double) k.OpenQuote 34 [] rest refl refl refl refl refl (quote_token rest) l

pub lexed_end_quote : {P : List Token → Type 0} (rest : List ℕ) → Lexed m.ValueEnd true rest P → Lexed (m.Value Double) true (34 ∷ rest) (Then (Mark k.CloseQuote) P)
lexed_end_quote rest l = mark_of (m.Value Double) m.ValueEnd k.CloseQuote 34 [] rest refl refl refl refl refl (close_quote_token rest) l

-- the parts of a quoted value
abbrev pub quote_ends : List ℕ → Type 0
quote_ends rest = RunEnds (ends_quoted 34) rest

mustache_ends : (e : Expr) (l : List ℕ) → quote_ends (bytes_of (mustache_text e) ++ l)
mustache_ends e l = subst (λ (x : List ℕ). quote_ends x) (sym (low2 (123 ∷ 123 ∷ []) (inner_text e ++ 125 ∷ 125 ∷ []) l refl)) refl

-- where a string stands before it, and that is written as a text, a part is a mustache
pub part_ends : (near : Bool) (e : Expr) (l : List ℕ) → (is_string e ≡ true → near ≡ true) → needs_text e ≡ false → quote_ends (bytes_of (part_of_value near e) ++ l)
part_ends near (literal (v.text s)) l h n =
    let b : near ≡ true = h refl in
    plain_case (is_plain_part near s) (rw (n, b) (never (is_empty_text s)))
  where
    never : (t : Bool) → (not t && false) ≡ false
    never true = refl
    never false = refl

    plain_case : (t : Bool) → t ≡ false → quote_ends (bytes_of (if t then value_text s else mustache_text (literal (v.text s))) ++ l)
    plain_case true e = cc
    plain_case false e = mustache_ends (literal (v.text s)) l
part_ends near (literal v.undefined) l h n = mustache_ends (literal v.undefined) l
part_ends near (literal v.null) l h n = mustache_ends (literal v.null) l
part_ends near (literal (v.boolean b)) l h n = mustache_ends (literal (v.boolean b)) l
part_ends near (literal (v.integer z)) l h n = mustache_ends (literal (v.integer z)) l
part_ends near (literal x) l h n = mustache_ends (literal x) l
part_ends near (this x xs) l h n = mustache_ends (this x xs) l
part_ends near (argument x xs) l h n = mustache_ends (argument x xs) l
part_ends near (bare x xs) l h n = mustache_ends (bare x xs) l
part_ends near (call x es ns) l h n = mustache_ends (call x es ns) l
part_ends near (cat es) l h n = mustache_ends (cat es) l
