-- The spelling of values and of parts of a tag is read as tokens that spell them.
use Rattle.std.proofs.Common.{◌≡◌, inl, inr, ℕ, List, [], ◌∷◌, ◌++◌, Bool, true, false, refl, sym, ap, subst}
use Rattle.std.specs.Prelude.{◌&&◌, ◌||◌, codes, not, if◌then◌else◌}
use Rattle.gl_base.specs.Texts.{Text, bytes_of}
use Rattle.gl_value.specs.Value as v
use Rattle.gl_ast.specs.Canon.{value_text, mustache_text, is_string, begins_string, ends_backslash, is_plain_part, part_of_value, parts_of_value, cat_text, given_text}
use Rattle.gl_ast.specs.Grammar.{Mark, Stands, IsMustache, IsQuotedText, AreQuoted, IsGiven, is_empty_text}
use Rattle.gl_ast.specs.Template.{Expr, literal, this, argument, bare, call, cat, Exprs, no_exprs, expr, AttrValue, fixed, live}
use Rattle.gl_ast.specs.TokenText.{decoded}
use Rattle.gl_ast.specs.declared.mode.Quote.TheVariants.{Double}
use Rattle.gl_ast.specs.declared.mode.Around.TheVariants as a
use Rattle.gl_ast.specs.declared.mode.Mode.TheVariants as m
use Rattle.gl_ast.specs.declared.token.Token.{Token}
use Rattle.gl_ast.specs.declared.token.TokenKind.TheVariants as k
use Rattle.gl_show.specs.Spellable.{CanInner, CanQuotedPart, needs_text, CanQuoted, CanCat, CanValue}
use Rattle.gl_show.proofs.Lexed.{Lexed, Then, lexed_as, lexed_bytes}
use Rattle.gl_show.proofs.LexedExpr.{join2, low1, lexed_join, lexed_low}
use Rattle.gl_show.proofs.LexedTag.{lexed_mustache, equals_opens, value_opens, lexed_value_text, lexed_equals, lexed_quote, lexed_end_quote, quote_ends, part_ends}

-- whether a part is written as a text
abbrev pub is_written : Bool → Expr → Bool
is_written near (literal (v.text s)) = is_plain_part near s
is_written near _ = false

neither : (x y : Bool) → (x || y) ≡ false → (x ≡ false) × (y ≡ false)
neither true y e = cc
neither false y e = (refl, e)

written_mustache : (near : Bool) (e : Expr) → is_written near e ≡ false → part_of_value near e ≡ mustache_text e
written_mustache near (literal (v.text s)) h = rw h refl
written_mustache near (literal v.undefined) h = refl
written_mustache near (literal v.null) h = refl
written_mustache near (literal (v.boolean b)) h = refl
written_mustache near (literal (v.integer z)) h = refl
written_mustache near (literal x) h = refl
written_mustache near (this n ns) h = refl
written_mustache near (argument n ns) h = refl
written_mustache near (bare n ns) h = refl
written_mustache near (call n es ns) h = refl
written_mustache near (cat es) h = refl

inner_part : (near : Bool) (e : Expr) → is_written near e ≡ false → CanQuotedPart e → CanInner e
inner_part near (literal (v.text s)) h can = (can, (neither (ends_backslash s) (not (is_empty_text s) && not near) h).0)
inner_part near (literal v.undefined) h can = can
inner_part near (literal v.null) h can = can
inner_part near (literal (v.boolean b)) h can = can
inner_part near (literal (v.integer z)) h can = can
inner_part near (literal x) h can = can
inner_part near (this n ns) h can = can
inner_part near (argument n ns) h can = can
inner_part near (bare n ns) h can = can
inner_part near (call n es ns) h can = can
inner_part near (cat es) h can = can

-- a part that is a mustache
part_mustache : {P : List Token → Type 0} (near : Bool) (e : Expr) (rest : List ℕ) → is_written near e ≡ false → CanQuotedPart e → Lexed (m.Value Double) true rest P
    → Lexed (m.Value Double) true (bytes_of (part_of_value near e) ++ rest) (Then (λ ts us. IsMustache ts e us) P)
part_mustache near e rest h can l =
    lexed_bytes (m.Value Double) true (bytes_of (part_of_value near e) ++ rest) (bytes_of (mustache_text e) ++ rest) (ap (λ x. bytes_of x ++ rest) (written_mustache near e h))
    (lexed_mustache (m.Value Double) (a.Value Double) true e rest value_opens (inner_part near e h can) l)

-- a part that is a text has a character
plain_some : (near : Bool) (s : Text) → is_plain_part near s ≡ true → is_empty_text s ≡ false
plain_some near [] h = cc
plain_some near (c ∷ cs) h = refl

part_text_token : {P : List Token → Type 0} (near : Bool) (e : Expr) (rest : List ℕ) → is_written near e ≡ true → CanQuotedPart e → quote_ends rest → Lexed (m.Value Double) true rest P
    → Lexed (m.Value Double) true (bytes_of (part_of_value near e) ++ rest) (Then (λ ts us. IsQuotedText ts e us) P)
part_text_token near (literal (v.text s)) rest h can r l =
    lexed_bytes (m.Value Double) true (bytes_of (part_of_value near (literal (v.text s))) ++ rest) (bytes_of (value_text s) ++ rest) (ap (λ t. bytes_of (if t then value_text s else mustache_text (literal (v.text s))) ++ rest) h)
    (lexed_value_text s rest can (plain_some near s h) r l)
part_text_token near (literal v.undefined) rest h can r l = cc
part_text_token near (literal v.null) rest h can r l = cc
part_text_token near (literal (v.boolean b)) rest h can r l = cc
part_text_token near (literal (v.integer z)) rest h can r l = cc
part_text_token near (literal x) rest h can r l = absurd can
part_text_token near (this n ns) rest h can r l = cc
part_text_token near (argument n ns) rest h can r l = cc
part_text_token near (bare n ns) rest h can r l = cc
part_text_token near (call n es ns) rest h can r l = cc
part_text_token near (cat es) rest h can r l = absurd can

written_string : (near : Bool) (e : Expr) → is_written near e ≡ true → is_string e ≡ true
written_string near (literal (v.text s)) h = refl
written_string near (literal v.undefined) h = cc
written_string near (literal v.null) h = cc
written_string near (literal (v.boolean b)) h = cc
written_string near (literal (v.integer z)) h = cc
written_string near (literal x) h = cc
written_string near (this n ns) h = cc
written_string near (argument n ns) h = cc
written_string near (bare n ns) h = cc
written_string near (call n es ns) h = cc
written_string near (cat es) h = cc

no_string : (e : Expr) → is_string e ≡ false → needs_text e ≡ false
no_string (literal (v.text s)) h = cc
no_string (literal v.undefined) h = refl
no_string (literal v.null) h = refl
no_string (literal (v.boolean b)) h = refl
no_string (literal (v.integer z)) h = refl
no_string (literal x) h = refl
no_string (this n ns) h = refl
no_string (argument n ns) h = refl
no_string (bare n ns) h = refl
no_string (call n es ns) h = refl
no_string (cat es) h = refl

-- a text is followed by no string that needs to be one
written_needs : (before : Bool) (e f : Expr) → is_written (before || is_string f) e ≡ true → (needs_text e && needs_text f) ≡ false → needs_text f ≡ false
written_needs before (literal (v.text s)) f h n = needs_case (ends_backslash s) refl h n
  where
    off : (b : Bool) → (not (is_empty_text s) && not (before || b)) ≡ true → b ≡ false
    off false g = refl
    off true g = let k = never (not (is_empty_text s)) before in cc
      where
        never : (x y : Bool) → (x && not (y || true)) ≡ false
        never true true = refl
        never true false = refl
        never false y = refl

    needs_case : (t : Bool) → ends_backslash s ≡ t → (t || (not (is_empty_text s) && not (before || is_string f))) ≡ true → (t && needs_text f) ≡ false → needs_text f ≡ false
    needs_case true e g k = k
    needs_case false e g k = no_string f (off (is_string f) g)
written_needs before (literal v.undefined) f h n = cc
written_needs before (literal v.null) f h n = cc
written_needs before (literal (v.boolean b)) f h n = cc
written_needs before (literal (v.integer z)) f h n = cc
written_needs before (literal x) f h n = cc
written_needs before (this x ns) f h n = cc
written_needs before (argument x ns) f h n = cc
written_needs before (bare x ns) f h n = cc
written_needs before (call x es ns) f h n = cc
written_needs before (cat es) f h n = cc

-- beside a string, one that needs not be a text is a mustache
not_written : (near : Bool) (e : Expr) → near ≡ true → needs_text e ≡ false → is_written near e ≡ false
not_written near (literal (v.text s)) h n = rw (n, h) (never (is_empty_text s))
  where
    never : (t : Bool) → (not t && false) ≡ false
    never true = refl
    never false = refl
not_written near (literal v.undefined) h n = refl
not_written near (literal v.null) h n = refl
not_written near (literal (v.boolean b)) h n = refl
not_written near (literal (v.integer z)) h n = refl
not_written near (literal x) h n = refl
not_written near (this x ns) h n = refl
not_written near (argument x ns) h n = refl
not_written near (bare x ns) h n = refl
not_written near (call x es ns) h n = refl
not_written near (cat es) h n = refl

near_after : (e : Expr) (es : Exprs) → is_string e ≡ true → (is_string e || begins_string es) ≡ true
near_after e es h = rw h refl

-- what follows a text ends it
parts_end : (before : Bool) (e : Expr) (es : Exprs) (rest : List ℕ) → is_written (before || begins_string es) e ≡ true → CanQuoted (needs_text e) es → quote_ends rest → quote_ends (bytes_of (parts_of_value (is_string e) es) ++ rest)
parts_end before e no_exprs rest h can r = r
parts_end before e (expr f es) rest h can r =
    let s = written_string (before || is_string f) e h in
    let n = written_needs before e f h can.1 in
    subst (λ (x : List ℕ). quote_ends x) (sym (join2 (part_of_value (is_string e || begins_string es) f) (parts_of_value (is_string f) es) rest))
    (part_ends (is_string e || begins_string es) f (bytes_of (parts_of_value (is_string f) es) ++ rest) (λ g. near_after e es s) n)

lexed_quoted : {P : List Token → Type 0} (before needs : Bool) (es : Exprs) (rest : List ℕ) → CanQuoted needs es → quote_ends rest → Lexed (m.Value Double) true rest P
    → Lexed (m.Value Double) true (bytes_of (parts_of_value before es) ++ rest) (Then (λ ts us. AreQuoted false ts es us) P)
lexed_quoted before needs no_exprs rest can r l = lexed_as (m.Value Double) true rest (λ ts p. (ts, (refl, refl), p)) l
lexed_quoted {P} before needs (expr e es) rest can r l =
    lexed_join (m.Value Double) true (part_of_value (before || begins_string es) e) (parts_of_value (is_string e) es) rest
    (written_case (is_written (before || begins_string es) e) refl (lexed_quoted (is_string e) (needs_text e) es rest can.2 r l))
  where
    written_case : (t : Bool) → is_written (before || begins_string es) e ≡ t → Lexed (m.Value Double) true (bytes_of (parts_of_value (is_string e) es) ++ rest) (Then (λ ts us. AreQuoted false ts es us) P)
        → Lexed (m.Value Double) true (bytes_of (part_of_value (before || begins_string es) e) ++ (bytes_of (parts_of_value (is_string e) es) ++ rest)) (Then (λ ts us. AreQuoted false ts (expr e es) us) P)
    written_case true h more =
        lexed_as (m.Value Double) true (bytes_of (part_of_value (before || begins_string es) e) ++ (bytes_of (parts_of_value (is_string e) es) ++ rest)) (λ ts g. (g.2.0, (g.0, inl (g.1, g.2.1)), g.2.2))
        (part_text_token (before || begins_string es) e (bytes_of (parts_of_value (is_string e) es) ++ rest) h can.0 (parts_end before e es rest h can.2 r) more)
    written_case false h more =
        lexed_as (m.Value Double) true (bytes_of (part_of_value (before || begins_string es) e) ++ (bytes_of (parts_of_value (is_string e) es) ++ rest)) (λ ts g. (g.2.0, (g.0, inr (g.1, g.2.1)), g.2.2))
        (part_mustache (before || begins_string es) e (bytes_of (parts_of_value (is_string e) es) ++ rest) h can.0 more)

-- a mustache, and then others
lexed_shown : {P : List Token → Type 0} (near : Bool) (e : Expr) (es : Exprs) (rest : List ℕ) → is_written near e ≡ false → CanQuotedPart e → CanQuoted (needs_text e) es → quote_ends rest → Lexed (m.Value Double) true rest P
    → Lexed (m.Value Double) true (bytes_of (part_of_value near e ++ parts_of_value (is_string e) es) ++ rest) (Then (λ ts us. AreQuoted true ts (expr e es) us) P)
lexed_shown {P} near e es rest h can cans r l =
    lexed_as (m.Value Double) true (bytes_of (part_of_value near e ++ parts_of_value (is_string e) es) ++ rest) (λ ts g. (g.2.0, (g.0, inr (g.1, g.2.1)), g.2.2))
    (lexed_join (m.Value Double) true (part_of_value near e) (parts_of_value (is_string e) es) rest
    (part_mustache near e (bytes_of (parts_of_value (is_string e) es) ++ rest) h can (lexed_quoted (is_string e) (needs_text e) es rest cans r l)))

pub lexed_cat : {P : List Token → Type 0} (es : Exprs) (rest : List ℕ) → CanCat es → quote_ends rest → Lexed (m.Value Double) true rest P
    → Lexed (m.Value Double) true (bytes_of (cat_text es) ++ rest) (Then (λ ts us. AreQuoted true ts es us) P)
lexed_cat no_exprs rest can r l = absurd can
lexed_cat {P} (expr e no_exprs) rest can r l =
    lexed_as (m.Value Double) true (bytes_of (part_of_value true e) ++ rest) (λ ts g. (g.0, (g.0, inr (g.1, (refl, refl))), g.2))
    (part_mustache true e rest (not_written true e refl can.1) can.0 l)
lexed_cat {P} (expr e (expr f es)) rest can r l = first_case (is_written (is_string f) e) refl
  where
    first_case : (t : Bool) → is_written (is_string f) e ≡ t → Lexed (m.Value Double) true (bytes_of (part_of_value (is_string f) e ++ parts_of_value (is_string e) (expr f es)) ++ rest) (Then (λ ts us. AreQuoted true ts (expr e (expr f es)) us) P)
    first_case false h = lexed_shown (is_string f) e (expr f es) rest h can.0 can.2 r l
    first_case true h =
        let s = written_string (is_string f) e h in
        let n = written_needs false e f h can.2.1 in
        lexed_as (m.Value Double) true (bytes_of (part_of_value (is_string f) e ++ parts_of_value (is_string e) (expr f es)) ++ rest) (λ ts g. (g.2.0, (g.0, inl (g.1, g.2.1)), g.2.2))
        (lexed_join (m.Value Double) true (part_of_value (is_string f) e) (parts_of_value (is_string e) (expr f es)) rest
        (part_text_token (is_string f) e (bytes_of (parts_of_value (is_string e) (expr f es)) ++ rest) h can.0 (parts_end false e (expr f es) rest h can.2 r)
        (lexed_shown (is_string e || begins_string es) f es rest (not_written (is_string e || begins_string es) f (near_after e es s) n) can.2.0 can.2.2 r l)))

-- `="`, what stands in the quotes, and `"`
lexed_in_quotes : {P : List Token → Type 0} (Rel : List Token → List Token → Type 0) (xs : Text) (rest : List ℕ)
    → Lexed (m.Value Double) true (bytes_of xs ++ (34 ∷ rest)) (Then Rel (Then (Mark k.CloseQuote) P))
    → Lexed m.Tag true (bytes_of (codes "=\"" ++ (xs ++ codes "\"")) ++ rest) (Then (Mark k.Equals) (Then (Mark k.OpenQuote) (Then Rel (Then (Mark k.CloseQuote) P))))
lexed_in_quotes Rel xs rest l =
    lexed_low m.Tag true (codes "=\"") (xs ++ codes "\"") rest refl
    (lexed_equals (34 ∷ (bytes_of (xs ++ codes "\"") ++ rest))
    (lexed_quote (bytes_of (xs ++ codes "\"") ++ rest)
    (lexed_join (m.Value Double) true xs (codes "\"") rest
    (lexed_bytes (m.Value Double) true (bytes_of xs ++ (bytes_of (codes "\"") ++ rest)) (bytes_of xs ++ (34 ∷ rest)) (ap (λ x. bytes_of xs ++ x) (low1 (codes "\"") rest refl)) l))))

lexed_live : {P : List Token → Type 0} (e : Expr) (rest : List ℕ) → CanInner e → Lexed m.ValueEnd true rest P → Lexed m.Tag true (bytes_of (61 ∷ mustache_text e) ++ rest) (Then (Mark k.Equals) (Then (λ ts us. IsMustache ts e us) P))
lexed_live e rest can l =
    lexed_low m.Tag true (61 ∷ []) (mustache_text e) rest refl
    (lexed_equals (bytes_of (mustache_text e) ++ rest) (lexed_mustache m.Equals a.ValueEnd true e rest equals_opens can l))

-- what stands after a name
pub lexed_given : {P : List Token → Type 0} (x : AttrValue) (rest : List ℕ) → CanValue x → Lexed m.ValueEnd true rest P → Lexed m.Tag true (bytes_of (given_text x) ++ rest) (Then (λ ts us. IsGiven ts x us) P)
lexed_given {P} (fixed []) rest can l =
    lexed_as m.Tag true (bytes_of (given_text (fixed [])) ++ rest) (λ ts g. (g.2.2.2.0, inr (g.0, g.1, inr (g.2.0, g.2.1, (let e : g.2.1.0 ≡ g.2.1.0 = refl in inl (subst (λ (us : List Token). Mark k.CloseQuote us g.2.2.2.0) (sym g.2.2.1) g.2.2.2.1, refl)))), g.2.2.2.2))
    (lexed_in_quotes (λ ts us. ts ≡ us) [] rest (lexed_as (m.Value Double) true (34 ∷ rest) (λ ts g. (ts, refl, g)) (lexed_end_quote rest l)))
lexed_given {P} (fixed (c ∷ cs)) rest can l =
    lexed_as m.Tag true (bytes_of (given_text (fixed (c ∷ cs))) ++ rest) (λ ts g. (g.2.2.2.0, inr (g.0, g.1, inr (g.2.0, g.2.1, inr (g.2.2.0, g.2.2.1, g.2.2.2.1))), g.2.2.2.2))
    (lexed_in_quotes (Stands k.Text (λ x. decoded x ≡ c ∷ cs)) (value_text (c ∷ cs)) rest (lexed_value_text (c ∷ cs) (34 ∷ rest) can refl refl (lexed_end_quote rest l)))
lexed_given {P} (live (cat es)) rest can l =
    lexed_as m.Tag true (bytes_of (given_text (live (cat es))) ++ rest) (λ ts g. (g.2.2.2.0, inr (g.0, g.1, (g.2.0, g.2.2.0, g.2.1, g.2.2.1, g.2.2.2.1)), g.2.2.2.2))
    (lexed_in_quotes (λ ts us. AreQuoted true ts es us) (cat_text es) rest (lexed_cat es (34 ∷ rest) can refl (lexed_end_quote rest l)))
lexed_given {P} (live (literal x)) rest can l = lexed_as m.Tag true (bytes_of (61 ∷ mustache_text (literal x)) ++ rest) (λ ts g. (g.2.0, inr (g.0, g.1, g.2.1), g.2.2)) (lexed_live (literal x) rest can l)
lexed_given {P} (live (this n ns)) rest can l = lexed_as m.Tag true (bytes_of (61 ∷ mustache_text (this n ns)) ++ rest) (λ ts g. (g.2.0, inr (g.0, g.1, g.2.1), g.2.2)) (lexed_live (this n ns) rest can l)
lexed_given {P} (live (argument n ns)) rest can l = lexed_as m.Tag true (bytes_of (61 ∷ mustache_text (argument n ns)) ++ rest) (λ ts g. (g.2.0, inr (g.0, g.1, g.2.1), g.2.2)) (lexed_live (argument n ns) rest can l)
lexed_given {P} (live (bare n ns)) rest can l = lexed_as m.Tag true (bytes_of (61 ∷ mustache_text (bare n ns)) ++ rest) (λ ts g. (g.2.0, inr (g.0, g.1, g.2.1), g.2.2)) (lexed_live (bare n ns) rest can l)
lexed_given {P} (live (call n es ns)) rest can l = lexed_as m.Tag true (bytes_of (61 ∷ mustache_text (call n es ns)) ++ rest) (λ ts g. (g.2.0, inr (g.0, g.1, g.2.1), g.2.2)) (lexed_live (call n es ns) rest can l)
