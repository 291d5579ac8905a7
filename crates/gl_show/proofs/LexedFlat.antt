-- The spelling of texts, comments, mustaches and of the pieces of blocks is read as tokens that spell them.
use Rattle.std.proofs.Common.{◌≡◌, ◌<◌, ◌-◌, inl, inr, ℕ, List, [], ◌∷◌, ◌++◌, Bool, true, false, Some, refl, sym, ap, subst, ◌∙◌, append_assoc, length, take, length-append, arith}
use Rattle.std.specs.Prelude.{codes, ◌==◌, if◌then◌else◌}
use Rattle.std.specs.List.{list_all}
use lib.Utf8.{scalar}
use Rattle.std.specs.Str.{bytes_eq, chars, all_scalars}
use Rattle.std.proofs.lemmas.Bool.Decides.{nat_tests}
use Rattle.std.proofs.lemmas.Slice.Eq.{bytes_eq-Decides}
use Rattle.std.proofs.lemmas.Str.{chars-encodes, length-le-encodes, encodes-append}
use Rattle.gl_base.specs.Texts.{Text, bytes_of, is_ascii_text}
use Rattle.gl_base.proofs.Chars.{chars_of_ascii}
use Rattle.gl_ast.specs.Canon.{ends_backslash, target_text, inner_text, text_from, exprs_text, end_tag_text, closing_text, is_text_stmt, body_text, stmt_text, slots_text, else_text, parts_text, arguments_text, parameters_text, expr_text, string_text}
use Rattle.gl_ast.specs.Grammar.{deepest_calls, Mark, Stands, Word, AreExprs, IsTarget, IsEndTag, IsClosing, IsElse, if_word, is_void, is_empty_text, after_silent, Reach}
use Rattle.gl_ast.specs.Marks.{in_name}
use Rattle.gl_ast.specs.Modes.{token}
use Rattle.gl_ast.specs.Settling.{is_text, is_comment}
use Rattle.gl_ast.specs.Template.{Stmt, text_stmt, comment_stmt, put, element, component_stmt, if_stmt, each, let_stmt, yield, Body, end, stmt, Exprs}
use Rattle.gl_ast.specs.TokenReading.{stands_white}
use Rattle.gl_ast.specs.TokenText.{decoded, comment_of, end_name_of, is_block_name}
use Rattle.gl_ast.specs.Words.{ends_text}
use Rattle.gl_ast.specs.declared.mode.Around.TheVariants as a
use Rattle.gl_ast.specs.declared.mode.Mode.TheVariants as m
use Rattle.gl_ast.specs.declared.token.Token.{Token}
use Rattle.gl_ast.specs.declared.token.TokenKind.{TokenKind}
use Rattle.gl_ast.specs.declared.token.TokenKind.TheVariants as k
use Rattle.gl_ast.proofs.Forward.{both}
use Rattle.gl_show.specs.Spellable.{is_name, IsTextual, IsString, CanExprs, ends_comment}
use Rattle.gl_show.proofs.ContentTokens.{block_in_name, text_token, put_token, block_token, closing_token, silent_token, comment_token, goes_on_name, NamesTag, opening_token, end_token, end_name}
use Rattle.gl_show.proofs.Decoding.{text_from_writes, text_tight}
use Rattle.gl_show.proofs.ExprTokens.{Breaks, in_mustache, equals_token}
use Rattle.gl_show.proofs.Lexed.{Lexed, Then, IsTight, lexed_as, lexed_bytes, lexed_token, lexed_plain, lexed_piece, marked}
use Rattle.gl_show.proofs.LexedExpr.{ascii_utf8, ascii_append, scalars_append, join2, low2, lexed_join, lexed_low, lexed_last, lexed_word, lexed_exprs, lexed_string, expr_blank, mark_token, blank_breaks, stands_as, breaks_exprs, breaks_low, breaks_last}
use Rattle.gl_show.proofs.LexedTag.{OpensMustache, lexed_opening, lexed_close, breaks_close}
use Rattle.gl_show.proofs.Numbers.{take_front}
use Rattle.gl_show.proofs.Runs.{in_content, RunEnds}
use Rattle.gl_show.proofs.Scanning.{Stops, name_ascii, bytes_then}

pub content_opens : OpensMustache m.Content a.Content
content_opens = (put_token, λ rest. refl)

-- what ends a text
abbrev pub text_ends : List ℕ → Type 0
text_ends rest = RunEnds ends_text rest

-- a token that gives a statement, or belongs to one
pub quiet : (kind : TokenKind) → is_comment kind ≡ false → is_text kind ≡ false → (t : Token) (ts us : List Token) → ts ≡ t ∷ us → t.kind ≡ kind → after_silent ts ≡ ts
quiet kind n o t ts us e h = rw e (rw (h, n, o) refl)

pub mark_quiet : (kind : TokenKind) → is_comment kind ≡ false → is_text kind ≡ false → (ts us : List Token) → Mark kind ts us → after_silent ts ≡ ts
mark_quiet kind n o ts us g = quiet kind n o g.0 ts us g.1 g.2

pub stands_quiet : (kind : TokenKind) → is_comment kind ≡ false → is_text kind ≡ false → (Such : Text → Type 0) (ts us : List Token) → Stands kind Such ts us → after_silent ts ≡ ts
stands_quiet kind n o Such ts us g = quiet kind n o g.0 ts us g.1 g.2

text_quiet : (t : Token) (ts us : List Token) → ts ≡ t ∷ us → t.kind ≡ k.Text → is_empty_text t.text ≡ false → after_silent ts ≡ ts
text_quiet t ts us e h s = rw e (rw (h, s) refl)

-- a text
some_length : (cs : Text) → is_empty_text cs ≡ false → 0 < length (bytes_of cs)
some_length [] e = cc
some_length (c ∷ cs) e = omega (arith, length-le-encodes (c ∷ cs))

some_first : (cs : Text) → is_empty_text cs ≡ false → (rest : List ℕ) → list_all in_content cs ≡ true → text_ends rest → token m.Content (bytes_of cs ++ rest) ≡ Some (k.Text, rest, m.Content)
some_first [] e rest a r = cc
some_first (c ∷ cs) e rest a r = text_token c cs rest a r

content_tight : (l : List ℕ) → stands_white m.Content l ≡ false
content_tight [] = refl
content_tight (b ∷ bs) = refl

pub lexed_text : {P : List Token → Type 0} (s : Text) (rest : List ℕ) → IsTextual s → is_empty_text s ≡ false → text_ends rest → Lexed m.Content false rest P
    → Lexed m.Content false (bytes_of (text_from true s) ++ rest) (Then (λ ts us. (after_silent ts ≡ ts) × Stands k.Text (λ x. decoded x ≡ s) ts us) P)
lexed_text {P} s rest can e r l =
    let w = text_from_writes true s can in
    let some : is_empty_text (text_from true s) ≡ false = w.3 ∙ e in
    let same : chars (bytes_of (text_from true s)) ≡ text_from true s = chars-encodes (text_from true s) w.2 in
    lexed_as m.Content false (bytes_of (text_from true s) ++ rest)
    (λ ts h. (h.0, (text_quiet h.1.0 ts h.0 h.1.1 h.1.2 (ap is_empty_text (h.1.3 ∙ same) ∙ some), (h.1.0, h.1.1, h.1.2, ap decoded (h.1.3 ∙ same) ∙ w.0)), h.2))
    (lexed_piece m.Content m.Content false false k.Text (bytes_of (text_from true s)) rest (some_length (text_from true s) some) (content_tight (bytes_of (text_from true s) ++ rest)) (some_first (text_from true s) some rest w.1 r) (text_from true s, (w.2, refl))
    (subst (λ (x : Text). IsTight x × (all_scalars x ≡ true)) (sym same) (text_tight s can e, w.2)) refl l)

-- a comment
pub comment_is : (s : Text) → comment_of (codes "<!--" ++ (s ++ codes "-->")) ≡ s
comment_is s =
    let n : length (codes "<!--" ++ (s ++ codes "-->")) - 7 ≡ length s = omega (arith, length-append s (codes "-->")) in
    ap (λ i. take i (s ++ codes "-->")) n ∙ take_front s (codes "-->")

pub lexed_comment : {P : List Token → Type 0} (s : Text) (rest : List ℕ) → IsTextual s → ends_comment s ≡ false → Lexed m.Content false rest P
    → Lexed m.Content false (bytes_of (codes "<!--" ++ (s ++ codes "-->")) ++ rest) (Then (Stands k.HtmlComment (λ x. comment_of x ≡ s)) P)
lexed_comment {P} s rest can e l =
    let scal : all_scalars (codes "<!--" ++ (s ++ codes "-->")) ≡ true = scalars_append s (codes "-->") can refl in
    let low : bytes_of (codes "<!--" ++ (s ++ codes "-->")) ≡ 60 ∷ 33 ∷ 45 ∷ 45 ∷ (bytes_of s ++ codes "-->") = spelled in
    let same : chars (60 ∷ 33 ∷ 45 ∷ 45 ∷ (bytes_of s ++ codes "-->")) ≡ codes "<!--" ++ (s ++ codes "-->") = ap chars (sym low) ∙ chars-encodes (codes "<!--" ++ (s ++ codes "-->")) scal in
    let is : token m.Content (60 ∷ 33 ∷ 45 ∷ 45 ∷ ((bytes_of s ++ codes "-->") ++ rest)) ≡ Some (k.HtmlComment, rest, m.Content) = ap (λ x. token m.Content (60 ∷ 33 ∷ 45 ∷ 45 ∷ x)) (append_assoc (bytes_of s) (codes "-->") rest) ∙ comment_token s rest e in
    lexed_bytes m.Content false (bytes_of (codes "<!--" ++ (s ++ codes "-->")) ++ rest) (60 ∷ 33 ∷ 45 ∷ 45 ∷ ((bytes_of s ++ codes "-->") ++ rest)) (ap (λ x. x ++ rest) low)
    (lexed_as m.Content false (60 ∷ 33 ∷ 45 ∷ 45 ∷ ((bytes_of s ++ codes "-->") ++ rest))
    (λ ts h. stands_as k.HtmlComment (λ x. x ≡ chars (60 ∷ 33 ∷ 45 ∷ 45 ∷ (bytes_of s ++ codes "-->"))) (λ x. comment_of x ≡ s) ts (λ x g. ap comment_of (g ∙ same) ∙ comment_is s) h)
    (lexed_plain m.Content m.Content false k.HtmlComment 60 (33 ∷ 45 ∷ 45 ∷ (bytes_of s ++ codes "-->")) rest refl refl refl refl is (codes "<!--" ++ (s ++ codes "-->"), (scal, low)) l))
  where
    spelled : bytes_of (codes "<!--" ++ (s ++ codes "-->")) ≡ 60 ∷ 33 ∷ 45 ∷ 45 ∷ (bytes_of s ++ codes "-->")
    spelled = bytes_then (codes "<!--") (s ++ codes "-->") refl ∙ ap (λ x. 60 ∷ 33 ∷ 45 ∷ 45 ∷ x) (encodes-append s (codes "-->") ∙ ap (λ x. bytes_of s ++ x) (bytes_then (codes "-->") [] refl))

-- `{{!}}`
pub lexed_silent : {P : List Token → Type 0} (rest : List ℕ) → Lexed m.Content false rest P → Lexed m.Content false (codes "{{!}}" ++ rest) (Then (Mark k.MustacheComment) P)
lexed_silent {P} rest l =
    lexed_as m.Content false (codes "{{!}}" ++ rest) (λ ts h. marked k.MustacheComment (λ x. x ≡ chars (codes "{{!}}")) ts h)
    (lexed_plain m.Content m.Content false k.MustacheComment 123 (codes "{!}}") rest refl refl refl refl (silent_token rest) (ascii_utf8 (codes "{{!}}") refl) l)

-- the openings of blocks
pub lexed_block : {P : List Token → Type 0} (rest : List ℕ) → Lexed (m.Mustache a.Content) false rest P → Lexed m.Content false (codes "{{#" ++ rest) (Then (Mark k.OpenBlock) P)
lexed_block {P} rest l =
    lexed_as m.Content false (codes "{{#" ++ rest) (λ ts h. marked k.OpenBlock (λ x. x ≡ chars (codes "{{#")) ts h)
    (lexed_plain m.Content (m.Mustache a.Content) false k.OpenBlock 123 (codes "{#") rest refl refl refl refl (block_token rest) (ascii_utf8 (codes "{{#") refl) l)

lexed_block_end : {P : List Token → Type 0} (rest : List ℕ) → Lexed (m.Mustache a.Content) false rest P → Lexed m.Content false (codes "{{/" ++ rest) (Then (Mark k.OpenClosing) P)
lexed_block_end {P} rest l =
    lexed_as m.Content false (codes "{{/" ++ rest) (λ ts h. marked k.OpenClosing (λ x. x ≡ chars (codes "{{/")) ts h)
    (lexed_plain m.Content (m.Mustache a.Content) false k.OpenClosing 123 (codes "{/") rest refl refl refl refl (closing_token rest) (ascii_utf8 (codes "{{/") refl) l)

-- the end of a mustache of the content
pub lexed_ends : {P : List Token → Type 0} (rest : List ℕ) → Lexed m.Content false rest P → Lexed (m.Mustache a.Content) false (codes "}}" ++ rest) (Then (Mark k.CloseMustache) P)
lexed_ends rest l = lexed_close a.Content false rest l

pub lexed_closing : {P : List Token → Type 0} (word : Text) (rest : List ℕ) → is_name word ≡ true → Lexed m.Content false rest P → Lexed m.Content false (bytes_of (closing_text word) ++ rest) (Then (λ ts us. IsClosing ts word us) P)
lexed_closing {P} word rest w l =
    lexed_as m.Content false (bytes_of (closing_text word) ++ rest) (λ ts h. (h.2.2.0, (h.0, h.2.0, h.1, h.2.1, h.2.2.1), h.2.2.2))
    (lexed_low m.Content false (codes "{{/") (word ++ codes "}}") rest refl
    (lexed_block_end (bytes_of (word ++ codes "}}") ++ rest)
    (lexed_low (m.Mustache a.Content) false word (codes "}}") rest (name_ascii word w)
    (lexed_word (m.Mustache a.Content) (in_mustache a.Content) false word (bytes_of (codes "}}") ++ rest) w (breaks_last (codes "}}") rest refl (breaks_close (125 ∷ rest)))
    (lexed_last (m.Mustache a.Content) false (codes "}}") rest refl (lexed_ends rest l))))))

pub closing_ends : (word : Text) (rest : List ℕ) → text_ends (bytes_of (closing_text word) ++ rest)
closing_ends word rest = subst (λ (x : List ℕ). text_ends x) (sym (low2 (codes "{{/") (word ++ codes "}}") rest refl)) refl

-- the name of a block is a string
name_scalar : (b : ℕ) → in_name b ≡ true → scalar b ≡ true
name_scalar b e = grind (arith, nat_tests)

no_backslash : (b : ℕ) → in_name b ≡ true → (b == 92) ≡ false
no_backslash b e = grind (arith, nat_tests)

names_textual : (n : Text) → list_all in_name n ≡ true → IsTextual n
names_textual [] a = refl
names_textual (c ∷ cs) a = let h = both (in_name c) (list_all in_name cs) a in let k : scalar c ≡ true = name_scalar c h.0 in rw k (names_textual cs h.1)

names_end : (n : Text) → list_all in_name n ≡ true → ends_backslash n ≡ false
names_end [] a = refl
names_end (c ∷ []) a = no_backslash c (both (in_name c) true a).0
names_end (c ∷ d ∷ cs) a = names_end (d ∷ cs) (both (in_name c) (list_all in_name (d ∷ cs)) a).1

block_string : (n : Text) → is_block_name n ≡ true → IsString n
block_string n b = let a = block_in_name n b in (names_textual n a, names_end n a)

-- the block that a yield names
target_breaks : (to xs : Text) (rest : List ℕ) → Breaks (bytes_of xs ++ rest) → Breaks (bytes_of (target_text to ++ xs) ++ rest)
target_breaks to xs rest be = default_case (bytes_eq to (codes "default"))
  where
    default_case : (t : Bool) → Breaks (bytes_of ((if t then [] else codes " to=" ++ string_text to) ++ xs) ++ rest)
    default_case true = be
    default_case false = breaks_low (codes " to=") (string_text to ++ xs) rest refl (blank_breaks (codes "to=" ++ (bytes_of (string_text to ++ xs) ++ rest)) refl)

lexed_target : {P : List Token → Type 0} (to xs : Text) (rest : List ℕ) → is_block_name to ≡ true → Lexed (m.Mustache a.Content) false (bytes_of xs ++ rest) P
    → Lexed (m.Mustache a.Content) false (bytes_of (target_text to ++ xs) ++ rest) (Then (λ ts us. IsTarget ts to us) P)
lexed_target {P} to xs rest is l = default_case (bytes_eq to (codes "default")) refl
  where
    default_case : (t : Bool) → bytes_eq to (codes "default") ≡ t → Lexed (m.Mustache a.Content) false (bytes_of ((if t then [] else codes " to=" ++ string_text to) ++ xs) ++ rest) (Then (λ ts us. IsTarget ts to us) P)
    default_case true e = let same = (bytes_eq-Decides to (codes "default")).0 e in lexed_as (m.Mustache a.Content) false (bytes_of xs ++ rest) (λ ts h. (ts, inl (refl, same), h)) l
    default_case false e =
        let reads = in_mustache a.Content in
        lexed_as (m.Mustache a.Content) false (bytes_of (codes " to=" ++ (string_text to ++ xs)) ++ rest)
        (λ ts h. (h.2.2.0, inr (h.0, h.2.0, h.1, h.2.1, (h.2.2.1.0, h.2.2.1.1, h.2.2.1.2, (h.2.2.1.3, is))), h.2.2.2))
        (lexed_low (m.Mustache a.Content) false (codes " to=") (string_text to ++ xs) rest refl
        (expr_blank (m.Mustache a.Content) reads false (codes "to" ++ (61 ∷ (bytes_of (string_text to ++ xs) ++ rest)))
        (lexed_word (m.Mustache a.Content) reads false (codes "to") (61 ∷ (bytes_of (string_text to ++ xs) ++ rest)) refl (refl, refl)
        (mark_token (m.Mustache a.Content) reads false k.Equals 61 (bytes_of (string_text to ++ xs) ++ rest) refl refl refl refl refl (equals_token (m.Mustache a.Content) (bytes_of (string_text to ++ xs) ++ rest))
        (lexed_join (m.Mustache a.Content) false (string_text to) xs rest
        (lexed_string (m.Mustache a.Content) reads false to (bytes_of xs ++ rest) (block_string to is) l))))))

-- a yield
pub lexed_yield : {P : List Token → Type 0} (es : Exprs) (to : Text) (rest : List ℕ) → CanExprs deepest_calls es → is_block_name to ≡ true → Lexed m.Content false rest P
    → Lexed m.Content false (bytes_of (codes "{{yield" ++ (exprs_text es ++ (target_text to ++ codes "}}"))) ++ rest)
    (Then (Mark k.OpenMustache) (Then (Word (codes "yield")) (Then (λ ts us. AreExprs deepest_calls ts es us) (Then (λ ts us. IsTarget ts to us) (Then (Mark k.CloseMustache) P)))))
lexed_yield es to rest can is l =
    let ends = lexed_last (m.Mustache a.Content) false (codes "}}") rest refl (lexed_ends rest l) in
    let target = lexed_target to (codes "}}") rest is ends in
    let tail = target_text to ++ codes "}}" in
    let be : Breaks (bytes_of tail ++ rest) = target_breaks to (codes "}}") rest (breaks_last (codes "}}") rest refl (breaks_close (125 ∷ rest))) in
    let args = lexed_join (m.Mustache a.Content) false (exprs_text es) tail rest (lexed_exprs (m.Mustache a.Content) (in_mustache a.Content) false deepest_calls es (bytes_of tail ++ rest) can be target) in
    let bw : Breaks (bytes_of (exprs_text es ++ tail) ++ rest) = subst (λ (x : List ℕ). Breaks x) (sym (join2 (exprs_text es) tail rest)) (breaks_exprs deepest_calls es (bytes_of tail ++ rest) can be) in
    lexed_low m.Content false (codes "{{yield") (exprs_text es ++ tail) rest refl
    (lexed_opening m.Content a.Content false (codes "yield" ++ (bytes_of (exprs_text es ++ tail) ++ rest)) content_opens refl
    (lexed_word (m.Mustache a.Content) (in_mustache a.Content) false (codes "yield") (bytes_of (exprs_text es ++ tail) ++ rest) refl bw args))

-- tags
pub lexed_tag_opening : {P : List Token → Type 0} (n : Text) (rest : List ℕ) → NamesTag n → Stops goes_on_name rest → Lexed m.Tag true rest P → Lexed m.Content false (60 ∷ (n ++ rest)) (Then (Stands k.TagOpening (λ x. x ≡ 60 ∷ n)) P)
lexed_tag_opening [] rest names s l = absurd names
lexed_tag_opening {P} (c ∷ cs) rest names s l =
    let low : is_ascii_text (60 ∷ c ∷ cs) ≡ true = names.1 in
    lexed_as m.Content false (60 ∷ c ∷ (cs ++ rest)) (λ ts h. stands_as k.TagOpening (λ x. x ≡ chars (60 ∷ c ∷ cs)) (λ x. x ≡ 60 ∷ c ∷ cs) ts (λ x e. e ∙ chars_of_ascii (60 ∷ c ∷ cs) low) h)
    (lexed_token m.Content m.Tag false true k.TagOpening 60 (c ∷ cs) rest refl (opening_token c cs rest names s) (ascii_utf8 (60 ∷ c ∷ cs) low) tt refl l)

pub lexed_end_tag : {P : List Token → Type 0} (n : Text) (rest : List ℕ) → NamesTag n → Lexed m.Content false rest P → Lexed m.Content false (bytes_of (end_tag_text n) ++ rest) (Then (λ ts us. IsEndTag ts n us) P)
lexed_end_tag [] rest names l = absurd names
lexed_end_tag {P} (c ∷ cs) rest names l =
    let low : is_ascii_text (codes "</" ++ ((c ∷ cs) ++ codes ">")) ≡ true = ascii_append (c ∷ cs) (codes ">") names.1 refl in
    let is : token m.Content (60 ∷ 47 ∷ c ∷ ((cs ++ codes ">") ++ rest)) ≡ Some (k.EndTag, rest, m.Content) = ap (λ x. token m.Content (60 ∷ 47 ∷ c ∷ x)) (append_assoc cs (codes ">") rest) ∙ end_token c cs rest names in
    lexed_last m.Content false (end_tag_text (c ∷ cs)) rest low
    (lexed_as m.Content false (60 ∷ 47 ∷ c ∷ ((cs ++ codes ">") ++ rest)) (λ ts h. stands_as k.EndTag (λ x. x ≡ chars (end_tag_text (c ∷ cs))) (λ x. end_name_of x ≡ c ∷ cs) ts (λ x e. ap end_name_of (e ∙ chars_of_ascii (end_tag_text (c ∷ cs)) low) ∙ end_name (c ∷ cs) names.3) h)
    (lexed_plain m.Content m.Content false k.EndTag 60 (47 ∷ c ∷ (cs ++ codes ">")) rest refl refl refl refl is (ascii_utf8 (end_tag_text (c ∷ cs)) low) l))

pub end_tag_ends : (n : Text) (rest : List ℕ) → text_ends (bytes_of (end_tag_text n) ++ rest)
end_tag_ends n rest = subst (λ (x : List ℕ). text_ends x) (sym (low2 (codes "</") (n ++ codes ">") rest refl)) refl

-- an else, before its body
pub lexed_else : {P : List Token → Type 0} (Plain Chained : Reach) (s : Stmt) (b : Body) (rest : List ℕ) → Lexed m.Content false (bytes_of (body_text false (stmt s b)) ++ rest) (Then Plain P)
    → Lexed m.Content false (bytes_of (else_text (stmt s b)) ++ rest) (Then (λ ts us. IsElse Plain Chained ts (stmt s b) us) P)
lexed_else {P} Plain Chained s b rest l =
    lexed_as m.Content false (bytes_of (else_text (stmt s b)) ++ rest) (λ ts h. (h.2.2.2.0, inr (h.0, h.2.0, h.1, h.2.1, inl (h.2.2.0, h.2.2.1, h.2.2.2.1)), h.2.2.2.2))
    (lexed_low m.Content false (codes "{{else}}") (body_text false (stmt s b)) rest refl
    (lexed_opening m.Content a.Content false (codes "else" ++ (codes "}}" ++ (bytes_of (body_text false (stmt s b)) ++ rest))) content_opens refl
    (lexed_word (m.Mustache a.Content) (in_mustache a.Content) false (codes "else") (codes "}}" ++ (bytes_of (body_text false (stmt s b)) ++ rest)) refl (breaks_close (125 ∷ (bytes_of (body_text false (stmt s b)) ++ rest)))
    (lexed_ends (bytes_of (body_text false (stmt s b)) ++ rest) l))))

pub else_ends : (c : Body) (rest : List ℕ) → text_ends rest → text_ends (bytes_of (else_text c) ++ rest)
else_ends end rest e = e
else_ends (stmt s b) rest e = subst (λ (x : List ℕ). text_ends x) (sym (low2 (codes "{{else}}") (body_text false (stmt s b)) rest refl)) refl

-- a statement that is no text ends a text before it
first_less : (xs : Text) (l : List ℕ) → text_ends (bytes_of (60 ∷ xs) ++ l)
first_less xs l = subst (λ (x : List ℕ). text_ends x) (sym (low2 (60 ∷ []) xs l refl)) refl

first_braces : (xs : Text) (l : List ℕ) → text_ends (bytes_of (123 ∷ 123 ∷ xs) ++ l)
first_braces xs l = subst (λ (x : List ℕ). text_ends x) (sym (low2 (123 ∷ 123 ∷ []) xs l refl)) refl

pub stmt_ends : (s : Stmt) (l : List ℕ) → is_text_stmt s ≡ false → text_ends (bytes_of (stmt_text s) ++ l)
stmt_ends (text_stmt s) l n = cc
stmt_ends (comment_stmt s) l n = first_less (codes "!--" ++ (s ++ codes "-->")) l
stmt_ends (put e) l n = first_braces (inner_text e ++ codes "}}") l
stmt_ends (element tag ps b) l n = void_case (is_void tag)
  where
    void_case : (t : Bool) → text_ends (bytes_of (if t then 60 ∷ (tag ++ (parts_text ps ++ codes ">")) else 60 ∷ (tag ++ (parts_text ps ++ (62 ∷ (body_text false b ++ end_tag_text tag))))) ++ l)
    void_case true = first_less (tag ++ (parts_text ps ++ codes ">")) l
    void_case false = first_less (tag ++ (parts_text ps ++ (62 ∷ (body_text false b ++ end_tag_text tag)))) l
stmt_ends (component_stmt c ps given ss) l n = first_less (c ++ (arguments_text given ++ (parts_text ps ++ slots_text c ss))) l
stmt_ends (if_stmt e unless b c) l n = first_braces (35 ∷ (if_word unless ++ (32 ∷ (expr_text e ++ (codes "}}" ++ (body_text false b ++ (else_text c ++ closing_text (if_word unless)))))))) l
stmt_ends (each e key ns b c) l n = first_braces (codes "#each " ++ (expr_text e ++ (codes " key=" ++ (string_text key ++ (parameters_text ns ++ (codes "}}" ++ (body_text false b ++ (else_text c ++ closing_text (codes "each"))))))))) l
stmt_ends (let_stmt es ns b) l n = first_braces (codes "#let" ++ (exprs_text es ++ (parameters_text ns ++ (codes "}}" ++ (body_text false b ++ closing_text (codes "let")))))) l
stmt_ends (yield es to) l n = first_braces (codes "yield" ++ (exprs_text es ++ (target_text to ++ codes "}}"))) l

pub body_ends : (b : Body) (rest : List ℕ) → text_ends rest → text_ends (bytes_of (body_text true b) ++ rest)
body_ends end rest e = e
body_ends (stmt s b) rest e = text_case (is_text_stmt s) refl
  where
    text_case : (t : Bool) → is_text_stmt s ≡ t → text_ends (bytes_of ((if t then codes "{{!}}" else []) ++ (stmt_text s ++ body_text (is_text_stmt s) b)) ++ rest)
    text_case true g = first_braces (codes "!}}" ++ (stmt_text s ++ body_text (is_text_stmt s) b)) rest
    text_case false g = subst (λ (x : List ℕ). text_ends x) (sym (join2 (stmt_text s) (body_text (is_text_stmt s) b) rest)) (stmt_ends s (bytes_of (body_text (is_text_stmt s) b) ++ rest) g)
