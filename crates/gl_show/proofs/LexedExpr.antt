-- The spelling of an expression is read as tokens that spell it.
use Rattle.std.proofs.Common.{◌≡◌, inl, inr, ℕ, zero, suc, List, [], ◌∷◌, ◌++◌, Bool, true, false, Some, eqb, ltb, refl, sym, ap, subst, ◌∙◌, arith, append_assoc, append-nil}
use Rattle.std.specs.Prelude.{◌==◌, ◌||◌, codes, pos, negsuc, nat_le, if◌then◌else◌}
use lib.Utf8.{scalar}
use Rattle.std.specs.Fmt.{decimal}
use Rattle.std.specs.List.{list_all, flat_map}
use Rattle.std.specs.Str.{chars, IsUtf8, NonePass, all_scalars}
use Rattle.std.proofs.lemmas.Bool.Decides.{nat_tests}
use Rattle.std.proofs.lemmas.Str.{encode_ascii, encodes-append, chars-encodes, IsUtf8-from_ascii, encodes-IsAscii}
use Rattle.gl_base.specs.Texts.{Text, bytes_of, is_ascii_text}
use Rattle.gl_base.proofs.Chars.{ascii, chars_of_ascii}
use Rattle.gl_value.specs.Value as v
use Rattle.gl_value.proofs.Paths.{split-none, split-first}
use Rattle.gl_ast.specs.Canon.{segments_text, string_char, string_text, literal_text, expr_text, exprs_text, named_text}
use Rattle.gl_ast.specs.Grammar.{Mark, Stands, Word, IsName, IsLiteral, IsExpr, AreExprs, AreNamed}
use Rattle.gl_ast.specs.Marks.{is_white, is_digit, starts_name, in_name}
use Rattle.gl_ast.specs.Modes.{expression_token}
use Rattle.gl_ast.specs.Settling.{is_text, opens_tag, closes_tag}
use Rattle.gl_ast.specs.Template.{Plain, Expr, literal, this, argument, bare, call, cat, Exprs, no_exprs, expr, NamedExprs, no_named, named_expr}
use Rattle.gl_ast.specs.TokenReading.{stands_white}
use Rattle.gl_ast.specs.TokenText.{names_of, is_free, whole_of, string_of}
use Rattle.gl_ast.specs.Words.{greatest}
use Rattle.gl_ast.specs.declared.mode.Mode.{Mode}
use Rattle.gl_ast.specs.declared.token.Token.{Token}
use Rattle.gl_ast.specs.declared.token.TokenKind.{TokenKind}
use Rattle.gl_ast.specs.declared.token.TokenKind.TheVariants as k
use Rattle.gl_ast.proofs.Forward.{both, low_byte}
use Rattle.gl_show.specs.Spellable.{is_word, is_name, is_segment, IsFreeName, IsString, CanLiteral, CanExpr, CanExprs, CanNamed}
use Rattle.gl_show.proofs.Edges.{last_backslash}
use Rattle.gl_show.proofs.ExprTokens.{ReadsExprs, Breaks, path_token, argument_token, number_token, minus_token, string_token, open_token, close_token, equals_token}
use Rattle.gl_show.proofs.Lexed.{Lexed, Then, lexed_as, lexed_bytes, lexed_plain, lexed_blank, marked}
use Rattle.gl_show.proofs.Numbers.{IsNumber, within_number, digits_ascii, whole_read}
use Rattle.gl_show.proofs.Scanning.{one_of, bytes_then, name_ascii}
use Rattle.gl_show.proofs.Strings.{string_is, string_spelled}

-- ASCII
pub ascii_append : (xs ys : List ℕ) → is_ascii_text xs ≡ true → is_ascii_text ys ≡ true → is_ascii_text (xs ++ ys) ≡ true
ascii_append [] ys a b = b
ascii_append (x ∷ xs) ys a b = let h = both (ltb x 128) (is_ascii_text xs) a in let k : ltb x 128 ≡ true = h.0 in rw k (ascii_append xs ys h.1 b)

segment_ascii : (s : List ℕ) → is_segment s ≡ true → is_ascii_text s ≡ true
segment_ascii s w = elim (one_of (is_name s) (is_word is_digit is_digit s) w) [ inl h ↦ name_ascii s h | inr h ↦ digits_ascii s h ]

pub segments_ascii : (ns : List (List ℕ)) → list_all is_segment ns ≡ true → is_ascii_text (segments_text ns) ≡ true
segments_ascii [] w = refl
segments_ascii (n ∷ ns) w = let h = both (is_segment n) (list_all is_segment ns) w in ascii_append n (segments_text ns) (segment_ascii n h.0) (segments_ascii ns h.1)

pub ascii_utf8 : (bs : List ℕ) → is_ascii_text bs ≡ true → IsUtf8 bs
ascii_utf8 bs a = IsUtf8-from_ascii bs (ascii bs a)

pub ascii_bytes : (bs : List ℕ) → is_ascii_text bs ≡ true → bytes_of bs ≡ bs
ascii_bytes bs a = encodes-IsAscii bs (ascii bs a)

-- a token of an expression
pub expr_token : {P : List Token → Type 0} (mode : Mode) (reads : ReadsExprs mode) (tag : Bool) (kind : TokenKind) (b : ℕ) (piece rest : List ℕ)
    → opens_tag kind ≡ false → closes_tag kind ≡ false → is_text kind ≡ false → is_white b ≡ false
    → expression_token mode (b ∷ (piece ++ rest)) ≡ Some (kind, rest, mode) → IsUtf8 (b ∷ piece)
    → Lexed mode tag rest P → Lexed mode tag (b ∷ (piece ++ rest)) (Then (Stands kind (λ x. x ≡ chars (b ∷ piece))) P)
expr_token mode reads tag kind b piece rest o c n white is u l =
    let tight : stands_white mode (b ∷ (piece ++ rest)) ≡ false = (let skips = reads.0 in rw (skips, white) refl) in
    lexed_plain mode mode tag kind b piece rest o c n tight (reads.2 (b ∷ (piece ++ rest)) (kind, rest, mode) is) u l

-- what a token is known to be may be said otherwise
pub stands_as : {P : List Token → Type 0} (kind : TokenKind) (Such Other : Text → Type 0) (ts : List Token) → ((x : Text) → Such x → Other x) → Then (Stands kind Such) P ts → Then (Stands kind Other) P ts
stands_as kind Such Other ts f h = (h.0, (h.1.0, h.1.1, h.1.2, f h.1.0.text h.1.3), h.2)

name_tight : (b : ℕ) → starts_name b ≡ true → is_white b ≡ false
name_tight b e = grind (arith, nat_tests)

-- a path is read as a path
pub lexed_path : {P : List Token → Type 0} (mode : Mode) (reads : ReadsExprs mode) (tag : Bool) (n : List ℕ) (ns : List (List ℕ)) (rest : List ℕ)
    → is_name n ≡ true → list_all is_segment ns ≡ true → Breaks rest → Lexed mode tag rest P → Lexed mode tag ((n ++ segments_text ns) ++ rest) (Then (Stands k.Path (λ x. x ≡ n ++ segments_text ns)) P)
lexed_path mode reads tag [] ns rest w ws b l = cc
lexed_path {P} mode reads tag (c ∷ cs) ns rest w ws b l =
    let white = name_tight c (both (starts_name c) (list_all in_name cs) w).0 in
    let low : is_ascii_text (c ∷ (cs ++ segments_text ns)) ≡ true = ascii_append (c ∷ cs) (segments_text ns) (name_ascii (c ∷ cs) w) (segments_ascii ns ws) in
    let is : expression_token mode (c ∷ ((cs ++ segments_text ns) ++ rest)) ≡ Some (k.Path, rest, mode) =
    ap (λ x. expression_token mode (c ∷ x)) (append_assoc cs (segments_text ns) rest) ∙ path_token mode (c ∷ cs) ns rest w ws b in
    lexed_as mode tag (c ∷ ((cs ++ segments_text ns) ++ rest))
    (λ ts h. stands_as k.Path (λ x. x ≡ chars (c ∷ (cs ++ segments_text ns))) (λ x. x ≡ c ∷ (cs ++ segments_text ns)) ts (λ x e. e ∙ chars_of_ascii (c ∷ (cs ++ segments_text ns)) low) h)
    (expr_token mode reads tag k.Path c (cs ++ segments_text ns) rest refl refl refl white is (ascii_utf8 (c ∷ (cs ++ segments_text ns)) low) l)

pub lexed_argument : {P : List Token → Type 0} (mode : Mode) (reads : ReadsExprs mode) (tag : Bool) (n : List ℕ) (ns : List (List ℕ)) (rest : List ℕ)
    → is_name n ≡ true → list_all is_segment ns ≡ true → Breaks rest → Lexed mode tag rest P → Lexed mode tag (64 ∷ ((n ++ segments_text ns) ++ rest)) (Then (Stands k.Path (λ x. x ≡ 64 ∷ (n ++ segments_text ns))) P)
lexed_argument {P} mode reads tag n ns rest w ws b l =
    let low : is_ascii_text (64 ∷ (n ++ segments_text ns)) ≡ true = ascii_append n (segments_text ns) (name_ascii n w) (segments_ascii ns ws) in
    let is : expression_token mode (64 ∷ ((n ++ segments_text ns) ++ rest)) ≡ Some (k.Path, rest, mode) =
    ap (λ x. expression_token mode (64 ∷ x)) (append_assoc n (segments_text ns) rest) ∙ argument_token mode n ns rest w ws b in
    lexed_as mode tag (64 ∷ ((n ++ segments_text ns) ++ rest))
    (λ ts h. stands_as k.Path (λ x. x ≡ chars (64 ∷ (n ++ segments_text ns))) (λ x. x ≡ 64 ∷ (n ++ segments_text ns)) ts (λ x e. e ∙ chars_of_ascii (64 ∷ (n ++ segments_text ns)) low) h)
    (expr_token mode reads tag k.Path 64 (n ++ segments_text ns) rest refl refl refl refl is (ascii_utf8 (64 ∷ (n ++ segments_text ns)) low) l)

-- no dot stands in a name or in a segment
no_dots : (p : ℕ → Bool) → ((b : ℕ) → p b ≡ true → (b == 46) ≡ false) → (cs : List ℕ) → list_all p cs ≡ true → NonePass (λ d. d == 46) cs
no_dots p h [] a = tt
no_dots p h (c ∷ cs) a = let k = both (p c) (list_all p cs) a in (h c k.0, no_dots p h cs k.1)

word_no_dots : (first more : ℕ → Bool) → ((b : ℕ) → first b ≡ true → (b == 46) ≡ false) → ((b : ℕ) → more b ≡ true → (b == 46) ≡ false) → (cs : List ℕ) → is_word first more cs ≡ true → NonePass (λ d. d == 46) cs
word_no_dots first more h g [] w = cc
word_no_dots first more h g (c ∷ cs) w = let k = both (first c) (list_all more cs) w in (h c k.0, no_dots more g cs k.1)

start_no_dot : (b : ℕ) → starts_name b ≡ true → (b == 46) ≡ false
start_no_dot b e = grind (arith, nat_tests)

name_no_dot : (b : ℕ) → in_name b ≡ true → (b == 46) ≡ false
name_no_dot b e = grind (arith, nat_tests)

digit_no_dot : (b : ℕ) → is_digit b ≡ true → (b == 46) ≡ false
digit_no_dot b e = grind (arith, nat_tests)

pub name_no_dots : (n : List ℕ) → is_name n ≡ true → NonePass (λ d. d == 46) n
name_no_dots n w = word_no_dots starts_name in_name start_no_dot name_no_dot n w

segment_no_dots : (s : List ℕ) → is_segment s ≡ true → NonePass (λ d. d == 46) s
segment_no_dots s w = elim (one_of (is_name s) (is_word is_digit is_digit s) w) [ inl h ↦ name_no_dots s h | inr h ↦ word_no_dots is_digit is_digit digit_no_dot digit_no_dot s h ]

-- the names of a path
pub path_names : (n : List ℕ) (ns : List (List ℕ)) → NonePass (λ d. d == 46) n → list_all is_segment ns ≡ true → names_of (n ++ segments_text ns) ≡ n ∷ ns
path_names n [] h ws = ap names_of (append-nil n) ∙ split-none 46 n h
path_names n (m ∷ ms) h ws =
    let w = both (is_segment m) (list_all is_segment ms) ws in
    split-first 46 n (m ++ segments_text ms) h refl ∙ ap (λ l. n ∷ l) (path_names m ms (segment_no_dots m w.0) w.1)

-- one name
pub lexed_name : {P : List Token → Type 0} (mode : Mode) (reads : ReadsExprs mode) (tag : Bool) (n rest : List ℕ) → IsFreeName n → Breaks rest → Lexed mode tag rest P → Lexed mode tag (n ++ rest) (Then (λ ts us. IsName ts n us) P)
lexed_name {P} mode reads tag n rest w b l =
    lexed_bytes mode tag (n ++ rest) ((n ++ segments_text []) ++ rest) (ap (λ x. x ++ rest) (sym (append-nil n)))
    (lexed_as mode tag ((n ++ segments_text []) ++ rest)
    (λ ts h. stands_as k.Path (λ x. x ≡ n ++ segments_text []) (λ x. (names_of x ≡ n ∷ []) × (is_free n ≡ true)) ts (λ x e. (ap names_of e ∙ path_names n [] (name_no_dots n w.0) refl, w.1)) h)
    (lexed_path mode reads tag n [] rest w.0 refl b l))

-- a word
pub lexed_word : {P : List Token → Type 0} (mode : Mode) (reads : ReadsExprs mode) (tag : Bool) (n rest : List ℕ) → is_name n ≡ true → Breaks rest → Lexed mode tag rest P → Lexed mode tag (n ++ rest) (Then (Word n) P)
lexed_word {P} mode reads tag n rest w b l =
    lexed_bytes mode tag (n ++ rest) ((n ++ segments_text []) ++ rest) (ap (λ x. x ++ rest) (sym (append-nil n)))
    (lexed_as mode tag ((n ++ segments_text []) ++ rest)
    (λ ts h. stands_as k.Path (λ x. x ≡ n ++ segments_text []) (λ x. x ≡ n) ts (λ x e. e ∙ append-nil n) h)
    (lexed_path mode reads tag n [] rest w refl b l))

digit_tight : (b : ℕ) → is_digit b ≡ true → is_white b ≡ false
digit_tight b e = grind (arith, nat_tests)

lexed_digits : {P : List Token → Type 0} (mode : Mode) (reads : ReadsExprs mode) (tag : Bool) (n : ℕ) (ds rest : List ℕ) → IsNumber n ds → nat_le n greatest ≡ true → Breaks rest → Lexed mode tag rest P → Lexed mode tag (ds ++ rest) (Then (Stands k.Number (λ x. x ≡ ds)) P)
lexed_digits mode reads tag n [] rest is h b l = let w = is.0 in cc
lexed_digits {P} mode reads tag n (c ∷ cs) rest is h b l =
    let low = digits_ascii (c ∷ cs) is.0 in
    lexed_as mode tag (c ∷ (cs ++ rest)) (λ ts g. stands_as k.Number (λ x. x ≡ chars (c ∷ cs)) (λ x. x ≡ c ∷ cs) ts (λ x e. e ∙ chars_of_ascii (c ∷ cs) low) g)
    (expr_token mode reads tag k.Number c cs rest refl refl refl (digit_tight c (both (is_digit c) (list_all is_digit cs) is.0).0) (number_token mode n (c ∷ cs) rest is h b) (ascii_utf8 (c ∷ cs) low) l)

lexed_minus : {P : List Token → Type 0} (mode : Mode) (reads : ReadsExprs mode) (tag : Bool) (n : ℕ) (ds rest : List ℕ) → IsNumber n ds → nat_le n greatest ≡ true → Breaks rest → Lexed mode tag rest P → Lexed mode tag (45 ∷ (ds ++ rest)) (Then (Stands k.Number (λ x. x ≡ 45 ∷ ds)) P)
lexed_minus {P} mode reads tag n ds rest is h b l =
    let low : is_ascii_text (45 ∷ ds) ≡ true = digits_ascii ds is.0 in
    lexed_as mode tag (45 ∷ (ds ++ rest)) (λ ts g. stands_as k.Number (λ x. x ≡ chars (45 ∷ ds)) (λ x. x ≡ 45 ∷ ds) ts (λ x e. e ∙ chars_of_ascii (45 ∷ ds) low) g)
    (expr_token mode reads tag k.Number 45 ds rest refl refl refl refl (minus_token mode n ds rest is h b) (ascii_utf8 (45 ∷ ds) low) l)

-- texts one after another
pub join2 : (xs ys rest : List ℕ) → bytes_of (xs ++ ys) ++ rest ≡ bytes_of xs ++ (bytes_of ys ++ rest)
join2 xs ys rest = ap (λ l. l ++ rest) (encodes-append xs ys) ∙ append_assoc (bytes_of xs) (bytes_of ys) rest

pub low2 : (xs ys rest : List ℕ) → is_ascii_text xs ≡ true → bytes_of (xs ++ ys) ++ rest ≡ xs ++ (bytes_of ys ++ rest)
low2 xs ys rest a = ap (λ l. l ++ rest) (bytes_then xs ys a) ∙ append_assoc xs (bytes_of ys) rest

pub low1 : (xs rest : List ℕ) → is_ascii_text xs ≡ true → bytes_of xs ++ rest ≡ xs ++ rest
low1 xs rest a = ap (λ l. l ++ rest) (ascii_bytes xs a)

pub lexed_join : {P : List Token → Type 0} (mode : Mode) (tag : Bool) (xs ys rest : List ℕ) → Lexed mode tag (bytes_of xs ++ (bytes_of ys ++ rest)) P → Lexed mode tag (bytes_of (xs ++ ys) ++ rest) P
lexed_join mode tag xs ys rest l = lexed_bytes mode tag (bytes_of (xs ++ ys) ++ rest) (bytes_of xs ++ (bytes_of ys ++ rest)) (join2 xs ys rest) l

pub lexed_low : {P : List Token → Type 0} (mode : Mode) (tag : Bool) (xs ys rest : List ℕ) → is_ascii_text xs ≡ true → Lexed mode tag (xs ++ (bytes_of ys ++ rest)) P → Lexed mode tag (bytes_of (xs ++ ys) ++ rest) P
lexed_low mode tag xs ys rest a l = lexed_bytes mode tag (bytes_of (xs ++ ys) ++ rest) (xs ++ (bytes_of ys ++ rest)) (low2 xs ys rest a) l

pub lexed_last : {P : List Token → Type 0} (mode : Mode) (tag : Bool) (xs rest : List ℕ) → is_ascii_text xs ≡ true → Lexed mode tag (xs ++ rest) P → Lexed mode tag (bytes_of xs ++ rest) P
lexed_last mode tag xs rest a l = lexed_bytes mode tag (bytes_of xs ++ rest) (xs ++ rest) (low1 xs rest a) l

pub breaks_join : (xs ys rest : List ℕ) → Breaks (bytes_of xs ++ (bytes_of ys ++ rest)) → Breaks (bytes_of (xs ++ ys) ++ rest)
breaks_join xs ys rest b = subst (λ (l : List ℕ). Breaks l) (sym (join2 xs ys rest)) b

pub breaks_low : (xs ys rest : List ℕ) → is_ascii_text xs ≡ true → Breaks (xs ++ (bytes_of ys ++ rest)) → Breaks (bytes_of (xs ++ ys) ++ rest)
breaks_low xs ys rest a b = subst (λ (l : List ℕ). Breaks l) (sym (low2 xs ys rest a)) b

pub breaks_last : (xs rest : List ℕ) → is_ascii_text xs ≡ true → Breaks (xs ++ rest) → Breaks (bytes_of xs ++ rest)
breaks_last xs rest a b = subst (λ (l : List ℕ). Breaks l) (sym (low1 xs rest a)) b

-- strings
pub scalars_append : (xs ys : List ℕ) → all_scalars xs ≡ true → all_scalars ys ≡ true → all_scalars (xs ++ ys) ≡ true
scalars_append [] ys a b = b
scalars_append (x ∷ xs) ys a b = let h = both (scalar x) (all_scalars xs) a in let k : scalar x ≡ true = h.0 in rw k (scalars_append xs ys h.1 b)

string_scalars : (s : List ℕ) → all_scalars s ≡ true → all_scalars (flat_map string_char s ++ 34 ∷ []) ≡ true
string_scalars s a = scalars_append (flat_map string_char s) (34 ∷ []) (each_scalar s a) refl
  where
    each_scalar : (s : List ℕ) → all_scalars s ≡ true → all_scalars (flat_map string_char s) ≡ true
    each_scalar [] a = refl
    each_scalar (c ∷ cs) a = let h = both (scalar c) (all_scalars cs) a in char_case (c == 34) c (flat_map string_char cs) h.0 (each_scalar cs h.1)
      where
        char_case : (t : Bool) (c : ℕ) (ds : List ℕ) → scalar c ≡ true → all_scalars ds ≡ true → all_scalars ((if t then codes "\\\"" else c ∷ []) ++ ds) ≡ true
        char_case true c ds h g = g
        char_case false c ds h g = rw h g

pub lexed_string : {P : List Token → Type 0} (mode : Mode) (reads : ReadsExprs mode) (tag : Bool) (s rest : List ℕ) → IsString s → Lexed mode tag rest P → Lexed mode tag (bytes_of (string_text s) ++ rest) (Then (Stands k.StringLit (λ x. string_of x ≡ s)) P)
lexed_string {P} mode reads tag s rest can l =
    let spelled = string_spelled s in
    let scal : all_scalars (string_text s) ≡ true = string_scalars s can.0 in
    let is : expression_token mode (34 ∷ ((bytes_of (flat_map string_char s) ++ 34 ∷ []) ++ rest)) ≡ Some (k.StringLit, rest, mode) =
    ap (λ x. expression_token mode (34 ∷ x)) (append_assoc (bytes_of (flat_map string_char s)) (34 ∷ []) rest) ∙ string_token mode s rest (last_backslash s ∙ can.1) in
    let text : chars (34 ∷ (bytes_of (flat_map string_char s) ++ 34 ∷ [])) ≡ string_text s = ap chars (sym spelled) ∙ chars-encodes (string_text s) scal in
    lexed_bytes mode tag (bytes_of (string_text s) ++ rest) (34 ∷ ((bytes_of (flat_map string_char s) ++ 34 ∷ []) ++ rest)) (ap (λ x. x ++ rest) spelled)
    (lexed_as mode tag (34 ∷ ((bytes_of (flat_map string_char s) ++ 34 ∷ []) ++ rest))
    (λ ts h. stands_as k.StringLit (λ x. x ≡ chars (34 ∷ (bytes_of (flat_map string_char s) ++ 34 ∷ []))) (λ x. string_of x ≡ s) ts (λ x e. ap string_of (e ∙ text) ∙ string_is s) h)
    (expr_token mode reads tag k.StringLit 34 (bytes_of (flat_map string_char s) ++ 34 ∷ []) rest refl refl refl refl is (string_text s, (scal, spelled)) l))

lexed_codes : {P : List Token → Type 0} (mode : Mode) (reads : ReadsExprs mode) (tag : Bool) (n rest : List ℕ) → is_name n ≡ true → Breaks rest → Lexed mode tag rest P → Lexed mode tag (bytes_of n ++ rest) (Then (Word n) P)
lexed_codes mode reads tag n rest w b l = lexed_last mode tag n rest (name_ascii n w) (lexed_word mode reads tag n rest w b l)

lexed_literal : {P : List Token → Type 0} (mode : Mode) (reads : ReadsExprs mode) (tag : Bool) (x : Plain) (rest : List ℕ) → CanLiteral x → Breaks rest → Lexed mode tag rest P → Lexed mode tag (bytes_of (literal_text x) ++ rest) (Then (λ ts us. IsLiteral ts x us) P)
lexed_literal mode reads tag v.undefined rest can b l = lexed_codes mode reads tag (codes "undefined") rest refl b l
lexed_literal mode reads tag v.null rest can b l = lexed_codes mode reads tag (codes "null") rest refl b l
lexed_literal mode reads tag (v.boolean true) rest can b l = lexed_codes mode reads tag (codes "true") rest refl b l
lexed_literal mode reads tag (v.boolean false) rest can b l = lexed_codes mode reads tag (codes "false") rest refl b l
lexed_literal {P} mode reads tag (v.integer (pos n)) rest can b l =
    let is = within_number n can in
    lexed_last mode tag (decimal n) rest (digits_ascii (decimal n) is.0)
    (lexed_as mode tag (decimal n ++ rest) (λ ts h. stands_as k.Number (λ x. x ≡ decimal n) (λ x. whole_of x ≡ Some (pos n)) ts (λ x e. ap whole_of e ∙ whole_read (pos n) can) h)
    (lexed_digits mode reads tag n (decimal n) rest is can b l))
lexed_literal {P} mode reads tag (v.integer (negsuc n)) rest can b l =
    let is = within_number (suc n) can in
    let low : is_ascii_text (45 ∷ decimal (suc n)) ≡ true = digits_ascii (decimal (suc n)) is.0 in
    lexed_last mode tag (45 ∷ decimal (suc n)) rest low
    (lexed_as mode tag (45 ∷ (decimal (suc n) ++ rest)) (λ ts h. stands_as k.Number (λ x. x ≡ 45 ∷ decimal (suc n)) (λ x. whole_of x ≡ Some (negsuc n)) ts (λ x e. ap whole_of e ∙ whole_read (negsuc n) can) h)
    (lexed_minus mode reads tag (suc n) (decimal (suc n)) rest is can b l))
lexed_literal mode reads tag (v.text s) rest can b l = lexed_string mode reads tag s rest can l
lexed_literal mode reads tag _ rest can b l = absurd can

-- what an expression begins with
abbrev pub is_opener : ℕ → Bool
is_opener c = starts_name c || is_digit c || c == 45 || c == 34 || c == 40 || c == 64

abbrev pub Opens : List ℕ → Type 0
Opens [] = ⊥
Opens (c ∷ cs) = is_opener c ≡ true

opener_clear : (c : ℕ) → is_opener c ≡ true → (is_white c ≡ false) × (eqb 124 c ≡ false)
opener_clear c e = (grind (arith, nat_tests), grind (arith, nat_tests))

pub blank_breaks : (l : List ℕ) → Opens l → Breaks (32 ∷ l)
blank_breaks [] o = absurd o
blank_breaks (c ∷ cs) o = (refl, (let h = opener_clear c o in let h0 = h.0 in let h1 = h.1 in rw (h0, h1) refl))

pub opens_first : (c : ℕ) (cs l : List ℕ) → ltb c 128 ≡ true → is_opener c ≡ true → Opens (bytes_of (c ∷ cs) ++ l)
opens_first c cs l low o = subst (λ (x : List ℕ). Opens ((x ++ bytes_of cs) ++ l)) (sym (encode_ascii c (low_byte c low))) o

name_opens : (b : ℕ) → starts_name b ≡ true → (ltb b 128 ≡ true) × (is_opener b ≡ true)
name_opens b e = (grind (arith, nat_tests), rw e refl)

digit_opens : (b : ℕ) → is_digit b ≡ true → (ltb b 128 ≡ true) × (is_opener b ≡ true)
digit_opens b e = (grind (arith, nat_tests), grind (arith, nat_tests))

pub opens_name : (n ms l : List ℕ) → is_name n ≡ true → Opens (bytes_of (n ++ ms) ++ l)
opens_name [] ms l w = cc
opens_name (c ∷ cs) ms l w = let h = name_opens c (both (starts_name c) (list_all in_name cs) w).0 in opens_first c (cs ++ ms) l h.0 h.1

opens_digits : (ds l : List ℕ) → is_word is_digit is_digit ds ≡ true → Opens (bytes_of ds ++ l)
opens_digits [] l w = cc
opens_digits (c ∷ cs) l w = let h = digit_opens c (both (is_digit c) (list_all is_digit cs) w).0 in opens_first c cs l h.0 h.1

opens_literal : (x : Plain) (l : List ℕ) → CanLiteral x → Opens (bytes_of (literal_text x) ++ l)
opens_literal v.undefined l can = opens_name (codes "undefined") [] l refl
opens_literal v.null l can = opens_name (codes "null") [] l refl
opens_literal (v.boolean true) l can = opens_name (codes "true") [] l refl
opens_literal (v.boolean false) l can = opens_name (codes "false") [] l refl
opens_literal (v.integer (pos n)) l can = opens_digits (decimal n) l (within_number n can).0
opens_literal (v.integer (negsuc n)) l can = opens_first 45 (decimal (suc n)) l refl refl
opens_literal (v.text s) l can = opens_first 34 (flat_map string_char s ++ 34 ∷ []) l refl refl
opens_literal _ l can = absurd can

pub opens_expr : (calls : ℕ) (e : Expr) (l : List ℕ) → CanExpr calls e → Opens (bytes_of (expr_text e) ++ l)
opens_expr calls (literal x) l can = opens_literal x l can
opens_expr calls (this n ns) l can = opens_name (codes "this") (segments_text (n ∷ ns)) l refl
opens_expr calls (argument n ns) l can = opens_first 64 (n ++ segments_text ns) l refl refl
opens_expr calls (bare n ns) l can = opens_name n (segments_text ns) l can.0.0
opens_expr zero (call n es ns) l can = absurd can
opens_expr (suc calls) (call n es ns) l can = opens_first 40 (n ++ (exprs_text es ++ (named_text ns ++ 41 ∷ []))) l refl refl
opens_expr calls (cat es) l can = absurd can

-- arguments may follow a word
pub breaks_exprs : (calls : ℕ) (es : Exprs) (l : List ℕ) → CanExprs calls es → Breaks l → Breaks (bytes_of (exprs_text es) ++ l)
breaks_exprs calls no_exprs l can b = b
breaks_exprs calls (expr e es) l can b =
    breaks_low (32 ∷ []) (expr_text e ++ exprs_text es) l refl
    (blank_breaks (bytes_of (expr_text e ++ exprs_text es) ++ l)
    (subst (λ (x : List ℕ). Opens x) (sym (join2 (expr_text e) (exprs_text es) l)) (opens_expr calls e (bytes_of (exprs_text es) ++ l) can.0)))

pub breaks_named : (calls : ℕ) (ns : NamedExprs) (l : List ℕ) → CanNamed calls ns → Breaks l → Breaks (bytes_of (named_text ns) ++ l)
breaks_named calls no_named l can b = b
breaks_named calls (named_expr n e ns) l can b =
    breaks_low (32 ∷ []) (n ++ (61 ∷ (expr_text e ++ named_text ns))) l refl
    (blank_breaks (bytes_of (n ++ (61 ∷ (expr_text e ++ named_text ns))) ++ l) (opens_name n (61 ∷ (expr_text e ++ named_text ns)) l can.0.0))

-- the marks of expressions
pub mark_token : {P : List Token → Type 0} (mode : Mode) (reads : ReadsExprs mode) (tag : Bool) (kind : TokenKind) (c : ℕ) (rest : List ℕ)
    → opens_tag kind ≡ false → closes_tag kind ≡ false → is_text kind ≡ false → is_white c ≡ false → ltb c 128 ≡ true
    → expression_token mode (c ∷ rest) ≡ Some (kind, rest, mode) → Lexed mode tag rest P → Lexed mode tag (c ∷ rest) (Then (Mark kind) P)
mark_token {P} mode reads tag kind c rest o s n white low is l =
    let a : is_ascii_text (c ∷ []) ≡ true = rw low refl in
    lexed_as mode tag (c ∷ rest) (λ ts h. marked kind (λ x. x ≡ chars (c ∷ [])) ts h) (expr_token mode reads tag kind c [] rest o s n white is (ascii_utf8 (c ∷ []) a) l)

pub expr_blank : {P : List Token → Type 0} (mode : Mode) (reads : ReadsExprs mode) (tag : Bool) (rest : List ℕ) → Lexed mode tag rest P → Lexed mode tag (32 ∷ rest) P
expr_blank {P} mode reads tag rest l = lexed_blank mode tag rest reads.0 (subst (λ (m : Mode). Lexed m tag rest P) (sym reads.1) l)

mutual
  pub lexed_expr : {P : List Token → Type 0} (mode : Mode) (reads : ReadsExprs mode) (tag : Bool) (calls : ℕ) (e : Expr) (rest : List ℕ) → CanExpr calls e → Breaks rest → Lexed mode tag rest P → Lexed mode tag (bytes_of (expr_text e) ++ rest) (Then (λ ts us. IsExpr calls ts e us) P)
  lexed_expr mode reads tag calls (literal x) rest can b l = lexed_literal mode reads tag x rest can b l
  lexed_expr {P} mode reads tag calls (this n ns) rest can b l =
      lexed_last mode tag (codes "this" ++ segments_text (n ∷ ns)) rest (ascii_append (codes "this") (segments_text (n ∷ ns)) refl (segments_ascii (n ∷ ns) can))
      (lexed_as mode tag ((codes "this" ++ segments_text (n ∷ ns)) ++ rest)
      (λ ts h. stands_as k.Path (λ x. x ≡ codes "this" ++ segments_text (n ∷ ns)) (λ x. names_of x ≡ codes "this" ∷ n ∷ ns) ts (λ x e. ap names_of e ∙ path_names (codes "this") (n ∷ ns) (name_no_dots (codes "this") refl) can) h)
      (lexed_path mode reads tag (codes "this") (n ∷ ns) rest refl can b l))
  lexed_expr {P} mode reads tag calls (argument n ns) rest can b l =
      lexed_last mode tag (64 ∷ (n ++ segments_text ns)) rest (ascii_append n (segments_text ns) (name_ascii n can.0) (segments_ascii ns can.1))
      (lexed_as mode tag (64 ∷ ((n ++ segments_text ns) ++ rest))
      (λ ts h. stands_as k.Path (λ x. x ≡ 64 ∷ (n ++ segments_text ns)) (λ x. names_of x ≡ (64 ∷ n) ∷ ns) ts (λ x e. ap names_of e ∙ path_names (64 ∷ n) ns (refl, name_no_dots n can.0) can.1) h)
      (lexed_argument mode reads tag n ns rest can.0 can.1 b l))
  lexed_expr {P} mode reads tag calls (bare n ns) rest can b l =
      lexed_last mode tag (n ++ segments_text ns) rest (ascii_append n (segments_text ns) (name_ascii n can.0.0) (segments_ascii ns can.1))
      (lexed_as mode tag ((n ++ segments_text ns) ++ rest)
      (λ ts h. stands_as k.Path (λ x. x ≡ n ++ segments_text ns) (λ x. (names_of x ≡ n ∷ ns) × (is_free n ≡ true)) ts (λ x e. (ap names_of e ∙ path_names n ns (name_no_dots n can.0.0) can.1, can.0.1)) h)
      (lexed_path mode reads tag n ns rest can.0.0 can.1 b l))
  lexed_expr mode reads tag zero (call n es ns) rest can b l = absurd can
  lexed_expr {P} mode reads tag (suc calls) (call n es ns) rest can b l =
      let bc : Breaks (bytes_of (41 ∷ []) ++ rest) = breaks_last (41 ∷ []) rest refl (refl, refl) in
      let bn : Breaks (bytes_of (named_text ns ++ 41 ∷ []) ++ rest) = breaks_join (named_text ns) (41 ∷ []) rest (breaks_named calls ns (bytes_of (41 ∷ []) ++ rest) can.2 bc) in
      let be : Breaks (bytes_of (exprs_text es ++ (named_text ns ++ 41 ∷ [])) ++ rest) = breaks_join (exprs_text es) (named_text ns ++ 41 ∷ []) rest (breaks_exprs calls es (bytes_of (named_text ns ++ 41 ∷ []) ++ rest) can.1 bn) in
      let close : Lexed mode tag (bytes_of (41 ∷ []) ++ rest) (Then (Mark k.CloseParen) P) = lexed_last mode tag (41 ∷ []) rest refl (mark_token mode reads tag k.CloseParen 41 rest refl refl refl refl refl (close_token mode rest) l) in
      let named = lexed_join mode tag (named_text ns) (41 ∷ []) rest (lexed_named mode reads tag calls ns (bytes_of (41 ∷ []) ++ rest) can.2 bc close) in
      let args = lexed_join mode tag (exprs_text es) (named_text ns ++ 41 ∷ []) rest (lexed_exprs mode reads tag calls es (bytes_of (named_text ns ++ 41 ∷ []) ++ rest) can.1 bn named) in
      let name = lexed_low mode tag n (exprs_text es ++ (named_text ns ++ 41 ∷ [])) rest (name_ascii n can.0.0) (lexed_name mode reads tag n (bytes_of (exprs_text es ++ (named_text ns ++ 41 ∷ [])) ++ rest) can.0 be args) in
      let open_paren = lexed_low mode tag (40 ∷ []) (n ++ (exprs_text es ++ (named_text ns ++ 41 ∷ []))) rest refl (mark_token mode reads tag k.OpenParen 40 (bytes_of (n ++ (exprs_text es ++ (named_text ns ++ 41 ∷ []))) ++ rest) refl refl refl refl refl (open_token mode (bytes_of (n ++ (exprs_text es ++ (named_text ns ++ 41 ∷ []))) ++ rest)) name) in
      lexed_as mode tag (bytes_of (expr_text (call n es ns)) ++ rest) (λ ts h. (h.2.2.2.2.0, (h.0, h.2.0, h.2.2.0, h.2.2.2.0, h.1, h.2.1, h.2.2.1, h.2.2.2.1, h.2.2.2.2.1), h.2.2.2.2.2)) open_paren
  lexed_expr mode reads tag calls (cat es) rest can b l = absurd can

  pub lexed_exprs : {P : List Token → Type 0} (mode : Mode) (reads : ReadsExprs mode) (tag : Bool) (calls : ℕ) (es : Exprs) (rest : List ℕ) → CanExprs calls es → Breaks rest → Lexed mode tag rest P → Lexed mode tag (bytes_of (exprs_text es) ++ rest) (Then (λ ts us. AreExprs calls ts es us) P)
  lexed_exprs mode reads tag calls no_exprs rest can b l = lexed_as mode tag rest (λ ts p. (ts, refl, p)) l
  lexed_exprs {P} mode reads tag calls (expr e es) rest can b l =
      lexed_as mode tag (bytes_of (exprs_text (expr e es)) ++ rest) (λ ts h. (h.2.0, (h.0, h.1, h.2.1), h.2.2))
      (lexed_low mode tag (32 ∷ []) (expr_text e ++ exprs_text es) rest refl
      (expr_blank mode reads tag (bytes_of (expr_text e ++ exprs_text es) ++ rest)
      (lexed_join mode tag (expr_text e) (exprs_text es) rest
      (lexed_expr mode reads tag calls e (bytes_of (exprs_text es) ++ rest) can.0 (breaks_exprs calls es rest can.1 b) (lexed_exprs mode reads tag calls es rest can.1 b l)))))

  pub lexed_named : {P : List Token → Type 0} (mode : Mode) (reads : ReadsExprs mode) (tag : Bool) (calls : ℕ) (ns : NamedExprs) (rest : List ℕ) → CanNamed calls ns → Breaks rest → Lexed mode tag rest P → Lexed mode tag (bytes_of (named_text ns) ++ rest) (Then (λ ts us. AreNamed calls ts ns us) P)
  lexed_named mode reads tag calls no_named rest can b l = lexed_as mode tag rest (λ ts p. (ts, refl, p)) l
  lexed_named {P} mode reads tag calls (named_expr n e ns) rest can b l =
      let value = lexed_join mode tag (expr_text e) (named_text ns) rest (lexed_expr mode reads tag calls e (bytes_of (named_text ns) ++ rest) can.1 (breaks_named calls ns rest can.2 b) (lexed_named mode reads tag calls ns rest can.2 b l)) in
      let equals = lexed_low mode tag (61 ∷ []) (expr_text e ++ named_text ns) rest refl (mark_token mode reads tag k.Equals 61 (bytes_of (expr_text e ++ named_text ns) ++ rest) refl refl refl refl refl (equals_token mode (bytes_of (expr_text e ++ named_text ns) ++ rest)) value) in
      let be : Breaks (bytes_of (61 ∷ (expr_text e ++ named_text ns)) ++ rest) = breaks_low (61 ∷ []) (expr_text e ++ named_text ns) rest refl (refl, refl) in
      let name = lexed_low mode tag n (61 ∷ (expr_text e ++ named_text ns)) rest (name_ascii n can.0.0) (lexed_name mode reads tag n (bytes_of (61 ∷ (expr_text e ++ named_text ns)) ++ rest) can.0 be equals) in
      lexed_as mode tag (bytes_of (named_text (named_expr n e ns)) ++ rest) (λ ts h. (h.2.2.2.0, (h.0, h.2.0, h.2.2.0, h.1, h.2.1, h.2.2.1, h.2.2.2.1), h.2.2.2.2))
      (lexed_low mode tag (32 ∷ []) (n ++ (61 ∷ (expr_text e ++ named_text ns))) rest refl (expr_blank mode reads tag (bytes_of (n ++ (61 ∷ (expr_text e ++ named_text ns))) ++ rest) name))
