-- The keys and strings of JSON that is read from UTF-8 are UTF-8: tokens.
use Rattle.std.proofs.Common.{◌≡◌, ◌<◌, ℕ, ◌-◌, List, [], ◌∷◌, ◌++◌, Bool, true, false, cond, ◌==◌, ◌&&◌, length, take, drop, nat_eq, Option, Some, None, refl, sym, subst, arith, append_assoc}
use Rattle.std.specs.Str.{IsUtf8}
use Rattle.std.proofs.lemmas.Bool.Decides.{nat_tests}
use Rattle.json.specs.Token.{Token, begin_object, end_object, begin_array, end_array, key, string, number, boolean, null, bad}
use Rattle.json.specs.Text.{content, plain}
use Rattle.json.specs.Ascii as ascii
use Rattle.json.specs.Word.{head, ends_word, after_number, number_before, literal, word}
use Rattle.std.specs.List.{starts_with}
use Rattle.json.specs.Lex.{Lexeme, token, comma, colon, Class, quote, backslash, operator, space, other, class, operator_lexeme, string_token, Mode, between, in_word, in_string, in_escape, lex_byte, lex, Place, fresh, after_value, after_comma, after_key, begins_colon, if_allowed, place_token, punctuate, tokens}
use Rattle.gl_meaning.specs.ManifestRules.{Each}
use Rattle.gl_manifest.proofs.JsonContent.{beside_ascii, string_text}

abbrev pub IsTextToken : Token → Type 0
IsTextToken (key s) = IsUtf8 s
IsTextToken (string s) = IsUtf8 s
IsTextToken _ = Unit {0}

abbrev IsTextLexeme : Lexeme → Type 0
IsTextLexeme (token t) = IsTextToken t
IsTextLexeme comma = Unit {0}
IsTextLexeme colon = Unit {0}

if_lexeme : (b : Bool) (x y : Lexeme) → IsTextLexeme x → IsTextLexeme y → IsTextLexeme (cond b x y)
if_lexeme true x y p q = p
if_lexeme false x y p q = q

abbrev last_operator : ℕ → Lexeme
last_operator x = cond (x == 44) comma colon

abbrev array_operator : ℕ → Lexeme
array_operator x = cond (x == 91) (token begin_array) (cond (x == 93) (token end_array) (last_operator x))

operator_text : (x : ℕ) → IsTextLexeme (operator_lexeme x)
operator_text x =
    if_lexeme (x == 123) (token begin_object) (cond (x == 125) (token end_object) (array_operator x)) tt
    (if_lexeme (x == 125) (token end_object) (array_operator x) tt
    (if_lexeme (x == 91) (token begin_array) (cond (x == 93) (token end_array) (last_operator x)) tt
    (if_lexeme (x == 93) (token end_array) (last_operator x) tt
    (if_lexeme (x == 44) comma colon tt tt))))

if_token : (b : Bool) (x y : Token) → IsTextToken x → IsTextToken y → IsTextToken (cond b x y)
if_token true x y p q = p
if_token false x y p q = q

number_text : (t : List ℕ) (o : Option (List ℕ)) → IsTextToken (number_before t o)
number_text t None = tt
number_text t (Some rest) = if_token (ends_word rest) (number (take (length t - length rest) t)) bad tt tt

literal_text : (name : List ℕ) (k : Token) (t : List ℕ) → IsTextToken k → IsTextToken (literal name k t)
literal_text name k t h = if_token (starts_with nat_eq t name && ends_word (drop (length name) t)) k bad h tt

abbrev null_word : List ℕ → Token
null_word t = cond (head t == ascii.lower_n) (literal ascii.null_text null t) (number_before t (after_number t))

abbrev false_word : List ℕ → Token
false_word t = cond (head t == ascii.lower_f) (literal ascii.false_text (boolean false) t) (null_word t)

word_text : (t : List ℕ) → IsTextToken (word t)
unfolding word
word_text t =
    if_token (head t == ascii.lower_t) (literal ascii.true_text (boolean true) t) (false_word t) (literal_text ascii.true_text (boolean true) t tt)
    (if_token (head t == ascii.lower_f) (literal ascii.false_text (boolean false) t) (null_word t) (literal_text ascii.false_text (boolean false) t tt)
    (if_token (head t == ascii.lower_n) (literal ascii.null_text null t) (number_before t (after_number t)) (literal_text ascii.null_text null t tt)
    (number_text t (after_number t))))

string_token_text : (o : Option (List ℕ)) → ((s : List ℕ) → o ≡ Some s → IsUtf8 s) → IsTextToken (string_token o)
string_token_text None h = tt
string_token_text (Some s) h = h s refl

byte_text : (m : Mode) (k : Class) (x : ℕ) (xs : List ℕ) (more : Mode → List Lexeme) → (k ≡ quote → IsUtf8 xs) → ((next : Mode) → Each IsTextLexeme (more next)) → Each IsTextLexeme (lex_byte m k x xs more)
byte_text between quote x xs more u h = (string_token_text (content plain xs) (λ s e. string_text xs s (u refl) e), h in_string)
byte_text between backslash x xs more u h = (tt, h in_word)
byte_text between operator x xs more u h = (operator_text x, h between)
byte_text between space x xs more u h = h between
byte_text between other x xs more u h = (word_text (x ∷ xs), h in_word)
byte_text in_word quote x xs more u h = h in_word
byte_text in_word backslash x xs more u h = h in_word
byte_text in_word operator x xs more u h = (operator_text x, h between)
byte_text in_word space x xs more u h = h between
byte_text in_word other x xs more u h = h in_word
byte_text in_string quote x xs more u h = h between
byte_text in_string backslash x xs more u h = h in_escape
byte_text in_string operator x xs more u h = h in_string
byte_text in_string space x xs more u h = h in_string
byte_text in_string other x xs more u h = h in_string
byte_text in_escape k x xs more u h = h in_string

if_quote : (b : Bool) (k : Class) → (k ≡ quote → ⊥) → cond b quote k ≡ quote → b ≡ true
if_quote true k never e = refl
if_quote false k never e = absurd (never e)

no_quote : (a b c : Bool) → cond a backslash (cond b operator (cond c space other)) ≡ quote → ⊥
no_quote true b c e = cc
no_quote false true c e = cc
no_quote false false true e = cc
no_quote false false false e = cc

quote_ascii : (x : ℕ) → class x ≡ quote → x < 128
quote_ascii x e = let is : (x == 34) ≡ true = if_quote (x == 34) _ (no_quote _ _ _) e in grind (arith, nat_tests, is)

-- `pre` is what stands in front
lexed_text : (m : Mode) (pre xs : List ℕ) → IsUtf8 (pre ++ xs) → Each IsTextLexeme (lex m xs)
unfolding lex
lexed_text m pre [] u = tt
lexed_text m pre (x ∷ xs) u =
    byte_text m (class x) x xs (λ next. lex next xs)
    (λ q. (beside_ascii pre x xs (quote_ascii x q) u).1)
    (λ next. lexed_text next (pre ++ x ∷ []) xs (subst IsUtf8 (sym (append_assoc pre (x ∷ []) xs)) u))

allowed_text : (b : Bool) (t : Token) (more : Place → List Token) (next : Place) → IsTextToken t → ((p : Place) → Each IsTextToken (more p)) → Each IsTextToken (if_allowed b t more next)
allowed_text true t more next h k = (h, k next)
allowed_text false t more next h k = (tt, tt)

place_text : (p : Place) (t : Token) (b : Bool) (more : Place → List Token) → IsTextToken t → ((next : Place) → Each IsTextToken (more next)) → Each IsTextToken (place_token p t b more)
place_text p begin_object b more h k = allowed_text _ begin_object more fresh tt k
place_text p end_object b more h k = allowed_text _ end_object more after_value tt k
place_text p begin_array b more h k = allowed_text _ begin_array more fresh tt k
place_text p end_array b more h k = allowed_text _ end_array more after_value tt k
place_text p (key s) b more h k = (tt, tt)
place_text p (string s) true more h k = allowed_text _ (key s) more after_key h k
place_text p (string s) false more h k = allowed_text _ (string s) more after_value h k
place_text p (number s) b more h k = allowed_text _ (number s) more after_value tt k
place_text p (boolean v) b more h k = allowed_text _ (boolean v) more after_value tt k
place_text p null b more h k = allowed_text _ null more after_value tt k
place_text p bad b more h k = (tt, tt)

placed_text : (p : Place) (ls : List Lexeme) → Each IsTextLexeme ls → Each IsTextToken (punctuate p ls)
unfolding punctuate
placed_text fresh [] h = tt
placed_text after_value [] h = tt
placed_text after_comma [] h = (tt, tt)
placed_text after_key [] h = (tt, tt)
placed_text fresh (token t ∷ ls) h = place_text fresh t (begins_colon ls) (λ next. punctuate next ls) h.0 (λ next. placed_text next ls h.1)
placed_text after_value (token t ∷ ls) h = place_text after_value t (begins_colon ls) (λ next. punctuate next ls) h.0 (λ next. placed_text next ls h.1)
placed_text after_comma (token t ∷ ls) h = place_text after_comma t (begins_colon ls) (λ next. punctuate next ls) h.0 (λ next. placed_text next ls h.1)
placed_text after_key (token t ∷ ls) h = place_text after_key t (begins_colon ls) (λ next. punctuate next ls) h.0 (λ next. placed_text next ls h.1)
placed_text fresh (comma ∷ ls) h = (tt, tt)
placed_text after_value (comma ∷ ls) h = placed_text after_comma ls h.1
placed_text after_comma (comma ∷ ls) h = (tt, tt)
placed_text after_key (comma ∷ ls) h = (tt, tt)
placed_text fresh (colon ∷ ls) h = (tt, tt)
placed_text after_value (colon ∷ ls) h = (tt, tt)
placed_text after_comma (colon ∷ ls) h = (tt, tt)
placed_text after_key (colon ∷ ls) h = placed_text fresh ls h.1

pub tokens_text : (text : List ℕ) → IsUtf8 text → Each IsTextToken (tokens text)
tokens_text text u = placed_text fresh (lex between text) (lexed_text between [] text u)
