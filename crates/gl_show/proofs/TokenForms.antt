-- What the text of a token of its kind can be.
use Rattle.std.proofs.Common.{◌≡◌, ◌<◌, ◌-◌, ◌⊎◌, inl, inr, ℕ, zero, suc, List, [], ◌∷◌, ◌++◌, Bool, true, false, None, cond, eqb, ltb, length, take, get_or, refl, sym, ap, subst, ◌∙◌, append_assoc, append-nil, length-append, arith}
use Rattle.std.specs.Prelude.{◌==◌, ◌&&◌, ◌||◌, not, codes, nat_le, nat_lt, filter, is_some, pos, ◌-ℤ◌, encode_utf8}
use Rattle.std.specs.List.{list_all, flat_map}
use Rattle.std.specs.Str.{chars, IsUtf8, all_scalars}
use lib.Utf8.{scalar}
use Rattle.std.proofs.Math.Seq.{get_or-append_seam}
use Rattle.std.proofs.lemmas.Bool.Decides.{nat_tests}
use Rattle.std.proofs.lemmas.Str.{IsUtf8-take, IsCharBoundary-before_ascii, scalars-chars, encodes-chars, chars-append}
use Rattle.gl_base.specs.Texts.{Text, bytes_of, is_ascii_text}
use Rattle.gl_base.proofs.Chars.{chars_of_ascii, chars-append_literal}
use Rattle.gl_ast.specs.Canon.{segments_text}
use Rattle.gl_ast.specs.Marks.{is_white, is_digit, in_name, starts_attribute, in_attribute}
use Rattle.gl_ast.specs.Scans.{after, begins}
use Rattle.gl_ast.specs.TokenText.{integer_of, string_of, unescaped, comment_of, pieces, words, up_to, beyond, parameters_of}
use Rattle.gl_ast.specs.Words.{greatest}
use Rattle.gl_ast.specs.declared.token.TokenKind.{TokenKind}
use Rattle.gl_ast.specs.declared.token.TokenKind.TheVariants as k
use Rattle.gl_ast.proofs.Forward.{both, tail_text}
use Rattle.gl_show.specs.Marking.{last_is}
use Rattle.gl_show.specs.Spellable.{is_word, is_name, is_within, IsTextual, IsString, AreFreeNames, ends_comment}
use Rattle.gl_show.proofs.ContentTokens.{NamesTag, tag_names, class_names, block_ascii}
use Rattle.gl_show.proofs.Edges.{last_backslash}
use Rattle.gl_show.proofs.LexedExpr.{ascii_append, segments_ascii, ascii_utf8}
use Rattle.gl_show.proofs.LexedFlat.{comment_is}
use Rattle.gl_show.proofs.Numbers.{IsNumber, digits_ascii, take_front, natural_of, less}
use Rattle.gl_show.proofs.Parameters.{pieces_front, all_in}
use Rattle.gl_show.proofs.Runs.{char_bytes}
use Rattle.gl_show.proofs.Scanning.{name_ascii, word_low, all_low}
use Rattle.gl_show.proofs.Shapes.{AllForm, IsHead, IsPathText, IsElementName, IsLabel, IsNumberText, IsSpacedName, IsNamesText}
use Rattle.gl_show.proofs.Strings.{all_high}

-- what the text of a token of this kind is
abbrev pub IsProper : TokenKind → Text → Type 0
IsProper k.Path x = IsPathText x
IsProper k.Number x = is_within (integer_of x) ≡ true
IsProper k.StringLit x = IsString (string_of x)
IsProper k.Text x = IsTextual x
IsProper k.HtmlComment x = IsTextual (comment_of x) × (ends_comment (comment_of x) ≡ false)
IsProper k.TagOpening x = (n : Text) × (x ≡ 60 ∷ n) × IsLabel n
IsProper k.Attribute x = is_word starts_attribute in_attribute x ≡ true
IsProper k.Argument x = (n : Text) × (x ≡ 64 ∷ n) × (is_name n ≡ true)
IsProper k.Unquoted x = IsTextual x
IsProper k.Parameters x = AreFreeNames (parameters_of x)
IsProper _ x = Unit {0}

-- paths
head_ascii : (h : List ℕ) → IsHead h → is_ascii_text h ≡ true
head_ascii h (inl w) = name_ascii h w
head_ascii h (inr m) = ap is_ascii_text m.1 ∙ name_ascii m.0 m.2

pub path_form : (w : List ℕ) → IsPathText w → IsProper k.Path (chars w)
path_form w p = subst (λ (x : Text). IsPathText x) (sym (chars_of_ascii w (ap is_ascii_text p.2 ∙ ascii_append p.0 (segments_text p.1) (head_ascii p.0 p.3) (segments_ascii p.1 p.4)))) p

-- numbers
negated : (n : ℕ) → nat_le n greatest ≡ true → is_within (pos 0 -ℤ pos n) ≡ true
negated zero h = refl
negated (suc n) h = ap is_within (less n) ∙ h

number_within : (w : List ℕ) (n : ℕ) (ds : List ℕ) → IsNumber n ds → nat_le n greatest ≡ true → (w ≡ ds) ⊎ (w ≡ 45 ∷ ds) → is_within (integer_of w) ≡ true
number_within w n ds is h (inl e) = ap (λ x. is_within (integer_of x)) e ∙ ap is_within (natural_of n ds is) ∙ h
number_within w n ds is h (inr e) = ap (λ x. is_within (integer_of x)) e ∙ ap (λ m. is_within (pos 0 -ℤ pos m)) is.1 ∙ negated n h

number_ascii : (w ds : List ℕ) → is_word is_digit is_digit ds ≡ true → (w ≡ ds) ⊎ (w ≡ 45 ∷ ds) → is_ascii_text w ≡ true
number_ascii w ds h (inl e) = ap is_ascii_text e ∙ digits_ascii ds h
number_ascii w ds h (inr e) = ap is_ascii_text e ∙ digits_ascii ds h

pub number_form : (w : List ℕ) → IsNumberText w → IsProper k.Number (chars w)
number_form w p = ap (λ x. is_within (integer_of x)) (chars_of_ascii w (number_ascii w p.1 p.2.0 p.4)) ∙ number_within w p.0 p.1 p.2 p.3 p.4

-- strings
before_length : (front rest : List ℕ) (c : ℕ) → length front < length (front ++ c ∷ rest)
before_length front rest c = omega (arith, length-append front (c ∷ rest))

front_utf8 : (front rest : List ℕ) (c : ℕ) → c < 128 → IsUtf8 (front ++ c ∷ rest) → IsUtf8 front
front_utf8 front rest c low u =
    let e = get_or-append_seam front c rest 0 in
    let n : get_or (front ++ c ∷ rest) (length front) 0 < 128 = omega (arith, e, low) in
    subst IsUtf8 (take_front front (c ∷ rest)) (IsUtf8-take (front ++ c ∷ rest) (length front) u (IsCharBoundary-before_ascii (front ++ c ∷ rest) (length front) (before_length front rest c) n))

high_last : (prev : Bool) (b : ℕ) (bs l : List ℕ) → all_high (b ∷ bs) ≡ true → last_is prev ((b ∷ bs) ++ l) ≡ last_is false l
high_last prev b [] l h = let s : eqb b 92 ≡ false = grind (arith, nat_tests) in ap (λ x. last_is x l) s
high_last prev b (d ∷ bs) l h = high_last (b == 92) d bs l (both (not (ltb b 128)) (all_high (d ∷ bs)) h).1

last_bytes : (cs : Text) (prev : Bool) → last_is prev (bytes_of cs) ≡ last_is prev cs
last_bytes [] prev = refl
last_bytes (c ∷ cs) prev =
    char_bytes (λ bs. last_is prev (bs ++ bytes_of cs) ≡ last_is (c == 92) cs) c
    (λ l. last_bytes cs (c == 92))
    (λ b bs h a. let s : eqb c 92 ≡ false = grind (arith, nat_tests) in high_last prev b bs (bytes_of cs) a ∙ last_bytes cs false ∙ ap (λ x. last_is x cs) (sym s))

-- what is left of a string without the marks before quotes
unescaped_scalars : (q : ℕ) (cs : Text) → all_scalars cs ≡ true → all_scalars (unescaped q cs) ≡ true
unescaped_scalars q [] a = refl
unescaped_scalars q (c ∷ cs) a = let h = both (scalar c) (all_scalars cs) a in drop_case (c == 92 && begins (q ∷ []) cs) h.0 (unescaped_scalars q cs h.1)
  where
    drop_case : (t : Bool) → scalar c ≡ true → all_scalars (unescaped q cs) ≡ true → all_scalars (cond t (unescaped q cs) (c ∷ unescaped q cs)) ≡ true
    drop_case true s more = more
    drop_case false s more = rw s more

last_some : (q : ℕ) (cs : Text) (x y : Bool) → begins (q ∷ []) cs ≡ true → last_is x cs ≡ last_is y cs
last_some q [] x y b = cc
last_some q (c ∷ cs) x y b = refl

unescaped_last : (q : ℕ) (cs : Text) (prev : Bool) → last_is prev cs ≡ false → last_is prev (unescaped q cs) ≡ false
unescaped_last q [] prev h = h
unescaped_last q (c ∷ cs) prev h = drop_case (c == 92) (begins (q ∷ []) cs) refl (λ x k. unescaped_last q cs x k)
  where
    drop_case : (t s : Bool) → begins (q ∷ []) cs ≡ s → ((x : Bool) → last_is x cs ≡ false → last_is x (unescaped q cs) ≡ false) → last_is prev (cond (t && s) (unescaped q cs) (c ∷ unescaped q cs)) ≡ false
    drop_case true true e more = more prev (last_some q cs prev (c == 92) e ∙ h)
    drop_case true false e more = more (c == 92) h
    drop_case false s e more = more (c == 92) h

quoted_chars : (q : ℕ) (body : List ℕ) → is_ascii_text (q ∷ []) ≡ true → IsUtf8 body → chars (q ∷ (body ++ q ∷ [])) ≡ q ∷ (chars body ++ q ∷ [])
quoted_chars q body low u =
    chars-append (q ∷ []) (body ++ q ∷ []) (ascii_utf8 (q ∷ []) low)
    ∙ ap (λ l. l ++ chars (body ++ q ∷ [])) (chars_of_ascii (q ∷ []) low)
    ∙ ap (λ l. q ∷ l) (chars-append_literal body (q ∷ []) u low)

string_of-quoted : (q : ℕ) (s : Text) → string_of (q ∷ (s ++ q ∷ [])) ≡ unescaped q s
string_of-quoted q s =
    let n : length (s ++ q ∷ []) - 1 ≡ length s = omega (arith, length-append s (q ∷ [])) in
    ap (λ m. unescaped q (take m (s ++ q ∷ []))) n ∙ ap (λ l. unescaped q l) (take_front s (q ∷ []))

pub string_form : (q : ℕ) → q < 128 → is_ascii_text (q ∷ []) ≡ true → (w : List ℕ) → ((body : List ℕ) × (w ≡ q ∷ (body ++ q ∷ [])) × (last_is false body ≡ false)) → IsUtf8 w → IsProper k.StringLit (chars w)
string_form q low lows w p u =
    let v : IsUtf8 p.0 = front_utf8 p.0 [] q low (tail_text q (p.0 ++ q ∷ []) low (subst IsUtf8 p.1 u)) in
    let is : string_of (chars w) ≡ unescaped q (chars p.0) = ap (λ x. string_of (chars x)) p.1 ∙ ap string_of (quoted_chars q p.0 lows v) ∙ string_of-quoted q (chars p.0) in
    let last : last_is false (chars p.0) ≡ false = sym (last_bytes (chars p.0) false) ∙ ap (λ x. last_is false x) (encodes-chars p.0 v) ∙ p.2 in
    subst (λ (s : Text). IsString s) (sym is) (unescaped_scalars q (chars p.0) (scalars-chars p.0 v), sym (last_backslash (unescaped q (chars p.0))) ∙ unescaped_last q (chars p.0) false last)

-- comments
begins_bytes : (cs : List ℕ) (ds : Text) → begins cs ds ≡ true → is_ascii_text cs ≡ true → begins cs (bytes_of ds) ≡ true
begins_bytes [] ds b a = refl
begins_bytes (c ∷ cs) [] b a = cc
begins_bytes (c ∷ cs) (d ∷ ds) b a =
    let h = both (ltb c 128) (is_ascii_text cs) a in
    char_bytes (λ bs. begins (c ∷ cs) (bs ++ bytes_of ds) ≡ true) d
    (λ l. same_case (eqb c d) b (λ k. begins_bytes cs ds k h.1))
    (λ x xs g n. let low = h.0 in let no : eqb c d ≡ false = grind (arith, nat_tests) in absurd (none (eqb c d) no b))
  where
    same_case : (t : Bool) → is_some (cond t (after cs ds) None) ≡ true → (begins cs ds ≡ true → begins cs (bytes_of ds) ≡ true) → is_some (cond t (after cs (bytes_of ds)) None) ≡ true
    same_case true e more = more e
    same_case false e more = cc

    none : (t : Bool) → t ≡ false → is_some (cond t (after cs ds) None) ≡ true → ⊥
    none true n e = cc
    none false n e = cc

off : (b : Bool) → (b ≡ true → ⊥) → b ≡ false
off true h = absurd (h refl)
off false h = refl

ends_bytes : (cs : Text) → ends_comment (bytes_of cs) ≡ false → ends_comment cs ≡ false
ends_bytes [] h = refl
ends_bytes (c ∷ cs) h =
    let n = split_off (begins (codes "-->") (c ∷ cs)) (λ b. begins_bytes (codes "-->") (c ∷ cs) b refl) in
    ap (λ x. x || ends_comment cs) n ∙ ends_bytes cs (rest_of c cs h)
  where
    first_of : (bs : List ℕ) → ends_comment bs ≡ false → begins (codes "-->") bs ≡ true → ⊥
    first_of [] e b = cc
    first_of (x ∷ xs) e b = or_case (begins (codes "-->") (x ∷ xs)) (ends_comment xs) e b
      where
        or_case : (s t : Bool) → (s || t) ≡ false → s ≡ true → ⊥
        or_case true t e b = cc
        or_case false t e b = cc

    split_off : (t : Bool) → (t ≡ true → begins (codes "-->") (bytes_of (c ∷ cs)) ≡ true) → t ≡ false
    split_off true f = absurd (first_of (bytes_of (c ∷ cs)) h (f refl))
    split_off false f = refl

    tail_of : (x : ℕ) (xs : List ℕ) → ends_comment (x ∷ xs) ≡ false → ends_comment xs ≡ false
    tail_of x xs e = or_tail (begins (codes "-->") (x ∷ xs)) (ends_comment xs) e
      where
        or_tail : (s t : Bool) → (s || t) ≡ false → t ≡ false
        or_tail true t e = cc
        or_tail false t e = e

    past : (bs l : List ℕ) → ends_comment (bs ++ l) ≡ false → ends_comment l ≡ false
    past [] l e = e
    past (b ∷ bs) l e = past bs l (tail_of b (bs ++ l) e)

    rest_of : (c : ℕ) (cs : Text) → ends_comment (bytes_of (c ∷ cs)) ≡ false → ends_comment (bytes_of cs) ≡ false
    rest_of c cs e = past (encode_utf8 c) (bytes_of cs) e

pub comment_form : (w : List ℕ) → ((body : List ℕ) × (w ≡ codes "<!--" ++ (body ++ codes "-->")) × (ends_comment body ≡ false)) → IsUtf8 w → IsProper k.HtmlComment (chars w)
comment_form w p u =
    let four = subst IsUtf8 p.1 u in
    let three = tail_text 60 (codes "!--" ++ (p.0 ++ codes "-->")) (omega arith) four in
    let two = tail_text 33 (codes "--" ++ (p.0 ++ codes "-->")) (omega arith) three in
    let one = tail_text 45 (codes "-" ++ (p.0 ++ codes "-->")) (omega arith) two in
    let all = tail_text 45 (p.0 ++ codes "-->") (omega arith) one in
    let v : IsUtf8 p.0 = front_utf8 p.0 (codes "->") 45 (omega arith) all in
    let is : chars w ≡ codes "<!--" ++ (chars p.0 ++ codes "-->") =
    ap chars p.1 ∙ chars-append (codes "<!--") (p.0 ++ codes "-->") (ascii_utf8 (codes "<!--") refl)
    ∙ ap (λ l. l ++ chars (p.0 ++ codes "-->")) (chars_of_ascii (codes "<!--") refl) ∙ ap (λ l. codes "<!--" ++ l) (chars-append_literal p.0 (codes "-->") v refl) in
    let text : comment_of (chars w) ≡ chars p.0 = ap comment_of is ∙ comment_is (chars p.0) in
    subst (λ (s : Text). IsTextual s × (ends_comment s ≡ false)) (sym text) (scalars-chars p.0 v, ends_bytes (chars p.0) (ap ends_comment (encodes-chars p.0 v) ∙ p.2))

-- tags
names_ascii : (n : Text) → NamesTag n → is_ascii_text n ≡ true
names_ascii [] names = absurd names
names_ascii (c ∷ cs) names = names.1

element_ascii : (n : List ℕ) → IsElementName n → is_ascii_text n ≡ true
element_ascii n (inl w) = names_ascii n (tag_names n w)
element_ascii n (inr w) = names_ascii n (class_names n w)

label_ascii : (n : List ℕ) → IsLabel n → is_ascii_text n ≡ true
label_ascii n (inl w) = element_ascii n w
label_ascii n (inr w) = ap is_ascii_text w.1 ∙ block_ascii w.0 w.2

pub opening_form : (w : List ℕ) → ((n : List ℕ) × (w ≡ 60 ∷ n) × IsLabel n) → IsProper k.TagOpening (chars w)
opening_form w p = (p.0, chars_of_ascii w (ap is_ascii_text p.1 ∙ label_ascii p.0 p.2) ∙ p.1, p.2)

attribute_low : (b : ℕ) → starts_attribute b ≡ true → b < 128
attribute_low b e = grind (arith, nat_tests)

in_attribute_low : (b : ℕ) → in_attribute b ≡ true → b < 128
in_attribute_low b e = grind (arith, nat_tests)

pub attribute_form : (w : List ℕ) → is_word starts_attribute in_attribute w ≡ true → IsProper k.Attribute (chars w)
attribute_form w p = ap (λ x. is_word starts_attribute in_attribute x) (chars_of_ascii w (word_low starts_attribute in_attribute attribute_low in_attribute_low w p)) ∙ p

pub argument_form : (w : List ℕ) → ((m : List ℕ) × (w ≡ 64 ∷ m) × (is_name m ≡ true)) → IsProper k.Argument (chars w)
argument_form w p = (p.0, chars_of_ascii w (ap is_ascii_text p.1 ∙ name_ascii p.0 p.2) ∙ p.1, p.2)

-- parameters
white_low : (b : ℕ) → is_white b ≡ true → b < 128
white_low b e = grind (arith, nat_tests)

white_no_bar : (b : ℕ) → is_white b ≡ true → not (b == 124) ≡ true
white_no_bar b e = grind (arith, nat_tests)

name_no_bar : (b : ℕ) → in_name b ≡ true → not (b == 124) ≡ true
name_no_bar b e = grind (arith, nat_tests)

all_as : (p q : ℕ → Bool) → ((b : ℕ) → p b ≡ true → q b ≡ true) → (cs : List ℕ) → list_all p cs ≡ true → list_all q cs ≡ true
all_as p q h [] a = refl
all_as p q h (c ∷ cs) a = let g = both (p c) (list_all p cs) a in let n = h c g.0 in rw n (all_as p q h cs g.1)

all_join : (p : ℕ → Bool) (xs ys : List ℕ) → list_all p xs ≡ true → list_all p ys ≡ true → list_all p (xs ++ ys) ≡ true
all_join p [] ys a b = b
all_join p (x ∷ xs) ys a b = let h = both (p x) (list_all p xs) a in let n : p x ≡ true = h.0 in rw n (all_join p xs ys h.1 b)

abbrev pub no_bar : ℕ → Bool
no_bar b = not (b == 124)

word_all : (p : ℕ → Bool) (w : List ℕ) → is_word p p w ≡ true → list_all p w ≡ true
word_all p [] h = cc
word_all p (c ∷ cs) h = h

off_not : (b : Bool) → not b ≡ true → b ≡ false
off_not true e = cc
off_not false e = refl

beyond_all : (xs rest : List ℕ) → list_all no_bar xs ≡ true → beyond 124 (xs ++ 124 ∷ rest) ≡ rest
beyond_all [] rest a = refl
beyond_all (x ∷ xs) rest a = let h = both (no_bar x) (list_all no_bar xs) a in let n : (x == 124) ≡ false = off_not (x == 124) h.0 in rw n (beyond_all xs rest h.1)

up_to_all : (xs rest : List ℕ) → list_all no_bar xs ≡ true → up_to 124 (xs ++ 124 ∷ rest) ≡ xs
up_to_all [] rest a = refl
up_to_all (x ∷ xs) rest a = let h = both (no_bar x) (list_all no_bar xs) a in let n : (x == 124) ≡ false = off_not (x == 124) h.0 in rw n (ap (λ l. x ∷ l) (up_to_all xs rest h.1))

words_white : (xs rest : List ℕ) → list_all is_white xs ≡ true → words (xs ++ rest) ≡ words rest
words_white [] rest a = refl
words_white (x ∷ xs) rest a = let h = both (is_white x) (list_all is_white xs) a in let n : is_white x ≡ true = h.0 in rw n (words_white xs rest h.1)

abbrev pub WhiteFirst : List ℕ → Type 0
WhiteFirst [] = Unit {0}
WhiteFirst (b ∷ bs) = is_white b ≡ true

pieces_white : (rest : List ℕ) → WhiteFirst rest → (ws : List Text) × (pieces rest ≡ [] ∷ ws)
pieces_white [] w = ([], refl)
pieces_white (b ∷ bs) w = (pieces bs, rw w refl)

some_length : (n : Text) → is_name n ≡ true → nat_lt 0 (length n) ≡ true
some_length [] w = cc
some_length (c ∷ cs) w = grind (arith, nat_tests)

words_name : (n rest : List ℕ) → is_name n ≡ true → WhiteFirst rest → words (n ++ rest) ≡ n ∷ words rest
words_name n rest w f =
    let p = pieces_white rest f in
    let e = pieces_front n [] p.0 rest (all_in n w) p.1 in
    let k = some_length n w in
    ap (λ l. filter (λ v. nat_lt 0 (length v)) l) e
    ∙ ap (λ b. cond b (n ∷ filter (λ v. nat_lt 0 (length v)) p.0) (filter (λ v. nat_lt 0 (length v)) p.0)) k
    ∙ ap (λ l. n ∷ filter (λ v. nat_lt 0 (length v)) l) (sym p.1)

white_first : (xs rest : List ℕ) → list_all is_white xs ≡ true → WhiteFirst rest → WhiteFirst (xs ++ rest)
white_first [] rest a f = f
white_first (x ∷ xs) rest a f = (both (is_white x) (list_all is_white xs) a).0

spaced_first : (ss : List (List ℕ)) (back : List ℕ) → AllForm IsSpacedName ss → list_all is_white back ≡ true → WhiteFirst (flat_map (λ s. s) ss ++ back)
spaced_first [] back f a = subst (λ (l : List ℕ). WhiteFirst l) (append-nil back) (white_first back [] a tt)
spaced_first (s ∷ ss) back f a = subst (λ (l : List ℕ). WhiteFirst ((l ++ flat_map (λ s. s) ss) ++ back)) (sym f.0.2) (space_case f.0.0 f.0.3)
  where
    space_case : (sp : List ℕ) → is_word is_white is_white sp ≡ true → WhiteFirst (((sp ++ f.0.1) ++ flat_map (λ s. s) ss) ++ back)
    space_case [] w = cc
    space_case (x ∷ xs) w = (both (is_white x) (list_all is_white xs) w).0

spaced_free : (ss : List (List ℕ)) (back : List ℕ) → AllForm IsSpacedName ss → list_all is_white back ≡ true → AreFreeNames (words (flat_map (λ s. s) ss ++ back))
spaced_free [] back f a = subst (λ (l : List Text). AreFreeNames l) (sym (ap words (sym (append-nil back)) ∙ words_white back [] a)) tt
spaced_free (s ∷ ss) back f a =
    let sp = f.0.0 in let n = f.0.1 in
    let whole : (s ++ flat_map (λ s. s) ss) ++ back ≡ sp ++ (n ++ (flat_map (λ s. s) ss ++ back)) =
    append_assoc s (flat_map (λ s. s) ss) back ∙ ap (λ l. l ++ (flat_map (λ s. s) ss ++ back)) f.0.2 ∙ append_assoc sp n (flat_map (λ s. s) ss ++ back) in
    let e : words ((s ++ flat_map (λ s. s) ss) ++ back) ≡ n ∷ words (flat_map (λ s. s) ss ++ back) =
    ap words whole ∙ words_white sp (n ++ (flat_map (λ s. s) ss ++ back)) (word_all is_white sp f.0.3) ∙ words_name n (flat_map (λ s. s) ss ++ back) f.0.4.0 (spaced_first ss back f.1 a) in
    subst (λ (l : List Text). AreFreeNames l) (sym e) (f.0.4, spaced_free ss back f.1 a)

names_free : (x : List ℕ) → IsNamesText x → AreFreeNames (words x)
names_free x p =
    let tail = flat_map (λ s. s) p.2 ++ p.3 in
    let e : words x ≡ p.1 ∷ words tail = ap words p.4 ∙ words_white p.0 (p.1 ++ tail) p.5 ∙ words_name p.1 tail p.6.0 (spaced_first p.2 p.3 p.7 p.8) in
    subst (λ (l : List Text). AreFreeNames l) (sym e) (p.6, spaced_free p.2 p.3 p.7 p.8)

-- all of it is ASCII, and no `|` stands among the names
abbrev pub in_parameters : ℕ → Bool
in_parameters b = is_white b || in_name b

white_in : (b : ℕ) → is_white b ≡ true → in_parameters b ≡ true
white_in b e = rw e refl

name_in : (b : ℕ) → in_name b ≡ true → in_parameters b ≡ true
name_in b e = or_right (is_white b) (in_name b) e
  where
    or_right : (x y : Bool) → y ≡ true → (x || y) ≡ true
    or_right true y e = refl
    or_right false y e = e

spaced_in : (ss : List (List ℕ)) → AllForm IsSpacedName ss → list_all in_parameters (flat_map (λ s. s) ss) ≡ true
spaced_in [] f = refl
spaced_in (s ∷ ss) f =
    all_join in_parameters s (flat_map (λ s. s) ss)
    (ap (λ l. list_all in_parameters l) f.0.2 ∙ all_join in_parameters f.0.0 f.0.1 (all_as is_white in_parameters white_in f.0.0 (word_all is_white f.0.0 f.0.3)) (all_as in_name in_parameters name_in f.0.1 (all_in f.0.1 f.0.4.0)))
    (spaced_in ss f.1)

names_in : (x : List ℕ) → IsNamesText x → list_all in_parameters x ≡ true
names_in x p =
    ap (λ l. list_all in_parameters l) p.4
    ∙ all_join in_parameters p.0 (p.1 ++ (flat_map (λ s. s) p.2 ++ p.3)) (all_as is_white in_parameters white_in p.0 p.5)
    (all_join in_parameters p.1 (flat_map (λ s. s) p.2 ++ p.3) (all_as in_name in_parameters name_in p.1 (all_in p.1 p.6.0))
    (all_join in_parameters (flat_map (λ s. s) p.2) p.3 (spaced_in p.2 p.7) (all_as is_white in_parameters white_in p.3 p.8)))

in_no_bar : (b : ℕ) → in_parameters b ≡ true → no_bar b ≡ true
in_no_bar b e = grind (arith, nat_tests)

in_low : (b : ℕ) → in_parameters b ≡ true → b < 128
in_low b e = grind (arith, nat_tests)

pub parameters_form : (w : List ℕ) → ((sp x : List ℕ) × (w ≡ codes "as" ++ (sp ++ (124 ∷ (x ++ 124 ∷ [])))) × (is_word is_white is_white sp ≡ true) × IsNamesText x) → IsProper k.Parameters (chars w)
parameters_form w p =
    let white = word_all is_white p.0 p.3 in
    let inside = names_in p.1 p.4 in
    let low : is_ascii_text w ≡ true =
    ap is_ascii_text p.2 ∙ ascii_append p.0 (124 ∷ (p.1 ++ 124 ∷ [])) (all_low is_white white_low p.0 white) (ascii_append p.1 (124 ∷ []) (all_low in_parameters in_low p.1 inside) refl) in
    let e : parameters_of (chars w) ≡ words p.1 =
    ap parameters_of (chars_of_ascii w low ∙ p.2)
    ∙ ap (λ l. words (up_to 124 l)) (beyond_all p.0 (p.1 ++ 124 ∷ []) (all_as is_white no_bar white_no_bar p.0 white))
    ∙ ap words (up_to_all p.1 [] (all_as in_parameters no_bar in_no_bar p.1 inside)) in
    subst (λ (l : List Text). AreFreeNames l) (sym e) (names_free p.1 p.4)

pub text_form : (w : List ℕ) → IsUtf8 w → IsTextual (chars w)
text_form w u = scalars-chars w u
