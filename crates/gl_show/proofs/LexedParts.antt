-- The spelling of what stands in a tag is read as tokens that spell it.
use Rattle.std.proofs.Common.{◌≡◌, ◌<◌, inl, inr, ℕ, List, [], ◌∷◌, ◌++◌, Bool, true, false, Some, refl, sym, ap, subst, ◌∙◌, append_assoc, arith}
use Rattle.std.specs.Prelude.{codes, map}
use Rattle.std.specs.List.{list_all}
use Rattle.std.specs.Str.{chars}
use Rattle.std.proofs.lemmas.Bool.Decides.{nat_tests}
use Rattle.gl_base.specs.Texts.{Text, bytes_of, is_ascii_text}
use Rattle.gl_base.proofs.Chars.{chars_of_ascii}
use Rattle.gl_ast.specs.Canon.{exprs_text, named_text, mustache_text, cat_text, value_text, given_text, part_text, parts_text, argument_text, arguments_text, parameters_text}
use Rattle.gl_ast.specs.Grammar.{Mark, Stands, IsGiven, IsPart, Item, part_item, argument_item, after_comments, AreItems, parts_among, arguments_among, AreParameters}
use Rattle.gl_ast.specs.Marks.{is_white, starts_attribute, in_attribute}
use Rattle.gl_ast.specs.Modes.{token, expression_token}
use Rattle.gl_ast.specs.Settling.{is_comment}
use Rattle.gl_ast.specs.Template.{literal, this, argument, bare, call, cat, AttrValue, fixed, live, Part, attribute, modifier, spread}
use Rattle.gl_ast.specs.TokenText.{parameters_of}
use Rattle.gl_ast.specs.declared.mode.Around.TheVariants as a
use Rattle.gl_ast.specs.declared.mode.Mode.{Mode}
use Rattle.gl_ast.specs.declared.mode.Mode.TheVariants as m
use Rattle.gl_ast.specs.declared.token.Token.{Token}
use Rattle.gl_ast.specs.declared.token.TokenKind.{TokenKind}
use Rattle.gl_ast.specs.declared.token.TokenKind.TheVariants as k
use Rattle.gl_ast.proofs.Forward.{both}
use Rattle.gl_show.specs.Spellable.{is_word, is_name, AreFreeNames, CanPart, CanParts, CanArguments}
use Rattle.gl_show.proofs.ExprTokens.{ReadsExprs, Breaks, in_mustache}
use Rattle.gl_show.proofs.Lexed.{Lexed, Then, lexed_as, lexed_bytes, lexed_token, lexed_plain, lexed_blank, marked}
use Rattle.gl_show.proofs.LexedExpr.{ascii_utf8, low2, lexed_join, lexed_low, lexed_last, stands_as, expr_token, expr_blank, blank_breaks, breaks_last, Opens, opens_name}
use Rattle.gl_show.proofs.LexedTag.{tag_opens, lexed_opening, lexed_close, lexed_call, breaks_close}
use Rattle.gl_show.proofs.LexedValue.{lexed_given}
use Rattle.gl_show.proofs.Parameters.{spaced_names, parameters_token_text, parameters_are, parameters_ascii, parameters_spelled}
use Rattle.gl_show.proofs.Scanning.{name_ascii, word_low}
use Rattle.gl_show.proofs.TagTokens.{attribute_token, argument_name_token, spread_token, tag_end_token, value_tag_end, self_end_token, tag_parameters_token, parameters_token}

-- what stands after a part: it is read so after a value and after another token
abbrev pub InTag : List ℕ → (List Token → Type 0) → Type 0
InTag rest P = Lexed m.Tag true rest P × Lexed m.ValueEnd true rest P

-- a value begins with `=`
given_first : (x : AttrValue) (l : List ℕ) → (more : List ℕ) × (bytes_of (given_text x) ++ l ≡ 61 ∷ more)
given_first (fixed s) l = (34 ∷ (bytes_of (value_text s ++ codes "\"") ++ l), low2 (codes "=\"") (value_text s ++ codes "\"") l refl)
given_first (live (cat es)) l = (34 ∷ (bytes_of (cat_text es ++ codes "\"") ++ l), low2 (codes "=\"") (cat_text es ++ codes "\"") l refl)
given_first (live (literal x)) l = (bytes_of (mustache_text (literal x)) ++ l, low2 (61 ∷ []) (mustache_text (literal x)) l refl)
given_first (live (this n ns)) l = (bytes_of (mustache_text (this n ns)) ++ l, low2 (61 ∷ []) (mustache_text (this n ns)) l refl)
given_first (live (argument n ns)) l = (bytes_of (mustache_text (argument n ns)) ++ l, low2 (61 ∷ []) (mustache_text (argument n ns)) l refl)
given_first (live (bare n ns)) l = (bytes_of (mustache_text (bare n ns)) ++ l, low2 (61 ∷ []) (mustache_text (bare n ns)) l refl)
given_first (live (call n es ns)) l = (bytes_of (mustache_text (call n es ns)) ++ l, low2 (61 ∷ []) (mustache_text (call n es ns)) l refl)

attribute_low : (b : ℕ) → starts_attribute b ≡ true → b < 128
attribute_low b e = grind (arith, nat_tests)

in_attribute_low : (b : ℕ) → in_attribute b ≡ true → b < 128
in_attribute_low b e = grind (arith, nat_tests)

attribute_tight : (b : ℕ) → starts_attribute b ≡ true → is_white b ≡ false
attribute_tight b e = grind (arith, nat_tests)

lexed_attribute : {P : List Token → Type 0} (n rest : List ℕ) → is_word starts_attribute in_attribute n ≡ true → ((more : List ℕ) × (rest ≡ 61 ∷ more)) → Lexed m.Tag true rest P → Lexed m.Tag true (n ++ rest) (Then (Stands k.Attribute (λ x. x ≡ n)) P)
lexed_attribute [] rest w f l = cc
lexed_attribute {P} (c ∷ cs) rest w f l =
    let white = attribute_tight c (both (starts_attribute c) (list_all in_attribute cs) w).0 in
    let low = word_low starts_attribute in_attribute attribute_low in_attribute_low (c ∷ cs) w in
    let is : token m.Tag (c ∷ (cs ++ rest)) ≡ Some (k.Attribute, rest, m.Tag) = rw f.1 (attribute_token (c ∷ cs) f.0 w) in
    lexed_as m.Tag true (c ∷ (cs ++ rest)) (λ ts h. stands_as k.Attribute (λ x. x ≡ chars (c ∷ cs)) (λ x. x ≡ c ∷ cs) ts (λ x e. e ∙ chars_of_ascii (c ∷ cs) low) h)
    (lexed_plain m.Tag m.Tag true k.Attribute c cs rest refl refl refl white is (ascii_utf8 (c ∷ cs) low) l)

lexed_argument_name : {P : List Token → Type 0} (n rest : List ℕ) → is_name n ≡ true → ((more : List ℕ) × (rest ≡ 61 ∷ more)) → Lexed m.Tag true rest P → Lexed m.Tag true (64 ∷ (n ++ rest)) (Then (Stands k.Argument (λ x. x ≡ 64 ∷ n)) P)
lexed_argument_name {P} n rest w f l =
    let low : is_ascii_text (64 ∷ n) ≡ true = name_ascii n w in
    let is : token m.Tag (64 ∷ (n ++ rest)) ≡ Some (k.Argument, rest, m.Tag) = rw f.1 (argument_name_token n f.0 w) in
    lexed_as m.Tag true (64 ∷ (n ++ rest)) (λ ts h. stands_as k.Argument (λ x. x ≡ chars (64 ∷ n)) (λ x. x ≡ 64 ∷ n) ts (λ x e. e ∙ chars_of_ascii (64 ∷ n) low) h)
    (lexed_plain m.Tag m.Tag true k.Argument 64 n rest refl refl refl refl is (ascii_utf8 (64 ∷ n) low) l)

lexed_part : {P : List Token → Type 0} (p : Part) (rest : List ℕ) → CanPart p → InTag rest P → Lexed m.Tag true (bytes_of (part_text p) ++ rest) (Then (λ ts us. IsPart ts p us) P)
lexed_part {P} (attribute n x) rest can l =
    lexed_as m.Tag true (bytes_of (n ++ given_text x) ++ rest) (λ ts g. (g.2.0, (g.0, g.1, g.2.1), g.2.2))
    (lexed_low m.Tag true n (given_text x) rest (word_low starts_attribute in_attribute attribute_low in_attribute_low n can.0)
    (lexed_attribute n (bytes_of (given_text x) ++ rest) can.0 (given_first x rest) (lexed_given x rest can.1 l.1)))
lexed_part {P} (modifier n es ns) rest can l =
    let ends = lexed_last (m.Mustache a.Tag) true (125 ∷ 125 ∷ []) rest refl (lexed_close a.Tag true rest l.0) in
    let be : Breaks (bytes_of (125 ∷ 125 ∷ []) ++ rest) = breaks_last (125 ∷ 125 ∷ []) rest refl (breaks_close (125 ∷ rest)) in
    let whole : n ++ (exprs_text es ++ (named_text ns ++ 125 ∷ 125 ∷ [])) ≡ (n ++ (exprs_text es ++ named_text ns)) ++ 125 ∷ 125 ∷ [] =
    ap (λ x. n ++ x) (sym (append_assoc (exprs_text es) (named_text ns) (125 ∷ 125 ∷ []))) ∙ sym (append_assoc n (exprs_text es ++ named_text ns) (125 ∷ 125 ∷ [])) in
    let inner = lexed_join (m.Mustache a.Tag) true (n ++ (exprs_text es ++ named_text ns)) (125 ∷ 125 ∷ []) rest (lexed_call (m.Mustache a.Tag) (in_mustache a.Tag) true n es ns (bytes_of (125 ∷ 125 ∷ []) ++ rest) can be ends) in
    let o : Opens (bytes_of ((n ++ (exprs_text es ++ named_text ns)) ++ 125 ∷ 125 ∷ []) ++ rest) = subst (λ (x : Text). Opens (bytes_of x ++ rest)) whole (opens_name n (exprs_text es ++ (named_text ns ++ 125 ∷ 125 ∷ [])) rest can.0.0) in
    lexed_as m.Tag true (bytes_of (part_text (modifier n es ns)) ++ rest) (λ ts h. (h.2.2.0, (h.0, h.2.0, h.1, h.2.1, h.2.2.1), h.2.2.2))
    (lexed_bytes m.Tag true (bytes_of (part_text (modifier n es ns)) ++ rest) (bytes_of (codes "{{" ++ ((n ++ (exprs_text es ++ named_text ns)) ++ 125 ∷ 125 ∷ [])) ++ rest) (ap (λ x. bytes_of (codes "{{" ++ x) ++ rest) whole)
    (lexed_low m.Tag true (123 ∷ 123 ∷ []) ((n ++ (exprs_text es ++ named_text ns)) ++ 125 ∷ 125 ∷ []) rest refl
    (lexed_opening m.Tag a.Tag true (bytes_of ((n ++ (exprs_text es ++ named_text ns)) ++ 125 ∷ 125 ∷ []) ++ rest) tag_opens o inner)))
lexed_part {P} spread rest can l =
    lexed_last m.Tag true (codes "...attributes") rest refl
    (lexed_as m.Tag true (codes "...attributes" ++ rest) (λ ts h. marked k.Spread (λ x. x ≡ chars (codes "...attributes")) ts h)
    (lexed_plain m.Tag m.Tag true k.Spread 46 (codes "..attributes") rest refl refl refl refl (spread_token rest) (ascii_utf8 (codes "...attributes") refl) l.0))

-- a token that is no comment
loud : (kind : TokenKind) → is_comment kind ≡ false → (t : Token) (ts us : List Token) → ts ≡ t ∷ us → t.kind ≡ kind → after_comments ts ≡ ts
loud kind n t ts us e h = rw e (rw (h, n) refl)

loud_part : (p : Part) (ts us : List Token) → IsPart ts p us → after_comments ts ≡ ts
loud_part (attribute n x) ts us g = loud k.Attribute refl g.1.0 ts g.0 g.1.1 g.1.2
loud_part (modifier n es ns) ts us g = loud k.OpenMustache refl g.2.0 ts g.0 g.2.1 g.2.2
loud_part spread ts us g = loud k.Spread refl g.0 ts us g.1 g.2

-- after a blank
pub tag_blank : {P : List Token → Type 0} (xs : Text) (rest : List ℕ) → Lexed m.Tag true (bytes_of xs ++ rest) P → InTag (bytes_of (32 ∷ xs) ++ rest) P
tag_blank xs rest l = (
  lexed_low m.Tag true (32 ∷ []) xs rest refl (lexed_blank m.Tag true (bytes_of xs ++ rest) refl l),
  lexed_low m.ValueEnd true (32 ∷ []) xs rest refl (lexed_blank m.ValueEnd true (bytes_of xs ++ rest) refl l),
)

pub tag_as : {P Q : List Token → Type 0} (rest : List ℕ) → ((ts : List Token) → P ts → Q ts) → InTag rest P → InTag rest Q
tag_as rest f l = (lexed_as m.Tag true rest f l.0, lexed_as m.ValueEnd true rest f l.1)

pub lexed_parts : {P : List Token → Type 0} (ps : List Part) (rest : List ℕ) → CanParts ps → ((us : List Token) → P us → after_comments us ≡ us) → InTag rest P → InTag (bytes_of (parts_text ps) ++ rest) (Then (λ ts us. AreItems ts (map part_item ps) us) P)
lexed_parts [] rest can quiet l = tag_as rest (λ ts p. (ts, quiet ts p, p)) l
lexed_parts {P} (p ∷ ps) rest can quiet l =
    tag_blank (part_text p ++ parts_text ps) rest
    (lexed_join m.Tag true (part_text p) (parts_text ps) rest
    (lexed_as m.Tag true (bytes_of (part_text p) ++ (bytes_of (parts_text ps) ++ rest))
    (λ ts g. (g.2.0, (g.0, subst (λ (xs : List Token). IsPart xs p g.0) (sym (loud_part p ts g.0 g.1)) g.1, g.2.1), g.2.2))
    (lexed_part p (bytes_of (parts_text ps) ++ rest) can.0 (lexed_parts ps rest can.1 quiet l))))

-- arguments as items, before others
abbrev pub argument_items : List (Text × AttrValue) → List Item → List Item
argument_items [] is = is
argument_items (x ∷ given) is = argument_item x.0 x.1 ∷ argument_items given is

pub lexed_arguments : {P : List Token → Type 0} (given : List (Text × AttrValue)) (is : List Item) (rest : List ℕ) → CanArguments given → InTag rest (Then (λ ts us. AreItems ts is us) P)
    → InTag (bytes_of (arguments_text given) ++ rest) (Then (λ ts us. AreItems ts (argument_items given is) us) P)
lexed_arguments [] is rest can l = l
lexed_arguments {P} (x ∷ given) is rest can l =
    let more = lexed_arguments given is rest can.2 l in
    let value = lexed_given x.1 (bytes_of (arguments_text given) ++ rest) can.1 more.1 in
    let name : Lexed m.Tag true (bytes_of (argument_text x) ++ (bytes_of (arguments_text given) ++ rest)) (Then (Stands k.Argument (λ y. y ≡ 64 ∷ x.0)) (Then (λ ts us. IsGiven ts x.1 us) (Then (λ ts us. AreItems ts (argument_items given is) us) P))) =
    lexed_low m.Tag true (64 ∷ x.0) (given_text x.1) (bytes_of (arguments_text given) ++ rest) (name_ascii x.0 can.0)
    (lexed_argument_name x.0 (bytes_of (given_text x.1) ++ (bytes_of (arguments_text given) ++ rest)) can.0 (given_first x.1 (bytes_of (arguments_text given) ++ rest)) value) in
    tag_blank (argument_text x ++ arguments_text given) rest
    (lexed_join m.Tag true (argument_text x) (arguments_text given) rest
    (lexed_as m.Tag true (bytes_of (argument_text x) ++ (bytes_of (arguments_text given) ++ rest))
    (λ ts g. (g.2.2.0, (g.2.0, (g.0, subst (λ (xs : List Token). Stands k.Argument (λ y. y ≡ 64 ∷ x.0) xs g.0) (sym (loud k.Argument refl g.1.0 ts g.0 g.1.1 g.1.2)) g.1, g.2.1), g.2.2.1), g.2.2.2)) name))

pub items_parts : (given : List (Text × AttrValue)) (ps : List Part) → parts_among (argument_items given (map part_item ps)) ≡ ps
items_parts [] [] = refl
items_parts [] (p ∷ ps) = ap (λ l. p ∷ l) (items_parts [] ps)
items_parts (x ∷ given) ps = items_parts given ps

pub items_arguments : (given : List (Text × AttrValue)) (ps : List Part) → arguments_among (argument_items given (map part_item ps)) ≡ given
items_arguments [] [] = refl
items_arguments [] (p ∷ ps) = items_arguments [] ps
items_arguments (x ∷ given) ps = ap (λ l. x ∷ l) (items_arguments given ps)

-- parameters in a tag
pub tag_parameters : {P : List Token → Type 0} (ns : List Text) (rest : List ℕ) → AreFreeNames ns → InTag rest P → InTag (bytes_of (parameters_text ns) ++ rest) (Then (λ ts us. AreParameters ts ns us) P)
tag_parameters [] rest w l = tag_as rest (λ ts p. (ts, inl (refl, refl), p)) l
tag_parameters {P} (n ∷ ns) rest w l =
    let low = parameters_ascii n ns w in
    let is : token m.Tag (parameters_token_text n ns ++ rest) ≡ Some (k.Parameters, rest, m.Tag) =
    ap (λ x. token m.Tag (codes "as |" ++ x)) (append_assoc (n ++ spaced_names ns) (124 ∷ []) rest ∙ append_assoc n (spaced_names ns) (124 ∷ rest)) ∙ tag_parameters_token n ns rest w in
    subst (λ (x : Text). InTag (bytes_of x ++ rest) (Then (λ ts us. AreParameters ts (n ∷ ns) us) P)) (sym (parameters_spelled n ns))
    (tag_blank (parameters_token_text n ns) rest
    (lexed_last m.Tag true (parameters_token_text n ns) rest low
    (lexed_as m.Tag true (parameters_token_text n ns ++ rest)
    (λ ts h. (h.0, inr (h.1.0, h.1.1, h.1.2, ap parameters_of (h.1.3 ∙ chars_of_ascii (parameters_token_text n ns) low) ∙ parameters_are n ns w), h.2))
    (lexed_plain m.Tag m.Tag true k.Parameters 97 (codes "s |" ++ ((n ++ spaced_names ns) ++ 124 ∷ [])) rest refl refl refl refl is (ascii_utf8 (parameters_token_text n ns) low) l.0))))

-- and in a mustache
pub lexed_parameters : {P : List Token → Type 0} (mode : Mode) (reads : ReadsExprs mode) (tag : Bool) (ns : List Text) (rest : List ℕ) → AreFreeNames ns → Lexed mode tag rest P → Lexed mode tag (bytes_of (parameters_text ns) ++ rest) (Then (λ ts us. AreParameters ts ns us) P)
lexed_parameters mode reads tag [] rest w l = lexed_as mode tag rest (λ ts p. (ts, inl (refl, refl), p)) l
lexed_parameters {P} mode reads tag (n ∷ ns) rest w l =
    let low = parameters_ascii n ns w in
    let is = ap (λ x. expression_token mode (codes "as |" ++ x)) (append_assoc (n ++ spaced_names ns) (124 ∷ []) rest ∙ append_assoc n (spaced_names ns) (124 ∷ rest)) ∙ parameters_token mode n ns rest w in
    subst (λ (x : Text). Lexed mode tag (bytes_of x ++ rest) (Then (λ ts us. AreParameters ts (n ∷ ns) us) P)) (sym (parameters_spelled n ns))
    (lexed_low mode tag (32 ∷ []) (parameters_token_text n ns) rest refl
    (expr_blank mode reads tag (bytes_of (parameters_token_text n ns) ++ rest)
    (lexed_last mode tag (parameters_token_text n ns) rest low
    (lexed_as mode tag (parameters_token_text n ns ++ rest)
    (λ ts h. (h.0, inr (h.1.0, h.1.1, h.1.2, ap parameters_of (h.1.3 ∙ chars_of_ascii (parameters_token_text n ns) low) ∙ parameters_are n ns w), h.2))
    (expr_token mode reads tag k.Parameters 97 (codes "s |" ++ ((n ++ spaced_names ns) ++ 124 ∷ [])) rest refl refl refl refl is (ascii_utf8 (parameters_token_text n ns) low) l)))))

pub breaks_parameters : (ns : List Text) (rest : List ℕ) → Breaks rest → Breaks (bytes_of (parameters_text ns) ++ rest)
breaks_parameters [] rest b = b
breaks_parameters (n ∷ ns) rest b =
    subst (λ (x : Text). Breaks (bytes_of x ++ rest)) (sym (parameters_spelled n ns))
    (subst (λ (x : List ℕ). Breaks x) (sym (low2 (codes " as |") ((n ++ spaced_names ns) ++ 124 ∷ []) rest refl)) (blank_breaks (codes "as |" ++ (bytes_of ((n ++ spaced_names ns) ++ 124 ∷ []) ++ rest)) refl))

-- the ends of a tag
pub lexed_tag_end : {P : List Token → Type 0} (rest : List ℕ) → Lexed m.Content false rest P → InTag (62 ∷ rest) (Then (Mark k.TagEnd) P)
lexed_tag_end {P} rest l = (
  lexed_as m.Tag true (62 ∷ rest) (λ ts h. marked k.TagEnd (λ x. x ≡ chars (62 ∷ [])) ts h) (lexed_token m.Tag m.Content true false k.TagEnd 62 [] rest refl (tag_end_token rest) (ascii_utf8 (62 ∷ []) refl) tt refl l),
  lexed_as m.ValueEnd true (62 ∷ rest) (λ ts h. marked k.TagEnd (λ x. x ≡ chars (62 ∷ [])) ts h) (lexed_token m.ValueEnd m.Content true false k.TagEnd 62 [] rest refl (value_tag_end rest) (ascii_utf8 (62 ∷ []) refl) tt refl l),
)

pub lexed_self_end : {P : List Token → Type 0} (rest : List ℕ) → Lexed m.Content false rest P → InTag (bytes_of (codes " />") ++ rest) (Then (Mark k.SelfEnd) P)
lexed_self_end {P} rest l =
    tag_blank (codes "/>") rest
    (lexed_last m.Tag true (codes "/>") rest refl
    (lexed_as m.Tag true (47 ∷ 62 ∷ rest) (λ ts h. marked k.SelfEnd (λ x. x ≡ chars (codes "/>")) ts h)
    (lexed_token m.Tag m.Content true false k.SelfEnd 47 (62 ∷ []) rest refl (self_end_token rest) (ascii_utf8 (codes "/>") refl) tt refl l)))
