-- The reading forward gives just the list that is the reading of the text.
use Rattle.std.proofs.Common.{◌≡◌, ◌≤◌, ◌<◌, ◌+◌, ℕ, zero, suc, List, [], ◌∷◌, Bool, true, false, Option, Some, None, length, length-append, refl, sym, ap, subst, ◌∙◌, arith}
use Rattle.gl_base.specs.Answers.{◌>>=◌}
use Rattle.gl_base.specs.Names.{or_else}
use Rattle.gl_ast.specs.Modes.{Found, found, first_found, spaced, content_opening, content_token, tag_mark, tag_token, equals_token, value_end_token, value_token, expression_mark, expression_token, mustache_token, token}
use Rattle.gl_ast.specs.Words.{after_comment, after_long_comment, after_short_comment}
use Rattle.gl_ast.specs.TokenReading.{width, token_at, read_from, stands_white}
use Rattle.gl_ast.specs.Tokens.{forms, IsLongest, Reads, ends, passes, reads}
use Rattle.gl_ast.specs.declared.mode.Around.{Around}
use Rattle.gl_ast.specs.declared.mode.Mode.{Mode}
use Rattle.gl_ast.specs.declared.mode.Mode.TheVariants as m
use Rattle.gl_ast.specs.declared.token.Token.{Token}
use Rattle.gl_ast.specs.declared.token.TokenKind.{TokenKind}
use Rattle.gl_ast.proofs.Forward.{bind_some}
use Rattle.gl_ast.proofs.Progress.{token_steps}
use Rattle.gl_ast.proofs.Reading.{read_white, read_token, read_none}
use Rattle.gl_ast.proofs.Longest.{first_longest, longest_first}
use Rattle.gl_ast.proofs.Orders.{forms_ordered}

or_none : (o : Option Found) → or_else o None ≡ o
or_none None = refl
or_none (Some x) = refl

or_assoc : (o p q : Option Found) → or_else (or_else o p) q ≡ or_else o (or_else p q)
or_assoc None p q = refl
or_assoc (Some x) p q = refl

found_or : (kind : TokenKind) (next : Mode) (o p : Option (List ℕ)) → found kind next (or_else o p) ≡ or_else (found kind next o) (found kind next p)
found_or kind next None p = refl
found_or kind next (Some x) p = refl

comment_or : (kind : TokenKind) (next : Mode) (bs : List ℕ) (others : Option Found) → or_else (found kind next (after_comment bs)) others ≡ or_else (found kind next (after_long_comment bs)) (or_else (found kind next (after_short_comment bs)) others)
unfolding after_comment
comment_or kind next bs others =
    ap (λ o. or_else o others) (found_or kind next (after_long_comment bs) (after_short_comment bs))
    ∙ or_assoc (found kind next (after_long_comment bs)) (found kind next (after_short_comment bs)) others

content_forms_are : (bs : List ℕ) → content_token bs ≡ first_found (forms m.Content bs)
unfolding content_token content_opening
content_forms_are bs = simp (comment_or, or_assoc, or_none)

tag_forms_are : (bs : List ℕ) → tag_token bs ≡ first_found (forms m.Tag bs)
unfolding tag_token tag_mark value_end_token
tag_forms_are bs = simp (comment_or, or_assoc, or_none)

lone_forms_are : (bs : List ℕ) → expression_token m.Expression bs ≡ first_found (forms m.Expression bs)
unfolding expression_token expression_mark
lone_forms_are bs = simp (or_assoc, or_none)

mustache_forms_are : (around : Around) (bs : List ℕ) → mustache_token around bs ≡ first_found (forms (m.Mustache around) bs)
unfolding mustache_token expression_token expression_mark
mustache_forms_are around bs = simp (or_assoc, or_none)

pub token_is : (mode : Mode) (bs : List ℕ) → token mode bs ≡ first_found (forms mode bs)
unfolding token equals_token value_end_token value_token
token_is m.Content bs = content_forms_are bs
token_is m.Tag bs = tag_forms_are bs
token_is m.Equals bs = refl
token_is m.ValueEnd bs = refl
token_is (m.Value q) bs = refl
token_is (m.Mustache around) bs = mustache_forms_are around bs
token_is m.Expression bs = lone_forms_are bs

-- the token that is read is the longest, and the longest is read
pub token_longest : (mode : Mode) (bs : List ℕ) (f : Found) → token mode bs ≡ Some f → IsLongest f (forms mode bs)
token_longest mode bs f e = first_longest (forms mode bs) f (forms_ordered mode bs) (sym (token_is mode bs) ∙ e)

pub longest_token : (mode : Mode) (bs : List ℕ) (f : Found) → IsLongest f (forms mode bs) → token mode bs ≡ Some f
longest_token mode bs f l = token_is mode bs ∙ longest_first (forms mode bs) f (forms_ordered mode bs) l

-- a list that is the reading is what is read forward
pub reading_read : (mode : Mode) (at : ℕ) (bs : List ℕ) (list : List Token) → Reads mode at bs list → read_from mode 0 at bs ≡ Some list
reading_read _ _ _ _ (ends {mode} {at}) = refl
reading_read _ _ _ _ (passes {mode} {at} {b} {bs} {list} white more) = read_white mode at (b ∷ bs) white ∙ reading_read (spaced mode) (at + 1) bs list more
reading_read _ _ _ _ (reads {mode} {at} {bs} {list} f tight l more) =
    let is = longest_token mode bs f l in
    read_token mode at bs f tight is (token_steps mode bs f is)
    ∙ ap (λ o. o >>= λ ts. Some (token_at at bs f ∷ ts)) (reading_read f.2 (at + width bs f) f.1 list more)

read_case : (n : ℕ) (mode : Mode) (at : ℕ) (bs : List ℕ) (list : List Token) (o : Option Found) → length bs ≤ suc n → 0 < length bs → stands_white mode bs ≡ false → token mode bs ≡ o → read_from mode 0 at bs ≡ Some list
    → ((next : Mode) (place : ℕ) (rest : List ℕ) (ts : List Token) → length rest ≤ n → read_from next 0 place rest ≡ Some ts → Reads next place rest ts)
    → Reads mode at bs list
read_case n mode at bs list None h some tight is read more = let k = sym (read_none mode at bs some tight is) ∙ read in cc
read_case n mode at bs list (Some f) h some tight is read more =
    let s = token_steps mode bs f is in
    let b = bind_some (read_from f.2 0 (at + width bs f) f.1) (λ ts. Some (token_at at bs f ∷ ts)) list (sym (read_token mode at bs f tight is s) ∙ read) in
    let short : length f.1 ≤ n = omega (arith, h, ap length s.2, length-append s.1 f.1) in
    let same : token_at at bs f ∷ b.0 ≡ list = cc (b.2) in
    subst (λ (l : List Token). Reads mode at bs l) same (reads f tight (token_longest mode bs f is) (more f.2 (at + width bs f) f.1 b.0 short b.1))

read_either : (n : ℕ) (mode : Mode) (at b : ℕ) (bs : List ℕ) (list : List Token) (t : Bool) → stands_white mode (b ∷ bs) ≡ t → length (b ∷ bs) ≤ suc n → read_from mode 0 at (b ∷ bs) ≡ Some list
    → ((next : Mode) (place : ℕ) (rest : List ℕ) (ts : List Token) → length rest ≤ n → read_from next 0 place rest ≡ Some ts → Reads next place rest ts)
    → Reads mode at (b ∷ bs) list
read_either n mode at b bs list true is h read more =
    let short : length bs ≤ n = omega (arith, h) in
    passes is (more (spaced mode) (at + 1) bs list short (sym (read_white mode at (b ∷ bs) is) ∙ read))
read_either n mode at b bs list false is h read more = let some : 0 < length (b ∷ bs) = omega arith in read_case n mode at (b ∷ bs) list (token mode (b ∷ bs)) h some is refl read more

read_within : (n : ℕ) (mode : Mode) (at : ℕ) (bs : List ℕ) (list : List Token) → length bs ≤ n → read_from mode 0 at bs ≡ Some list → Reads mode at bs list
read_within n mode at [] list h read = let same : [] ≡ list = cc in subst (λ (l : List Token). Reads mode at [] l) same ends
read_within zero mode at (b ∷ bs) list h read = absurd (omega (arith, h))
read_within (suc n) mode at (b ∷ bs) list h read = read_either n mode at b bs list (stands_white mode (b ∷ bs)) refl h read (λ next place rest ts. read_within n next place rest ts)

-- and what is read forward is the reading
pub read_reading : (mode : Mode) (at : ℕ) (bs : List ℕ) (list : List Token) → read_from mode 0 at bs ≡ Some list → Reads mode at bs list
read_reading mode at bs list read = let h : length bs ≤ length bs = omega arith in read_within (length bs) mode at bs list h read

-- so a text has at most one reading
pub one_reading : (mode : Mode) (at : ℕ) (bs : List ℕ) (list other : List Token) → Reads mode at bs list → Reads mode at bs other → list ≡ other
one_reading mode at bs list other r s = let e = sym (reading_read mode at bs list r) ∙ reading_read mode at bs other s in cc
