-- Bytes that are told to be begun are made a token by some more.
use Rattle.std.proofs.Common.{◌≡◌, ℕ, List, [], ◌∷◌, ◌++◌, Bool, true, false, not, ◌&&◌, ◌||◌, inl, inr, Option, Some, None, length, refl, sym, ap, ◌∙◌, subst, append_assoc, arith, eqb}
use Rattle.std.specs.Prelude.{if◌then◌else◌, codes, is_some, ◌==◌}
use Rattle.gl_base.specs.Answers.{◌>>=◌}
use Rattle.gl_ast.specs.Modes.{Found, found, token, after_around}
use Rattle.gl_ast.specs.Scans.{after, begins, from_first, after_closing}
use Rattle.gl_ast.specs.Tokens.{forms, expression_forms, IsOneOf, IsLongest}
use Rattle.gl_ast.specs.Words.{after_html_comment, after_opening, after_mustache, after_argument, after_path, after_head, after_number, after_natural, after_string, fits, after_tag_opening, after_label, after_element_name, after_class, after_slot_name, after_block_name}
use Rattle.gl_ast.specs.declared.mode.Around.{Around}
use Rattle.gl_ast.specs.declared.mode.Around.TheVariants as a
use Rattle.gl_ast.specs.declared.mode.Mode.{Mode}
use Rattle.gl_ast.specs.declared.mode.Mode.TheVariants as m
use Rattle.gl_ast.specs.declared.token.TokenKind.TheVariants as k
use Rattle.gl_ast.proofs.Longest.{none_stands}
use Rattle.gl_ast.proofs.Readings.{token_is, token_longest}
use Rattle.gl_lex.specs.Begins.{BeginsToken}
use Rattle.gl_lex.specs.Begun.{is_begun, content_begun, tag_begun, expression_begun, end_tag_begun}
use Rattle.gl_lex.specs.Stops.{NoneStands}
use Rattle.gl_lex.proofs.Continued.{nothing_is, front_rest, after_more, some_of, found_none}
use Rattle.gl_lex.proofs.EndTags.{end_tag_goes}

-- one of the tokens that may stand there takes all of these bytes
abbrev Takes : Mode → List ℕ → Type 0
Takes mode bs = (f : Found) × IsOneOf f (forms mode bs) × (f.1 ≡ [])

abbrev Makes : Mode → List ℕ → Type 0
Makes mode bs = (more : List ℕ) × Takes mode (bs ++ more)

-- it is the longest
takes_longest : (mode : Mode) (bs : List ℕ) (f : Found) → IsOneOf f (forms mode bs) → f.1 ≡ [] → IsLongest f (forms mode bs)
takes_longest mode bs f is e = by_token (token mode bs) refl where
  by_token : (o : Option Found) → token mode bs ≡ o → IsLongest f (forms mode bs)
  by_token None g = absurd (none_stands (forms mode bs) f (sym (token_is mode bs) ∙ g) is)
  by_token (Some h) g =
      let longest = token_longest mode bs h g in
      elim (longest.1 f is) [
        | inl same ↦ subst (λ x. IsLongest x (forms mode bs)) (sym same) longest
        | inr less ↦ let none : length f.1 ≡ 0 = ap length e in absurd (omega (arith, less, none))
      ]

-- a front of a word, and bytes after that word
from_word : (mode : Mode) (cs extra bs : List ℕ) → Takes mode (cs ++ extra) → begins bs cs ≡ true → Makes mode bs
from_word mode cs extra bs takes h =
    let r = front_rest bs cs h in
    let whole : cs ++ extra ≡ bs ++ (r.0 ++ extra) = ap (λ l. l ++ extra) r.1 ∙ append_assoc bs r.0 extra in
    (r.0 ++ extra, subst (Takes mode) whole takes)

-- Tokens that are written out.

comment_takes : Takes m.Content (codes "<!--" ++ codes "-->")
unfolding after_html_comment
comment_takes = ((k.HtmlComment, [], m.Content), inr (inl refl), refl)

slot_takes : Takes m.Content (codes "<:" ++ codes "a")
unfolding after_tag_opening after_label after_element_name after_class after_slot_name after_block_name
slot_takes = ((k.TagOpening, [], m.Tag), inr (inr (inr (inl refl))), refl)

spread_takes : Takes m.Tag (codes "...attributes" ++ [])
spread_takes = ((k.Spread, [], m.Tag), inr (inr (inr (inl refl))), refl)

argument_takes : Takes m.Tag (codes "@" ++ codes "a")
unfolding after_argument
argument_takes = ((k.Argument, [], m.Tag), inr (inr (inl refl)), refl)

self_takes : Takes m.Tag (codes "/" ++ codes ">")
self_takes = ((k.SelfEnd, [], m.Content), inr (inr (inr (inr (inr (inr (inl refl)))))), refl)

brace_takes : Takes m.Tag (codes "{" ++ codes "{")
unfolding after_opening
brace_takes = ((k.OpenMustache, [], m.Mustache a.Tag), inr (inr (inr (inr (inr (inr (inr (inr (inr (inl refl))))))))), refl)

value_brace_takes : Takes m.Equals (codes "{" ++ codes "{")
unfolding after_opening
value_brace_takes = ((k.OpenMustache, [], m.Mustache a.ValueEnd), inr (inr (inr (inl refl))), refl)

end_takes : Takes m.ValueEnd (codes "/" ++ codes ">")
end_takes = ((k.SelfEnd, [], m.Content), inr (inl refl), refl)

tilde_closes : after_mustache (codes "~}}" ++ []) ≡ Some []
unfolding after_mustache
tilde_closes = refl

brace_closes : after_mustache (codes "}" ++ codes "}") ≡ Some []
unfolding after_mustache
brace_closes = refl

path_whole : after_path (codes "@" ++ codes "a") ≡ Some []
unfolding after_path after_head after_argument
path_whole = refl

number_whole : after_number (codes "-" ++ codes "1") ≡ Some []
unfolding after_number after_natural fits
number_whole = refl

-- Strings.

closing_goes : (q : ℕ) → eqb q q ≡ true → eqb q 92 ≡ false → (escaped : Bool) (bs : List ℕ) → after_closing q escaped bs ≡ None → (more : List ℕ) × (after_closing q escaped (bs ++ more) ≡ Some [])
closing_goes q same differs false [] e = (q ∷ [], rw same refl)
closing_goes q same differs true [] e = (q ∷ q ∷ [], rw (same, differs) refl)
closing_goes q same differs escaped (b ∷ bs) e = by_test (b == q && not escaped) refl e (closing_goes q same differs (b == 92) bs) where
  by_test : (t : Bool) → (b == q && not escaped) ≡ t → (if t then Some bs else after_closing q (b == 92) bs) ≡ None → (after_closing q (b == 92) bs ≡ None → (more : List ℕ) × (after_closing q (b == 92) (bs ++ more) ≡ Some []))
      → (more : List ℕ) × (after_closing q escaped ((b ∷ bs) ++ more) ≡ Some [])
  by_test true f g next = nothing_is bs (sym g)
  by_test false f g next = let r = next g in (r.0, rw f r.1)

string_goes : (q : ℕ) → eqb q q ≡ true → eqb q 92 ≡ false → (bs : List ℕ) → begins (q ∷ []) bs ≡ true → after_string q bs ≡ None → (more : List ℕ) × (after_string q (bs ++ more) ≡ Some [])
unfolding after_string
string_goes q same differs bs h none =
    let s = some_of (after (q ∷ []) bs) h in
    let unclosed : after_closing q false s.0 ≡ None = sym (ap (λ o. o >>= after_closing q false) s.1) ∙ none in
    let r = closing_goes q same differs false s.0 unclosed in
    (r.0, ap (λ o. o >>= after_closing q false) (after_more (q ∷ []) bs r.0 s.0 s.1) ∙ r.1)

-- Comments.

sign_later : (b : ℕ) (bs : List ℕ) → begins (codes "-->") (b ∷ bs) ≡ false → begins (codes "-->") ((b ∷ bs) ++ codes "-->") ≡ false
sign_later b [] e = by_test (eqb 45 b) refl where
  by_test : (t : Bool) → eqb 45 b ≡ t → begins (codes "-->") ((b ∷ []) ++ codes "-->") ≡ false
  by_test true f = rw f refl
  by_test false f = rw f refl
sign_later b (c ∷ []) e = by_test (eqb 45 b) (eqb 45 c) refl refl where
  by_test : (t u : Bool) → eqb 45 b ≡ t → eqb 45 c ≡ u → begins (codes "-->") ((b ∷ c ∷ []) ++ codes "-->") ≡ false
  by_test true true f g = rw (f, g) refl
  by_test true false f g = rw (f, g) refl
  by_test false u f g = rw f refl
sign_later b (c ∷ x ∷ bs) e = by_test (eqb 45 b) (eqb 45 c) (eqb 62 x) refl refl refl e where
  by_test : (t u v : Bool) → eqb 45 b ≡ t → eqb 45 c ≡ u → eqb 62 x ≡ v → is_some (if t then (if u then (if v then Some bs else None) else None) else None) ≡ false → begins (codes "-->") ((b ∷ c ∷ x ∷ bs) ++ codes "-->") ≡ false
  by_test true true true f g h i = let r : ⊥ = cc in absurd r
  by_test true true false f g h i = rw (f, g, h) refl
  by_test true false v f g h i = rw (f, g) refl
  by_test false u v f g h i = rw f refl

-- the first end of a comment is the one that is put behind it
sign_first : (bs : List ℕ) → from_first (begins (codes "-->")) bs ≡ None → from_first (begins (codes "-->")) (bs ++ codes "-->") ≡ Some (codes "-->")
sign_first [] e = refl
sign_first (b ∷ bs) e = by_test (begins (codes "-->") (b ∷ bs)) refl e (sign_first bs) where
  by_test : (t : Bool) → begins (codes "-->") (b ∷ bs) ≡ t → (if t then Some (b ∷ bs) else from_first (begins (codes "-->")) bs) ≡ None
      → (from_first (begins (codes "-->")) bs ≡ None → from_first (begins (codes "-->")) (bs ++ codes "-->") ≡ Some (codes "-->")) → from_first (begins (codes "-->")) ((b ∷ bs) ++ codes "-->") ≡ Some (codes "-->")
  by_test true f g next = nothing_is (b ∷ bs) (sym g)
  by_test false f g next = rw (sign_later b bs f) (next g)

-- where an end is found, it is one
found_sign : (p : List ℕ → Bool) (bs xs : List ℕ) → from_first p bs ≡ Some xs → p xs ≡ true
found_sign p [] xs e = nothing_is xs e
found_sign p (b ∷ bs) xs e = by_test (p (b ∷ bs)) refl e (found_sign p bs xs) where
  by_test : (t : Bool) → p (b ∷ bs) ≡ t → (if t then Some (b ∷ bs) else from_first p bs) ≡ Some xs → (from_first p bs ≡ Some xs → p xs ≡ true) → p xs ≡ true
  by_test true f g next = let same : b ∷ bs ≡ xs = cc in ap p (sym same) ∙ f
  by_test false f g next = next g

comment_goes : (bs : List ℕ) → begins (codes "<!--") bs ≡ true → after_html_comment bs ≡ None → after_html_comment (bs ++ codes "-->") ≡ Some []
unfolding after_html_comment
comment_goes bs h none =
    let s = some_of (after (codes "<!--") bs) h in
    let unclosed : (from_first (begins (codes "-->")) s.0 >>= after (codes "-->")) ≡ None = sym (ap (λ o. o >>= from_first (begins (codes "-->")) >>= after (codes "-->")) s.1) ∙ none in
    ap (λ o. o >>= from_first (begins (codes "-->")) >>= after (codes "-->")) (after_more (codes "<!--") bs (codes "-->") s.0 s.1)
    ∙ ap (λ o. o >>= after (codes "-->")) (sign_first s.0 (by_end (from_first (begins (codes "-->")) s.0) refl unclosed)) where
      by_end : (o : Option (List ℕ)) → from_first (begins (codes "-->")) (some_of (after (codes "<!--") bs) h).0 ≡ o → (o >>= after (codes "-->")) ≡ None → o ≡ None
      by_end None f g = refl
      by_end (Some xs) f g =
          let y = some_of (after (codes "-->") xs) (found_sign (begins (codes "-->")) (some_of (after (codes "<!--") bs) h).0 xs f) in
          nothing_is y.0 (sym g ∙ y.1)

-- Modes.

content_makes : (bs : List ℕ) → NoneStands (forms m.Content bs) → content_begun bs ≡ true → Makes m.Content bs
unfolding content_begun
content_makes bs n e = by_case (begins bs (codes "<!--")) (begins (codes "<!--") bs) (end_tag_begun bs) (begins bs (codes "<:")) refl refl refl refl e where
  by_case : (x y z w : Bool) → begins bs (codes "<!--") ≡ x → begins (codes "<!--") bs ≡ y → end_tag_begun bs ≡ z → begins bs (codes "<:") ≡ w → (x || y || z || w) ≡ true → Makes m.Content bs
  by_case true y z w f g h i j = from_word m.Content (codes "<!--") (codes "-->") bs comment_takes f
  by_case false true z w f g h i j =
      (codes "-->", ((k.HtmlComment, [], m.Content), inr (inl (ap (found k.HtmlComment m.Content) (comment_goes bs g (found_none k.HtmlComment m.Content (after_html_comment bs) n.1.0)))), refl))
  by_case false false true w f g h i j =
      let r = end_tag_goes bs h in
      (r.0, ((k.EndTag, [], m.Content), inr (inr (inl (ap (found k.EndTag m.Content) r.1))), refl))
  by_case false false false true f g h i j = from_word m.Content (codes "<:") (codes "a") bs slot_takes i
  by_case false false false false f g h i j = let r : ⊥ = cc in absurd r

tag_makes : (bs : List ℕ) → tag_begun bs ≡ true → Makes m.Tag bs
unfolding tag_begun
tag_makes bs e = by_case (begins bs (codes "...attributes")) (begins bs (codes "@")) (begins bs (codes "/")) (begins bs (codes "{")) refl refl refl refl e where
  by_case : (x y z w : Bool) → begins bs (codes "...attributes") ≡ x → begins bs (codes "@") ≡ y → begins bs (codes "/") ≡ z → begins bs (codes "{") ≡ w → (x || y || z || w) ≡ true → Makes m.Tag bs
  by_case true y z w f g h i j = from_word m.Tag (codes "...attributes") [] bs spread_takes f
  by_case false true z w f g h i j = from_word m.Tag (codes "@") (codes "a") bs argument_takes g
  by_case false false true w f g h i j = from_word m.Tag (codes "/") (codes ">") bs self_takes h
  by_case false false false true f g h i j = from_word m.Tag (codes "{") (codes "{") bs brace_takes i
  by_case false false false false f g h i j = let r : ⊥ = cc in absurd r

-- one of the tokens that every expression has, or of others, takes all
abbrev MakesOne : Mode → List ℕ → (List ℕ → List (Option Found)) → Type 0
MakesOne mode bs others = (more : List ℕ) × ((f : Found) × IsOneOf f (expression_forms mode (bs ++ more) (others (bs ++ more))) × (f.1 ≡ []))

expression_makes : (mode : Mode) (bs : List ℕ) (others : List ℕ → List (Option Found)) → NoneStands (expression_forms mode bs (others bs)) → expression_begun bs ≡ true → MakesOne mode bs others
unfolding expression_begun
expression_makes mode bs others n e = by_case (begins bs (codes "@")) (begins bs (codes "-")) (begins (codes "\"") bs) (begins (codes "'") bs) refl refl refl refl e where
  words : (cs extra : List ℕ) → begins bs cs ≡ true → ((f : Found) × IsOneOf f (expression_forms mode (cs ++ extra) (others (cs ++ extra))) × (f.1 ≡ [])) → MakesOne mode bs others
  words cs extra h takes =
      let r = front_rest bs cs h in
      let whole : cs ++ extra ≡ bs ++ (r.0 ++ extra) = ap (λ l. l ++ extra) r.1 ∙ append_assoc bs r.0 extra in
      (r.0 ++ extra, subst (λ l. (f : Found) × IsOneOf f (expression_forms mode l (others l)) × (f.1 ≡ [])) whole takes)

  by_case : (x y z w : Bool) → begins bs (codes "@") ≡ x → begins bs (codes "-") ≡ y → begins (codes "\"") bs ≡ z → begins (codes "'") bs ≡ w → (x || y || z || w) ≡ true → MakesOne mode bs others
  by_case true y z w f g h i j = words (codes "@") (codes "a") f ((k.Path, [], mode), inr (inl (ap (found k.Path mode) path_whole)), refl)
  by_case false true z w f g h i j = words (codes "-") (codes "1") g ((k.Number, [], mode), inr (inr (inl (ap (found k.Number mode) number_whole))), refl)
  by_case false false true w f g h i j =
      let r = string_goes 34 refl refl bs h (found_none k.StringLit mode (after_string 34 bs) n.1.1.1.0) in
      (r.0, ((k.StringLit, [], mode), inr (inr (inr (inl (ap (found k.StringLit mode) r.1)))), refl))
  by_case false false false true f g h i j =
      let r = string_goes 39 refl refl bs i (found_none k.StringLit mode (after_string 39 bs) n.1.1.1.1.0) in
      (r.0, ((k.StringLit, [], mode), inr (inr (inr (inr (inl (ap (found k.StringLit mode) r.1))))), refl))
  by_case false false false false f g h i j = let r : ⊥ = cc in absurd r

mustache_makes : (around : Around) (bs : List ℕ) → NoneStands (forms (m.Mustache around) bs) → (expression_begun bs || begins bs (codes "~}}") || begins bs (codes "}")) ≡ true → Makes (m.Mustache around) bs
mustache_makes around bs n e = by_case (expression_begun bs) (begins bs (codes "~}}")) (begins bs (codes "}")) refl refl refl e where
  closes : (cs : List ℕ) → after_mustache cs ≡ Some [] → Takes (m.Mustache around) cs
  closes cs f = ((k.CloseMustache, [], after_around around), inr (inr (inr (inr (inr (inr (inr (inr (inl (ap (found k.CloseMustache (after_around around)) f))))))))), refl)

  by_case : (x y z : Bool) → expression_begun bs ≡ x → begins bs (codes "~}}") ≡ y → begins bs (codes "}") ≡ z → (x || y || z) ≡ true → Makes (m.Mustache around) bs
  by_case true y z f g h i = expression_makes (m.Mustache around) bs (λ l. found k.CloseMustache (after_around around) (after_mustache l) ∷ []) n f
  by_case false true z f g h i = from_word (m.Mustache around) (codes "~}}") [] bs (closes (codes "~}}" ++ []) tilde_closes) g
  by_case false false true f g h i = from_word (m.Mustache around) (codes "}") (codes "}") bs (closes (codes "}" ++ codes "}") brace_closes) h
  by_case false false false f g h i = let r : ⊥ = cc in absurd r

makes : (mode : Mode) (bs : List ℕ) → NoneStands (forms mode bs) → is_begun mode bs ≡ true → Makes mode bs
unfolding is_begun
makes m.Content bs n e = content_makes bs n e
makes m.Tag bs n e = tag_makes bs e
makes m.Equals bs n e = from_word m.Equals (codes "{") (codes "{") bs value_brace_takes e
makes m.ValueEnd bs n e = from_word m.ValueEnd (codes "/") (codes ">") bs end_takes e
makes (m.Value q) bs n e = let r : ⊥ = cc in absurd r
makes (m.Mustache around) bs n e = mustache_makes around bs n e
makes m.Expression bs n e = expression_makes m.Expression bs (λ l. []) n e

pub is_begun_begins : (mode : Mode) (bs : List ℕ) → NoneStands (forms mode bs) → is_begun mode bs ≡ true → BeginsToken mode bs
is_begun_begins mode bs n e =
    let r = makes mode bs n e in
    (r.0, (r.1.0, takes_longest mode (bs ++ r.0) r.1.0 r.1.1 r.1.2, r.1.2))
