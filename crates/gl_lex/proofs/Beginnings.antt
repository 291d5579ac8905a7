-- Bytes at which no token stands are told to be begun just where some more bytes make them a token.
use Rattle.std.proofs.Common.{◌≡◌, ◌<◌, ℕ, List, [], ◌∷◌, ◌++◌, Bool, true, false, ◌||◌, inl, inr, Option, Some, None, length, refl, sym, ap, ◌∙◌, subst, append-nil, arith}
use Rattle.std.specs.Prelude.{codes}
use Rattle.gl_base.specs.Answers.{◌>>=◌}
use Rattle.gl_ast.specs.Marks.{starts_name, starts_attribute, in_attribute, in_unquoted}
use Rattle.gl_ast.specs.Modes.{Found, found, quote_byte, after_around}
use Rattle.gl_ast.specs.Scans.{after, begins, after_run, from_first}
use Rattle.gl_ast.specs.Tokens.{forms, expression_forms, IsOneOf}
use Rattle.gl_ast.specs.Words.{after_html_comment, after_end_tag, after_tag_opening, after_long_comment, after_short_comment, after_opening, after_mustache, after_attribute, after_argument, after_unquoted, after_parameters, after_path, after_number, after_string, ends_text, ends_quoted}
use Rattle.gl_ast.specs.declared.mode.Quote.{Quote}
use Rattle.gl_ast.specs.declared.mode.Quote.TheVariants.{Double, Single}
use Rattle.gl_ast.specs.declared.mode.Around.{Around}
use Rattle.gl_ast.specs.declared.mode.Around.TheVariants as a
use Rattle.gl_ast.specs.declared.mode.Mode.{Mode}
use Rattle.gl_ast.specs.declared.mode.Mode.TheVariants as m
use Rattle.gl_ast.specs.declared.token.TokenKind.TheVariants as k
use Rattle.gl_ast.proofs.Forward.{bind_some}
use Rattle.gl_lex.specs.Begins.{BeginsToken}
use Rattle.gl_lex.specs.Begun.{is_begun, content_begun, tag_begun, expression_begun, end_tag_begun}
use Rattle.gl_lex.specs.Stops.{NoneStands}
use Rattle.gl_lex.proofs.Continued.{nothing_is, or_right, first_of_three, second_of_three, first_of_four, second_of_four, third_of_four, front_split, begins_front, front_rest, begins_more, one_sign, two_signs, word_stands, letter_stands, run_stands, argument_begun, path_begun, path_stands, parameters_first, number_begun, string_begun, long_braces, short_braces, opening_braces, brace_begun, Lead, one_leads, form, found_none, either_some, both_none}
use Rattle.gl_lex.proofs.EndTags.{end_tag_is_begun, name_stands}

-- What more bytes make a token is told.

-- at the first byte of a mustache a text stands
brace_text : (p : List ℕ → Bool) (b : ℕ) (bs : List ℕ) → p (codes "{") ≡ false → begins (b ∷ bs) (codes "{") ≡ true → after_run p (b ∷ bs) ≡ None → ⊥
brace_text p b bs e h none =
    let r = front_rest (b ∷ bs) (codes "{") h in
    let nil : bs ≡ [] = by_rest bs r.1 in
    let first : b ≡ 123 = let s = r.1 in cc in
    let same : b ∷ bs ≡ codes "{" = ap (λ x. x ∷ bs) first ∙ ap (λ l. 123 ∷ l) nil in
    let stands : (y : List ℕ) × (after_run p (codes "{") ≡ Some y) = rw e (_, refl) in
    nothing_is stands.0 (sym none ∙ ap (after_run p) same ∙ stands.1) where
      by_rest : (xs : List ℕ) → codes "{" ≡ (b ∷ xs) ++ (front_rest (b ∷ bs) (codes "{") h).0 → xs ≡ []
      by_rest [] g = refl
      by_rest (x ∷ xs) g = let r : ⊥ = cc in absurd r

text_more : (bs more : List ℕ) → ends_text bs ≡ true → ends_text (bs ++ more) ≡ true
text_more bs more e = by_sign (begins (codes "<") bs) (begins (codes "{{") bs) (begins (codes "\\{{") bs) refl refl refl e where
  by_sign : (x y z : Bool) → begins (codes "<") bs ≡ x → begins (codes "{{") bs ≡ y → begins (codes "\\{{") bs ≡ z → (x || y || z) ≡ true → ends_text (bs ++ more) ≡ true
  by_sign true y z f g h i = first_of_three (begins (codes "<") (bs ++ more)) (begins (codes "{{") (bs ++ more)) (begins (codes "\\{{") (bs ++ more)) (begins_more (codes "<") bs more f)
  by_sign false true z f g h i = second_of_three (begins (codes "<") (bs ++ more)) (begins (codes "{{") (bs ++ more)) (begins (codes "\\{{") (bs ++ more)) (begins_more (codes "{{") bs more g)
  by_sign false false true f g h i = or_right (begins (codes "<") (bs ++ more) || begins (codes "{{") (bs ++ more)) (begins (codes "\\{{") (bs ++ more)) (begins_more (codes "\\{{") bs more h)
  by_sign false false false f g h i = let r : ⊥ = cc in absurd r

quoted_more : (q : ℕ) (bs more : List ℕ) → ends_quoted q bs ≡ true → ends_quoted q (bs ++ more) ≡ true
quoted_more q bs more e = by_sign (begins (q ∷ []) bs) (begins (codes "{{") bs) (begins (codes "\\{{") bs) refl refl refl e where
  by_sign : (x y z : Bool) → begins (q ∷ []) bs ≡ x → begins (codes "{{") bs ≡ y → begins (codes "\\{{") bs ≡ z → (x || y || z) ≡ true → ends_quoted q (bs ++ more) ≡ true
  by_sign true y z f g h i = first_of_three (begins (q ∷ []) (bs ++ more)) (begins (codes "{{") (bs ++ more)) (begins (codes "\\{{") (bs ++ more)) (begins_more (q ∷ []) bs more f)
  by_sign false true z f g h i = second_of_three (begins (q ∷ []) (bs ++ more)) (begins (codes "{{") (bs ++ more)) (begins (codes "\\{{") (bs ++ more)) (begins_more (codes "{{") bs more g)
  by_sign false false true f g h i = or_right (begins (q ∷ []) (bs ++ more) || begins (codes "{{") (bs ++ more)) (begins (codes "\\{{") (bs ++ more)) (begins_more (codes "\\{{") bs more h)
  by_sign false false false f g h i = let r : ⊥ = cc in absurd r

-- the mode's mark of one byte stands
sign_none : {A : Type 0} (c b : ℕ) (bs more : List ℕ) → after (c ∷ []) ((b ∷ bs) ++ more) ≡ Some [] → after (c ∷ []) (b ∷ bs) ≡ None → A
sign_none c b bs more e none = absurd (one_sign c b bs (begins_front (c ∷ []) (b ∷ bs) more [] e none) none)

never_leads : (G : Type 0) (os : List (Option Found)) → Lead ⊥ os → Lead G os
never_leads G [] h = tt
never_leads G (o ∷ os) h = (λ f e n. absurd (h.0 f e n), never_leads G os h.1)

module _ (b : ℕ) (bs more : List ℕ) where
  abbrev here : List ℕ
  here = b ∷ bs

  abbrev all : List ℕ
  all = here ++ more

  -- in a tag
  tag_leads : NoneStands (forms m.Tag here) → Lead (tag_begun here ≡ true) (forms m.Tag all)
  unfolding tag_begun
  tag_leads n =
      let attribute = found_none k.Attribute m.Tag (after_attribute here) n.1.0 in
      let argument = found_none k.Argument m.Tag (after_argument here) n.1.1.0 in
      let spread = found_none k.Spread m.Tag (after (codes "...attributes") here) n.1.1.1.0 in
      let equals = found_none k.Equals m.Equals (after (codes "=") here) n.1.1.1.1.0 in
      let end = found_none k.TagEnd m.Content (after (codes ">") here) n.1.1.1.1.1.0 in
      let self = found_none k.SelfEnd m.Content (after (codes "/>") here) n.1.1.1.1.1.1.0 in
      let opening = found_none k.OpenMustache (m.Mustache a.Tag) (after_opening here) n.1.1.1.1.1.1.1.1.1.0 in
      let first = begins here (codes "...attributes") in
      let second = begins here (codes "@") in
      let third = begins here (codes "/") in
      let fourth = begins here (codes "{") in
      let brace : (y : List ℕ) × (after (codes "{{") all ≡ Some y) → (first || second || third || fourth) ≡ true = (λ y. or_right (first || second || third) fourth (brace_begun b bs more y.0 y.1 opening)) in (
        form k.Parameters m.Tag (after_parameters all) (λ e. absurd (letter_stands starts_attribute in_attribute b bs (ap starts_attribute (sym (parameters_first b (bs ++ more) [] e))) attribute)),
        (
          form k.Attribute m.Tag (after_attribute all) (λ e. absurd (word_stands starts_attribute in_attribute b bs (bs ++ more) [] e attribute)),
          (
            form k.Argument m.Tag (after_argument all) (λ e. second_of_four first second third fourth (argument_begun b bs more [] e argument)),
            (
              form k.Spread m.Tag (after (codes "...attributes") all) (λ e. first_of_four first second third fourth (begins_front (codes "...attributes") here more [] e spread)),
              (
                form k.Equals m.Equals (after (codes "=") all) (λ e. sign_none 61 b bs more e equals),
                (
                  form k.TagEnd m.Content (after (codes ">") all) (λ e. sign_none 62 b bs more e end),
                  (
                    form k.SelfEnd m.Content (after (codes "/>") all) (λ e. third_of_four first second third fourth (two_signs 47 62 b bs (begins_front (codes "/>") here more [] e self) self)),
                    (
                      form k.MustacheComment m.Tag (after_long_comment all) (λ e. brace (long_braces all [] e)),
                      (
                        form k.MustacheComment m.Tag (after_short_comment all) (λ e. brace (short_braces all [] e)),
                        (form k.OpenMustache (m.Mustache a.Tag) (after_opening all) (λ e. brace (opening_braces all [] e)), tt),
                      ),
                    ),
                  ),
                ),
              ),
            ),
          ),
        ),
      )

  -- after `=`
  equals_leads : NoneStands (forms m.Equals here) → Lead (begins here (codes "{") ≡ true) (forms m.Equals all)
  equals_leads n =
      let unquoted = found_none k.Unquoted m.ValueEnd (after_unquoted here) n.0 in
      let double = found_none k.OpenQuote (m.Value Double) (after (34 ∷ []) here) n.1.0 in
      let single = found_none k.OpenQuote (m.Value Single) (after (39 ∷ []) here) n.1.1.0 in
      let opening = found_none k.OpenMustache (m.Mustache a.ValueEnd) (after_opening here) n.1.1.1.0 in (
        form k.Unquoted m.ValueEnd (after_unquoted all) (λ e. absurd (word_stands in_unquoted in_unquoted b bs (bs ++ more) [] e unquoted)),
        (
          form k.OpenQuote (m.Value Double) (after (34 ∷ []) all) (λ e. sign_none 34 b bs more e double),
          (
            form k.OpenQuote (m.Value Single) (after (39 ∷ []) all) (λ e. sign_none 39 b bs more e single),
            (form k.OpenMustache (m.Mustache a.ValueEnd) (after_opening all) (λ e. let y = opening_braces all [] e in brace_begun b bs more y.0 y.1 opening), tt),
          ),
        ),
      )

  -- directly after a value
  end_leads : NoneStands (forms m.ValueEnd here) → Lead (begins here (codes "/") ≡ true) (forms m.ValueEnd all)
  end_leads n =
      let end = found_none k.TagEnd m.Content (after (codes ">") here) n.0 in
      let self = found_none k.SelfEnd m.Content (after (codes "/>") here) n.1.0 in (
        form k.TagEnd m.Content (after (codes ">") all) (λ e. sign_none 62 b bs more e end),
        (form k.SelfEnd m.Content (after (codes "/>") all) (λ e. two_signs 47 62 b bs (begins_front (codes "/>") here more [] e self) self), tt),
      )

  -- in a quoted value each byte begins a token
  value_leads : (q : Quote) → ends_quoted (quote_byte q) (codes "{") ≡ false → NoneStands (forms (m.Value q) here) → Lead ⊥ (forms (m.Value q) all)
  value_leads q no_end n =
      let close = found_none k.CloseQuote m.ValueEnd (after (quote_byte q ∷ []) here) n.0 in
      let text = found_none k.Text (m.Value q) (after_run (ends_quoted (quote_byte q)) here) n.1.0 in
      let opening = found_none k.OpenMustache (m.Mustache (a.Value q)) (after_opening here) n.1.1.0 in (
        form k.CloseQuote m.ValueEnd (after (quote_byte q ∷ []) all) (λ e. sign_none (quote_byte q) b bs more e close),
        (
          form k.Text (m.Value q) (after_run (ends_quoted (quote_byte q)) all) (λ e. run_stands (ends_quoted (quote_byte q)) (quoted_more (quote_byte q)) b bs more [] e text),
          (form k.OpenMustache (m.Mustache (a.Value q)) (after_opening all) (λ e. let y = opening_braces all [] e in brace_text (ends_quoted (quote_byte q)) b bs no_end (brace_begun b bs more y.0 y.1 opening) text), tt),
        ),
      )

  -- in the content
  content_leads : NoneStands (forms m.Content here) → (x : ℕ) (xs : List ℕ) → more ≡ x ∷ xs → Lead (content_begun here ≡ true) (forms m.Content all)
  unfolding content_begun after_html_comment after_tag_opening
  content_leads n x xs some =
      let text = found_none k.Text m.Content (after_run ends_text here) n.0 in
      let tag = found_none k.TagOpening m.Tag (after_tag_opening here) n.1.1.1.0 in
      let opening = found_none k.OpenMustache (m.Mustache a.Content) (after_opening here) n.1.1.1.1.1.1.1.1.0 in
      let first = begins here (codes "<!--") in
      let second = begins (codes "<!--") here in
      let third = end_tag_begun here in
      let fourth = begins here (codes "<:") in
      let brace : (y : List ℕ) × (after (codes "{{") all ≡ Some y) → ⊥ = (λ y. brace_text ends_text b bs refl (brace_begun b bs more y.0 y.1 opening) text) in (
        form k.Text m.Content (after_run ends_text all) (λ e. absurd (run_stands ends_text text_more b bs more [] e text)),
        (
          form k.HtmlComment m.Content (after_html_comment all) (λ e. comment_leads e),
          (
            form k.EndTag m.Content (after_end_tag all) (λ e. third_of_four first second third fourth (end_tag_is_begun here x xs (ap (λ l. after_end_tag (here ++ l)) (sym some) ∙ e))),
            (
              form k.TagOpening m.Tag (after_tag_opening all) (λ e. elim (name_stands b bs more [] e tag) [ inl h ↦ first_of_four first second third fourth h | inr h ↦ or_right (first || second || third) fourth h ]),
              (
                form k.MustacheComment m.Content (after_long_comment all) (λ e. absurd (brace (long_braces all [] e))),
                (
                  form k.MustacheComment m.Content (after_short_comment all) (λ e. absurd (brace (short_braces all [] e))),
                  (
                    form k.OpenBlock (m.Mustache a.Content) (after_opening all >>= after (codes "#")) (λ e. let s = bind_some (after_opening all) (after (codes "#")) [] e in absurd (brace (opening_braces all s.0 s.1))),
                    (
                      form k.OpenClosing (m.Mustache a.Content) (after_opening all >>= after (codes "/")) (λ e. let s = bind_some (after_opening all) (after (codes "/")) [] e in absurd (brace (opening_braces all s.0 s.1))),
                      (form k.OpenMustache (m.Mustache a.Content) (after_opening all) (λ e. absurd (brace (opening_braces all [] e))), tt),
                    ),
                  ),
                ),
              ),
            ),
          ),
        ),
      ) where
        comment_leads : after_html_comment all ≡ Some [] → content_begun here ≡ true
        comment_leads e = by_front (after (codes "<!--") all) refl e where
          by_front : (o : Option (List ℕ)) → after (codes "<!--") all ≡ o → (o >>= from_first (begins (codes "-->")) >>= after (codes "-->")) ≡ Some [] → content_begun here ≡ true
          by_front None f g = nothing_is [] g
          by_front (Some z) f g = elim (front_split (codes "<!--") here more z f) [
            | inl h ↦ first_of_four (begins here (codes "<!--")) (begins (codes "<!--") here) (end_tag_begun here) (begins here (codes "<:")) h
            | inr h ↦ second_of_four (begins here (codes "<!--")) (begins (codes "<!--") here) (end_tag_begun here) (begins here (codes "<:")) (rw (h.1) refl)
          ]

  -- in an expression
  expression_leads : (G : Type 0) (mode : Mode) (less others : List (Option Found)) → (expression_begun here ≡ true → G) → NoneStands (expression_forms mode here less) → Lead G others → Lead G (expression_forms mode all others)
  unfolding expression_begun
  expression_leads G mode less others begun n rest =
      let path = found_none k.Path mode (after_path here) n.1.0 in
      let number = found_none k.Number mode (after_number here) n.1.1.0 in
      let opening = found_none k.OpenParen mode (after (codes "(") here) n.1.1.1.1.1.0 in
      let closing = found_none k.CloseParen mode (after (codes ")") here) n.1.1.1.1.1.1.0 in
      let equals = found_none k.Equals mode (after (codes "=") here) n.1.1.1.1.1.1.1.0 in
      let first = begins here (codes "@") in
      let second = begins here (codes "-") in
      let third = begins (codes "\"") here in
      let fourth = begins (codes "'") here in (
        form k.Parameters mode (after_parameters all) (λ e. absurd (path_stands b bs (ap starts_name (sym (parameters_first b (bs ++ more) [] e))) path)),
        (
          form k.Path mode (after_path all) (λ e. begun (first_of_four first second third fourth (path_begun b bs more [] e path))),
          (
            form k.Number mode (after_number all) (λ e. begun (second_of_four first second third fourth (number_begun b bs more e number))),
            (
              form k.StringLit mode (after_string 34 all) (λ e. begun (third_of_four first second third fourth (string_begun 34 b (bs ++ more) [] e bs))),
              (
                form k.StringLit mode (after_string 39 all) (λ e. begun (or_right (first || second || third) fourth (string_begun 39 b (bs ++ more) [] e bs))),
                (
                  form k.OpenParen mode (after (codes "(") all) (λ e. sign_none 40 b bs more e opening),
                  (
                    form k.CloseParen mode (after (codes ")") all) (λ e. sign_none 41 b bs more e closing),
                    (form k.Equals mode (after (codes "=") all) (λ e. sign_none 61 b bs more e equals), rest),
                  ),
                ),
              ),
            ),
          ),
        ),
      )

  mustache_leads : (around : Around) → NoneStands (forms (m.Mustache around) here) → Lead (is_begun (m.Mustache around) here ≡ true) (forms (m.Mustache around) all)
  unfolding is_begun after_mustache
  mustache_leads around n =
      let close = both_none (after (codes "}}") here) (after (codes "~}}") here) (found_none k.CloseMustache (after_around around) (after_mustache here) n.1.1.1.1.1.1.1.1.0) in
      let first = expression_begun here in
      let second = begins here (codes "~}}") in
      let third = begins here (codes "}") in
      expression_leads (is_begun (m.Mustache around) here ≡ true) (m.Mustache around) (found k.CloseMustache (after_around around) (after_mustache here) ∷ []) (found k.CloseMustache (after_around around) (after_mustache all) ∷ []) (λ e. first_of_three first second third e) n (
        form k.CloseMustache (after_around around) (after_mustache all) (λ e. elim (either_some (after (codes "}}") all) (after (codes "~}}") all) [] e) [
          | inl h ↦ or_right (first || second) third (two_signs 125 125 b bs (begins_front (codes "}}") here more [] h close.0) close.0)
          | inr h ↦ second_of_three first second third (begins_front (codes "~}}") here more [] h close.1)
        ]),
        tt,
      )

  leads : (mode : Mode) → NoneStands (forms mode here) → (x : ℕ) (xs : List ℕ) → more ≡ x ∷ xs → Lead (is_begun mode here ≡ true) (forms mode all)
  unfolding is_begun
  leads m.Content n x xs some = content_leads n x xs some
  leads m.Tag n x xs some = tag_leads n
  leads m.Equals n x xs some = equals_leads n
  leads m.ValueEnd n x xs some = end_leads n
  leads (m.Value Double) n x xs some = never_leads (is_begun (m.Value Double) here ≡ true) (forms (m.Value Double) all) (value_leads Double refl n)
  leads (m.Value Single) n x xs some = never_leads (is_begun (m.Value Single) here ≡ true) (forms (m.Value Single) all) (value_leads Single refl n)
  leads (m.Mustache around) n x xs some = mustache_leads around n
  leads m.Expression n x xs some = expression_leads (expression_begun here ≡ true) m.Expression [] [] (λ e. e) n tt

none_one : (os : List (Option Found)) (f : Found) → NoneStands os → IsOneOf f os → ⊥
none_one [] f n is = is
none_one (o ∷ os) f n (inl e) = nothing_is f (sym n.0 ∙ e)
none_one (o ∷ os) f n (inr is) = none_one os f n.1 is

pub begins_is_begun : (mode : Mode) (bs : List ℕ) → 0 < length bs → NoneStands (forms mode bs) → BeginsToken mode bs → is_begun mode bs ≡ true
begins_is_begun mode [] l n h = absurd (omega (arith, l))
begins_is_begun mode (b ∷ bs) l n ([], (f, longest, e)) = absurd (none_one (forms mode (b ∷ bs)) f n (subst (λ w. IsOneOf f (forms mode w)) (append-nil (b ∷ bs)) longest.0))
begins_is_begun mode (b ∷ bs) l n (x ∷ xs, (f, longest, e)) = one_leads (is_begun mode (b ∷ bs) ≡ true) (forms mode ((b ∷ bs) ++ x ∷ xs)) (leads b bs (x ∷ xs) mode n x xs refl) f longest.0 e
