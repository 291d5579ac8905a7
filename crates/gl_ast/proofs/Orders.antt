-- The tokens that may stand at a place, in the order in which they are looked for, are in the order of their lengths.
use Rattle.std.proofs.Common.{◌≡◌, ◌<◌, ℕ, List, [], ◌∷◌, Bool, true, false, ◌||◌, ◌⊎◌, inl, inr, cond, eqb, if◌then◌else◌, Option, Some, None, unwrap_or, refl, ap, ◌∙◌, arith, lit<}
use Rattle.std.specs.Prelude.{codes}
use Rattle.std.proofs.lemmas.Bool.Decides.{nat_tests}
use Rattle.gl_base.specs.Answers.{◌>>=◌}
use Rattle.gl_base.specs.Names.{or_else}
use Rattle.gl_ast.specs.Marks.{is_capital, is_small, is_digit, starts_name, in_name, in_class, in_tag, starts_attribute, in_attribute, in_unquoted}
use Rattle.gl_ast.specs.Scans.{after, begins, after_all, after_word, from_first, up_to_first, after_run, after_closing}
use Rattle.gl_ast.specs.Words.{after_white, after_name, after_element_name, after_block_name, after_slot_name, after_label, after_tag, after_class, after_class_part, after_parts, after_end_tag, after_tag_opening, after_html_comment, after_long_comment, after_short_comment, after_opening, after_tilde, after_mustache, after_attribute, after_argument, after_unquoted, after_parameters, after_digits, after_head, after_segments, after_path, after_natural, if_number, after_number, after_string, ends_text, ends_quoted}
use Rattle.gl_ast.specs.Modes.{Found, found, quote_byte, after_around}
use Rattle.gl_ast.specs.Tokens.{content_forms, tag_forms, equals_forms, value_end_forms, value_forms, expression_forms, forms}
use Rattle.gl_ast.specs.declared.mode.Quote.{Quote}
use Rattle.gl_ast.specs.declared.mode.Quote.TheVariants.{Double, Single}
use Rattle.gl_ast.specs.declared.mode.Around.TheVariants as a
use Rattle.gl_ast.specs.declared.mode.Mode.{Mode}
use Rattle.gl_ast.specs.declared.mode.Mode.TheVariants as m
use Rattle.gl_ast.specs.declared.token.TokenKind.TheVariants as k
use Rattle.gl_ast.proofs.Forward.{bind_some, if_some}
use Rattle.gl_ast.proofs.Longest.{Ordered, ordered, found_left, after_is_front, lead_after, lead_word}
use Rattle.gl_ast.proofs.Leads.{or_front, long_opens, short_opens, long_short, long_opening, short_opening, long_mark, short_mark, mark_mark, mark_opening, parameters_open, parameters_attribute, parameters_path}

-- how a token of the content begins
abbrev pub lead_content : List ℕ → ℕ
lead_content bs =
    if ends_text bs then (if begins (codes "<!") bs then 1 else (if begins (codes "</") bs then 2 else (if begins (codes "<") bs then 3 else 4)))
    else 0

abbrev pub lead_tag : List ℕ → ℕ
lead_tag [] = 0
lead_tag (b ∷ bs) = if starts_attribute b then 0 else b

abbrev pub lead_equals : List ℕ → ℕ
lead_equals [] = 0
lead_equals (b ∷ bs) = if in_unquoted b then 0 else b

abbrev pub lead_byte : List ℕ → ℕ
lead_byte [] = 0
lead_byte (b ∷ bs) = b

abbrev pub lead_value : ℕ → List ℕ → ℕ
lead_value quote bs = if ends_quoted quote bs then lead_byte bs else 0

abbrev pub lead_expression : List ℕ → ℕ
lead_expression [] = 0
lead_expression (b ∷ bs) = if starts_name b || eqb b 64 then 0 else (if is_digit b || eqb b 45 then 1 else (if eqb b 126 then 125 else b))

run_case : (p : List ℕ → Bool) (bs rest : List ℕ) (t : Bool) → cond t None (Some (up_to_first p bs)) ≡ Some rest → t ≡ false
run_case p bs rest true e = cc
run_case p bs rest false e = refl

run_led : (p : List ℕ → Bool) (bs rest : List ℕ) → after_run p bs ≡ Some rest → p bs ≡ false
run_led p [] rest e = cc
run_led p (b ∷ bs) rest e = run_case p bs rest (p (b ∷ bs)) e

text_led : (bs rest : List ℕ) → after_run ends_text bs ≡ Some rest → lead_content bs ≡ 0
text_led bs rest e = rw (run_led ends_text bs rest e) refl

html_led : (bs rest : List ℕ) → after_html_comment bs ≡ Some rest → lead_content bs ≡ 1
unfolding after_html_comment
html_led bs rest e =
    let a = bind_some (after (codes "<!--") bs >>= from_first (begins (codes "-->"))) (after (codes "-->")) rest e in
    let b = bind_some (after (codes "<!--") bs) (from_first (begins (codes "-->"))) a.0 a.1 in
    lead_after lead_content (codes "<!--") bs b.0 1 (λ l. refl) b.1

end_tag_led : (bs rest : List ℕ) → after_end_tag bs ≡ Some rest → lead_content bs ≡ 2
unfolding after_end_tag
end_tag_led bs rest e =
    let a = bind_some (after (codes "</") bs >>= after_label >>= after_white) (after (codes ">")) rest e in
    let b = bind_some (after (codes "</") bs >>= after_label) after_white a.0 a.1 in
    let c = bind_some (after (codes "</") bs) after_label b.0 b.1 in
    lead_after lead_content (codes "</") bs c.0 2 (λ l. refl) c.1

small_high : (b : ℕ) → is_small b ≡ true → 47 < b
small_high b e = grind (arith, nat_tests)

capital_high : (b : ℕ) → is_capital b ≡ true → 47 < b
capital_high b e = grind (arith, nat_tests)

word_head : (first more : ℕ → Bool) (bs rest : List ℕ) → ((b : ℕ) → first b ≡ true → 47 < b) → after_word first more bs ≡ Some rest → (b : ℕ) × (l : List ℕ) × (bs ≡ b ∷ l) × (47 < b)
word_head first more [] rest high e = cc
word_head first more (b ∷ bs) rest high e = (b, bs, refl, high b (if_some (first b) (Some (after_all more bs)) rest e).0)

either_case : (o p : Option (List ℕ)) (rest : List ℕ) → or_else o p ≡ Some rest → (o ≡ Some rest) ⊎ (p ≡ Some rest)
either_case None p rest e = inr e
either_case (Some x) p rest e = inl e

name_head : (bs rest : List ℕ) → after_element_name bs ≡ Some rest → (b : ℕ) × (l : List ℕ) × (bs ≡ b ∷ l) × (47 < b)
unfolding after_element_name after_class
name_head bs rest e = elim (either_case (after_tag bs) (after_class_part bs >>= after_parts) rest e) [
  | inl h ↦ word_head is_small in_tag bs rest small_high h
  | inr h ↦ let b = bind_some (after_class_part bs) after_parts rest h in word_head is_capital in_class bs b.0 capital_high b.1
]

label_head : (bs rest : List ℕ) → after_label bs ≡ Some rest → (b : ℕ) × (l : List ℕ) × (bs ≡ b ∷ l) × (47 < b)
unfolding after_label after_slot_name
label_head bs rest e = elim (either_case (after_element_name bs) (after (codes ":") bs >>= after_block_name) rest e) [
  | inl h ↦ name_head bs rest h
  | inr h ↦ let b = bind_some (after (codes ":") bs) after_block_name rest h in (58, b.0, after_is_front (codes ":") bs b.0 b.1, lit< tt)
]

opening_lead : (b : ℕ) (l : List ℕ) → 47 < b → lead_content (60 ∷ (b ∷ l)) ≡ 3
opening_lead b l h =
    let x : eqb 33 b ≡ false = grind (arith, nat_tests) in
    let y : eqb 47 b ≡ false = grind (arith, nat_tests) in
    rw (x, y) refl

tag_opening_led : (bs rest : List ℕ) → after_tag_opening bs ≡ Some rest → lead_content bs ≡ 3
unfolding after_tag_opening
tag_opening_led bs rest e =
    let a = bind_some (after (codes "<") bs) after_label rest e in
    let n = label_head a.0 rest a.2 in
    ap lead_content (after_is_front (codes "<") bs a.0 a.1) ∙ ap (λ l. lead_content (60 ∷ l)) n.2 ∙ opening_lead n.0 n.1 n.3

open_led : (lead : List ℕ → ℕ) (n : ℕ) → ((l : List ℕ) → lead (123 ∷ (123 ∷ l)) ≡ n) → (bs rest : List ℕ) → after_opening bs ≡ Some rest → lead bs ≡ n
unfolding after_opening
open_led lead n is bs rest e =
    let a = bind_some (after (codes "{{") bs) after_tilde rest e in
    lead_after lead (codes "{{") bs a.0 n is a.1

long_led : (lead : List ℕ → ℕ) (n : ℕ) → ((l : List ℕ) → lead (123 ∷ (123 ∷ l)) ≡ n) → (bs rest : List ℕ) → after_long_comment bs ≡ Some rest → lead bs ≡ n
long_led lead n is bs rest e = let o = long_opens bs rest e in open_led lead n is bs (33 ∷ (45 ∷ (45 ∷ o.0))) o.1

short_led : (lead : List ℕ → ℕ) (n : ℕ) → ((l : List ℕ) → lead (123 ∷ (123 ∷ l)) ≡ n) → (bs rest : List ℕ) → after_short_comment bs ≡ Some rest → lead bs ≡ n
short_led lead n is bs rest e = let o = short_opens bs rest e in open_led lead n is bs (33 ∷ o.0) o.1

mark_led : (lead : List ℕ → ℕ) (n : ℕ) → ((l : List ℕ) → lead (123 ∷ (123 ∷ l)) ≡ n) → (cs bs rest : List ℕ) → (after_opening bs >>= after cs) ≡ Some rest → lead bs ≡ n
mark_led lead n is cs bs rest e = let a = bind_some (after_opening bs) (after cs) rest e in open_led lead n is bs a.0 a.1

parameters_led : (lead : List ℕ → ℕ) (n : ℕ) → ((l : List ℕ) → lead (97 ∷ (115 ∷ l)) ≡ n) → (bs rest : List ℕ) → after_parameters bs ≡ Some rest → lead bs ≡ n
parameters_led lead n is bs rest e = let p = parameters_open bs rest e in ap lead p.2 ∙ is (p.0 ∷ p.1)

argument_led : (lead : List ℕ → ℕ) (n : ℕ) → ((l : List ℕ) → lead (64 ∷ l) ≡ n) → (bs rest : List ℕ) → after_argument bs ≡ Some rest → lead bs ≡ n
unfolding after_argument
argument_led lead n is bs rest e = let a = bind_some (after (codes "@") bs) after_name rest e in lead_after lead (codes "@") bs a.0 n is a.1

path_led : (bs rest : List ℕ) → after_path bs ≡ Some rest → lead_expression bs ≡ 0
unfolding after_path after_head
path_led bs rest e =
    let a = bind_some (or_else (after_argument bs) (after_name bs)) after_segments rest e in
    elim (either_case (after_argument bs) (after_name bs) a.0 a.1) [
      | inl h ↦ argument_led lead_expression 0 (λ l. refl) bs a.0 h
      | inr h ↦ lead_word lead_expression starts_name in_name bs a.0 0 (λ b l i. rw i refl) h
    ]

digit_lead : (b : ℕ) (l : List ℕ) → is_digit b ≡ true → lead_expression (b ∷ l) ≡ 1
digit_lead b l e =
    let x : (starts_name b || eqb b 64) ≡ false = grind (arith, nat_tests) in
    rw (x, e) refl

natural_led : (bs rest : List ℕ) → after_natural bs ≡ Some rest → lead_expression bs ≡ 1
unfolding after_natural
natural_led bs rest e = let a = bind_some (after_digits bs) (if_number bs) rest e in lead_word lead_expression is_digit is_digit bs a.0 1 digit_lead a.1

number_case : (bs rest : List ℕ) (o : Option (List ℕ)) → after (codes "-") bs ≡ o → after_natural (unwrap_or o bs) ≡ Some rest → lead_expression bs ≡ 1
number_case bs rest None h e = natural_led bs rest e
number_case bs rest (Some x) h e = lead_after lead_expression (codes "-") bs x 1 (λ l. refl) h

number_led : (bs rest : List ℕ) → after_number bs ≡ Some rest → lead_expression bs ≡ 1
unfolding after_number
number_led bs rest e = number_case bs rest (after (codes "-") bs) refl e

string_led : (lead : List ℕ → ℕ) (quote n : ℕ) → ((l : List ℕ) → lead (quote ∷ l) ≡ n) → (bs rest : List ℕ) → after_string quote bs ≡ Some rest → lead bs ≡ n
unfolding after_string
string_led lead quote n is bs rest e = let a = bind_some (after (quote ∷ []) bs) (after_closing quote false) rest e in lead_after lead (quote ∷ []) bs a.0 n is a.1

mustache_led : (bs rest : List ℕ) → after_mustache bs ≡ Some rest → lead_expression bs ≡ 125
unfolding after_mustache
mustache_led bs rest e = elim (or_front (codes "}}") (codes "~}}") bs rest e) [ inl h ↦ ap lead_expression h | inr h ↦ ap lead_expression h ]

content_ordered : (bs : List ℕ) → Ordered (content_forms bs)
content_ordered bs =
    let xs : List (ℕ × Option Found) = (0, found k.Text m.Content (after_run ends_text bs)) ∷ (1, found k.HtmlComment m.Content (after_html_comment bs)) ∷ (2, found k.EndTag m.Content (after_end_tag bs)) ∷ (3, found k.TagOpening m.Tag (after_tag_opening bs)) ∷ (4, found k.MustacheComment m.Content (after_long_comment bs)) ∷ (4, found k.MustacheComment m.Content (after_short_comment bs)) ∷ (4, found k.OpenBlock (m.Mustache a.Content) (after_opening bs >>= after (codes "#"))) ∷ (4, found k.OpenClosing (m.Mustache a.Content) (after_opening bs >>= after (codes "/"))) ∷ (4, found k.OpenMustache (m.Mustache a.Content) (after_opening bs)) ∷ [] in
    ordered (lead_content bs) xs ((λ f e. text_led bs f.1 (found_left k.Text m.Content (after_run ends_text bs) f e)), ((λ f e. html_led bs f.1 (found_left k.HtmlComment m.Content (after_html_comment bs) f e)), ((λ f e. end_tag_led bs f.1 (found_left k.EndTag m.Content (after_end_tag bs) f e)), ((λ f e. tag_opening_led bs f.1 (found_left k.TagOpening m.Tag (after_tag_opening bs) f e)), ((λ f e. long_led lead_content 4 (λ l. refl) bs f.1 (found_left k.MustacheComment m.Content (after_long_comment bs) f e)), ((λ f e. short_led lead_content 4 (λ l. refl) bs f.1 (found_left k.MustacheComment m.Content (after_short_comment bs) f e)), ((λ f e. mark_led lead_content 4 (λ l. refl) (codes "#") bs f.1 (found_left k.OpenBlock (m.Mustache a.Content) (after_opening bs >>= after (codes "#")) f e)), ((λ f e. mark_led lead_content 4 (λ l. refl) (codes "/") bs f.1 (found_left k.OpenClosing (m.Mustache a.Content) (after_opening bs >>= after (codes "/")) f e)), ((λ f e. open_led lead_content 4 (λ l. refl) bs f.1 (found_left k.OpenMustache (m.Mustache a.Content) (after_opening bs) f e)), tt))))))))) ((tt, (tt, (tt, (tt, (tt, (tt, (tt, (tt, tt)))))))), ((tt, (tt, (tt, (tt, (tt, (tt, (tt, tt))))))), ((tt, (tt, (tt, (tt, (tt, (tt, tt)))))), ((tt, (tt, (tt, (tt, (tt, tt))))), (((long_short k.MustacheComment m.Content bs), ((long_mark 35 refl k.MustacheComment k.OpenBlock m.Content (m.Mustache a.Content) bs), ((long_mark 47 refl k.MustacheComment k.OpenClosing m.Content (m.Mustache a.Content) bs), ((long_opening k.MustacheComment k.OpenMustache m.Content (m.Mustache a.Content) bs), tt)))), (((short_mark 35 refl k.MustacheComment k.OpenBlock m.Content (m.Mustache a.Content) bs), ((short_mark 47 refl k.MustacheComment k.OpenClosing m.Content (m.Mustache a.Content) bs), ((short_opening k.MustacheComment k.OpenMustache m.Content (m.Mustache a.Content) bs), tt))), (((mark_mark 35 47 refl k.OpenBlock k.OpenClosing (m.Mustache a.Content) (m.Mustache a.Content) bs), ((mark_opening 35 k.OpenBlock k.OpenMustache (m.Mustache a.Content) (m.Mustache a.Content) bs), tt)), (((mark_opening 47 k.OpenClosing k.OpenMustache (m.Mustache a.Content) (m.Mustache a.Content) bs), tt), (tt, tt)))))))))

tag_ordered : (bs : List ℕ) → Ordered (tag_forms bs)
tag_ordered bs =
    let xs : List (ℕ × Option Found) = (0, found k.Parameters m.Tag (after_parameters bs)) ∷ (0, found k.Attribute m.Tag (after_attribute bs)) ∷ (64, found k.Argument m.Tag (after_argument bs)) ∷ (46, found k.Spread m.Tag (after (codes "...attributes") bs)) ∷ (61, found k.Equals m.Equals (after (codes "=") bs)) ∷ (62, found k.TagEnd m.Content (after (codes ">") bs)) ∷ (47, found k.SelfEnd m.Content (after (codes "/>") bs)) ∷ (123, found k.MustacheComment m.Tag (after_long_comment bs)) ∷ (123, found k.MustacheComment m.Tag (after_short_comment bs)) ∷ (123, found k.OpenMustache (m.Mustache a.Tag) (after_opening bs)) ∷ [] in
    ordered (lead_tag bs) xs ((λ f e. parameters_led lead_tag 0 (λ l. refl) bs f.1 (found_left k.Parameters m.Tag (after_parameters bs) f e)), ((λ f e. lead_word lead_tag starts_attribute in_attribute bs f.1 0 (λ b l i. rw i refl) (found_left k.Attribute m.Tag (after_attribute bs) f e)), ((λ f e. argument_led lead_tag 64 (λ l. refl) bs f.1 (found_left k.Argument m.Tag (after_argument bs) f e)), ((λ f e. lead_after lead_tag (codes "...attributes") bs f.1 46 (λ l. refl) (found_left k.Spread m.Tag (after (codes "...attributes") bs) f e)), ((λ f e. lead_after lead_tag (codes "=") bs f.1 61 (λ l. refl) (found_left k.Equals m.Equals (after (codes "=") bs) f e)), ((λ f e. lead_after lead_tag (codes ">") bs f.1 62 (λ l. refl) (found_left k.TagEnd m.Content (after (codes ">") bs) f e)), ((λ f e. lead_after lead_tag (codes "/>") bs f.1 47 (λ l. refl) (found_left k.SelfEnd m.Content (after (codes "/>") bs) f e)), ((λ f e. long_led lead_tag 123 (λ l. refl) bs f.1 (found_left k.MustacheComment m.Tag (after_long_comment bs) f e)), ((λ f e. short_led lead_tag 123 (λ l. refl) bs f.1 (found_left k.MustacheComment m.Tag (after_short_comment bs) f e)), ((λ f e. open_led lead_tag 123 (λ l. refl) bs f.1 (found_left k.OpenMustache (m.Mustache a.Tag) (after_opening bs) f e)), tt)))))))))) (((parameters_attribute k.Parameters k.Attribute m.Tag m.Tag bs), (tt, (tt, (tt, (tt, (tt, (tt, (tt, (tt, tt))))))))), ((tt, (tt, (tt, (tt, (tt, (tt, (tt, (tt, tt)))))))), ((tt, (tt, (tt, (tt, (tt, (tt, (tt, tt))))))), ((tt, (tt, (tt, (tt, (tt, (tt, tt)))))), ((tt, (tt, (tt, (tt, (tt, tt))))), ((tt, (tt, (tt, (tt, tt)))), ((tt, (tt, (tt, tt))), (((long_short k.MustacheComment m.Tag bs), ((long_opening k.MustacheComment k.OpenMustache m.Tag (m.Mustache a.Tag) bs), tt)), (((short_opening k.MustacheComment k.OpenMustache m.Tag (m.Mustache a.Tag) bs), tt), (tt, tt))))))))))

equals_ordered : (bs : List ℕ) → Ordered (equals_forms bs)
equals_ordered bs =
    let xs : List (ℕ × Option Found) = (0, found k.Unquoted m.ValueEnd (after_unquoted bs)) ∷ (34, found k.OpenQuote (m.Value Double) (after (34 ∷ []) bs)) ∷ (39, found k.OpenQuote (m.Value Single) (after (39 ∷ []) bs)) ∷ (123, found k.OpenMustache (m.Mustache a.ValueEnd) (after_opening bs)) ∷ [] in
    ordered (lead_equals bs) xs ((λ f e. lead_word lead_equals in_unquoted in_unquoted bs f.1 0 (λ b l i. rw i refl) (found_left k.Unquoted m.ValueEnd (after_unquoted bs) f e)), ((λ f e. lead_after lead_equals (34 ∷ []) bs f.1 34 (λ l. refl) (found_left k.OpenQuote (m.Value Double) (after (34 ∷ []) bs) f e)), ((λ f e. lead_after lead_equals (39 ∷ []) bs f.1 39 (λ l. refl) (found_left k.OpenQuote (m.Value Single) (after (39 ∷ []) bs) f e)), ((λ f e. open_led lead_equals 123 (λ l. refl) bs f.1 (found_left k.OpenMustache (m.Mustache a.ValueEnd) (after_opening bs) f e)), tt)))) ((tt, (tt, (tt, tt))), ((tt, (tt, tt)), ((tt, tt), (tt, tt))))

value_end_ordered : (bs : List ℕ) → Ordered (value_end_forms bs)
value_end_ordered bs =
    let xs : List (ℕ × Option Found) = (62, found k.TagEnd m.Content (after (codes ">") bs)) ∷ (47, found k.SelfEnd m.Content (after (codes "/>") bs)) ∷ [] in
    ordered (lead_byte bs) xs ((λ f e. lead_after lead_byte (codes ">") bs f.1 62 (λ l. refl) (found_left k.TagEnd m.Content (after (codes ">") bs) f e)), ((λ f e. lead_after lead_byte (codes "/>") bs f.1 47 (λ l. refl) (found_left k.SelfEnd m.Content (after (codes "/>") bs) f e)), tt)) ((tt, tt), (tt, tt))

quoted_led : (quote : ℕ) (bs rest : List ℕ) → after_run (ends_quoted quote) bs ≡ Some rest → lead_value quote bs ≡ 0
quoted_led quote bs rest e = rw (run_led (ends_quoted quote) bs rest e) refl

double_ordered : (mode inner : Mode) (bs : List ℕ) → Ordered (value_forms mode 34 inner bs)
double_ordered mode inner bs =
    let xs : List (ℕ × Option Found) = (34, found k.CloseQuote m.ValueEnd (after (34 ∷ []) bs)) ∷ (0, found k.Text mode (after_run (ends_quoted 34) bs)) ∷ (123, found k.OpenMustache inner (after_opening bs)) ∷ [] in
    ordered (lead_value 34 bs) xs ((λ f e. lead_after (lead_value 34) (34 ∷ []) bs f.1 34 (λ l. refl) (found_left k.CloseQuote m.ValueEnd (after (34 ∷ []) bs) f e)), ((λ f e. quoted_led 34 bs f.1 (found_left k.Text mode (after_run (ends_quoted 34) bs) f e)), ((λ f e. open_led (lead_value 34) 123 (λ l. refl) bs f.1 (found_left k.OpenMustache inner (after_opening bs) f e)), tt))) ((tt, (tt, tt)), ((tt, tt), (tt, tt)))

single_ordered : (mode inner : Mode) (bs : List ℕ) → Ordered (value_forms mode 39 inner bs)
single_ordered mode inner bs =
    let xs : List (ℕ × Option Found) = (39, found k.CloseQuote m.ValueEnd (after (39 ∷ []) bs)) ∷ (0, found k.Text mode (after_run (ends_quoted 39) bs)) ∷ (123, found k.OpenMustache inner (after_opening bs)) ∷ [] in
    ordered (lead_value 39 bs) xs ((λ f e. lead_after (lead_value 39) (39 ∷ []) bs f.1 39 (λ l. refl) (found_left k.CloseQuote m.ValueEnd (after (39 ∷ []) bs) f e)), ((λ f e. quoted_led 39 bs f.1 (found_left k.Text mode (after_run (ends_quoted 39) bs) f e)), ((λ f e. open_led (lead_value 39) 123 (λ l. refl) bs f.1 (found_left k.OpenMustache inner (after_opening bs) f e)), tt))) ((tt, (tt, tt)), ((tt, tt), (tt, tt)))

lone_ordered : (mode : Mode) (bs : List ℕ) → Ordered (expression_forms mode bs [])
lone_ordered mode bs =
    let xs : List (ℕ × Option Found) = (0, found k.Parameters mode (after_parameters bs)) ∷ (0, found k.Path mode (after_path bs)) ∷ (1, found k.Number mode (after_number bs)) ∷ (34, found k.StringLit mode (after_string 34 bs)) ∷ (39, found k.StringLit mode (after_string 39 bs)) ∷ (40, found k.OpenParen mode (after (codes "(") bs)) ∷ (41, found k.CloseParen mode (after (codes ")") bs)) ∷ (61, found k.Equals mode (after (codes "=") bs)) ∷ [] in
    ordered (lead_expression bs) xs ((λ f e. parameters_led lead_expression 0 (λ l. refl) bs f.1 (found_left k.Parameters mode (after_parameters bs) f e)), ((λ f e. path_led bs f.1 (found_left k.Path mode (after_path bs) f e)), ((λ f e. number_led bs f.1 (found_left k.Number mode (after_number bs) f e)), ((λ f e. string_led lead_expression 34 34 (λ l. refl) bs f.1 (found_left k.StringLit mode (after_string 34 bs) f e)), ((λ f e. string_led lead_expression 39 39 (λ l. refl) bs f.1 (found_left k.StringLit mode (after_string 39 bs) f e)), ((λ f e. lead_after lead_expression (codes "(") bs f.1 40 (λ l. refl) (found_left k.OpenParen mode (after (codes "(") bs) f e)), ((λ f e. lead_after lead_expression (codes ")") bs f.1 41 (λ l. refl) (found_left k.CloseParen mode (after (codes ")") bs) f e)), ((λ f e. lead_after lead_expression (codes "=") bs f.1 61 (λ l. refl) (found_left k.Equals mode (after (codes "=") bs) f e)), tt)))))))) (((parameters_path k.Parameters k.Path mode mode bs), (tt, (tt, (tt, (tt, (tt, (tt, tt))))))), ((tt, (tt, (tt, (tt, (tt, (tt, tt)))))), ((tt, (tt, (tt, (tt, (tt, tt))))), ((tt, (tt, (tt, (tt, tt)))), ((tt, (tt, (tt, tt))), ((tt, (tt, tt)), ((tt, tt), (tt, tt))))))))

mustache_ordered : (mode after_it : Mode) (bs : List ℕ) → Ordered (expression_forms mode bs (found k.CloseMustache after_it (after_mustache bs) ∷ []))
mustache_ordered mode after_it bs =
    let xs : List (ℕ × Option Found) = (0, found k.Parameters mode (after_parameters bs)) ∷ (0, found k.Path mode (after_path bs)) ∷ (1, found k.Number mode (after_number bs)) ∷ (34, found k.StringLit mode (after_string 34 bs)) ∷ (39, found k.StringLit mode (after_string 39 bs)) ∷ (40, found k.OpenParen mode (after (codes "(") bs)) ∷ (41, found k.CloseParen mode (after (codes ")") bs)) ∷ (61, found k.Equals mode (after (codes "=") bs)) ∷ (125, found k.CloseMustache after_it (after_mustache bs)) ∷ [] in
    ordered (lead_expression bs) xs ((λ f e. parameters_led lead_expression 0 (λ l. refl) bs f.1 (found_left k.Parameters mode (after_parameters bs) f e)), ((λ f e. path_led bs f.1 (found_left k.Path mode (after_path bs) f e)), ((λ f e. number_led bs f.1 (found_left k.Number mode (after_number bs) f e)), ((λ f e. string_led lead_expression 34 34 (λ l. refl) bs f.1 (found_left k.StringLit mode (after_string 34 bs) f e)), ((λ f e. string_led lead_expression 39 39 (λ l. refl) bs f.1 (found_left k.StringLit mode (after_string 39 bs) f e)), ((λ f e. lead_after lead_expression (codes "(") bs f.1 40 (λ l. refl) (found_left k.OpenParen mode (after (codes "(") bs) f e)), ((λ f e. lead_after lead_expression (codes ")") bs f.1 41 (λ l. refl) (found_left k.CloseParen mode (after (codes ")") bs) f e)), ((λ f e. lead_after lead_expression (codes "=") bs f.1 61 (λ l. refl) (found_left k.Equals mode (after (codes "=") bs) f e)), ((λ f e. mustache_led bs f.1 (found_left k.CloseMustache after_it (after_mustache bs) f e)), tt))))))))) (((parameters_path k.Parameters k.Path mode mode bs), (tt, (tt, (tt, (tt, (tt, (tt, (tt, tt)))))))), ((tt, (tt, (tt, (tt, (tt, (tt, (tt, tt))))))), ((tt, (tt, (tt, (tt, (tt, (tt, tt)))))), ((tt, (tt, (tt, (tt, (tt, tt))))), ((tt, (tt, (tt, (tt, tt)))), ((tt, (tt, (tt, tt))), ((tt, (tt, tt)), ((tt, tt), (tt, tt)))))))))

value_ordered : (q : Quote) (bs : List ℕ) → Ordered (value_forms (m.Value q) (quote_byte q) (m.Mustache (a.Value q)) bs)
value_ordered Double bs = double_ordered (m.Value Double) (m.Mustache (a.Value Double)) bs
value_ordered Single bs = single_ordered (m.Value Single) (m.Mustache (a.Value Single)) bs

-- in each mode
pub forms_ordered : (mode : Mode) (bs : List ℕ) → Ordered (forms mode bs)
forms_ordered m.Content bs = content_ordered bs
forms_ordered m.Tag bs = tag_ordered bs
forms_ordered m.Equals bs = equals_ordered bs
forms_ordered m.ValueEnd bs = value_end_ordered bs
forms_ordered (m.Value q) bs = value_ordered q bs
forms_ordered (m.Mustache around) bs = mustache_ordered (m.Mustache around) (after_around around) bs
forms_ordered m.Expression bs = lone_ordered m.Expression bs
