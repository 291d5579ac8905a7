-- Each token that is read has a text of its kind, and no text stands directly after another.
use Rattle.std.proofs.Common.{◌≡◌, ◌+◌, ◌-◌, ℕ, List, [], ◌∷◌, Bool, true, false, Option, Some, None, cond, length, refl, sym, ap, subst, ◌∙◌, arith}
use Rattle.std.specs.Prelude.{codes, ◌&&◌}
use Rattle.std.specs.Str.{chars, IsUtf8}
use Rattle.std.proofs.lemmas.Str.{IsUtf8-take}
use Rattle.gl_base.specs.Answers.{◌>>=◌}
use Rattle.gl_base.specs.Names.{or_else}
use Rattle.gl_ast.specs.Marks.{is_white, starts_attribute, in_attribute}
use Rattle.gl_ast.specs.Modes.{Found, found, first_found, quote_byte, content_token, content_opening, tag_token, tag_mark, equals_token, value_end_token, value_token, expression_token, expression_mark, mustache_token, token, after_around, skips_white, spaced}
use Rattle.gl_ast.specs.Scans.{after, after_run, up_to_first}
use Rattle.gl_ast.specs.Settling.{is_text}
use Rattle.gl_ast.specs.TokenReading.{width, stands_white}
use Rattle.gl_ast.specs.Tokens.{Reads, ends, passes, reads}
use Rattle.gl_ast.specs.Words.{read_part, after_html_comment, after_end_tag, after_tag_opening, after_comment, after_opening, after_mustache, after_attribute, after_argument, after_unquoted, after_parameters, after_path, after_number, after_string, ends_text, ends_quoted}
use Rattle.gl_ast.specs.declared.mode.Quote.{Quote}
use Rattle.gl_ast.specs.declared.mode.Quote.TheVariants.{Double, Single}
use Rattle.gl_ast.specs.declared.mode.Around.{Around}
use Rattle.gl_ast.specs.declared.mode.Around.TheVariants as a
use Rattle.gl_ast.specs.declared.mode.Mode.{Mode}
use Rattle.gl_ast.specs.declared.mode.Mode.TheVariants as m
use Rattle.gl_ast.specs.declared.token.Token.{Token}
use Rattle.gl_ast.specs.declared.token.TokenKind.{TokenKind}
use Rattle.gl_ast.specs.declared.token.TokenKind.TheVariants as k
use Rattle.gl_ast.proofs.Progress.{token_steps}
use Rattle.gl_ast.proofs.Reading.{token_border, white_steps}
use Rattle.gl_ast.proofs.Readings.{longest_token}
use Rattle.gl_show.proofs.Numbers.{part_read}
use Rattle.gl_show.proofs.Shapes.{Shaped, path_shape, number_shape, string_shape, comment_shape, tag_opening_shape, word_shape, argument_shape, parameters_shape}
use Rattle.gl_show.proofs.TokenForms.{IsProper, path_form, number_form, string_form, comment_form, opening_form, attribute_form, argument_form, parameters_form, text_form}

-- what may be found has a text of its kind
abbrev pub ProperIf : List ℕ → Option Found → Type 0
ProperIf bs o = (f : Found) → o ≡ Some f → IsUtf8 (read_part bs f.1) → IsProper f.0 (chars (read_part bs f.1))

found_proper : (kind : TokenKind) (next : Mode) (bs : List ℕ) (o : Option (List ℕ)) → ((rest : List ℕ) → o ≡ Some rest → IsUtf8 (read_part bs rest) → IsProper kind (chars (read_part bs rest))) → ProperIf bs (found kind next o)
found_proper kind next bs None p f e u = cc
found_proper kind next bs (Some x) p f e u =
    let same : (kind, x, next) ≡ f = cc in
    subst (λ (g : Found). IsUtf8 (read_part bs g.1) → IsProper g.0 (chars (read_part bs g.1))) same (p x refl) u

first_of_two : (bs : List ℕ) (o p : Option Found) → ProperIf bs o → ProperIf bs p → ProperIf bs (or_else o p)
first_of_two bs None p s t f e u = t f e u
first_of_two bs (Some x) p s t f e u = s f e u

none_proper : (bs : List ℕ) → ProperIf bs None
none_proper bs f e u = cc

shaped : (kind : TokenKind) (Form : List ℕ → Type 0) (bs rest : List ℕ) → Shaped Form bs rest → ((w : List ℕ) → Form w → IsUtf8 w → IsProper kind (chars w)) → IsUtf8 (read_part bs rest) → IsProper kind (chars (read_part bs rest))
shaped kind Form bs rest s p u =
    let part : read_part bs rest ≡ s.0 = ap (λ l. read_part l rest) s.1 ∙ part_read s.0 rest in
    subst (λ (w : List ℕ). IsProper kind (chars w)) (sym part) (p s.0 s.2 (subst IsUtf8 part u))

path_proper : (mode : Mode) (bs : List ℕ) → ProperIf bs (found k.Path mode (after_path bs))
path_proper mode bs = found_proper k.Path mode bs (after_path bs) (λ rest e. shaped k.Path _ bs rest (path_shape bs rest e) (λ w p u. path_form w p))

number_proper : (mode : Mode) (bs : List ℕ) → ProperIf bs (found k.Number mode (after_number bs))
number_proper mode bs = found_proper k.Number mode bs (after_number bs) (λ rest e. shaped k.Number _ bs rest (number_shape bs rest e) (λ w p u. number_form w p))

double_proper : (mode : Mode) (bs : List ℕ) → ProperIf bs (found k.StringLit mode (after_string 34 bs))
double_proper mode bs = found_proper k.StringLit mode bs (after_string 34 bs) (λ rest e. shaped k.StringLit _ bs rest (string_shape 34 bs rest e) (λ w p u. string_form 34 (omega arith) refl w p u))

single_proper : (mode : Mode) (bs : List ℕ) → ProperIf bs (found k.StringLit mode (after_string 39 bs))
single_proper mode bs = found_proper k.StringLit mode bs (after_string 39 bs) (λ rest e. shaped k.StringLit _ bs rest (string_shape 39 bs rest e) (λ w p u. string_form 39 (omega arith) refl w p u))

parameters_proper : (mode : Mode) (bs : List ℕ) → ProperIf bs (found k.Parameters mode (after_parameters bs))
parameters_proper mode bs = found_proper k.Parameters mode bs (after_parameters bs) (λ rest e. shaped k.Parameters _ bs rest (parameters_shape bs rest e) (λ w p u. parameters_form w p))

text_proper : (mode : Mode) (bs : List ℕ) (o : Option (List ℕ)) → ProperIf bs (found k.Text mode o)
text_proper mode bs o = found_proper k.Text mode bs o (λ rest e u. text_form (read_part bs rest) u)

unquoted_proper : (bs : List ℕ) → ProperIf bs (found k.Unquoted m.ValueEnd (after_unquoted bs))
unquoted_proper bs = found_proper k.Unquoted m.ValueEnd bs (after_unquoted bs) (λ rest e u. text_form (read_part bs rest) u)

comment_proper : (bs : List ℕ) → ProperIf bs (found k.HtmlComment m.Content (after_html_comment bs))
comment_proper bs = found_proper k.HtmlComment m.Content bs (after_html_comment bs) (λ rest e. shaped k.HtmlComment _ bs rest (comment_shape bs rest e) (λ w p u. comment_form w p u))

opening_proper : (bs : List ℕ) → ProperIf bs (found k.TagOpening m.Tag (after_tag_opening bs))
opening_proper bs = found_proper k.TagOpening m.Tag bs (after_tag_opening bs) (λ rest e. shaped k.TagOpening _ bs rest (tag_opening_shape bs rest e) (λ w p u. opening_form w p))

attribute_proper : (bs : List ℕ) → ProperIf bs (found k.Attribute m.Tag (after_attribute bs))
attribute_proper bs = found_proper k.Attribute m.Tag bs (after_attribute bs) (λ rest e. shaped k.Attribute _ bs rest (word_shape starts_attribute in_attribute bs rest e) (λ w p u. attribute_form w p))

argument_proper : (bs : List ℕ) → ProperIf bs (found k.Argument m.Tag (after_argument bs))
argument_proper bs = found_proper k.Argument m.Tag bs (after_argument bs) (λ rest e. shaped k.Argument _ bs rest (argument_shape bs rest e) (λ w p u. argument_form w p))

content_opening_proper : (bs : List ℕ) → ProperIf bs (content_opening bs)
unfolding content_opening
content_opening_proper bs = first_of_two bs _ _ (found_proper k.OpenBlock (m.Mustache a.Content) bs (after_opening bs >>= after (codes "#")) (λ rest e u. tt)) (first_of_two bs _ _ (found_proper k.OpenClosing (m.Mustache a.Content) bs (after_opening bs >>= after (codes "/")) (λ rest e u. tt)) (first_of_two bs _ _ (found_proper k.OpenMustache (m.Mustache a.Content) bs (after_opening bs) (λ rest e u. tt)) (none_proper bs)))

content_proper : (bs : List ℕ) → ProperIf bs (content_token bs)
unfolding content_token
content_proper bs =
    first_of_two bs _ _ (text_proper m.Content bs (after_run ends_text bs)) (first_of_two bs _ _ (comment_proper bs) (first_of_two bs _ _ (found_proper k.EndTag m.Content bs (after_end_tag bs) (λ rest e u. tt))
    (first_of_two bs _ _ (opening_proper bs) (first_of_two bs _ _ (found_proper k.MustacheComment m.Content bs (after_comment bs) (λ rest e u. tt)) (first_of_two bs _ _ (content_opening_proper bs) (none_proper bs))))))

value_end_proper : (bs : List ℕ) → ProperIf bs (value_end_token bs)
unfolding value_end_token
value_end_proper bs = first_of_two bs _ _ (found_proper k.TagEnd m.Content bs (after (codes ">") bs) (λ rest e u. tt)) (first_of_two bs _ _ (found_proper k.SelfEnd m.Content bs (after (codes "/>") bs) (λ rest e u. tt)) (none_proper bs))

tag_mark_proper : (bs : List ℕ) → ProperIf bs (tag_mark bs)
unfolding tag_mark
tag_mark_proper bs = first_of_two bs _ _ (found_proper k.Spread m.Tag bs (after (codes "...attributes") bs) (λ rest e u. tt)) (first_of_two bs _ _ (found_proper k.Equals m.Equals bs (after (codes "=") bs) (λ rest e u. tt)) (first_of_two bs _ _ (value_end_proper bs) (none_proper bs)))

tag_proper : (bs : List ℕ) → ProperIf bs (tag_token bs)
unfolding tag_token
tag_proper bs =
    first_of_two bs _ _ (parameters_proper m.Tag bs) (first_of_two bs _ _ (attribute_proper bs) (first_of_two bs _ _ (argument_proper bs) (first_of_two bs _ _ (tag_mark_proper bs)
    (first_of_two bs _ _ (found_proper k.MustacheComment m.Tag bs (after_comment bs) (λ rest e u. tt)) (first_of_two bs _ _ (found_proper k.OpenMustache (m.Mustache a.Tag) bs (after_opening bs) (λ rest e u. tt)) (none_proper bs))))))

equals_proper : (bs : List ℕ) → ProperIf bs (equals_token bs)
unfolding equals_token
equals_proper bs =
    first_of_two bs _ _ (unquoted_proper bs) (first_of_two bs _ _ (found_proper k.OpenQuote (m.Value Double) bs (after (34 ∷ []) bs) (λ rest e u. tt)) (first_of_two bs _ _ (found_proper k.OpenQuote (m.Value Single) bs (after (39 ∷ []) bs) (λ rest e u. tt))
    (first_of_two bs _ _ (found_proper k.OpenMustache (m.Mustache a.ValueEnd) bs (after_opening bs) (λ rest e u. tt)) (none_proper bs))))

value_proper : (q : Quote) (bs : List ℕ) → ProperIf bs (value_token q bs)
unfolding value_token
value_proper q bs =
    first_of_two bs _ _ (found_proper k.CloseQuote m.ValueEnd bs (after (quote_byte q ∷ []) bs) (λ rest e u. tt)) (first_of_two bs _ _ (text_proper (m.Value q) bs (after_run (ends_quoted (quote_byte q)) bs))
    (first_of_two bs _ _ (found_proper k.OpenMustache (m.Mustache (a.Value q)) bs (after_opening bs) (λ rest e u. tt)) (none_proper bs)))

mark_proper : (mode : Mode) (bs : List ℕ) → ProperIf bs (expression_mark mode bs)
unfolding expression_mark
mark_proper mode bs = first_of_two bs _ _ (found_proper k.OpenParen mode bs (after (codes "(") bs) (λ rest e u. tt)) (first_of_two bs _ _ (found_proper k.CloseParen mode bs (after (codes ")") bs) (λ rest e u. tt)) (first_of_two bs _ _ (found_proper k.Equals mode bs (after (codes "=") bs) (λ rest e u. tt)) (none_proper bs)))

expression_proper : (mode : Mode) (bs : List ℕ) → ProperIf bs (expression_token mode bs)
unfolding expression_token
expression_proper mode bs =
    first_of_two bs _ _ (parameters_proper mode bs) (first_of_two bs _ _ (path_proper mode bs) (first_of_two bs _ _ (number_proper mode bs) (first_of_two bs _ _ (double_proper mode bs) (first_of_two bs _ _ (single_proper mode bs)
    (first_of_two bs _ _ (mark_proper mode bs) (none_proper bs))))))

mustache_proper : (around : Around) (bs : List ℕ) → ProperIf bs (mustache_token around bs)
unfolding mustache_token
mustache_proper around bs = first_of_two bs _ _ (expression_proper (m.Mustache around) bs) (found_proper k.CloseMustache (after_around around) bs (after_mustache bs) (λ rest e u. tt))

token_proper : (mode : Mode) (bs : List ℕ) → ProperIf bs (token mode bs)
unfolding token
token_proper m.Content bs = content_proper bs
token_proper m.Tag bs = tag_proper bs
token_proper m.Equals bs = equals_proper bs
token_proper m.ValueEnd bs = value_end_proper bs
token_proper (m.Value q) bs = value_proper q bs
token_proper (m.Mustache around) bs = mustache_proper around bs
token_proper m.Expression bs = expression_proper m.Expression bs

-- where no run of text stands, no text is found
abbrev pub NoText : Option Found → Type 0
NoText o = (f : Found) → o ≡ Some f → is_text f.0 ≡ false

found_no_text : (kind : TokenKind) (next : Mode) (o : Option (List ℕ)) → is_text kind ≡ false → NoText (found kind next o)
found_no_text kind next None n f e = cc
found_no_text kind next (Some x) n f e = let same : (kind, x, next) ≡ f = cc in subst (λ (g : Found). is_text g.0 ≡ false) same n

two_no_text : (o p : Option Found) → NoText o → NoText p → NoText (or_else o p)
two_no_text None p s t f e = t f e
two_no_text (Some x) p s t f e = s f e

none_no_text : NoText None
none_no_text f e = cc

opening_no_text : (bs : List ℕ) → NoText (content_opening bs)
unfolding content_opening
opening_no_text bs = two_no_text _ _ (found_no_text k.OpenBlock (m.Mustache a.Content) (after_opening bs >>= after (codes "#")) refl) (two_no_text _ _ (found_no_text k.OpenClosing (m.Mustache a.Content) (after_opening bs >>= after (codes "/")) refl) (two_no_text _ _ (found_no_text k.OpenMustache (m.Mustache a.Content) (after_opening bs) refl) none_no_text))

others_no_text : (bs : List ℕ) → NoText (first_found (found k.HtmlComment m.Content (after_html_comment bs) ∷ found k.EndTag m.Content (after_end_tag bs) ∷ found k.TagOpening m.Tag (after_tag_opening bs) ∷ found k.MustacheComment m.Content (after_comment bs) ∷ content_opening bs ∷ []))
others_no_text bs = two_no_text _ _ (found_no_text k.HtmlComment m.Content (after_html_comment bs) refl) (two_no_text _ _ (found_no_text k.EndTag m.Content (after_end_tag bs) refl) (two_no_text _ _ (found_no_text k.TagOpening m.Tag (after_tag_opening bs) refl) (two_no_text _ _ (found_no_text k.MustacheComment m.Content (after_comment bs) refl) (two_no_text _ _ (opening_no_text bs) none_no_text))))

-- a text was read by the run
run_case : (mode : Mode) (o : Option (List ℕ)) (others : Option Found) (f : Found) → NoText others → or_else (found k.Text mode o) others ≡ Some f → is_text f.0 ≡ true → (o ≡ Some f.1) × (f.2 ≡ mode)
run_case mode None others f n e t = let h = n f e in cc
run_case mode (Some x) others f n e t = (cc, cc)

no_run : (mode : Mode) (others : Option Found) (o : Option (List ℕ)) → NoText others → o ≡ None → NoText (or_else (found k.Text mode o) others)
no_run mode others None n h = n
no_run mode others (Some x) n h = cc

-- after a run no run stands
up_to_stop : (p : List ℕ → Bool) (bs : List ℕ) → after_run p (up_to_first p bs) ≡ None
up_to_stop p [] = refl
up_to_stop p (b ∷ bs) = stop_case (p (b ∷ bs)) refl (up_to_stop p bs)
  where
    stop_case : (t : Bool) → p (b ∷ bs) ≡ t → after_run p (up_to_first p bs) ≡ None → after_run p (cond t (b ∷ bs) (up_to_first p bs)) ≡ None
    stop_case true e more = rw e refl
    stop_case false e more = more

run_stop : (p : List ℕ → Bool) (bs rest : List ℕ) → after_run p bs ≡ Some rest → after_run p rest ≡ None
run_stop p [] rest e = cc
run_stop p (b ∷ bs) rest e = stop_case (p (b ∷ bs)) e
  where
    stop_case : (t : Bool) → cond t None (Some (up_to_first p bs)) ≡ Some rest → after_run p rest ≡ None
    stop_case true h = cc
    stop_case false h = let same : up_to_first p bs ≡ rest = (let g = h in cc) in ap (λ l. after_run p l) (sym same) ∙ up_to_stop p bs

quote_no_text : (q : Quote) (bs : List ℕ) → NoText (found k.CloseQuote m.ValueEnd (after (quote_byte q ∷ []) bs))
quote_no_text q bs = found_no_text k.CloseQuote m.ValueEnd (after (quote_byte q ∷ []) bs) refl

value_others : (q : Quote) (bs : List ℕ) → NoText (first_found (found k.OpenMustache (m.Mustache (a.Value q)) (after_opening bs) ∷ []))
value_others q bs = two_no_text _ _ (found_no_text k.OpenMustache (m.Mustache (a.Value q)) (after_opening bs) refl) none_no_text

after_two : (o p : Option Found) (f : Found) → NoText o → or_else o p ≡ Some f → is_text f.0 ≡ true → p ≡ Some f
after_two None p f n e t = e
after_two (Some x) p f n e t = let h = n f e in cc

tag_no_text : (bs : List ℕ) → NoText (tag_token bs)
unfolding tag_token tag_mark value_end_token
tag_no_text bs = two_no_text _ _ (found_no_text k.Parameters m.Tag (after_parameters bs) refl) (two_no_text _ _ (found_no_text k.Attribute m.Tag (after_attribute bs) refl) (two_no_text _ _ (found_no_text k.Argument m.Tag (after_argument bs) refl) (two_no_text _ _ (two_no_text _ _ (found_no_text k.Spread m.Tag (after (codes "...attributes") bs) refl) (two_no_text _ _ (found_no_text k.Equals m.Equals (after (codes "=") bs) refl) (two_no_text _ _ (two_no_text _ _ (found_no_text k.TagEnd m.Content (after (codes ">") bs) refl) (two_no_text _ _ (found_no_text k.SelfEnd m.Content (after (codes "/>") bs) refl) none_no_text)) none_no_text))) (two_no_text _ _ (found_no_text k.MustacheComment m.Tag (after_comment bs) refl) (two_no_text _ _ (found_no_text k.OpenMustache (m.Mustache a.Tag) (after_opening bs) refl) none_no_text)))))

equals_no_text : (bs : List ℕ) → NoText (equals_token bs)
unfolding equals_token
equals_no_text bs = two_no_text _ _ (found_no_text k.Unquoted m.ValueEnd (after_unquoted bs) refl) (two_no_text _ _ (found_no_text k.OpenQuote (m.Value Double) (after (34 ∷ []) bs) refl) (two_no_text _ _ (found_no_text k.OpenQuote (m.Value Single) (after (39 ∷ []) bs) refl) (two_no_text _ _ (found_no_text k.OpenMustache (m.Mustache a.ValueEnd) (after_opening bs) refl) none_no_text)))

value_end_no_text : (bs : List ℕ) → NoText (value_end_token bs)
unfolding value_end_token
value_end_no_text bs = two_no_text _ _ (found_no_text k.TagEnd m.Content (after (codes ">") bs) refl) (two_no_text _ _ (found_no_text k.SelfEnd m.Content (after (codes "/>") bs) refl) none_no_text)

expression_no_text : (mode : Mode) (bs : List ℕ) → NoText (expression_token mode bs)
unfolding expression_token expression_mark
expression_no_text mode bs = two_no_text _ _ (found_no_text k.Parameters mode (after_parameters bs) refl) (two_no_text _ _ (found_no_text k.Path mode (after_path bs) refl) (two_no_text _ _ (found_no_text k.Number mode (after_number bs) refl) (two_no_text _ _ (found_no_text k.StringLit mode (after_string 34 bs) refl) (two_no_text _ _ (found_no_text k.StringLit mode (after_string 39 bs) refl) (two_no_text _ _ (two_no_text _ _ (found_no_text k.OpenParen mode (after (codes "(") bs) refl) (two_no_text _ _ (found_no_text k.CloseParen mode (after (codes ")") bs) refl) (two_no_text _ _ (found_no_text k.Equals mode (after (codes "=") bs) refl) none_no_text))) none_no_text)))))

mustache_no_text : (around : Around) (bs : List ℕ) → NoText (mustache_token around bs)
unfolding mustache_token
mustache_no_text around bs = two_no_text _ _ (expression_no_text (m.Mustache around) bs) (found_no_text k.CloseMustache (after_around around) (after_mustache bs) refl)

-- after a text the mode is the same, and no text is found
text_then : (mode : Mode) (bs : List ℕ) (f : Found) → token mode bs ≡ Some f → is_text f.0 ≡ true → (skips_white f.2 ≡ false) × NoText (token f.2 f.1)
unfolding token content_token value_token
text_then m.Content bs f e t =
    let r = run_case m.Content (after_run ends_text bs) _ f (others_no_text bs) e t in
    let none = run_stop ends_text bs f.1 r.0 in
    subst (λ (mode : Mode). (skips_white mode ≡ false) × NoText (token mode f.1)) (sym r.1) (refl, no_run m.Content _ (after_run ends_text f.1) (others_no_text f.1) none)
text_then (m.Value q) bs f e t =
    let p = after_two (found k.CloseQuote m.ValueEnd (after (quote_byte q ∷ []) bs)) _ f (quote_no_text q bs) e t in
    let r = run_case (m.Value q) (after_run (ends_quoted (quote_byte q)) bs) _ f (value_others q bs) p t in
    let none = run_stop (ends_quoted (quote_byte q)) bs f.1 r.0 in
    subst (λ (mode : Mode). (skips_white mode ≡ false) × NoText (token mode f.1)) (sym r.1)
    (refl, two_no_text (found k.CloseQuote m.ValueEnd (after (quote_byte q ∷ []) f.1)) _ (quote_no_text q f.1) (no_run (m.Value q) _ (after_run (ends_quoted (quote_byte q)) f.1) (value_others q f.1) none))
text_then m.Tag bs f e t = let h = tag_no_text bs f e in cc
text_then m.Equals bs f e t = let h = equals_no_text bs f e in cc
text_then m.ValueEnd bs f e t = let h = value_end_no_text bs f e in cc
text_then (m.Mustache around) bs f e t = let h = mustache_no_text around bs f e in cc
text_then m.Expression bs f e t = let h = expression_no_text m.Expression bs f e in cc

-- a list of tokens with such texts
abbrev pub begins_text : List Token → Bool
begins_text [] = false
begins_text (t ∷ ts) = is_text t.kind

abbrev pub AreProper : List Token → Type 0
AreProper [] = Unit {0}
AreProper (t ∷ ts) = IsProper t.kind t.text × (is_text t.kind ≡ true → begins_text ts ≡ false) × AreProper ts

no_white : (mode : Mode) (b : ℕ) (bs : List ℕ) → skips_white mode ≡ false → stands_white mode (b ∷ bs) ≡ true → ⊥
no_white mode b bs s h = let k = s in both_no (skips_white mode) (is_white b) k h
  where
    both_no : (x y : Bool) → x ≡ false → (x && y) ≡ true → ⊥
    both_no true y e h = cc
    both_no false y e h = cc

-- what is read where no text is found does not begin with one
first_no_text : (mode : Mode) (at : ℕ) (bs : List ℕ) (list : List Token) → skips_white mode ≡ false → NoText (token mode bs) → Reads mode at bs list → begins_text list ≡ false
first_no_text _ _ _ _ s n (ends {mode} {at}) = refl
first_no_text _ _ _ _ s n (passes {mode} {at} {b} {bs} {list} white more) = absurd (no_white mode b bs s white)
first_no_text _ _ _ _ s n (reads {mode} {at} {bs} {list} f tight l more) = n f (longest_token mode bs f l)

pub reads_proper : (mode : Mode) (at : ℕ) (bs : List ℕ) (list : List Token) → IsUtf8 bs → Reads mode at bs list → AreProper list
reads_proper _ _ _ _ u (ends {mode} {at}) = tt
reads_proper _ _ _ _ u (passes {mode} {at} {b} {bs} {list} white more) = reads_proper (spaced mode) (at + 1) bs list ((white_steps mode (b ∷ bs) white).3 u) more
reads_proper _ _ _ _ u (reads {mode} {at} {bs} {list} f tight l more) =
    let is = longest_token mode bs f l in
    let s = token_steps mode bs f is in
    let part : IsUtf8 (read_part bs f.1) = IsUtf8-take bs (length bs - length f.1) u (token_border bs f.1 u s) in (
      token_proper mode bs f is part,
      λ t. (let h = text_then mode bs f is t in first_no_text f.2 (at + width bs f) f.1 list h.0 h.1 more),
      reads_proper f.2 (at + width bs f) f.1 list (s.3 u) more,
    )
