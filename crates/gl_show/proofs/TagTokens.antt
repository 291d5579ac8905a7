-- The tokens of tags and of values, each before what may follow it.
use Rattle.std.proofs.Common.{◌≡◌, ℕ, List, [], ◌∷◌, ◌++◌, true, false, Some, None, eqb, ltb, refl, arith}
use Rattle.std.specs.Prelude.{codes, not}
use Rattle.std.specs.List.{list_all}
use Rattle.std.proofs.lemmas.Bool.Decides.{nat_tests}
use Rattle.gl_base.specs.Texts.{Text, bytes_of}
use Rattle.gl_ast.specs.Marks.{is_white, starts_name, in_name, starts_attribute, in_attribute}
use Rattle.gl_ast.specs.Modes.{tag_mark, tag_token, value_end_token, equals_token, value_token, expression_token, token}
use Rattle.gl_ast.specs.Scans.{after}
use Rattle.gl_ast.specs.Words.{after_parameters, after_argument, after_opening, after_comment, after_long_comment, after_short_comment, ends_quoted}
use Rattle.gl_ast.specs.declared.mode.Quote.TheVariants.{Double}
use Rattle.gl_ast.specs.declared.mode.Around.TheVariants as a
use Rattle.gl_ast.specs.declared.mode.Mode.{Mode}
use Rattle.gl_ast.specs.declared.mode.Mode.TheVariants as m
use Rattle.gl_ast.specs.declared.token.TokenKind.TheVariants as k
use Rattle.gl_ast.proofs.Forward.{both}
use Rattle.gl_show.specs.Spellable.{is_word, is_name, AreFreeNames}
use Rattle.gl_show.proofs.LexedExpr.{Opens, is_opener}
use Rattle.gl_show.proofs.Parameters.{spaced_names, parameters_then}
use Rattle.gl_show.proofs.Runs.{char_bytes, in_value, value_ignores, run_then, RunEnds}
use Rattle.gl_show.proofs.Strings.{all_high}
use Rattle.gl_show.proofs.Scanning.{word_then, word_no_parameters}

attribute_no_white : (b : ℕ) → in_attribute b ≡ true → is_white b ≡ false
attribute_no_white b e = grind (arith, nat_tests)

-- the name of an attribute
pub attribute_token : (n rest : List ℕ) → is_word starts_attribute in_attribute n ≡ true → token m.Tag (n ++ (61 ∷ rest)) ≡ Some (k.Attribute, 61 ∷ rest, m.Tag)
unfolding token tag_token
attribute_token n rest w =
    rw (word_no_parameters starts_attribute in_attribute attribute_no_white refl n (61 ∷ rest) w refl refl, word_then starts_attribute in_attribute n (61 ∷ rest) w refl) refl

-- an argument's name
pub argument_name_token : (n rest : List ℕ) → is_name n ≡ true → token m.Tag (64 ∷ (n ++ (61 ∷ rest))) ≡ Some (k.Argument, 61 ∷ rest, m.Tag)
unfolding token tag_token after_parameters after_argument
argument_name_token n rest w = rw (word_then starts_name in_name n (61 ∷ rest) w refl) refl

pub spread_token : (rest : List ℕ) → token m.Tag (codes "...attributes" ++ rest) ≡ Some (k.Spread, rest, m.Tag)
unfolding token tag_token tag_mark after_parameters after_argument
spread_token rest = refl

pub equals_tag_token : (rest : List ℕ) → token m.Tag (61 ∷ rest) ≡ Some (k.Equals, rest, m.Equals)
unfolding token tag_token tag_mark after_parameters after_argument
equals_tag_token rest = refl

pub tag_end_token : (rest : List ℕ) → token m.Tag (62 ∷ rest) ≡ Some (k.TagEnd, rest, m.Content)
unfolding token tag_token tag_mark value_end_token after_parameters after_argument
tag_end_token rest = refl

pub value_tag_end : (rest : List ℕ) → token m.ValueEnd (62 ∷ rest) ≡ Some (k.TagEnd, rest, m.Content)
unfolding token value_end_token
value_tag_end rest = refl

pub self_end_token : (rest : List ℕ) → token m.Tag (47 ∷ 62 ∷ rest) ≡ Some (k.SelfEnd, rest, m.Content)
unfolding token tag_token tag_mark value_end_token after_parameters after_argument
self_end_token rest = refl

opener_no_comment : (c : ℕ) → is_opener c ≡ true → (eqb 33 c ≡ false) × (eqb 126 c ≡ false)
opener_no_comment c e = (grind (arith, nat_tests), grind (arith, nat_tests))

pub tag_mustache_token : (rest : List ℕ) → Opens rest → token m.Tag (123 ∷ 123 ∷ rest) ≡ Some (k.OpenMustache, rest, m.Mustache a.Tag)
unfolding token tag_token tag_mark value_end_token after_parameters after_argument after_comment after_long_comment after_short_comment after_opening
tag_mustache_token [] o = absurd o
tag_mustache_token (c ∷ cs) o = let h = opener_no_comment c o in let h0 = h.0 in let h1 = h.1 in rw (h0, h1) refl

pub tag_parameters_token : (n : Text) (ns : List Text) (rest : List ℕ) → AreFreeNames (n ∷ ns) → token m.Tag (codes "as |" ++ (n ++ (spaced_names ns ++ (124 ∷ rest)))) ≡ Some (k.Parameters, rest, m.Tag)
unfolding token tag_token
tag_parameters_token n ns rest w = rw (parameters_then n ns rest w) refl

pub parameters_token : (mode : Mode) (n : Text) (ns : List Text) (rest : List ℕ) → AreFreeNames (n ∷ ns) → expression_token mode (codes "as |" ++ (n ++ (spaced_names ns ++ (124 ∷ rest)))) ≡ Some (k.Parameters, rest, mode)
unfolding expression_token
parameters_token mode n ns rest w = rw (parameters_then n ns rest w) refl

-- after `=`
pub quote_token : (rest : List ℕ) → token m.Equals (34 ∷ rest) ≡ Some (k.OpenQuote, rest, m.Value Double)
unfolding token equals_token
quote_token rest = refl

pub live_token : (rest : List ℕ) → Opens rest → token m.Equals (123 ∷ 123 ∷ rest) ≡ Some (k.OpenMustache, rest, m.Mustache a.ValueEnd)
unfolding token equals_token after_opening
live_token [] o = absurd o
live_token (c ∷ cs) o = let h = opener_no_comment c o in let h1 = h.1 in rw h1 refl

-- in a value
pub close_quote_token : (rest : List ℕ) → token (m.Value Double) (34 ∷ rest) ≡ Some (k.CloseQuote, rest, m.ValueEnd)
unfolding token value_token
close_quote_token rest = refl

pub value_mustache_token : (rest : List ℕ) → Opens rest → token (m.Value Double) (123 ∷ 123 ∷ rest) ≡ Some (k.OpenMustache, rest, m.Mustache (a.Value Double))
unfolding token value_token after_opening
value_mustache_token [] o = absurd o
value_mustache_token (c ∷ cs) o = let h = opener_no_comment c o in let h1 = h.1 in rw h1 refl

first_no_quote : (c : ℕ) → in_value c ≡ true → eqb 34 c ≡ false
first_no_quote c e = grind (arith, nat_tests)

pub value_text_token : (c : ℕ) (cs rest : List ℕ) → list_all in_value (c ∷ cs) ≡ true → RunEnds (ends_quoted 34) rest → token (m.Value Double) (bytes_of (c ∷ cs) ++ rest) ≡ Some (k.Text, rest, m.Value Double)
unfolding token value_token
value_text_token c cs rest p r =
    let run = run_then in_value (ends_quoted 34) value_ignores c cs rest p r in
    let none : after (34 ∷ []) (bytes_of (c ∷ cs) ++ rest) ≡ None =
    char_bytes (λ bs. after (34 ∷ []) ((bs ++ bytes_of cs) ++ rest) ≡ None) c
    (λ l. let h = first_no_quote c (both (in_value c) (list_all in_value cs) p).0 in rw h refl)
    (λ b bs h g. let high = (both (not (ltb b 128)) (all_high bs) g).0 in let x : eqb 34 b ≡ false = grind (arith, nat_tests) in rw x refl) in
    rw (none, run) refl
