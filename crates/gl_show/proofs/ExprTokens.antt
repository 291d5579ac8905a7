-- The tokens of an expression, each before what may follow it.
use Rattle.std.proofs.Common.{◌≡◌, ℕ, List, [], ◌∷◌, ◌++◌, true, false, Some, None, eqb, refl, ap, arith}
use Rattle.std.specs.Prelude.{nat_le}
use Rattle.std.specs.List.{list_all, flat_map}
use Rattle.std.proofs.lemmas.Bool.Decides.{nat_tests}
use Rattle.gl_base.specs.Names.{or_else}
use Rattle.gl_base.specs.Texts.{bytes_of}
use Rattle.gl_ast.specs.Canon.{segments_text, string_char}
use Rattle.gl_ast.specs.Marks.{is_digit, starts_name}
use Rattle.gl_ast.specs.Modes.{Found, found, expression_token, expression_mark, mustache_token, token, skips_white, spaced, after_around}
use Rattle.gl_ast.specs.Words.{after_argument, after_head, after_path, after_parameters, after_number, after_natural, after_string, after_mustache, greatest}
use Rattle.gl_ast.specs.declared.mode.Around.{Around}
use Rattle.gl_ast.specs.declared.mode.Mode.{Mode}
use Rattle.gl_ast.specs.declared.mode.Mode.TheVariants as m
use Rattle.gl_ast.specs.declared.token.TokenKind.TheVariants as k
use Rattle.gl_ast.proofs.Forward.{both}
use Rattle.gl_show.specs.Marking.{last_is}
use Rattle.gl_show.specs.Spellable.{is_name, is_segment}
use Rattle.gl_show.proofs.Scanning.{Stops, NoBar, in_path, path_then, argument_then, no_parameters, stops_name, segments_stop}
use Rattle.gl_show.proofs.Numbers.{IsNumber, number_then, minus_then}
use Rattle.gl_show.proofs.Strings.{string_then}

-- a mode in which expressions are read
abbrev pub ReadsExprs : Mode → Type 0
ReadsExprs mode = (skips_white mode ≡ true) × (spaced mode ≡ mode) × ((bs : List ℕ) (f : Found) → expression_token mode bs ≡ Some f → token mode bs ≡ Some f)

pub in_mustache : (around : Around) → ReadsExprs (m.Mustache around)
unfolding token mustache_token
in_mustache around = (refl, refl, λ bs f e. ap (λ o. or_else o (found k.CloseMustache (after_around around) (after_mustache bs))) e)

pub alone : ReadsExprs m.Expression
unfolding token
alone = (refl, refl, λ bs f e. e)

-- what may follow a word of an expression
abbrev pub Breaks : List ℕ → Type 0
Breaks rest = Stops in_path rest × NoBar rest

segments_no_bar : (ns : List (List ℕ)) (rest : List ℕ) → NoBar rest → NoBar (segments_text ns ++ rest)
segments_no_bar [] rest b = b
segments_no_bar (n ∷ ns) rest b = refl

pub path_token : (mode : Mode) (n : List ℕ) (ns : List (List ℕ)) (rest : List ℕ) → is_name n ≡ true → list_all is_segment ns ≡ true → Breaks rest
    → expression_token mode (n ++ (segments_text ns ++ rest)) ≡ Some (k.Path, rest, mode)
unfolding expression_token
path_token mode n ns rest w ws b =
    rw (no_parameters n (segments_text ns ++ rest) w (segments_stop ns rest b.0) (segments_no_bar ns rest b.1), path_then n ns rest w ws b.0) refl

pub argument_token : (mode : Mode) (n : List ℕ) (ns : List (List ℕ)) (rest : List ℕ) → is_name n ≡ true → list_all is_segment ns ≡ true → Breaks rest
    → expression_token mode (64 ∷ (n ++ (segments_text ns ++ rest))) ≡ Some (k.Path, rest, mode)
unfolding expression_token after_parameters
argument_token mode n ns rest w ws b = rw (argument_then n ns rest w ws b.0) refl

digit_no_a : (b : ℕ) → is_digit b ≡ true → (eqb 97 b ≡ false) × (eqb 64 b ≡ false) × (starts_name b ≡ false)
digit_no_a b e = (grind (arith, nat_tests), grind (arith, nat_tests), grind (arith, nat_tests))

no_path : (b : ℕ) (bs : List ℕ) → is_digit b ≡ true → (after_parameters (b ∷ bs) ≡ None) × (after_path (b ∷ bs) ≡ None)
unfolding after_parameters after_path after_head after_argument
no_path b bs e = let h = digit_no_a b e in let h0 = h.0 in let h1 = h.1 in let h2 = h.2 in (rw h0 refl, rw (h1, h2) refl)

pub number_token : (mode : Mode) (n : ℕ) (ds rest : List ℕ) → IsNumber n ds → nat_le n greatest ≡ true → Breaks rest → expression_token mode (ds ++ rest) ≡ Some (k.Number, rest, mode)
unfolding expression_token
number_token mode n [] rest is h b = let w = is.0 in cc
number_token mode n (c ∷ cs) rest is h b =
    let d = (both (is_digit c) (list_all is_digit cs) is.0).0 in
    let none = no_path c (cs ++ rest) d in
    rw (none.0, none.1, number_then n (c ∷ cs) rest is h (stops_name rest b.0)) refl

pub minus_token : (mode : Mode) (n : ℕ) (ds rest : List ℕ) → IsNumber n ds → nat_le n greatest ≡ true → Breaks rest → expression_token mode (45 ∷ (ds ++ rest)) ≡ Some (k.Number, rest, mode)
unfolding expression_token after_parameters after_path after_head after_argument
minus_token mode n ds rest is h b = rw (minus_then n ds rest is h (stops_name rest b.0)) refl

pub string_token : (mode : Mode) (s rest : List ℕ) → last_is false s ≡ false → expression_token mode (34 ∷ (bytes_of (flat_map string_char s) ++ 34 ∷ rest)) ≡ Some (k.StringLit, rest, mode)
unfolding expression_token after_parameters after_path after_head after_argument after_number after_natural
string_token mode s rest h = rw (string_then s rest h) refl

pub open_token : (mode : Mode) (rest : List ℕ) → expression_token mode (40 ∷ rest) ≡ Some (k.OpenParen, rest, mode)
unfolding expression_token expression_mark after_parameters after_path after_head after_argument after_number after_natural after_string
open_token mode rest = refl

pub close_token : (mode : Mode) (rest : List ℕ) → expression_token mode (41 ∷ rest) ≡ Some (k.CloseParen, rest, mode)
unfolding expression_token expression_mark after_parameters after_path after_head after_argument after_number after_natural after_string
close_token mode rest = refl

pub equals_token : (mode : Mode) (rest : List ℕ) → expression_token mode (61 ∷ rest) ≡ Some (k.Equals, rest, mode)
unfolding expression_token expression_mark after_parameters after_path after_head after_argument after_number after_natural after_string
equals_token mode rest = refl

-- the end of a mustache
pub mustache_end : (around : Around) (rest : List ℕ) → token (m.Mustache around) (125 ∷ 125 ∷ rest) ≡ Some (k.CloseMustache, rest, after_around around)
unfolding token mustache_token expression_token expression_mark after_parameters after_path after_head after_argument after_number after_natural after_string after_mustache
mustache_end around rest = refl
