-- Texts of a tree are read again from their JSON.
use Rattle.std.proofs.Common.{◌≡◌, ◌<◌, ℕ, List, [], ◌∷◌, true, false, Option, Some, None, map, refl, ap, ◌∙◌, arith, ◌==◌, inl, inr}
use Rattle.std.specs.List.{list_all}
use Rattle.std.specs.Str.{chars}
use Rattle.std.proofs.lemmas.Bool.Decides.{nat_tests}
use Rattle.std.proofs.lemmas.Str.{chars-encodes}
use Rattle.serde_json.specs.Data as json
use Rattle.serde_json.specs.Find.{as_array}
use Rattle.serde_json.specs.View.{items_of}
use Rattle.gl_base.specs.Answers.{◌>>=◌}
use Rattle.gl_base.specs.Reading.{read_all}
use Rattle.gl_base.specs.Texts.{Text, bytes_of, is_ascii_text}
use Rattle.gl_base.proofs.Chars.{chars_of_ascii}
use Rattle.gl_ast.specs.Marks.{is_small, is_digit, starts_name, in_tag, starts_attribute, in_attribute}
use Rattle.gl_ast.specs.TokenText.{is_block_name}
use Rattle.gl_ast.proofs.Forward.{both}
use Rattle.gl_show.specs.Spellable.{is_word, is_name, is_segment, IsClassName, IsTextual}
use Rattle.gl_show.proofs.ContentTokens.{NamesTag, class_names, block_ascii}
use Rattle.gl_show.proofs.LexedExpr.{ascii_bytes}
use Rattle.gl_show.proofs.Numbers.{digits_ascii}
use Rattle.gl_show.proofs.Scanning.{one_of, name_ascii, word_low}
use Rattle.gl_wire.specs.Json.{array_of, text_json, texts_json}
use Rattle.gl_wirein.specs.Pieces.{text_in, data_of, list_in, texts_in}

-- the text is read again
abbrev pub Returns : Text → Type 0
Returns s = chars (bytes_of s) ≡ s

pub ascii_returns : (s : Text) → is_ascii_text s ≡ true → Returns s
ascii_returns s a = ap chars (ascii_bytes s a) ∙ chars_of_ascii s a

pub textual_returns : (s : Text) → IsTextual s → Returns s
textual_returns s h = chars-encodes s h

pub name_returns : (n : Text) → is_name n ≡ true → Returns n
name_returns n h = ascii_returns n (name_ascii n h)

pub at_name_returns : (n : Text) → is_name n ≡ true → Returns (64 ∷ n)
at_name_returns n h = ascii_returns (64 ∷ n) (name_ascii n h)

pub segment_returns : (n : Text) → is_segment n ≡ true → Returns n
segment_returns n w = elim (one_of (is_name n) (is_word is_digit is_digit n) w) [ inl h ↦ name_returns n h | inr h ↦ ascii_returns n (digits_ascii n h) ]

small_low : (b : ℕ) → is_small b ≡ true → b < 128
small_low b e = grind (arith, nat_tests)

tag_low : (b : ℕ) → in_tag b ≡ true → b < 128
tag_low b e = grind (arith, nat_tests)

attribute_low : (b : ℕ) → starts_attribute b ≡ true → b < 128
attribute_low b e = grind (arith, nat_tests)

in_attribute_low : (b : ℕ) → in_attribute b ≡ true → b < 128
in_attribute_low b e = grind (arith, nat_tests)

pub tag_returns : (n : Text) → is_word is_small in_tag n ≡ true → Returns n
tag_returns n h = ascii_returns n (word_low is_small in_tag small_low tag_low n h)

pub attribute_returns : (n : Text) → is_word starts_attribute in_attribute n ≡ true → Returns n
attribute_returns n h = ascii_returns n (word_low starts_attribute in_attribute attribute_low in_attribute_low n h)

names_ascii : (n : Text) → NamesTag n → is_ascii_text n ≡ true
names_ascii [] names = absurd names
names_ascii (c ∷ cs) names = names.1

pub class_returns : (c : Text) → IsClassName c → Returns c
class_returns c h = ascii_returns c (names_ascii c (class_names c h))

pub block_name_returns : (n : Text) → is_block_name n ≡ true → Returns n
block_name_returns n h = ascii_returns n (block_ascii n h)

-- a name has no `@` before it
pub first_no_at : (b : ℕ) → starts_name b ≡ true → (b == 64) ≡ false
first_no_at b e = grind (arith, nat_tests)

-- lists
pub data_of-items_of : (ds : List json.Data) → data_of (items_of ds) ≡ ds
data_of-items_of [] = refl
data_of-items_of (d ∷ ds) = ap (λ es. d ∷ es) (data_of-items_of ds)

pub list_read : (ds : List json.Data) → list_in (array_of ds) ≡ Some ds
list_read ds = ap Some (data_of-items_of ds)

pub text_read : (s : Text) → Returns s → text_in (text_json s) ≡ Some s
text_read s h = ap Some h

segments_read : (ns : List Text) → list_all is_segment ns ≡ true → read_all text_in (map text_json ns) ≡ Some ns
segments_read [] h = refl
segments_read (n ∷ ns) h =
    let k = both (is_segment n) (list_all is_segment ns) h in
    rw (segment_returns n k.0, segments_read ns k.1) refl

pub texts_read : (ns : List Text) → list_all is_segment ns ≡ true → texts_in (texts_json ns) ≡ Some ns
texts_read ns h = ap (λ (o : Option (List json.Data)). o >>= λ ds. read_all text_in ds) (list_read (map text_json ns)) ∙ segments_read ns h

pub map_itself : (ss : List Text) → map (λ s. s) ss ≡ ss
map_itself [] = refl
map_itself (s ∷ ss) = ap (λ ts. s ∷ ts) (map_itself ss)

pub ruleset list_laws = (data_of-items_of, map_itself)

-- the values of an array, seen as one
pub array_listed : (d : json.Data) (ds : json.Items) → Some ds ≡ as_array d → list_in d ≡ Some (data_of ds)
array_listed json.null ds e = cc
array_listed (json.boolean b) ds e = cc
array_listed (json.number n) ds e = cc
array_listed (json.string s) ds e = cc
array_listed (json.array es) ds e = let same : es ≡ ds = cc in ap (λ xs. Some (data_of xs)) same
array_listed (json.object ms) ds e = cc

pub array_missing : (d : json.Data) → None ≡ as_array d → list_in d ≡ None
array_missing json.null e = refl
array_missing (json.boolean b) e = refl
array_missing (json.number n) e = refl
array_missing (json.string s) e = refl
array_missing (json.array es) e = cc
array_missing (json.object ms) e = refl

pub ruleset array_laws = (array_missing, data_of-items_of)
