-- The tokens of the content, each before what may follow it.
use Rattle.std.proofs.Common.{◌≡◌, ◌<◌, ◌+◌, ℕ, suc, List, [], ◌∷◌, ◌++◌, Bool, true, false, Some, None, cond, eqb, ltb, length, take, refl, sym, ap, subst, ◌∙◌, append_assoc, arith}
use Rattle.std.specs.Prelude.{◌==◌, ◌||◌, ◌&&◌, not, codes, is_some}
use Rattle.std.specs.List.{list_all, flat_map, prefix_len}
use Rattle.std.proofs.lemmas.Bool.Decides.{nat_tests}
use Rattle.gl_base.specs.Answers.{◌>>=◌}
use Rattle.gl_base.specs.Names.{or_else, has_text}
use Rattle.gl_base.specs.Texts.{Text, bytes_of, is_ascii_text}
use Rattle.gl_ast.specs.Marks.{is_capital, is_small, in_class, in_tag, starts_name, in_name}
use Rattle.gl_ast.specs.Modes.{content_token, content_opening, token}
use Rattle.gl_ast.specs.Scans.{after, begins, from_first, after_pieces}
use Rattle.gl_ast.specs.TokenText.{ends_tag_name, end_name_of, is_block_name}
use Rattle.gl_ast.specs.Words.{after_tag, after_class, after_class_part, after_more_class, after_parts, after_element_name, after_slot_name, after_block_name, if_block, barred, after_label, after_end_tag, after_tag_opening, after_html_comment, after_long_comment, after_short_comment, after_comment, after_opening, ends_text}
use Rattle.gl_ast.specs.declared.mode.Around.TheVariants as a
use Rattle.gl_ast.specs.declared.mode.Mode.TheVariants as m
use Rattle.gl_ast.specs.declared.token.TokenKind.TheVariants as k
use Rattle.gl_ast.proofs.BlockNames.{block_whole, read_front}
use Rattle.gl_ast.proofs.Forward.{both, piece_step, piece_end}
use Rattle.gl_ast.proofs.Progress.{more_class_moves}
use Rattle.gl_show.specs.Spellable.{is_word, is_class_part, IsClassName, ends_comment}
use Rattle.gl_show.proofs.LexedExpr.{Opens, is_opener, ascii_append}
use Rattle.gl_show.proofs.Numbers.{take_front}
use Rattle.gl_show.proofs.Runs.{char_bytes, in_content, content_ignores, run_then, RunEnds}
use Rattle.gl_show.proofs.Scanning.{Stops, word_then, word_low}
use Rattle.gl_show.proofs.Strings.{all_high}

-- a text
pub text_token : (c : ℕ) (cs rest : List ℕ) → list_all in_content (c ∷ cs) ≡ true → RunEnds ends_text rest → token m.Content (bytes_of (c ∷ cs) ++ rest) ≡ Some (k.Text, rest, m.Content)
unfolding token content_token
text_token c cs rest a e = rw (run_then in_content ends_text content_ignores c cs rest a e) refl

opener_no_mark : (c : ℕ) → is_opener c ≡ true → (eqb 33 c ≡ false) × (eqb 126 c ≡ false) × (eqb 35 c ≡ false) × (eqb 47 c ≡ false)
opener_no_mark c e = (grind (arith, nat_tests), grind (arith, nat_tests), grind (arith, nat_tests), grind (arith, nat_tests))

-- the opening of a mustache
pub put_token : (rest : List ℕ) → Opens rest → token m.Content (123 ∷ 123 ∷ rest) ≡ Some (k.OpenMustache, rest, m.Mustache a.Content)
unfolding token content_token content_opening after_html_comment after_end_tag after_tag_opening after_comment after_long_comment after_short_comment after_opening
put_token [] o = absurd o
put_token (c ∷ cs) o = let h = opener_no_mark c o in let h0 = h.0 in let h1 = h.1 in let h2 = h.2 in let h3 = h.3 in rw (h0, h1, h2, h3) refl

pub block_token : (rest : List ℕ) → token m.Content (123 ∷ 123 ∷ 35 ∷ rest) ≡ Some (k.OpenBlock, rest, m.Mustache a.Content)
unfolding token content_token content_opening after_html_comment after_end_tag after_tag_opening after_comment after_long_comment after_short_comment after_opening
block_token rest = refl

pub closing_token : (rest : List ℕ) → token m.Content (123 ∷ 123 ∷ 47 ∷ rest) ≡ Some (k.OpenClosing, rest, m.Mustache a.Content)
unfolding token content_token content_opening after_html_comment after_end_tag after_tag_opening after_comment after_long_comment after_short_comment after_opening
closing_token rest = refl

-- `{{!}}`
pub silent_token : (rest : List ℕ) → token m.Content (123 ∷ 123 ∷ 33 ∷ 125 ∷ 125 ∷ rest) ≡ Some (k.MustacheComment, rest, m.Content)
unfolding token content_token content_opening after_html_comment after_end_tag after_tag_opening after_comment after_long_comment after_short_comment after_opening
silent_token rest = refl

-- where a byte of ASCII comes first
after_char : (c : ℕ) (p : List ℕ) (d : ℕ) (ds rest : List ℕ) → ltb c 128 ≡ true → after (c ∷ p) (bytes_of (d ∷ ds) ++ rest) ≡ cond (eqb c d) (after p (bytes_of ds ++ rest)) None
after_char c p d ds rest low =
    char_bytes (λ bs. after (c ∷ p) ((bs ++ bytes_of ds) ++ rest) ≡ cond (eqb c d) (after p (bytes_of ds ++ rest)) None) d
    (λ l. refl)
    (λ b bs h g.
    let high = (both (not (ltb b 128)) (all_high bs) g).0 in
    let x : eqb c b ≡ false = grind (arith, nat_tests) in
    let y : eqb c d ≡ false = grind (arith, nat_tests) in
    rw (x, y) refl)

-- the end of a comment is not found before it stands there
no_sign : (cs rest : List ℕ) → begins (codes ">") cs ≡ false → begins (codes ">") (bytes_of cs ++ (45 ∷ 45 ∷ 62 ∷ rest)) ≡ false
no_sign [] rest h = refl
no_sign (c ∷ cs) rest h = ap (λ o. is_some o) (after_char 62 [] c cs (45 ∷ 45 ∷ 62 ∷ rest) refl) ∙ sign_case (eqb 62 c) h
  where
    sign_case : (t : Bool) → is_some (cond t (Some cs) None) ≡ false → is_some (cond t (Some (bytes_of cs ++ (45 ∷ 45 ∷ 62 ∷ rest))) None) ≡ false
    sign_case true e = e
    sign_case false e = refl

no_dash : (cs rest : List ℕ) → begins (codes "->") cs ≡ false → begins (codes "->") (bytes_of cs ++ (45 ∷ 45 ∷ 62 ∷ rest)) ≡ false
no_dash [] rest h = refl
no_dash (c ∷ cs) rest h = ap (λ o. is_some o) (after_char 45 (62 ∷ []) c cs (45 ∷ 45 ∷ 62 ∷ rest) refl) ∙ dash_case (eqb 45 c) h
  where
    dash_case : (t : Bool) → is_some (cond t (after (codes ">") cs) None) ≡ false → is_some (cond t (after (codes ">") (bytes_of cs ++ (45 ∷ 45 ∷ 62 ∷ rest))) None) ≡ false
    dash_case true e = no_sign cs rest e
    dash_case false e = refl

no_end : (c : ℕ) (cs rest : List ℕ) → begins (codes "-->") (c ∷ cs) ≡ false → begins (codes "-->") (c ∷ (bytes_of cs ++ (45 ∷ 45 ∷ 62 ∷ rest))) ≡ false
no_end c cs rest h = end_case (eqb 45 c) h
  where
    end_case : (t : Bool) → is_some (cond t (after (codes "->") cs) None) ≡ false → is_some (cond t (after (codes "->") (bytes_of cs ++ (45 ∷ 45 ∷ 62 ∷ rest))) None) ≡ false
    end_case true e = no_dash cs rest e
    end_case false e = refl

neither : (x y : Bool) → (x || y) ≡ false → (x ≡ false) × (y ≡ false)
neither true y e = cc
neither false y e = (refl, e)

high_search : (bs rest : List ℕ) → all_high bs ≡ true → from_first (begins (codes "-->")) (bs ++ rest) ≡ from_first (begins (codes "-->")) rest
high_search [] rest h = refl
high_search (b ∷ bs) rest h =
    let k = both (not (ltb b 128)) (all_high bs) h in
    let high = k.0 in
    let x : eqb 45 b ≡ false = grind (arith, nat_tests) in
    rw x (high_search bs rest k.1)

comment_end : (s rest : List ℕ) → ends_comment s ≡ false → from_first (begins (codes "-->")) (bytes_of s ++ (45 ∷ 45 ∷ 62 ∷ rest)) ≡ Some (45 ∷ 45 ∷ 62 ∷ rest)
comment_end [] rest h = refl
comment_end (c ∷ cs) rest h =
    let n = neither (begins (codes "-->") (c ∷ cs)) (ends_comment cs) h in
    let more = comment_end cs rest n.1 in
    char_bytes (λ bs. from_first (begins (codes "-->")) ((bs ++ bytes_of cs) ++ (45 ∷ 45 ∷ 62 ∷ rest)) ≡ Some (45 ∷ 45 ∷ 62 ∷ rest)) c
    (λ l. let no = no_end c cs rest n.0 in ap (λ t. cond t (Some (c ∷ (bytes_of cs ++ (45 ∷ 45 ∷ 62 ∷ rest)))) (from_first (begins (codes "-->")) (bytes_of cs ++ (45 ∷ 45 ∷ 62 ∷ rest)))) no ∙ more)
    (λ b bs g k. ap (λ l. from_first (begins (codes "-->")) l) (append_assoc (b ∷ bs) (bytes_of cs) (45 ∷ 45 ∷ 62 ∷ rest)) ∙ high_search (b ∷ bs) (bytes_of cs ++ (45 ∷ 45 ∷ 62 ∷ rest)) k ∙ more)

pub comment_token : (s rest : List ℕ) → ends_comment s ≡ false → token m.Content (60 ∷ 33 ∷ 45 ∷ 45 ∷ (bytes_of s ++ (45 ∷ 45 ∷ 62 ∷ rest))) ≡ Some (k.HtmlComment, rest, m.Content)
unfolding token content_token after_html_comment
comment_token s rest h = rw (comment_end s rest h) refl

-- what a tag names, before what may follow it
abbrev pub goes_on_name : ℕ → Bool
goes_on_name b = in_tag b || in_name b || b == 58

-- no `!` and no `/`
abbrev begins_label : ℕ → Bool
begins_label b = not (b == 33) && not (b == 47)

abbrev pub NamesTag : Text → Type 0
NamesTag [] = ⊥
NamesTag (c ∷ cs) = ((rest : List ℕ) → Stops goes_on_name rest → after_label (c ∷ (cs ++ rest)) ≡ Some rest) × (is_ascii_text (c ∷ cs) ≡ true) × (begins_label c ≡ true) × (list_all (λ b. not (ends_tag_name b)) (c ∷ cs) ≡ true)

stops_as : (p q : ℕ → Bool) → ((b : ℕ) → p b ≡ false → q b ≡ false) → (rest : List ℕ) → Stops p rest → Stops q rest
stops_as p q h [] s = tt
stops_as p q h (b ∷ bs) s = h b s

all_as : (p q : ℕ → Bool) → ((b : ℕ) → p b ≡ true → q b ≡ true) → (cs : List ℕ) → list_all p cs ≡ true → list_all q cs ≡ true
all_as p q h [] a = refl
all_as p q h (c ∷ cs) a = let k = both (p c) (list_all p cs) a in let n = h c k.0 in rw n (all_as p q h cs k.1)

pub small_low : (b : ℕ) → is_small b ≡ true → b < 128
small_low b e = grind (arith, nat_tests)

pub tag_low : (b : ℕ) → in_tag b ≡ true → b < 128
tag_low b e = grind (arith, nat_tests)

capital_low : (b : ℕ) → is_capital b ≡ true → b < 128
capital_low b e = grind (arith, nat_tests)

class_low : (b : ℕ) → in_class b ≡ true → b < 128
class_low b e = grind (arith, nat_tests)

no_tag : (b : ℕ) → goes_on_name b ≡ false → in_tag b ≡ false
no_tag b e = grind (arith, nat_tests)

no_class : (b : ℕ) → goes_on_name b ≡ false → in_class b ≡ false
no_class b e = grind (arith, nat_tests)

small_begins : (b : ℕ) → is_small b ≡ true → begins_label b ≡ true
small_begins b e = grind (arith, nat_tests)

capital_begins : (b : ℕ) → is_capital b ≡ true → begins_label b ≡ true
capital_begins b e = grind (arith, nat_tests)

small_kept : (b : ℕ) → is_small b ≡ true → not (ends_tag_name b) ≡ true
small_kept b e = grind (arith, nat_tests)

tag_kept : (b : ℕ) → in_tag b ≡ true → not (ends_tag_name b) ≡ true
tag_kept b e = grind (arith, nat_tests)

capital_kept : (b : ℕ) → is_capital b ≡ true → not (ends_tag_name b) ≡ true
capital_kept b e = grind (arith, nat_tests)

class_kept : (b : ℕ) → in_class b ≡ true → not (ends_tag_name b) ≡ true
class_kept b e = grind (arith, nat_tests)

capital_not_small : (b : ℕ) → is_capital b ≡ true → is_small b ≡ false
capital_not_small b e = grind (arith, nat_tests)

word_as : (first more q : ℕ → Bool) → ((b : ℕ) → first b ≡ true → q b ≡ true) → ((b : ℕ) → more b ≡ true → q b ≡ true) → (cs : List ℕ) → is_word first more cs ≡ true → list_all q cs ≡ true
word_as first more q h g [] w = cc
word_as first more q h g (c ∷ cs) w = let k = both (first c) (list_all more cs) w in let n = h c k.0 in rw n (all_as more q g cs k.1)

pub tag_names : (tag : Text) → is_word is_small in_tag tag ≡ true → NamesTag tag
unfolding after_label after_element_name
tag_names [] w = cc
tag_names (c ∷ cs) w =
    let k = both (is_small c) (list_all in_tag cs) w in (
      λ rest s. ap (λ o. or_else (or_else o (after_class (c ∷ (cs ++ rest)))) (after_slot_name (c ∷ (cs ++ rest)))) (word_then is_small in_tag (c ∷ cs) rest w (stops_as goes_on_name in_tag no_tag rest s)),
      word_low is_small in_tag small_low tag_low (c ∷ cs) w,
      small_begins c k.0,
      word_as is_small in_tag (λ b. not (ends_tag_name b)) small_kept tag_kept (c ∷ cs) w,
    )

-- further parts of a class name
abbrev pub class_rest : List Text → Text
class_rest ps = flat_map (λ q. 58 ∷ 58 ∷ q) ps

class_stops : (ps : List Text) (rest : List ℕ) → Stops goes_on_name rest → Stops in_class (class_rest ps ++ rest)
class_stops [] rest s = stops_as goes_on_name in_class no_class rest s
class_stops (p ∷ ps) rest s = refl

no_more_class : (rest : List ℕ) → Stops goes_on_name rest → after_more_class rest ≡ None
unfolding after_more_class
no_more_class [] s = refl
no_more_class (b ∷ bs) s = let h : eqb 58 b ≡ false = grind (arith, nat_tests) in rw h refl

more_class_then : (p rest : List ℕ) → is_class_part p ≡ true → Stops in_class rest → after_more_class (58 ∷ 58 ∷ (p ++ rest)) ≡ Some rest
unfolding after_more_class
more_class_then p rest w s = word_then is_capital in_class p rest w s

classes_then : (ps : List Text) (rest : List ℕ) → list_all is_class_part ps ≡ true → Stops goes_on_name rest → after_pieces after_more_class 0 (class_rest ps ++ rest) ≡ rest
classes_then [] rest w s = piece_end after_more_class rest (no_more_class rest s)
classes_then (p ∷ ps) rest w s =
    let h = both (is_class_part p) (list_all is_class_part ps) w in
    let e : (58 ∷ 58 ∷ p ++ class_rest ps) ++ rest ≡ 58 ∷ 58 ∷ (p ++ (class_rest ps ++ rest)) = ap (λ l. 58 ∷ 58 ∷ l) (append_assoc p (class_rest ps) rest) in
    let one = more_class_then p (class_rest ps ++ rest) h.0 (class_stops ps rest s) in
    ap (λ l. after_pieces after_more_class 0 l) e
    ∙ piece_step after_more_class (58 ∷ 58 ∷ (p ++ (class_rest ps ++ rest))) (class_rest ps ++ rest) one (more_class_moves (58 ∷ 58 ∷ (p ++ (class_rest ps ++ rest))) (class_rest ps ++ rest) one)
    ∙ classes_then ps rest h.1 s

all_join : (q : ℕ → Bool) (xs ys : List ℕ) → list_all q xs ≡ true → list_all q ys ≡ true → list_all q (xs ++ ys) ≡ true
all_join q [] ys a b = b
all_join q (x ∷ xs) ys a b = let h = both (q x) (list_all q xs) a in let n : q x ≡ true = h.0 in rw n (all_join q xs ys h.1 b)

class_ascii : (ps : List Text) → list_all is_class_part ps ≡ true → is_ascii_text (class_rest ps) ≡ true
class_ascii [] w = refl
class_ascii (p ∷ ps) w = let h = both (is_class_part p) (list_all is_class_part ps) w in ascii_append p (class_rest ps) (word_low is_capital in_class capital_low class_low p h.0) (class_ascii ps h.1)

class_all_kept : (ps : List Text) → list_all is_class_part ps ≡ true → list_all (λ b. not (ends_tag_name b)) (class_rest ps) ≡ true
class_all_kept [] w = refl
class_all_kept (p ∷ ps) w = let h = both (is_class_part p) (list_all is_class_part ps) w in all_join (λ b. not (ends_tag_name b)) p (class_rest ps) (word_as is_capital in_class (λ b. not (ends_tag_name b)) capital_kept class_kept p h.0) (class_all_kept ps h.1)

part_names : (p : Text) (ps : List Text) → is_class_part p ≡ true → list_all is_class_part ps ≡ true → NamesTag (p ++ class_rest ps)
unfolding after_label after_element_name after_class
part_names [] ps w ws = cc
part_names (c ∷ cs) ps w ws =
    let k = both (is_capital c) (list_all in_class cs) w in
    let small = capital_not_small c k.0 in (
      λ rest s.
          let no : after_tag (c ∷ ((cs ++ class_rest ps) ++ rest)) ≡ None = rw small refl in
          ap (λ o. or_else o (after_slot_name (c ∷ ((cs ++ class_rest ps) ++ rest))))
          (ap (λ o. or_else o (after_class_part (c ∷ ((cs ++ class_rest ps) ++ rest)) >>= after_parts)) no
          ∙ ap (λ l. after_class_part (c ∷ l) >>= after_parts) (append_assoc cs (class_rest ps) rest)
          ∙ ap (λ o. o >>= after_parts) (word_then is_capital in_class (c ∷ cs) (class_rest ps ++ rest) w (class_stops ps rest s))
          ∙ ap Some (classes_then ps rest ws s)),
      ascii_append (c ∷ cs) (class_rest ps) (word_low is_capital in_class capital_low class_low (c ∷ cs) w) (class_ascii ps ws),
      capital_begins c k.0,
      all_join (λ b. not (ends_tag_name b)) (c ∷ cs) (class_rest ps) (word_as is_capital in_class (λ b. not (ends_tag_name b)) capital_kept class_kept (c ∷ cs) w) (class_all_kept ps ws),
    )

pub class_names : (c : Text) → IsClassName c → NamesTag c
class_names c is = subst (λ (n : Text). NamesTag n) (sym is.4) (part_names is.0 is.1 is.2 is.3)

-- a block that is passed
name_low : (b : ℕ) → starts_name b ≡ true → b < 128
name_low b e = grind (arith, nat_tests)

in_name_low : (b : ℕ) → in_name b ≡ true → b < 128
in_name_low b e = grind (arith, nat_tests)

name_kept : (b : ℕ) → starts_name b ≡ true → not (ends_tag_name b) ≡ true
name_kept b e = grind (arith, nat_tests)

in_name_kept : (b : ℕ) → in_name b ≡ true → not (ends_tag_name b) ≡ true
in_name_kept b e = grind (arith, nat_tests)

no_name : (b : ℕ) → goes_on_name b ≡ false → in_name b ≡ false
no_name b e = grind (arith, nat_tests)

block_word : (n : Text) → is_block_name n ≡ true → (is_word starts_name in_name n ≡ true) × (has_text n barred ≡ false)
block_word [] b = let r : ⊥ = cc in absurd r
block_word (c ∷ cs) b = let k = both (starts_name c && list_all in_name cs) (not (has_text (c ∷ cs) barred)) b in (k.0, is_false (has_text (c ∷ cs) barred) k.1)
  where
    is_false : (t : Bool) → not t ≡ true → t ≡ false
    is_false true e = cc
    is_false false e = refl

block_then : (n rest : List ℕ) → is_block_name n ≡ true → Stops in_name rest → after_block_name (n ++ rest) ≡ Some rest
unfolding after_block_name
block_then n rest b s =
    let w = block_word n b in
    ap (λ o. o >>= if_block (n ++ rest)) (word_then starts_name in_name n rest w.0 s) ∙ block_whole (n ++ rest) rest (ap (λ l. has_text l barred) (read_front n rest) ∙ w.1)

pub block_ascii : (n : Text) → is_block_name n ≡ true → is_ascii_text n ≡ true
block_ascii n b = word_low starts_name in_name name_low in_name_low n (block_word n b).0

-- its first letter goes on with a name too
pub block_in_name : (n : Text) → is_block_name n ≡ true → list_all in_name n ≡ true
block_in_name n b = word_as starts_name in_name in_name name_in (λ c e. e) n (block_word n b).0
  where
    name_in : (c : ℕ) → starts_name c ≡ true → in_name c ≡ true
    name_in c e = grind (arith, nat_tests)

pub block_names : (n : Text) → is_block_name n ≡ true → NamesTag (58 ∷ n)
unfolding after_label after_element_name after_class after_slot_name
block_names n b =
    let w = block_word n b in
    let low : is_ascii_text n ≡ true = block_ascii n b in
    let kept : list_all (λ c. not (ends_tag_name c)) n ≡ true = word_as starts_name in_name (λ c. not (ends_tag_name c)) name_kept in_name_kept n w.0 in
    (λ rest s. block_then n rest b (stops_as goes_on_name in_name no_name rest s), low, refl, kept)

begins_no_mark : (b : ℕ) → begins_label b ≡ true → (eqb 33 b ≡ false) × (eqb 47 b ≡ false)
begins_no_mark b e = (grind (arith, nat_tests), grind (arith, nat_tests))

-- `<` and a name
pub opening_token : (c : ℕ) (cs rest : List ℕ) → NamesTag (c ∷ cs) → Stops goes_on_name rest → token m.Content (60 ∷ c ∷ (cs ++ rest)) ≡ Some (k.TagOpening, rest, m.Tag)
unfolding token content_token after_html_comment after_end_tag after_tag_opening
opening_token c cs rest n s = let h = begins_no_mark c n.2 in let h0 = h.0 in let h1 = h.1 in rw (h0, h1, n.0 rest s) refl

-- an end tag
pub end_token : (c : ℕ) (cs rest : List ℕ) → NamesTag (c ∷ cs) → token m.Content (60 ∷ 47 ∷ c ∷ (cs ++ (62 ∷ rest))) ≡ Some (k.EndTag, rest, m.Content)
unfolding token content_token after_html_comment after_end_tag
end_token c cs rest n = rw (n.0 (62 ∷ rest) refl) refl

prefix_all : (p : ℕ → Bool) (cs rest : List ℕ) → list_all p cs ≡ true → Stops p rest → prefix_len p (cs ++ rest) ≡ length cs
prefix_all p [] [] a s = refl
prefix_all p [] (b ∷ bs) a s = rw s refl
prefix_all p (c ∷ cs) rest a s = let h = both (p c) (list_all p cs) a in let k : p c ≡ true = h.0 in let e = prefix_all p cs rest h.1 s in let f : 1 + prefix_len p (cs ++ rest) ≡ suc (length cs) = omega arith in rw k f

-- and its name
pub end_name : (n : Text) → list_all (λ b. not (ends_tag_name b)) n ≡ true → end_name_of (60 ∷ 47 ∷ (n ++ 62 ∷ [])) ≡ n
end_name n a = ap (λ k. take k (n ++ 62 ∷ [])) (prefix_all (λ b. not (ends_tag_name b)) n (62 ∷ []) a refl) ∙ take_front n (62 ∷ [])
