-- Scans over what was written: a word, then what ends it.
use Rattle.std.proofs.Common.{◌≡◌, ◌<◌, ◌⊎◌, inl, inr, ℕ, List, [], ◌∷◌, ◌++◌, Bool, true, false, Some, None, cond, refl, ap, ◌∙◌, append_assoc, arith, eqb, ltb}
use Rattle.std.specs.Prelude.{◌||◌, ◌==◌, codes}
use Rattle.std.specs.List.{list_all}
use Rattle.std.proofs.lemmas.Bool.Decides.{nat_tests}
use Rattle.std.proofs.lemmas.Str.{encode_ascii}
use Rattle.gl_base.specs.Answers.{◌>>=◌}
use Rattle.gl_base.specs.Names.{or_else}
use Rattle.gl_base.specs.Texts.{bytes_of, is_ascii_text}
use Rattle.gl_ast.specs.Canon.{segments_text}
use Rattle.gl_ast.specs.Marks.{is_white, is_digit, starts_name, in_name}
use Rattle.gl_ast.specs.Scans.{after, after_all, after_word, after_pieces}
use Rattle.gl_ast.specs.Words.{after_space, after_name, after_digits, after_member, after_argument, after_head, after_segment, after_segments, after_path, after_names, after_parameters}
use Rattle.gl_ast.proofs.Forward.{both, low_byte, piece_step, piece_end}
use Rattle.gl_ast.proofs.Progress.{segment_moves}
use Rattle.gl_show.specs.Spellable.{is_word, is_name, is_segment}

pub one_of : (x y : Bool) → (x || y) ≡ true → (x ≡ true) ⊎ (y ≡ true)
one_of true y e = inl refl
one_of false y e = inr e

-- the test fails at the first byte, if there is one
abbrev pub Stops : (ℕ → Bool) → List ℕ → Type 0
Stops p [] = Unit {0}
Stops p (b ∷ bs) = p b ≡ false

pub all_then : (p : ℕ → Bool) (cs rest : List ℕ) → list_all p cs ≡ true → Stops p rest → after_all p (cs ++ rest) ≡ rest
all_then p [] [] a s = refl
all_then p [] (b ∷ rest) a s = rw s refl
all_then p (c ∷ cs) rest a s = let h = both (p c) (list_all p cs) a in let k : p c ≡ true = h.0 in rw k (all_then p cs rest h.1 s)

pub word_then : (first more : ℕ → Bool) (cs rest : List ℕ) → is_word first more cs ≡ true → Stops more rest → after_word first more (cs ++ rest) ≡ Some rest
word_then first more [] rest w s = cc
word_then first more (c ∷ cs) rest w s = let h = both (first c) (list_all more cs) w in let k : first c ≡ true = h.0 in rw k (ap Some (all_then more cs rest h.1 s))

-- the bytes of ASCII are its characters
pub bytes_then : (cs ds : List ℕ) → is_ascii_text cs ≡ true → bytes_of (cs ++ ds) ≡ cs ++ bytes_of ds
bytes_then [] ds a = refl
bytes_then (c ∷ cs) ds a =
    let h = both (ltb c 128) (is_ascii_text cs) a in
    ap (λ l. l ++ bytes_of (cs ++ ds)) (encode_ascii c (low_byte c h.0)) ∙ ap (λ l. c ∷ l) (bytes_then cs ds h.1)

pub all_low : (p : ℕ → Bool) → ((b : ℕ) → p b ≡ true → b < 128) → (cs : List ℕ) → list_all p cs ≡ true → is_ascii_text cs ≡ true
all_low p low [] a = refl
all_low p low (c ∷ cs) a =
    let h = both (p c) (list_all p cs) a in
    let k : ltb c 128 ≡ true = (let l = low c h.0 in grind (arith, nat_tests)) in
    rw k (all_low p low cs h.1)

pub word_low : (first more : ℕ → Bool) → ((b : ℕ) → first b ≡ true → b < 128) → ((b : ℕ) → more b ≡ true → b < 128) → (cs : List ℕ) → is_word first more cs ≡ true → is_ascii_text cs ≡ true
word_low first more low lows [] w = cc
word_low first more low lows (c ∷ cs) w =
    let h = both (first c) (list_all more cs) w in
    let k : ltb c 128 ≡ true = (let l = low c h.0 in grind (arith, nat_tests)) in
    rw k (all_low more lows cs h.1)

-- characters of a path after its first
abbrev pub in_path : ℕ → Bool
in_path b = in_name b || b == 46

name_low : (b : ℕ) → starts_name b ≡ true → b < 128
name_low b e = grind (arith, nat_tests)

in_name_low : (b : ℕ) → in_name b ≡ true → b < 128
in_name_low b e = grind (arith, nat_tests)

digit_low : (b : ℕ) → is_digit b ≡ true → b < 128
digit_low b e = grind (arith, nat_tests)

pub name_ascii : (n : List ℕ) → is_name n ≡ true → is_ascii_text n ≡ true
name_ascii n w = word_low starts_name in_name name_low in_name_low n w

stops_weaker : (p q : ℕ → Bool) → ((b : ℕ) → p b ≡ false → q b ≡ false) → (rest : List ℕ) → Stops p rest → Stops q rest
stops_weaker p q h [] s = tt
stops_weaker p q h (b ∷ bs) s = h b s

path_name : (b : ℕ) → in_path b ≡ false → in_name b ≡ false
path_name b e = grind (arith, nat_tests)

name_digit : (b : ℕ) → in_name b ≡ false → is_digit b ≡ false
name_digit b e = grind (arith, nat_tests)

pub stops_name : (rest : List ℕ) → Stops in_path rest → Stops in_name rest
stops_name rest s = stops_weaker in_path in_name path_name rest s

pub stops_digit : (rest : List ℕ) → Stops in_name rest → Stops is_digit rest
stops_digit rest s = stops_weaker in_name is_digit name_digit rest s

digit_name : (b : ℕ) → is_digit b ≡ true → starts_name b ≡ false
digit_name b e = grind (arith, nat_tests)

digits_no_name : (s rest : List ℕ) → is_word is_digit is_digit s ≡ true → after_name (s ++ rest) ≡ None
digits_no_name [] rest w = cc
digits_no_name (c ∷ cs) rest w = let h = digit_name c (both (is_digit c) (list_all is_digit cs) w).0 in rw h refl

member_then : (s rest : List ℕ) → is_segment s ≡ true → Stops in_name rest → after_member (s ++ rest) ≡ Some rest
member_then s rest w t = elim (one_of (is_name s) (is_word is_digit is_digit s) w) [
  | inl h ↦ ap (λ o. or_else o (after_digits (s ++ rest))) (word_then starts_name in_name s rest h t)
  | inr h ↦ ap (λ o. or_else o (after_digits (s ++ rest))) (digits_no_name s rest h) ∙ word_then is_digit is_digit s rest h (stops_digit rest t)
]

segment_then : (s rest : List ℕ) → is_segment s ≡ true → Stops in_name rest → after_segment (46 ∷ (s ++ rest)) ≡ Some rest
unfolding after_segment
segment_then s rest w t = member_then s rest w t

no_segment : (rest : List ℕ) → Stops in_path rest → after_segment rest ≡ None
unfolding after_segment
no_segment [] s = refl
no_segment (b ∷ bs) s = let h : eqb 46 b ≡ false = grind (arith, nat_tests) in rw h refl

pub segments_stop : (ns : List (List ℕ)) (rest : List ℕ) → Stops in_path rest → Stops in_name (segments_text ns ++ rest)
segments_stop [] rest s = stops_name rest s
segments_stop (n ∷ ns) rest s = refl

segments_then : (ns : List (List ℕ)) (rest : List ℕ) → list_all is_segment ns ≡ true → Stops in_path rest → after_pieces after_segment 0 (segments_text ns ++ rest) ≡ rest
segments_then [] rest w s = piece_end after_segment rest (no_segment rest s)
segments_then (n ∷ ns) rest w s =
    let h = both (is_segment n) (list_all is_segment ns) w in
    let e : (46 ∷ n ++ segments_text ns) ++ rest ≡ 46 ∷ (n ++ (segments_text ns ++ rest)) = ap (λ l. 46 ∷ l) (append_assoc n (segments_text ns) rest) in
    let one = segment_then n (segments_text ns ++ rest) h.0 (segments_stop ns rest s) in
    ap (λ l. after_pieces after_segment 0 l) e
    ∙ piece_step after_segment (46 ∷ (n ++ (segments_text ns ++ rest))) (segments_text ns ++ rest) one (segment_moves (46 ∷ (n ++ (segments_text ns ++ rest))) (segments_text ns ++ rest) one)
    ∙ segments_then ns rest h.1 s

name_no_at : (b : ℕ) → starts_name b ≡ true → eqb 64 b ≡ false
name_no_at b e = grind (arith, nat_tests)

no_argument : (n rest : List ℕ) → is_name n ≡ true → after_argument (n ++ rest) ≡ None
unfolding after_argument
no_argument [] rest w = cc
no_argument (c ∷ cs) rest w = let h = name_no_at c (both (starts_name c) (list_all in_name cs) w).0 in rw h refl

-- a path, and what follows it
pub path_then : (n : List ℕ) (ns : List (List ℕ)) (rest : List ℕ) → is_name n ≡ true → list_all is_segment ns ≡ true → Stops in_path rest → after_path (n ++ (segments_text ns ++ rest)) ≡ Some rest
unfolding after_path after_head
path_then n ns rest w ws s =
    ap (λ o. or_else o (after_name (n ++ (segments_text ns ++ rest))) >>= after_segments) (no_argument n (segments_text ns ++ rest) w)
    ∙ ap (λ o. o >>= after_segments) (word_then starts_name in_name n (segments_text ns ++ rest) w (segments_stop ns rest s))
    ∙ ap Some (segments_then ns rest ws s)

pub argument_then : (n : List ℕ) (ns : List (List ℕ)) (rest : List ℕ) → is_name n ≡ true → list_all is_segment ns ≡ true → Stops in_path rest → after_path (64 ∷ (n ++ (segments_text ns ++ rest))) ≡ Some rest
unfolding after_path after_head after_argument
argument_then n ns rest w ws s =
    ap (λ o. or_else o (after_name (64 ∷ (n ++ (segments_text ns ++ rest)))) >>= after_segments) (word_then starts_name in_name n (segments_text ns ++ rest) w (segments_stop ns rest s))
    ∙ ap Some (segments_then ns rest ws s)

-- no `|` comes next, after white space
abbrev pub NoBar : List ℕ → Type 0
NoBar rest = (after_space rest >>= after (codes "|")) ≡ None

name_no_white : (b : ℕ) → in_name b ≡ true → is_white b ≡ false
name_no_white b e = grind (arith, nat_tests)

-- what follows `as`, in a word of such characters
after_as : (more : ℕ → Bool) → ((b : ℕ) → more b ≡ true → is_white b ≡ false) → (ds rest : List ℕ) → list_all more ds ≡ true → NoBar rest → (after_space (ds ++ rest) >>= after (codes "|")) ≡ None
after_as more white [] rest w bar = bar
after_as more white (d ∷ ds) rest w bar = let h = white d (both (more d) (list_all more ds) w).0 in rw h refl

other_than : (more : ℕ → Bool) (n b : ℕ) (t : Bool) → eqb n b ≡ t → more n ≡ true → more b ≡ false → t ≡ false
other_than more n b true e h g = let same : n ≡ b = grind (arith, nat_tests) in let k = ap more same in cc
other_than more n b false e h g = refl

stop_s : (more : ℕ → Bool) → more 115 ≡ true → (rest : List ℕ) → Stops more rest → after (codes "s") rest ≡ None
stop_s more in_s [] s = refl
stop_s more in_s (b ∷ bs) s = let h : eqb 115 b ≡ false = other_than more 115 b (eqb 115 b) refl in_s s in rw h refl

after_a : (more : ℕ → Bool) → ((b : ℕ) → more b ≡ true → is_white b ≡ false) → more 115 ≡ true → (ds rest : List ℕ) → list_all more ds ≡ true → Stops more rest → NoBar rest → (after (codes "s") (ds ++ rest) >>= after_space >>= after (codes "|")) ≡ None
after_a more white in_s [] rest w s bar = ap (λ o. o >>= after_space >>= after (codes "|")) (stop_s more in_s rest s)
after_a more white in_s (d ∷ ds) rest w s bar = s_case (eqb 115 d) d ds rest (after_as more white ds rest (both (more d) (list_all more ds) w).1 bar)
  where
    s_case : (t : Bool) (d : ℕ) (ds rest : List ℕ) → (after_space (ds ++ rest) >>= after (codes "|")) ≡ None → (cond t (Some (ds ++ rest)) None >>= after_space >>= after (codes "|")) ≡ None
    s_case true d ds rest h = h
    s_case false d ds rest h = refl

-- a word is no front of parameters
pub word_no_parameters : (first more : ℕ → Bool) → ((b : ℕ) → more b ≡ true → is_white b ≡ false) → more 115 ≡ true → (n rest : List ℕ) → is_word first more n ≡ true → Stops more rest → NoBar rest → after_parameters (n ++ rest) ≡ None
unfolding after_parameters
word_no_parameters first more white in_s [] rest w s bar = cc
word_no_parameters first more white in_s (c ∷ cs) rest w s bar = a_case (eqb 97 c) cs rest (after_a more white in_s cs rest (both (first c) (list_all more cs) w).1 s bar)
  where
    a_case : (t : Bool) (cs rest : List ℕ) → (after (codes "s") (cs ++ rest) >>= after_space >>= after (codes "|")) ≡ None → (cond t (after (codes "s") (cs ++ rest)) None >>= after_space >>= after (codes "|") >>= after_names >>= after (codes "|")) ≡ None
    a_case true cs rest h = ap (λ o. o >>= after_names >>= after (codes "|")) h
    a_case false cs rest h = refl

pub no_parameters : (n rest : List ℕ) → is_name n ≡ true → Stops in_name rest → NoBar rest → after_parameters (n ++ rest) ≡ None
no_parameters n rest w s bar = word_no_parameters starts_name in_name name_no_white refl n rest w s bar
