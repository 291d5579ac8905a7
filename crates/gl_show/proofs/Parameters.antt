-- Parameters are read as they were.
use Rattle.std.proofs.Common.{◌≡◌, ℕ, List, [], ◌∷◌, ◌++◌, Bool, true, false, Some, None, cond, length, refl, sym, ap, ◌∙◌, append_assoc, append-nil, arith}
use Rattle.std.specs.Prelude.{◌==◌, not, codes, nat_lt, filter}
use Rattle.std.specs.List.{list_all, flat_map}
use Rattle.std.proofs.lemmas.Bool.Decides.{nat_tests}
use Rattle.gl_base.specs.Answers.{◌>>=◌}
use Rattle.gl_base.specs.Names.{has_text}
use Rattle.gl_base.specs.Texts.{Text, is_ascii_text}
use Rattle.gl_ast.specs.Canon.{names_text, parameters_text}
use Rattle.gl_ast.specs.Marks.{is_white, starts_name, in_name}
use Rattle.gl_ast.specs.Scans.{after, begins, after_all, after_pieces}
use Rattle.gl_ast.specs.TokenText.{is_free, pieces, add_first, words, up_to, parameters_of}
use Rattle.gl_ast.specs.Words.{reserved, if_free, after_white, after_free_name, after_spaced_name, after_more_names, after_names, after_parameters}
use Rattle.gl_ast.proofs.Forward.{both, piece_step, piece_end}
use Rattle.gl_ast.proofs.Progress.{spaced_name_moves}
use Rattle.gl_show.specs.Spellable.{is_name, IsFreeName, AreFreeNames}
use Rattle.gl_show.proofs.LexedExpr.{ascii_append}
use Rattle.gl_show.proofs.Numbers.{part_read}
use Rattle.gl_show.proofs.Scanning.{Stops, word_then, name_ascii}

abbrev pub spaced_names : List Text → Text
spaced_names ns = flat_map (λ n. 32 ∷ n) ns

-- names are written with a blank before each but the first
pub names_spaced : (n : Text) (ns : List Text) → names_text (n ∷ ns) ≡ n ++ spaced_names ns
names_spaced n [] = sym (append-nil n)
names_spaced n (m ∷ ms) = ap (λ l. n ++ 32 ∷ l) (names_spaced m ms)

name_tight : (b : ℕ) → starts_name b ≡ true → is_white b ≡ false
name_tight b e = grind (arith, nat_tests)

no_white_before : (n rest : List ℕ) → is_name n ≡ true → after_all is_white (n ++ rest) ≡ n ++ rest
no_white_before [] rest w = cc
no_white_before (c ∷ cs) rest w = let h = name_tight c (both (starts_name c) (list_all in_name cs) w).0 in rw h refl

free_not_reserved : (n : Text) → is_free n ≡ true → has_text n reserved ≡ false
free_not_reserved n f = let h = (both (not (begins (64 ∷ []) n)) (not (has_text n reserved)) f).1 in off (has_text n reserved) h
  where
    off : (b : Bool) → not b ≡ true → b ≡ false
    off true e = cc
    off false e = refl

free_name_then : (n rest : List ℕ) → IsFreeName n → Stops in_name rest → after_free_name (n ++ rest) ≡ Some rest
unfolding after_free_name
free_name_then n rest w s =
    ap (λ o. o >>= if_free (n ++ rest)) (word_then starts_name in_name n rest w.0 s)
    ∙ ap (λ l. cond (has_text l reserved) None (Some rest)) (part_read n rest)
    ∙ ap (λ b. cond b None (Some rest)) (free_not_reserved n w.1)

spaced_then : (n rest : List ℕ) → IsFreeName n → Stops in_name rest → after_spaced_name (32 ∷ (n ++ rest)) ≡ Some rest
unfolding after_spaced_name
spaced_then n rest w s = ap (λ l. after_free_name l) (no_white_before n rest w.0) ∙ free_name_then n rest w s

spaced_stops : (ns : List Text) (rest : List ℕ) → Stops in_name (spaced_names ns ++ (124 ∷ rest))
spaced_stops [] rest = refl
spaced_stops (n ∷ ns) rest = refl

no_spaced : (rest : List ℕ) → after_spaced_name (124 ∷ rest) ≡ None
unfolding after_spaced_name
no_spaced rest = refl

more_names_then : (ns : List Text) (rest : List ℕ) → AreFreeNames ns → after_pieces after_spaced_name 0 (spaced_names ns ++ (124 ∷ rest)) ≡ 124 ∷ rest
more_names_then [] rest w = piece_end after_spaced_name (124 ∷ rest) (no_spaced rest)
more_names_then (n ∷ ns) rest w =
    let e : (32 ∷ n ++ spaced_names ns) ++ (124 ∷ rest) ≡ 32 ∷ (n ++ (spaced_names ns ++ (124 ∷ rest))) = ap (λ l. 32 ∷ l) (append_assoc n (spaced_names ns) (124 ∷ rest)) in
    let one = spaced_then n (spaced_names ns ++ (124 ∷ rest)) w.0 (spaced_stops ns rest) in
    ap (λ l. after_pieces after_spaced_name 0 l) e
    ∙ piece_step after_spaced_name (32 ∷ (n ++ (spaced_names ns ++ (124 ∷ rest)))) (spaced_names ns ++ (124 ∷ rest)) one (spaced_name_moves (32 ∷ (n ++ (spaced_names ns ++ (124 ∷ rest)))) (spaced_names ns ++ (124 ∷ rest)) one)
    ∙ more_names_then ns rest w.1

names_then : (n : Text) (ns : List Text) (rest : List ℕ) → AreFreeNames (n ∷ ns) → after_names (n ++ (spaced_names ns ++ (124 ∷ rest))) ≡ Some (124 ∷ rest)
unfolding after_names
names_then n ns rest w =
    ap (λ l. after_free_name l >>= after_more_names >>= after_white) (no_white_before n (spaced_names ns ++ (124 ∷ rest)) w.0.0)
    ∙ ap (λ o. o >>= after_more_names >>= after_white) (free_name_then n (spaced_names ns ++ (124 ∷ rest)) w.0 (spaced_stops ns rest))
    ∙ ap (λ l. after_white l) (more_names_then ns rest w.1)

-- the token, without the blank before it
abbrev pub parameters_token_text : Text → List Text → Text
parameters_token_text n ns = codes "as |" ++ ((n ++ spaced_names ns) ++ 124 ∷ [])

pub parameters_then : (n : Text) (ns : List Text) (rest : List ℕ) → AreFreeNames (n ∷ ns) → after_parameters (codes "as |" ++ (n ++ (spaced_names ns ++ (124 ∷ rest)))) ≡ Some rest
unfolding after_parameters
parameters_then n ns rest w = ap (λ o. o >>= after (codes "|")) (names_then n ns rest w)

-- the names of the token
no_bar_in : (b : ℕ) → in_name b ≡ true → (b == 124) ≡ false
no_bar_in b e = grind (arith, nat_tests)

start_no_bar : (b : ℕ) → starts_name b ≡ true → (b == 124) ≡ false
start_no_bar b e = grind (arith, nat_tests)

name_no_white : (b : ℕ) → in_name b ≡ true → is_white b ≡ false
name_no_white b e = grind (arith, nat_tests)

up_to_all : (cs rest : List ℕ) → list_all in_name cs ≡ true → up_to 124 (cs ++ rest) ≡ cs ++ up_to 124 rest
up_to_all [] rest a = refl
up_to_all (c ∷ cs) rest a = let h = both (in_name c) (list_all in_name cs) a in let k = no_bar_in c h.0 in rw k (ap (λ l. c ∷ l) (up_to_all cs rest h.1))

start_in : (b : ℕ) → starts_name b ≡ true → in_name b ≡ true
start_in b e = rw e refl

pub all_in : (n : Text) → is_name n ≡ true → list_all in_name n ≡ true
all_in [] w = cc
all_in (c ∷ cs) w = let h = both (starts_name c) (list_all in_name cs) w in let k = start_in c h.0 in rw k h.1

up_to_names : (n : Text) (ns : List Text) → AreFreeNames (n ∷ ns) → up_to 124 ((n ++ spaced_names ns) ++ 124 ∷ []) ≡ n ++ spaced_names ns
up_to_names n [] w = ap (λ l. up_to 124 (l ++ 124 ∷ [])) (append-nil n) ∙ up_to_all n (124 ∷ []) (all_in n w.0.0)
up_to_names n (m ∷ ms) w =
    ap (λ l. up_to 124 l) (append_assoc n (32 ∷ (m ++ spaced_names ms)) (124 ∷ []))
    ∙ up_to_all n (32 ∷ ((m ++ spaced_names ms) ++ 124 ∷ [])) (all_in n w.0.0)
    ∙ ap (λ l. n ++ 32 ∷ l) (up_to_names m ms w.1)

pub pieces_front : (n : Text) (rest ws : List Text) (more : Text) → list_all in_name n ≡ true → pieces more ≡ [] ∷ ws → pieces (n ++ more) ≡ n ∷ ws
pieces_front [] rest ws more a e = e
pieces_front (c ∷ cs) rest ws more a e =
    let h = both (in_name c) (list_all in_name cs) a in
    let k = name_no_white c h.0 in
    rw k (ap (λ l. add_first c l) (pieces_front cs rest ws more h.1 e))

pieces_names : (n : Text) (ns : List Text) → AreFreeNames (n ∷ ns) → pieces (n ++ spaced_names ns) ≡ n ∷ ns
pieces_names n [] w = pieces_front n [] [] [] (all_in n w.0.0) refl
pieces_names n (m ∷ ms) w = pieces_front n [] (m ∷ ms) (32 ∷ (m ++ spaced_names ms)) (all_in n w.0.0) (ap (λ l. [] ∷ l) (pieces_names m ms w.1))

some_names : (ns : List Text) → AreFreeNames ns → filter (λ w. nat_lt 0 (length w)) ns ≡ ns
some_names [] w = refl
some_names ([] ∷ ns) w = let h = w.0.0 in cc
some_names ((c ∷ cs) ∷ ns) w = let k : nat_lt 0 (length (c ∷ cs)) ≡ true = grind (arith, nat_tests) in rw k (ap (λ l. (c ∷ cs) ∷ l) (some_names ns w.1))

pub parameters_are : (n : Text) (ns : List Text) → AreFreeNames (n ∷ ns) → parameters_of (parameters_token_text n ns) ≡ n ∷ ns
parameters_are n ns w = ap words (up_to_names n ns w) ∙ ap (λ l. filter (λ v. nat_lt 0 (length v)) l) (pieces_names n ns w) ∙ some_names (n ∷ ns) w

spaced_ascii : (ns : List Text) → AreFreeNames ns → is_ascii_text (spaced_names ns) ≡ true
spaced_ascii [] w = refl
spaced_ascii (n ∷ ns) w = ascii_append n (spaced_names ns) (name_ascii n w.0.0) (spaced_ascii ns w.1)

pub parameters_ascii : (n : Text) (ns : List Text) → AreFreeNames (n ∷ ns) → is_ascii_text (parameters_token_text n ns) ≡ true
parameters_ascii n ns w = ascii_append (n ++ spaced_names ns) (124 ∷ []) (ascii_append n (spaced_names ns) (name_ascii n w.0.0) (spaced_ascii ns w.1)) refl

-- parameters are written so
pub parameters_spelled : (n : Text) (ns : List Text) → parameters_text (n ∷ ns) ≡ 32 ∷ parameters_token_text n ns
parameters_spelled n ns = ap (λ l. codes " as |" ++ (l ++ codes "|")) (names_spaced n ns)
