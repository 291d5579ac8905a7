-- The white space at the ends of a text, as one reading finds it, is that which is written as references.
use Rattle.std.proofs.Common.{◌≡◌, ◌≤◌, ◌<◌, ℕ, suc, List, [], ◌∷◌, ◌++◌, Bool, true, false, length, refl, ap, ◌∙◌, arith}
use Rattle.std.specs.Prelude.{if◌then◌else◌, nat_le, ◌&&◌, ◌||◌}
use Rattle.std.specs.List.{list_all}
use Rattle.std.proofs.lemmas.Bool.Decides.{nat_tests}
use Rattle.gl_ast.specs.Marks.{is_white}
use Rattle.gl_ast.specs.Canon.{numbered, text_char, text_from, ends_backslash}
use Rattle.gl_show.specs.Marking.{run_from, marked, last_is}

-- characters that are all white space
run_all : (run : ℕ) (cs : List ℕ) → list_all is_white cs ≡ true → run_from run cs ≡ run
run_all run [] e = refl
run_all run (c ∷ cs) e = all_case run c cs (is_white c) e (run_all run cs)
  where
    all_case : (run c : ℕ) (cs : List ℕ) (t : Bool) → (t && list_all is_white cs) ≡ true → (list_all is_white cs ≡ true → run_from run cs ≡ run) → run_from (if t then run else length cs) cs ≡ run
    all_case run c cs true e more = more e
    all_case run c cs false e more = cc

run_some : (run : ℕ) (cs : List ℕ) → list_all is_white cs ≡ false → run_from run cs < length cs
run_some run [] e = cc
run_some run (c ∷ cs) e = some_case run c cs (is_white c) (list_all is_white cs) refl e (run_some run cs) (run_some (length cs) cs)
  where
    some_case : (run c : ℕ) (cs : List ℕ) (t s : Bool) → list_all is_white cs ≡ s → (t && s) ≡ false → (list_all is_white cs ≡ false → run_from run cs < length cs) → (list_all is_white cs ≡ false → run_from (length cs) cs < length cs) → run_from (if t then run else length cs) cs < suc (length cs)
    some_case run c cs true true is e more most = cc
    some_case run c cs true false is e more most = let h = more is in omega arith
    some_case run c cs false true is e more most = let h = run_all (length cs) cs is in omega arith
    some_case run c cs false false is e more most = let h = most is in omega arith

-- a character is within the end just where all after it are white space
within : (run : ℕ) (cs : List ℕ) (s : Bool) → list_all is_white cs ≡ s → suc (length cs) ≤ run → nat_le (suc (length cs)) (run_from run cs) ≡ s
within run cs true is h = let e = run_all run cs is in grind (arith, nat_tests)
within run cs false is h = let e = run_some run cs is in grind (arith, nat_tests)

step : (r front : Bool) (c run : ℕ) (cs : List ℕ) (s : Bool) → nat_le (suc (length cs)) (run_from run cs) ≡ s → list_all is_white cs ≡ s
    → marked (run_from run cs) false cs ≡ text_from false cs → marked (run_from run cs) front cs ≡ text_from front cs
    → (if true && (front || nat_le (suc (length cs)) (run_from run cs)) then numbered c else text_char c) ++ marked (run_from run cs) (front && true) cs
    ≡ (if true && (front || list_all is_white cs) then numbered c ++ text_from front cs else text_char c ++ text_from false cs)
step r true c run cs s e h plain more = ap (λ l. numbered c ++ l) more
step r false c run cs true e h plain more = rw (e, h) (ap (λ l. numbered c ++ l) more)
step r false c run cs false e h plain more = rw (e, h) (ap (λ l. text_char c ++ l) more)

never : (b : Bool) → (b && false) ≡ false
never true = refl
never false = refl

-- what is written is the text's spelling
pub marked_text : (run : ℕ) (front : Bool) (cs : List ℕ) → length cs ≤ run → marked (run_from run cs) front cs ≡ text_from front cs
marked_text run front [] h = refl
marked_text run front (c ∷ cs) h =
    let n : length cs ≤ run = omega arith in
    white_case run front c cs (is_white c) h (marked_text run true cs n) (marked_text run false cs n) (let k : length cs ≤ length cs = omega arith in marked_text (length cs) false cs k)
  where
    white_case : (run : ℕ) (front : Bool) (c : ℕ) (cs : List ℕ) (t : Bool) → suc (length cs) ≤ run → marked (run_from run cs) true cs ≡ text_from true cs → marked (run_from run cs) false cs ≡ text_from false cs → marked (run_from (length cs) cs) false cs ≡ text_from false cs
        → (if t && (front || nat_le (suc (length cs)) (run_from (if t then run else length cs) cs)) then numbered c else text_char c) ++ marked (run_from (if t then run else length cs) cs) (front && t) cs
        ≡ (if t && (front || list_all is_white cs) then numbered c ++ text_from front cs else text_char c ++ text_from false cs)
    white_case run true c cs true h edge plain other = step true true c run cs (list_all is_white cs) (within run cs (list_all is_white cs) refl h) refl plain edge
    white_case run false c cs true h edge plain other = step true false c run cs (list_all is_white cs) (within run cs (list_all is_white cs) refl h) refl plain plain
    white_case run front c cs false h edge plain other = ap (λ b. text_char c ++ marked (run_from (length cs) cs) b cs) (never front) ∙ ap (λ l. text_char c ++ l) other

pub text_marked : (cs : List ℕ) → marked (run_from (length cs) cs) true cs ≡ text_from true cs
text_marked cs = let h : length cs ≤ length cs = omega arith in marked_text (length cs) true cs h

pub ruleset edge_laws = (text_marked)

pub last_backslash : (cs : List ℕ) → last_is false cs ≡ ends_backslash cs
last_backslash [] = refl
last_backslash (c ∷ []) = refl
last_backslash (c ∷ d ∷ cs) = last_backslash (d ∷ cs)

pub ruleset last_laws = (last_backslash)
