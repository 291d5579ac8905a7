-- Laws of the last bytes in which no long comment ends.
use Rattle.std.proofs.Common.{◌≡◌, ◌≤◌, ℕ, List, [], ◌∷◌, ◌++◌, Bool, true, false, Some, None, cond, length, length-append, refl, sym, ap, subst, ◌∙◌, append_assoc, arith}
use Rattle.std.specs.Prelude.{codes}
use Rattle.gl_base.specs.Answers.{◌>>=◌}
use Rattle.gl_base.specs.Names.{or_else}
use Rattle.gl_ast.specs.Scans.{after, from_first}
use Rattle.gl_ast.specs.Words.{shows_long_end, after_long_end, after_long_comment}
use Rattle.gl_ast.proofs.Forward.{Leaves, scans_or, scans_after}
use Rattle.gl_lex.specs.Clear.{IsClear}

-- nothing is clear yet
pub clear_nothing : (bs : List ℕ) → IsClear 0 bs
clear_nothing bs front [] e h = refl
clear_nothing bs front (b ∷ rest) e h = absurd (omega arith)

-- what is clear stays so for what is left
pub clear_more : (count : ℕ) (bs left : List ℕ) → IsClear count bs → (before : List ℕ) → bs ≡ before ++ left → IsClear count left
clear_more count bs left clear before e front rest f h = clear (before ++ front) rest (e ∙ ap (λ l. before ++ l) f ∙ sym (append_assoc before front rest)) h

none_cases : (p : List ℕ → Bool) (b : ℕ) (bs : List ℕ) (t : Bool) → cond t (Some (b ∷ bs)) (from_first p bs) ≡ None → from_first p bs ≡ None
none_cases p b bs true e = cc
none_cases p b bs false e = e

none_after : (p : List ℕ → Bool) (front rest : List ℕ) → from_first p (front ++ rest) ≡ None → from_first p rest ≡ None
none_after p [] rest e = e
none_after p (b ∷ front) rest e = none_after p front rest (none_cases p b (front ++ rest) (p (b ∷ (front ++ rest))) e)

-- of two ends of a list the shorter is the end of the longer
shorter_end : (f r g s : List ℕ) → f ++ r ≡ g ++ s → length s ≤ length r → (h : List ℕ) × (r ≡ h ++ s)
shorter_end [] r g s e h = (g, e)
shorter_end (b ∷ f) r [] s e h = absurd (omega (arith, length-append f r, ap length e))
shorter_end (b ∷ f) r (c ∷ g) s e h = let tail : f ++ r ≡ g ++ s = cc in shorter_end f r g s tail h

-- a search that found none clears all from there on
pub clear_from : (bs inner before : List ℕ) → bs ≡ before ++ inner → from_first shows_long_end inner ≡ None → IsClear (length inner) bs
clear_from bs inner before e none front rest f h =
    let s = shorter_end before inner front rest (sym e ∙ f) h in
    none_after shows_long_end s.0 rest (subst (λ (l : List ℕ). from_first shows_long_end l ≡ None) s.1 none)

-- the inside of a long comment
pub long_inner : (bs inner : List ℕ) → or_else (after (codes "{{!--") bs) (after (codes "{{~!--") bs) ≡ Some inner → Leaves bs inner
long_inner bs inner e = scans_or (after (codes "{{!--")) (after (codes "{{~!--")) (scans_after (codes "{{!--") refl) (scans_after (codes "{{~!--") refl) bs inner e

-- a long comment without an end is none
pub long_none : (bs inner : List ℕ) → or_else (after (codes "{{!--") bs) (after (codes "{{~!--") bs) ≡ Some inner → from_first shows_long_end inner ≡ None → after_long_comment bs ≡ None
unfolding after_long_comment
long_none bs inner e none = ap (λ o. o >>= from_first shows_long_end >>= after_long_end) e ∙ ap (λ o. o >>= after_long_end) none
