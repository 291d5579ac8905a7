-- Laws of the reading of tokens: a step over white space, and a step over a token.
use Rattle.std.proofs.Common.{◌≡◌, ◌<◌, ◌+◌, ◌-◌, ℕ, suc, List, [], ◌∷◌, ◌++◌, true, false, Option, Some, None, length, drop, length-append, refl, sym, ap, subst, ◌∙◌, arith, add-zero}
use Rattle.std.specs.Str.{IsUtf8, IsCharBoundary}
use Rattle.std.proofs.Math.Seq.{drop-append_seam}
use Rattle.std.proofs.lemmas.Str.{IsCharBoundary-at_seam, IsCharBoundary-after_ascii}
use Rattle.gl_base.specs.Answers.{◌>>=◌}
use Rattle.gl_base.specs.Reading.{after_front}
use Rattle.gl_base.proofs.Lists.{after_front_more}
use Rattle.gl_ast.specs.Marks.{is_white}
use Rattle.gl_ast.specs.Modes.{Found, token, skips_white, spaced}
use Rattle.gl_ast.specs.TokenReading.{width, token_at, read_from, stands_white}
use Rattle.gl_ast.specs.declared.mode.Mode.{Mode}
use Rattle.gl_ast.specs.declared.token.Token.{Token}
use Rattle.gl_ast.proofs.Forward.{Steps, both, tail_text}
use Rattle.gl_ast.proofs.Progress.{white_low}

-- the bytes of a token that was read are passed over
pub read_skipped : (mode : Mode) (at : ℕ) (front rest : List ℕ) → read_from mode (length front) at (front ++ rest) ≡ read_from mode 0 (at + length front) rest
read_skipped mode at [] rest = ap (λ n. read_from mode 0 n rest) (sym (add-zero at))
read_skipped mode at (b ∷ front) rest =
    let e : at + 1 + length front ≡ at + suc (length front) = omega arith in
    read_skipped mode (at + 1) front rest ∙ ap (λ n. read_from mode 0 n rest) e

-- white space between tokens is passed over
pub read_white : (mode : Mode) (at : ℕ) (bs : List ℕ) → stands_white mode bs ≡ true → read_from mode 0 at bs ≡ read_from (spaced mode) 0 (at + 1) (drop 1 bs)
read_white mode at [] e = cc
read_white mode at (b ∷ bs) e = rw e refl

pub white_steps : (mode : Mode) (bs : List ℕ) → stands_white mode bs ≡ true → Steps bs (drop 1 bs)
white_steps mode [] e = cc
white_steps mode (b ∷ bs) e = (b, [], refl, tail_text b bs (white_low b (both (skips_white mode) (is_white b) e).1))

pub white_border : (mode : Mode) (bs : List ℕ) → IsUtf8 bs → stands_white mode bs ≡ true → IsCharBoundary bs 1
white_border mode [] u e = cc
white_border mode (b ∷ bs) u e =
    let one : 0 < length (b ∷ bs) = omega arith in
    IsCharBoundary-after_ascii (b ∷ bs) 0 u one (white_low b (both (skips_white mode) (is_white b) e).1)

pub width_is : (bs : List ℕ) (f : Found) (s : Steps bs f.1) → width bs f ≡ length s.1 + 1
width_is bs f s = omega (arith, length-append s.1 f.1, ap length s.2)

pub read_token : (mode : Mode) (at : ℕ) (bs : List ℕ) (f : Found) → stands_white mode bs ≡ false → token mode bs ≡ Some f → Steps bs f.1
    → read_from mode 0 at bs ≡ (read_from f.2 0 (at + width bs f) f.1 >>= λ ts. Some (token_at at bs f ∷ ts))
read_token mode at [] f tight e s = let h = s.2 in cc
read_token mode at (b ∷ bs) f tight e s =
    let tail : bs ≡ s.1 ++ f.1 = let h = s.2 in cc in
    let w = width_is (b ∷ bs) f s in
    let w1 : width (b ∷ bs) f - 1 ≡ length s.1 = omega arith in
    let at1 : at + 1 + length s.1 ≡ at + width (b ∷ bs) f = omega arith in
    rw (tight, e) (
    ap (λ l. read_from f.2 (width (b ∷ bs) f - 1) (at + 1) l >>= λ ts. Some (token_at at (b ∷ bs) f ∷ ts)) tail
    ∙ ap (λ n. read_from f.2 n (at + 1) (s.1 ++ f.1) >>= λ ts. Some (token_at at (b ∷ bs) f ∷ ts)) w1
    ∙ ap (λ o. o >>= λ ts. Some (token_at at (b ∷ bs) f ∷ ts)) (read_skipped f.2 (at + 1) s.1 f.1 ∙ ap (λ n. read_from f.2 0 n f.1) at1))

pub read_none : (mode : Mode) (at : ℕ) (bs : List ℕ) → 0 < length bs → stands_white mode bs ≡ false → token mode bs ≡ None → read_from mode 0 at bs ≡ None
read_none mode at [] h tight e = absurd (omega arith)
read_none mode at (b ∷ bs) h tight e = rw (tight, e) refl

-- the token may be cut off
pub token_border : (bs rest : List ℕ) → IsUtf8 bs → Steps bs rest → IsCharBoundary bs (length bs - length rest)
token_border bs rest u s =
    let n : length (s.0 ∷ s.1) ≡ length bs - length rest = omega (arith, length-append s.1 rest, ap length s.2) in
    subst (λ (i : ℕ). IsCharBoundary bs i) n (IsCharBoundary-at_seam bs (s.0 ∷ s.1) rest s.2 (s.3 u))

-- and what is left is what was left
pub token_left : (bs rest : List ℕ) → Steps bs rest → drop (length bs - length rest) bs ≡ rest
token_left bs rest s =
    let n : length bs - length rest ≡ length (s.0 ∷ s.1) = omega (arith, length-append s.1 rest, ap length s.2) in
    rw n (subst (λ (l : List ℕ). drop (length (s.0 ∷ s.1)) l ≡ rest) (sym s.2) (drop-append_seam (s.0 ∷ s.1) rest))

-- after a step over a token: the tokens so far, and those of what is left
pub after_token : (mode : Mode) (at : ℕ) (bs : List ℕ) (f : Found) (done more : List Token) (all : Option (List Token)) → stands_white mode bs ≡ false → token mode bs ≡ Some f → Steps bs f.1
    → after_front done (read_from mode 0 at bs) ≡ all → more ≡ done ++ token_at at bs f ∷ [] → after_front more (read_from f.2 0 (at + width bs f) f.1) ≡ all
after_token mode at bs f done more all tight e s reading added =
    ap (λ l. after_front l (read_from f.2 0 (at + width bs f) f.1)) added
    ∙ after_front_more done (token_at at bs f) (read_from f.2 0 (at + width bs f) f.1)
    ∙ ap (λ o. after_front done o) (sym (read_token mode at bs f tight e s)) ∙ reading
