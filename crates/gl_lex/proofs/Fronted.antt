-- Laws of the tokens up to where none stands: a step over white space, a step over a token, and the stop.
use Rattle.std.proofs.Common.{◌≡◌, ◌<◌, ◌+◌, ◌-◌, ℕ, zero, suc, List, [], ◌∷◌, ◌++◌, Bool, true, false, Option, Some, None, length, drop, refl, sym, ap, ◌∙◌, arith, add-zero, append_assoc}
use Rattle.std.specs.Prelude.{if◌then◌else◌}
use Rattle.gl_base.specs.Answers.{◌>>=◌}
use Rattle.gl_ast.specs.Modes.{Found, token, spaced}
use Rattle.gl_ast.specs.TokenReading.{width, token_at, read_from, stands_white}
use Rattle.gl_ast.specs.declared.mode.Mode.{Mode}
use Rattle.gl_ast.specs.declared.token.Token.{Token}
use Rattle.gl_ast.proofs.Forward.{Steps}
use Rattle.gl_ast.proofs.Reading.{width_is}
use Rattle.gl_lex.specs.Front.{Front, front_or, front_from, with_front, stop_at, all_of}

-- the bytes of a token that was read are passed over
front_skipped : (mode : Mode) (at : ℕ) (front rest : List ℕ) → front_from mode (length front) at (front ++ rest) ≡ front_from mode 0 (at + length front) rest
front_skipped mode at [] rest = ap (λ n. front_from mode 0 n rest) (sym (add-zero at))
front_skipped mode at (b ∷ front) rest =
    let e : at + 1 + length front ≡ at + suc (length front) = omega arith in
    front_skipped mode (at + 1) front rest ∙ ap (λ n. front_from mode 0 n rest) e

pub front_white : (mode : Mode) (at : ℕ) (bs : List ℕ) → stands_white mode bs ≡ true → front_from mode 0 at bs ≡ front_from (spaced mode) 0 (at + 1) (drop 1 bs)
front_white mode at [] e = cc
front_white mode at (b ∷ bs) e = rw e refl

pub front_token : (mode : Mode) (at : ℕ) (bs : List ℕ) (f : Found) → stands_white mode bs ≡ false → token mode bs ≡ Some f → Steps bs f.1
    → front_from mode 0 at bs ≡ with_front (token_at at bs f ∷ []) (front_from f.2 0 (at + width bs f) f.1)
front_token mode at [] f tight e s = let h = s.2 in cc
front_token mode at (b ∷ bs) f tight e s =
    let tail : bs ≡ s.1 ++ f.1 = let h = s.2 in cc in
    let w = width_is (b ∷ bs) f s in
    let w1 : width (b ∷ bs) f - 1 ≡ length s.1 = omega arith in
    let at1 : at + 1 + length s.1 ≡ at + width (b ∷ bs) f = omega arith in
    rw (tight, e) (
    ap (λ l. with_front (token_at at (b ∷ bs) f ∷ []) (front_from f.2 (width (b ∷ bs) f - 1) (at + 1) l)) tail
    ∙ ap (λ n. with_front (token_at at (b ∷ bs) f ∷ []) (front_from f.2 n (at + 1) (s.1 ++ f.1))) w1
    ∙ ap (λ o. with_front (token_at at (b ∷ bs) f ∷ []) o) (front_skipped f.2 (at + 1) s.1 f.1 ∙ ap (λ n. front_from f.2 0 n f.1) at1))

pub front_none : (mode : Mode) (at : ℕ) (bs : List ℕ) → 0 < length bs → stands_white mode bs ≡ false → token mode bs ≡ None → front_from mode 0 at bs ≡ ([], Some (stop_at mode at bs))
front_none mode at [] h tight e = absurd (omega arith)
front_none mode at (b ∷ bs) h tight e = rw (tight, e) refl

-- after a step over a token: the tokens so far, and those of what is left
pub front_more : (mode : Mode) (at : ℕ) (bs : List ℕ) (f : Found) (done more : List Token) (all : Front) → stands_white mode bs ≡ false → token mode bs ≡ Some f → Steps bs f.1
    → with_front done (front_from mode 0 at bs) ≡ all → more ≡ done ++ token_at at bs f ∷ [] → with_front more (front_from f.2 0 (at + width bs f) f.1) ≡ all
front_more mode at bs f done more all tight e s reading added =
    ap (λ l. with_front l (front_from f.2 0 (at + width bs f) f.1)) added
    ∙ ap (λ l. (l, (front_from f.2 0 (at + width bs f) f.1).1)) (append_assoc done (token_at at bs f ∷ []) (front_from f.2 0 (at + width bs f) f.1).0)
    ∙ ap (λ r. with_front done r) (sym (front_token mode at bs f tight e s)) ∙ reading

all_with : (t : Token) (r : Front) → all_of (with_front (t ∷ []) r) ≡ (all_of r >>= λ ts. Some (t ∷ ts))
all_with t (ts, None) = refl
all_with t (ts, Some place) = refl

all_found : (mode : Mode) (at b : ℕ) (bs : List ℕ) (o : Option Found) → ((next : Mode) (n : ℕ) → all_of (front_from next n (at + 1) bs) ≡ read_from next n (at + 1) bs)
    → all_of (front_or ([], Some (stop_at mode at (b ∷ bs))) (λ f. with_front (token_at at (b ∷ bs) f ∷ []) (front_from f.2 (width (b ∷ bs) f - 1) (at + 1) bs)) o)
    ≡ (o >>= λ f. (read_from f.2 (width (b ∷ bs) f - 1) (at + 1) bs >>= λ ts. Some (token_at at (b ∷ bs) f ∷ ts)))
all_found mode at b bs None more = refl
all_found mode at b bs (Some f) more =
    all_with (token_at at (b ∷ bs) f) (front_from f.2 (width (b ∷ bs) f - 1) (at + 1) bs)
    ∙ ap (λ o. o >>= λ ts. Some (token_at at (b ∷ bs) f ∷ ts)) (more f.2 (width (b ∷ bs) f - 1))

all_either : (mode : Mode) (at b : ℕ) (bs : List ℕ) (t : Bool) → ((next : Mode) (n : ℕ) → all_of (front_from next n (at + 1) bs) ≡ read_from next n (at + 1) bs)
    → all_of (if t then front_from (spaced mode) zero (at + 1) bs
    else front_or ([], Some (stop_at mode at (b ∷ bs))) (λ f. with_front (token_at at (b ∷ bs) f ∷ []) (front_from f.2 (width (b ∷ bs) f - 1) (at + 1) bs)) (token mode (b ∷ bs)))
    ≡ (if t then read_from (spaced mode) zero (at + 1) bs
    else (token mode (b ∷ bs) >>= λ f. (read_from f.2 (width (b ∷ bs) f - 1) (at + 1) bs >>= λ ts. Some (token_at at (b ∷ bs) f ∷ ts))))
all_either mode at b bs true more = more (spaced mode) zero
all_either mode at b bs false more = all_found mode at b bs (token mode (b ∷ bs)) more

-- where no place is without a token, these are all tokens
pub all_read : (mode : Mode) (skipped at : ℕ) (bs : List ℕ) → all_of (front_from mode skipped at bs) ≡ read_from mode skipped at bs
all_read mode skipped at [] = refl
all_read mode (suc skipped) at (b ∷ bs) = all_read mode skipped (at + 1) bs
all_read mode zero at (b ∷ bs) = all_either mode at b bs (stands_white mode (b ∷ bs)) (λ next n. all_read next n (at + 1) bs)
