-- Tokens that are read stand in order in their text.
use Rattle.std.proofs.Common.{◌≡◌, ◌≤◌, ◌<◌, ◌+◌, ◌-◌, ℕ, zero, suc, List, [], ◌∷◌, ◌++◌, Bool, true, false, Option, Some, None, length, take, drop, length-append, refl, sym, ap, subst, ◌∙◌, append_assoc, arith}
use Rattle.std.specs.Str.{chars, IsUtf8, IsCharBoundary}
use Rattle.std.proofs.Math.Seq.{drop-append_seam}
use Rattle.std.proofs.lemmas.Str.{IsCharBoundary-at_seam}
use Rattle.gl_ast.specs.Modes.{Found, token, spaced}
use Rattle.gl_ast.specs.Spans.{Spans}
use Rattle.gl_ast.specs.TokenReading.{width, token_at, read_from, stands_white}
use Rattle.gl_ast.specs.declared.mode.Mode.{Mode}
use Rattle.gl_ast.specs.declared.token.Token.{Token}
use Rattle.gl_ast.proofs.Forward.{Steps, bind_some}
use Rattle.gl_ast.proofs.Progress.{token_steps}
use Rattle.gl_ast.proofs.Reading.{read_white, white_steps, read_token, read_none, width_is}

-- from an earlier place on too
earlier : (bs : List ℕ) (at later : ℕ) (list : List Token) → at ≤ later → Spans bs later list → Spans bs at list
earlier bs at later [] h s = tt
earlier bs at later (t ∷ ts) h s = (let k = s.0 in omega (arith, h, k), s.1, s.2, s.3, s.4, s.5, s.6)

-- the token that was read there
pub one_span : (bs front here : List ℕ) (f : Found) (ts : List Token) → bs ≡ front ++ here → IsUtf8 here → Steps here f.1
    → Spans bs (length front + width here f) ts → Spans bs (length front) (token_at (length front) here f ∷ ts)
one_span bs front here f ts e u s more =
    let w = width_is here f s in
    let whole : bs ≡ (front ++ s.0 ∷ s.1) ++ f.1 = e ∙ ap (λ l. front ++ l) s.2 ∙ sym (append_assoc front (s.0 ∷ s.1) f.1) in
    let past : length (front ++ s.0 ∷ s.1) ≡ length front + width here f = omega (arith, w, length-append front (s.0 ∷ s.1)) in
    let within : length front + width here f ≤ length bs = omega (arith, past, ap length whole, length-append (front ++ s.0 ∷ s.1) f.1) in
    let left : drop (length front) bs ≡ here = rw e (drop-append_seam front here) in
    let size : length front + width here f - length front ≡ width here f = omega arith in
    let none : length front ≤ length front = omega arith in (
      none,
      omega (arith, w),
      within,
      IsCharBoundary-at_seam bs front here e u,
      subst (λ (n : ℕ). IsCharBoundary bs n) past (IsCharBoundary-at_seam bs (front ++ s.0 ∷ s.1) f.1 whole (s.3 u)),
      sym (ap (λ n. chars (take n (drop (length front) bs))) size ∙ ap (λ l. chars (take (width here f) l)) left),
      more,
    )

token_case : (n : ℕ) (mode : Mode) (bs front here : List ℕ) (list : List Token) (o : Option Found) → length here ≤ suc n → 0 < length here → bs ≡ front ++ here → IsUtf8 here
    → stands_white mode here ≡ false → token mode here ≡ o → read_from mode 0 (length front) here ≡ Some list
    → ((next : Mode) (before rest : List ℕ) (ts : List Token) → length rest ≤ n → bs ≡ before ++ rest → IsUtf8 rest → read_from next 0 (length before) rest ≡ Some ts → Spans bs (length before) ts)
    → Spans bs (length front) list
token_case n mode bs front here list None h some e u tight is read more = let k = sym (read_none mode (length front) here some tight is) ∙ read in cc
token_case n mode bs front here list (Some f) h some e u tight is read more =
    let s = token_steps mode here f is in
    let w = width_is here f s in
    let b = bind_some (read_from f.2 0 (length front + width here f) f.1) (λ ts. Some (token_at (length front) here f ∷ ts)) list (sym (read_token mode (length front) here f tight is s) ∙ read) in
    let whole : bs ≡ (front ++ s.0 ∷ s.1) ++ f.1 = e ∙ ap (λ l. front ++ l) s.2 ∙ sym (append_assoc front (s.0 ∷ s.1) f.1) in
    let past : length (front ++ s.0 ∷ s.1) ≡ length front + width here f = omega (arith, w, length-append front (s.0 ∷ s.1)) in
    let short : length f.1 ≤ n = omega (arith, h, ap length s.2, length-append s.1 f.1) in
    let rest : Spans bs (length front + width here f) b.0 =
    rw past at (more f.2 (front ++ s.0 ∷ s.1) f.1 b.0 short whole (s.3 u) (rw past b.1)) in
    let same : token_at (length front) here f ∷ b.0 ≡ list = cc (b.2) in
    subst (λ (l : List Token). Spans bs (length front) l) same (one_span bs front here f b.0 e u s rest)

white_case : (n : ℕ) (mode : Mode) (bs front here : List ℕ) (list : List Token) → length here ≤ suc n → bs ≡ front ++ here → IsUtf8 here
    → stands_white mode here ≡ true → read_from mode 0 (length front) here ≡ Some list
    → ((next : Mode) (before rest : List ℕ) (ts : List Token) → length rest ≤ n → bs ≡ before ++ rest → IsUtf8 rest → read_from next 0 (length before) rest ≡ Some ts → Spans bs (length before) ts)
    → Spans bs (length front) list
white_case n mode bs front [] list h e u white read more = let k = white in cc
white_case n mode bs front (b ∷ rest) list h e u white read more =
    let s = white_steps mode (b ∷ rest) white in
    let whole : bs ≡ (front ++ b ∷ []) ++ rest = e ∙ sym (append_assoc front (b ∷ []) rest) in
    let past : length (front ++ b ∷ []) ≡ length front + 1 = omega (arith, length-append front (b ∷ [])) in
    let short : length rest ≤ n = omega (arith, h) in
    let later : length front ≤ length (front ++ b ∷ []) = omega (arith, past) in
    earlier bs (length front) (length (front ++ b ∷ [])) list later
    (more (spaced mode) (front ++ b ∷ []) rest list short whole (s.3 u) (rw past (sym (read_white mode (length front) (b ∷ rest) white) ∙ read)))

white_or_token : (n : ℕ) (mode : Mode) (bs front here : List ℕ) (list : List Token) (t : Bool) → stands_white mode here ≡ t → length here ≤ suc n → 0 < length here → bs ≡ front ++ here → IsUtf8 here
    → read_from mode 0 (length front) here ≡ Some list
    → ((next : Mode) (before rest : List ℕ) (ts : List Token) → length rest ≤ n → bs ≡ before ++ rest → IsUtf8 rest → read_from next 0 (length before) rest ≡ Some ts → Spans bs (length before) ts)
    → Spans bs (length front) list
white_or_token n mode bs front here list true is h some e u read more = white_case n mode bs front here list h e u is read more
white_or_token n mode bs front here list false is h some e u read more = token_case n mode bs front here list (token mode here) h some e u is refl read more

spans_within : (n : ℕ) (mode : Mode) (bs front here : List ℕ) (list : List Token) → length here ≤ n → bs ≡ front ++ here → IsUtf8 here → read_from mode 0 (length front) here ≡ Some list → Spans bs (length front) list
spans_within n mode bs front [] list h e u read = let same : [] ≡ list = cc in subst (λ (l : List Token). Spans bs (length front) l) same tt
spans_within zero mode bs front (b ∷ here) list h e u read = absurd (omega (arith, h))
spans_within (suc n) mode bs front (b ∷ here) list h e u read =
    white_or_token n mode bs front (b ∷ here) list (stands_white mode (b ∷ here)) refl h (omega arith) e u read (λ next before rest ts. spans_within n next bs before rest ts)

-- the tokens of a text that is read from its start
pub spans_from : (mode : Mode) (bs : List ℕ) (list : List Token) → IsUtf8 bs → read_from mode 0 0 bs ≡ Some list → Spans bs 0 list
spans_from mode bs list u read = let h : length bs ≤ length bs = omega arith in spans_within (length bs) mode bs [] bs list h refl u read
