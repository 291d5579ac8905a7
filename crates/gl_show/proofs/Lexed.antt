-- A text is read token by token, and what is known of the tokens is said of the list that is left.
use Rattle.std.proofs.Common.{◌≡◌, ◌<◌, ◌+◌, ℕ, List, [], ◌∷◌, ◌++◌, Bool, true, false, Some, length, take, refl, sym, ap, subst, ◌∙◌, arith, length-append}
use Rattle.std.specs.Str.{chars, IsUtf8, all_scalars}
use Rattle.std.proofs.lemmas.Str.{IsUtf8-append, IsUtf8-from_ascii}
use Rattle.gl_base.specs.Answers.{◌>>=◌}
use Rattle.gl_base.specs.Texts.{Text}
use Rattle.gl_base.proofs.Chars.{ascii}
use Rattle.gl_ast.specs.Marks.{is_white}
use Rattle.gl_ast.specs.Modes.{token, skips_white, spaced}
use Rattle.gl_ast.specs.Grammar.{Mark, Stands}
use Rattle.gl_ast.specs.Settling.{is_text, opens_tag, closes_tag, within_tag}
use Rattle.gl_ast.specs.TokenReading.{width, token_at, read_from, stands_white}
use Rattle.gl_ast.specs.declared.mode.Mode.{Mode}
use Rattle.gl_ast.specs.declared.token.Token.{Token}
use Rattle.gl_ast.specs.declared.token.TokenKind.{TokenKind}
use Rattle.gl_ast.proofs.Progress.{token_steps}
use Rattle.gl_ast.proofs.Reading.{read_white, read_token}
use Rattle.gl_show.proofs.Numbers.{take_front}
use Rattle.gl_show.proofs.Scanning.{Stops}

-- neither its first nor its last character is white space, and it has one
abbrev pub EndsTight : Text → Type 0
EndsTight [] = ⊥
EndsTight (c ∷ []) = is_white c ≡ false
EndsTight (c ∷ d ∷ cs) = EndsTight (d ∷ cs)

abbrev pub IsTight : Text → Type 0
IsTight cs = Stops is_white cs × EndsTight cs

-- a text of the content has no white space at its ends
abbrev pub IsCleanText : Bool → Bool → Text → Type 0
IsCleanText true false cs = IsTight cs × (all_scalars cs ≡ true)
IsCleanText true true cs = Unit {0}
IsCleanText false tag cs = Unit {0}

abbrev pub IsClean : Bool → List Token → Type 0
IsClean tag [] = Unit {0}
IsClean tag (t ∷ ts) = IsCleanText (is_text t.kind) tag t.text × IsClean (within_tag tag t.kind) ts

-- The bytes are read, from any place on, as tokens of which this holds.
abbrev pub Lexed : Mode → Bool → List ℕ → (List Token → Type 0) → Type 0
Lexed mode tag bs P = (at : ℕ) → (all : List Token) × (read_from mode 0 at bs ≡ Some all) × IsClean tag all × IsUtf8 bs × P all

-- first such tokens, and then others
abbrev pub Then : (List Token → List Token → Type 0) → (List Token → Type 0) → List Token → Type 0
Then Rel P ts = (us : List Token) × Rel ts us × P us

pub lexed_as : {P Q : List Token → Type 0} (mode : Mode) (tag : Bool) (bs : List ℕ) → ((ts : List Token) → P ts → Q ts) → Lexed mode tag bs P → Lexed mode tag bs Q
lexed_as mode tag bs f l at = let r = l at in (r.0, r.1, r.2, r.3, f r.0 r.4)

-- the bytes may be written otherwise
pub lexed_bytes : {P : List Token → Type 0} (mode : Mode) (tag : Bool) (bs cs : List ℕ) → bs ≡ cs → Lexed mode tag cs P → Lexed mode tag bs P
lexed_bytes {P} mode tag bs cs e l = subst (λ (x : List ℕ). Lexed mode tag x P) (sym e) l

pub lexed_end : {P : List Token → Type 0} (mode : Mode) (tag : Bool) → P [] → Lexed mode tag [] P
lexed_end mode tag p at = ([], refl, tt, ([], (refl, refl)), p)

-- one token
pub lexed_token : {P : List Token → Type 0} (mode next : Mode) (tag after : Bool) (kind : TokenKind) (b : ℕ) (piece rest : List ℕ)
    → stands_white mode (b ∷ (piece ++ rest)) ≡ false → token mode (b ∷ (piece ++ rest)) ≡ Some (kind, rest, next) → IsUtf8 (b ∷ piece) → IsCleanText (is_text kind) tag (chars (b ∷ piece)) → within_tag tag kind ≡ after
    → Lexed next after rest P → Lexed mode tag (b ∷ (piece ++ rest)) (Then (Stands kind (λ x. x ≡ chars (b ∷ piece))) P)
lexed_token {P} mode next tag after kind b piece rest tight is u clean goes l at =
    let r = l (at + width (b ∷ (piece ++ rest)) (kind, rest, next)) in
    let size : width (b ∷ (piece ++ rest)) (kind, rest, next) ≡ length (b ∷ piece) = omega (arith, length-append piece rest) in
    let same : chars (take (width (b ∷ (piece ++ rest)) (kind, rest, next)) (b ∷ (piece ++ rest))) ≡ chars (b ∷ piece) = ap (λ n. chars (take n (b ∷ (piece ++ rest)))) size ∙ ap chars (take_front (b ∷ piece) rest) in
    let steps = token_steps mode (b ∷ (piece ++ rest)) (kind, rest, next) is in
    let read : read_from mode 0 at (b ∷ (piece ++ rest)) ≡ Some (token_at at (b ∷ (piece ++ rest)) (kind, rest, next) ∷ r.0) =
    read_token mode at (b ∷ (piece ++ rest)) (kind, rest, next) tight is steps ∙ ap (λ o. o >>= λ ts. Some (token_at at (b ∷ (piece ++ rest)) (kind, rest, next) ∷ ts)) r.1 in (
      token_at at (b ∷ (piece ++ rest)) (kind, rest, next) ∷ r.0,
      read,
      (subst (λ (x : Text). IsCleanText (is_text kind) tag x) (sym same) clean, subst (λ (x : Bool). IsClean x r.0) (sym goes) r.2),
      IsUtf8-append (b ∷ piece) rest u r.3,
      (r.0, (token_at at (b ∷ (piece ++ rest)) (kind, rest, next), refl, refl, same), r.4),
    )

-- white space between tokens
pub lexed_blank : {P : List Token → Type 0} (mode : Mode) (tag : Bool) (rest : List ℕ) → skips_white mode ≡ true → Lexed (spaced mode) tag rest P → Lexed mode tag (32 ∷ rest) P
lexed_blank mode tag rest skips l at =
    let white : stands_white mode (32 ∷ rest) ≡ true = rw skips refl in
    let r = l (at + 1) in
    (r.0, read_white mode at (32 ∷ rest) white ∙ r.1, r.2, IsUtf8-append (32 ∷ []) rest (IsUtf8-from_ascii (32 ∷ []) (ascii (32 ∷ []) refl)) r.3, r.4)

pub marked : {P : List Token → Type 0} (kind : TokenKind) (Such : Text → Type 0) (ts : List Token) → Then (Stands kind Such) P ts → Then (Mark kind) P ts
marked kind Such ts h = (h.0, (h.1.0, h.1.1, h.1.2), h.2)

-- a token within a mustache
pub stays : (tag : Bool) (kind : TokenKind) → opens_tag kind ≡ false → closes_tag kind ≡ false → within_tag tag kind ≡ tag
stays true kind o c = rw c refl
stays false kind o c = o

no_text : (tag : Bool) (t : Bool) (cs : Text) → t ≡ false → IsCleanText t tag cs
no_text tag true cs e = cc
no_text tag false cs e = tt

pub lexed_plain : {P : List Token → Type 0} (mode next : Mode) (tag : Bool) (kind : TokenKind) (b : ℕ) (piece rest : List ℕ)
    → opens_tag kind ≡ false → closes_tag kind ≡ false → is_text kind ≡ false
    → stands_white mode (b ∷ (piece ++ rest)) ≡ false → token mode (b ∷ (piece ++ rest)) ≡ Some (kind, rest, next) → IsUtf8 (b ∷ piece)
    → Lexed next tag rest P → Lexed mode tag (b ∷ (piece ++ rest)) (Then (Stands kind (λ x. x ≡ chars (b ∷ piece))) P)
lexed_plain mode next tag kind b piece rest o c n tight is u l =
    lexed_token mode next tag tag kind b piece rest tight is u (no_text tag (is_text kind) (chars (b ∷ piece)) n) (stays tag kind o c) l

pub lexed_piece : {P : List Token → Type 0} (mode next : Mode) (tag after : Bool) (kind : TokenKind) (piece rest : List ℕ)
    → 0 < length piece → stands_white mode (piece ++ rest) ≡ false → token mode (piece ++ rest) ≡ Some (kind, rest, next) → IsUtf8 piece → IsCleanText (is_text kind) tag (chars piece) → within_tag tag kind ≡ after
    → Lexed next after rest P → Lexed mode tag (piece ++ rest) (Then (Stands kind (λ x. x ≡ chars piece)) P)
lexed_piece mode next tag after kind [] rest some tight is u clean goes l = absurd (omega arith)
lexed_piece mode next tag after kind (b ∷ piece) rest some tight is u clean goes l = lexed_token mode next tag after kind b piece rest tight is u clean goes l
