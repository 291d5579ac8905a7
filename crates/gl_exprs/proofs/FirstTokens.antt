-- Laws of the first token.
use Rattle.std.proofs.Common.{◌≡◌, ◌+◌, List, [], ◌∷◌, Bool, true, false, ◌&&◌, Option, Some, None, length, refl, sym, ap, arith, cond}
use Rattle.std.specs.Str.{bytes_eq}
use Rattle.std.proofs.lemmas.Slice.Eq.{bytes_eq-Decides}
use Rattle.gl_base.specs.Texts.{Text}
use Rattle.gl_ast.specs.Grammar.{Mark, Stands, Word}
use Rattle.gl_ast.specs.declared.token.Token.{Token}
use Rattle.gl_ast.specs.declared.token.TokenKind.{TokenKind}
use Rattle.gl_ast.specs.declared.token.TokenKind.TheVariants as k
use Rattle.gl_exprs.proofs.Firsts.{same_kind-is, is_same}
use Rattle.gl_exprs.specs.Take.{same_kind, stands, take_kind, stands_word, take_word}

pub and_true : (a b : Bool) → (a && b) ≡ true → (a ≡ true) × (b ≡ true)
and_true true b e = (refl, e)
and_true false b e = let h : ⊥ = cc in absurd h

pub bytes_eq_is : (x w : Text) → bytes_eq x w ≡ true → x ≡ w
bytes_eq_is x w e = (bytes_eq-Decides x w).0 e

pub is_bytes_eq : (x w : Text) → x ≡ w → bytes_eq x w ≡ true
is_bytes_eq x w e = (bytes_eq-Decides x w).1 e

-- what a test that passed leaves
pub test_some : {A : Type 0} (b : Bool) (x : Option A) (y : A) → cond b x None ≡ Some y → (b ≡ true) × (x ≡ Some y)
test_some true x y e = (refl, e)
test_some false x y e = let h : ⊥ = cc in absurd h

-- what was taken is a token of the kind with this text
pub took : (kind : TokenKind) (ts : List Token) (p : Text × List Token) → take_kind kind ts ≡ Some p → (t : Token) × (ts ≡ t ∷ p.1) × (t.kind ≡ kind) × (t.text ≡ p.0)
unfolding take_kind
took kind [] p e = let h : ⊥ = cc in absurd h
took kind (t ∷ ts) p e =
    let s = test_some (same_kind t.kind kind) (Some (t.text, ts)) p e in
    let r : (t.text, ts) ≡ p = cc (s.1) in
    (t, ap (λ q. t ∷ q.1) r, same_kind-is t.kind kind s.0, ap (λ q. q.0) r)

pub took_mark : (kind : TokenKind) (ts : List Token) (p : Text × List Token) → take_kind kind ts ≡ Some p → Mark kind ts p.1
took_mark kind ts p e = let t = took kind ts p e in (t.0, t.1, t.2)

pub takes_mark : (kind : TokenKind) (ts us : List Token) (m : Mark kind ts us) → take_kind kind ts ≡ Some (m.0.text, us)
unfolding take_kind
takes_mark kind ts us m = rw (m.1, is_same m.0.kind kind m.2) refl

-- a word
pub took_word : (w : Text) (ts us : List Token) → take_word w ts ≡ Some us → Word w ts us
unfolding take_word
took_word w [] us e = let h : ⊥ = cc in absurd h
took_word w (t ∷ ts) us e =
    let s = test_some (same_kind t.kind k.Path && bytes_eq w t.text) (Some ts) us e in
    let both = and_true (same_kind t.kind k.Path) (bytes_eq w t.text) s.0 in
    let r : ts ≡ us = cc (s.1) in
    (t, ap (λ l. t ∷ l) r, same_kind-is t.kind k.Path both.0, sym (bytes_eq_is w t.text both.1))

pub takes_word : (w : Text) (ts us : List Token) → Word w ts us → take_word w ts ≡ Some us
unfolding take_word
takes_word w ts us m = rw (m.1, is_same m.0.kind k.Path m.2, is_bytes_eq w m.0.text (sym m.3)) refl

-- what the first token is, told by one kind of it
pub stands_mark : (kind other : TokenKind) (ts us : List Token) → Mark kind ts us → stands other ts ≡ same_kind kind other
unfolding stands
stands_mark kind other ts us m = rw (m.1, m.2) refl

-- a token fewer
pub mark_falls : (kind : TokenKind) (ts us : List Token) → Mark kind ts us → length ts ≡ length us + 1
mark_falls kind ts us m = let h = ap length m.1 in omega (arith, h)

pub some_falls : (kind : TokenKind) (Such : Text → Type 0) (ts us : List Token) → Stands kind Such ts us → length ts ≡ length us + 1
some_falls kind Such ts us m = let h = ap length m.1 in omega (arith, h)

pub stands_some : (kind other : TokenKind) (Such : Text → Type 0) (ts us : List Token) → Stands kind Such ts us → stands other ts ≡ same_kind kind other
unfolding stands
stands_some kind other Such ts us m = rw (m.1, m.2) refl

pub takes_some : (kind : TokenKind) (Such : Text → Type 0) (ts us : List Token) (m : Stands kind Such ts us) → take_kind kind ts ≡ Some (m.0.text, us)
unfolding take_kind
takes_some kind Such ts us m = rw (m.1, is_same m.0.kind kind m.2) refl

-- what stands first
pub stands_is : (kind : TokenKind) (ts : List Token) → stands kind ts ≡ true → (t : Token) × (us : List Token) × (ts ≡ t ∷ us) × (t.kind ≡ kind)
unfolding stands
stands_is kind [] e = let h : ⊥ = cc in absurd h
stands_is kind (t ∷ ts) e = (t, ts, refl, same_kind-is t.kind kind e)

pub stands_word_is : (w : Text) (ts : List Token) → stands_word w ts ≡ true → (t : Token) × (us : List Token) × (ts ≡ t ∷ us) × (t.kind ≡ k.Path) × (t.text ≡ w)
unfolding stands_word
stands_word_is w [] e = let h : ⊥ = cc in absurd h
stands_word_is w (t ∷ ts) e = let both = and_true (same_kind t.kind k.Path) (bytes_eq w t.text) e in (t, ts, refl, same_kind-is t.kind k.Path both.0, sym (bytes_eq_is w t.text both.1))
