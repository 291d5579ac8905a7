-- A name is read exactly where it stands.
use Rattle.std.proofs.Common.{◌≡◌, ◌<◌, ℕ, List, [], ◌∷◌, Bool, true, false, Some, length, refl, sym, ap, ◌∙◌}
use Rattle.std.specs.Prelude.{if◌then◌else◌, nat_eq, not, ◌&&◌, ◌||◌}
use Rattle.std.proofs.lemmas.Option.{cond_some, option_and_then_some}
use Rattle.gl_base.specs.Texts.{Text}
use Rattle.gl_value.specs.Value.{split, before_first}
use Rattle.gl_ast.specs.Grammar.{IsName}
use Rattle.gl_ast.specs.TokenText.{has_char, names_of, is_free}
use Rattle.gl_ast.specs.declared.token.Token.{Token}
use Rattle.gl_ast.specs.declared.token.TokenKind.TheVariants as k
use Rattle.gl_exprs.specs.ReadExpr.{is_lone, read_name, stands_name}
use Rattle.gl_exprs.proofs.Firsts.{kind_is, takes_kind, is_same}
use Rattle.gl_exprs.proofs.Shorter.{name_shorter}

pub and_left : (a b : Bool) → (a && b) ≡ true → a ≡ true
and_left true b e = refl
and_left false b e = e

pub and_right : (a b : Bool) → (a && b) ≡ true → b ≡ true
and_right true b e = e
and_right false b e = absurd cc

pub not_true : (a : Bool) → not a ≡ true → a ≡ false
not_true true e = absurd cc
not_true false e = refl

-- a text in which the character doesn't stand is one piece
pub split_whole : (c : ℕ) (x : Text) → has_char c x ≡ false → split c x ≡ x ∷ []
split_whole c [] e = refl
split_whole c (y ∷ ys) e = by_char (nat_eq y c) refl (split_whole c ys) e where
  by_char : (b : Bool) → nat_eq y c ≡ b → (has_char c ys ≡ false → split c ys ≡ ys ∷ []) → (b || has_char c ys) ≡ false → (if b then [] ∷ split c ys else before_first y (split c ys)) ≡ (y ∷ ys) ∷ []
  by_char true f more h = absurd cc
  by_char false f more h = ap (before_first y) (more h)

some_pieces : (c : ℕ) (x : Text) → split c x ≡ [] → ⊥
some_pieces c [] e = absurd cc
some_pieces c (y ∷ ys) e = by_char (nat_eq y c) e where
  by_first : (vs : List Text) → before_first y vs ≡ [] → ⊥
  by_first [] f = absurd cc
  by_first (v ∷ vs) f = absurd cc

  by_char : (b : Bool) → (if b then [] ∷ split c ys else before_first y (split c ys)) ≡ [] → ⊥
  by_char true f = absurd cc
  by_char false f = by_first (split c ys) f

-- one piece is the whole text
pub split_one : (c : ℕ) (x n : Text) → split c x ≡ n ∷ [] → (x ≡ n) × (has_char c x ≡ false)
split_one c [] n e = (cc, refl)
split_one c (y ∷ ys) n e = by_char (nat_eq y c) refl (split_one c ys) e where
  by_first : (vs : List Text) → split c ys ≡ vs → ((m : Text) → split c ys ≡ m ∷ [] → (ys ≡ m) × (has_char c ys ≡ false)) → before_first y vs ≡ n ∷ [] → (y ∷ ys ≡ n) × (has_char c ys ≡ false)
  by_first [] f more h = absurd (some_pieces c ys f)
  by_first (v ∷ []) f more h = let m = more v f in (ap (λ z. y ∷ z) m.0 ∙ cc, m.1)
  by_first (v ∷ w ∷ vs) f more h = absurd cc

  by_char : (b : Bool) → nat_eq y c ≡ b → ((m : Text) → split c ys ≡ m ∷ [] → (ys ≡ m) × (has_char c ys ≡ false)) → (if b then [] ∷ split c ys else before_first y (split c ys)) ≡ n ∷ [] → (y ∷ ys ≡ n) × ((b || has_char c ys) ≡ false)
  by_char true f more h = let none : split c ys ≡ [] = cc in absurd (some_pieces c ys none)
  by_char false f more h = by_first (split c ys) refl more h

-- what is read as a name is one
pub read_name_is : (ts : List Token) (x : Text × List Token) → read_name ts ≡ Some x → IsName ts x.0 x.1
unfolding read_name
read_name_is ts x e = option_and_then_some _ _ x e (λ p q last.
    let h = cond_some (is_lone p.0) p x last in
    let f = kind_is k.Path ts p q in
    let lone : is_lone x.0 ≡ true = ap (λ (y : Text × List Token). is_lone y.0) (sym h.1) ∙ h.0 in
    let text : f.token.text ≡ x.0 = f.is_text ∙ ap (λ (y : Text × List Token). y.0) h.1 in
    let here : ts ≡ f.token ∷ x.1 = f.here ∙ ap (λ (y : Text × List Token). f.token ∷ y.1) h.1 in
    let plain = not_true (has_char 46 x.0) (and_left (not (has_char 46 x.0)) (is_free x.0) lone) in
    (f.token, here, f.is_kind, (ap names_of text ∙ split_whole 46 x.0 plain, and_right (not (has_char 46 x.0)) (is_free x.0) lone)))

lone_of : (x n : Text) → names_of x ≡ n ∷ [] → is_free n ≡ true → is_lone x ≡ true
lone_of x n e f =
    let h = split_one 46 x n e in
    let free : is_free x ≡ true = ap is_free h.0 ∙ f in
    rw (h.1, free) refl

-- a name is read
pub reads_name : (ts : List Token) (n : Text) (us : List Token) → IsName ts n us → read_name ts ≡ Some (n, us)
unfolding read_name
reads_name ts n us h =
    let lone = lone_of h.0.text n h.3.0 h.3.1 in
    let text = (split_one 46 h.0.text n h.3.0).0 in
    rw (takes_kind k.Path ts us h.0 h.1 h.2, lone, text) refl

pub name_stands : (ts : List Token) (n : Text) (us : List Token) → IsName ts n us → stands_name ts ≡ true
unfolding stands_name
name_stands ts n us h = ap stands_name h.1 ∙ rw (is_same h.0.kind k.Path h.2, lone_of h.0.text n h.3.0 h.3.1) refl

pub is_name_shorter : (ts : List Token) (n : Text) (us : List Token) → IsName ts n us → length us < length ts
is_name_shorter ts n us h = name_shorter ts (n, us) (reads_name ts n us h)
