-- An expression of one token is read exactly where it stands.
use Rattle.std.proofs.Common.{◌≡◌, ◌⊎◌, inl, inr, arith, ℕ, ℤ, List, [], ◌∷◌, Bool, true, false, Option, Some, None, drop, refl, sym, ap, ◌∙◌, subst}
use Rattle.std.specs.Prelude.{if◌then◌else◌, not, ◌||◌, codes, option_map}
use Rattle.std.specs.Bool.{Decides}
use Rattle.std.specs.Str.{bytes_eq}
use Rattle.std.proofs.lemmas.Bool.Decides.{same_from_decides}
use Rattle.std.proofs.lemmas.Option.{same_Some}
use Rattle.std.proofs.lemmas.Slice.Eq.{bytes_eq-Decides}
use Rattle.gl_base.specs.Names.{has_text}
use Rattle.gl_base.specs.Texts.{Text}
use Rattle.gl_value.specs.Value as v
use Rattle.gl_value.specs.Value.{split}
use Rattle.gl_ast.specs.Grammar.{IsLiteral, IsExpr}
use Rattle.gl_ast.specs.Scans.{begins}
use Rattle.gl_ast.specs.Template.{Plain, Expr, literal, this, argument, bare}
use Rattle.gl_ast.specs.TokenText.{string_of, whole_of, names_of, is_free}
use Rattle.gl_ast.specs.Words.{reserved}
use Rattle.gl_ast.specs.declared.token.Token.{Token}
use Rattle.gl_ast.specs.declared.token.TokenKind.TheVariants as k
use Rattle.gl_exprs.specs.ReadExpr.{constant_of, this_path, constant_path, path_expr, token_expr, read_token}
use Rattle.gl_exprs.specs.Take.{same_kind}
use Rattle.gl_exprs.proofs.Firsts.{same_kind-is, is_same}
use Rattle.gl_exprs.proofs.NameLaws.{and_left, and_right, not_true, split_one}

pub bytes_eq-sym : (xs ys : List ℕ) → bytes_eq xs ys ≡ bytes_eq ys xs
bytes_eq-sym xs ys =
    let d : Decides (bytes_eq ys xs) (xs ≡ ys) = (λ e. sym ((bytes_eq-Decides ys xs).0 e), λ e. (bytes_eq-Decides ys xs).1 (sym e)) in
    same_from_decides (bytes_eq xs ys) (bytes_eq ys xs) (bytes_eq-Decides xs ys) d

pub bytes_same : (xs ys : List ℕ) → bytes_eq xs ys ≡ true → xs ≡ ys
bytes_same xs ys e = (bytes_eq-Decides xs ys).0 e

at_sign : (n : Text) → begins (64 ∷ []) n ≡ true → n ≡ 64 ∷ drop 1 n
at_sign [] e = absurd cc
at_sign (c ∷ cs) e = grind arith

constant_is : (n : Text) (c : Plain) → constant_of n ≡ Some c → (ts us : List Token) (t : Token) → ts ≡ t ∷ us → t.kind ≡ k.Path → t.text ≡ n → IsLiteral ts c us
unfolding constant_of
constant_is n c e ts us t here kind text = by_true (bytes_eq (codes "true") n) refl e where
  word : (w : Text) → bytes_eq w n ≡ true → t.text ≡ w
  word w f = text ∙ sym (bytes_same w n f)

  as_value : (w : Plain) → ◌≡◌ {A = Option Plain} (Some w) (Some c) → IsLiteral ts w us → IsLiteral ts c us
  as_value w f h = subst (λ (x : Plain). IsLiteral ts x us) (same_Some w c f) h

  by_undefined : (b : Bool) → bytes_eq (codes "undefined") n ≡ b → (if b then Some v.undefined else None) ≡ Some c → IsLiteral ts c us
  by_undefined true f g = as_value v.undefined g (t, here, kind, word (codes "undefined") f)
  by_undefined false f g = absurd cc

  by_null : (b : Bool) → bytes_eq (codes "null") n ≡ b → (if b then Some v.null else (if bytes_eq (codes "undefined") n then Some v.undefined else None)) ≡ Some c → IsLiteral ts c us
  by_null true f g = as_value v.null g (t, here, kind, word (codes "null") f)
  by_null false f g = by_undefined (bytes_eq (codes "undefined") n) refl g

  by_false : (b : Bool) → bytes_eq (codes "false") n ≡ b → (if b then Some (v.boolean false) else (if bytes_eq (codes "null") n then Some v.null else (if bytes_eq (codes "undefined") n then Some v.undefined else None))) ≡ Some c → IsLiteral ts c us
  by_false true f g = as_value (v.boolean false) g (t, here, kind, word (codes "false") f)
  by_false false f g = by_null (bytes_eq (codes "null") n) refl g

  by_true : (b : Bool) → bytes_eq (codes "true") n ≡ b → (if b then Some (v.boolean true) else (if bytes_eq (codes "false") n then Some (v.boolean false) else (if bytes_eq (codes "null") n then Some v.null else (if bytes_eq (codes "undefined") n then Some v.undefined else None)))) ≡ Some c → IsLiteral ts c us
  by_true true f g = as_value (v.boolean true) g (t, here, kind, word (codes "true") f)
  by_true false f g = by_false (bytes_eq (codes "false") n) refl g

mapped_some : {A B P : Type 0} (f : A → B) (o : Option A) (y : B) → option_map f o ≡ Some y → ((x : A) → o ≡ Some x → f x ≡ y → P) → P
mapped_some f None y e h = absurd cc
mapped_some f (Some x) y e h = h x refl (same_Some (f x) y e)

-- what a path's names are stands there
path_is : (d : ℕ) (ts us : List Token) (t : Token) (ns : List Text) (e : Expr) → ts ≡ t ∷ us → t.kind ≡ k.Path → names_of t.text ≡ ns → path_expr ns ≡ Some e → IsExpr d ts e us
unfolding path_expr
path_is d ts us t [] e here kind names h = absurd cc
path_is d ts us t (n ∷ ns) e here kind names h = by_argument (begins (64 ∷ []) n) refl h where
  is_expr : (f : Expr) → ◌≡◌ {A = Option Expr} (Some f) (Some e) → IsExpr d ts f us → IsExpr d ts e us
  is_expr f g i = subst (λ (x : Expr). IsExpr d ts x us) (same_Some f e g) i

  after_this : (ms : List Text) → ns ≡ ms → bytes_eq (codes "this") n ≡ true → this_path ms ≡ Some e → IsExpr d ts e us
  after_this [] f g i = absurd cc
  after_this (m ∷ ms) f g i = is_expr (this m ms) i (t, here, kind, names ∙ ap (λ x. x ∷ ns) (sym (bytes_same (codes "this") n g)) ∙ ap (λ x. codes "this" ∷ x) f)

  after_word : (ms : List Text) → ns ≡ ms → constant_path n ms ≡ Some e → IsExpr d ts e us
  after_word [] f i = mapped_some literal (constant_of n) e i (λ c is same. subst (λ (x : Expr). IsExpr d ts x us) same (constant_is n c is ts us t here kind (split_one 46 t.text n (names ∙ ap (λ x. n ∷ x) f)).0))
  after_word (m ∷ ms) f i = absurd cc

  by_reserved : (b : Bool) → begins (64 ∷ []) n ≡ false → has_text n reserved ≡ b → (if b then constant_path n ns else Some (bare n ns)) ≡ Some e → IsExpr d ts e us
  by_reserved true a f g = after_word ns refl g
  by_reserved false a f g = is_expr (bare n ns) g (t, here, kind, (names, rw (a, f) refl))

  by_this : (b : Bool) → begins (64 ∷ []) n ≡ false → bytes_eq (codes "this") n ≡ b → (if b then this_path ns else (if has_text n reserved then constant_path n ns else Some (bare n ns))) ≡ Some e → IsExpr d ts e us
  by_this true a f g = after_this ns refl f g
  by_this false a f g = by_reserved (has_text n reserved) a refl g

  by_argument : (b : Bool) → begins (64 ∷ []) n ≡ b → (if b then Some (argument (drop 1 n) ns) else (if bytes_eq (codes "this") n then this_path ns else (if has_text n reserved then constant_path n ns else Some (bare n ns)))) ≡ Some e → IsExpr d ts e us
  by_argument true f g = is_expr (argument (drop 1 n) ns) g (t, here, kind, names ∙ ap (λ x. x ∷ ns) (at_sign n f))
  by_argument false f g = by_this (bytes_eq (codes "this") n) f refl g

-- what is read of one token stands there
token_is : (d : ℕ) (ts us : List Token) (t : Token) (e : Expr) → ts ≡ t ∷ us → token_expr t.kind t.text ≡ Some e → IsExpr d ts e us
unfolding token_expr
token_is d ts us t e here h = by_path (same_kind t.kind k.Path) refl h where
  by_string : (b : Bool) → same_kind t.kind k.StringLit ≡ b → (if b then Some (literal (v.text (string_of t.text))) else None) ≡ Some e → IsExpr d ts e us
  by_string true f g = subst (λ (x : Expr). IsExpr d ts x us) (same_Some (literal (v.text (string_of t.text))) e g) (t, here, same_kind-is t.kind k.StringLit f, refl)
  by_string false f g = absurd cc

  by_number : (b : Bool) → same_kind t.kind k.Number ≡ b → (if b then option_map (λ z. literal (v.integer z)) (whole_of t.text) else (if same_kind t.kind k.StringLit then Some (literal (v.text (string_of t.text))) else None)) ≡ Some e → IsExpr d ts e us
  by_number true f g = mapped_some (λ z. literal (v.integer z)) (whole_of t.text) e g (λ z is same. subst (λ (x : Expr). IsExpr d ts x us) same (t, here, same_kind-is t.kind k.Number f, is))
  by_number false f g = by_string (same_kind t.kind k.StringLit) refl g

  by_path : (b : Bool) → same_kind t.kind k.Path ≡ b → (if b then path_expr (names_of t.text) else (if same_kind t.kind k.Number then option_map (λ z. literal (v.integer z)) (whole_of t.text) else (if same_kind t.kind k.StringLit then Some (literal (v.text (string_of t.text))) else None))) ≡ Some e → IsExpr d ts e us
  by_path true f g = path_is d ts us t (names_of t.text) e here (same_kind-is t.kind k.Path f) refl g
  by_path false f g = by_number (same_kind t.kind k.Number) refl g

pub read_token_is : (d : ℕ) (ts : List Token) (x : Expr × List Token) → read_token ts ≡ Some x → IsExpr d ts x.0 x.1
unfolding read_token
read_token_is d [] x e = absurd cc
read_token_is d (t ∷ ts) x e = mapped_some (λ (f : Expr). (f, ts)) (token_expr t.kind t.text) x e (λ f is same. subst (λ (y : Expr × List Token). IsExpr d (t ∷ ts) y.0 y.1) same (token_is d (t ∷ ts) ts t f refl is))

-- an expression of one token
pub record IsSingle (ts : List Token) (e : Expr) (us : List Token) : Type 0 where
  pub token : Token
  pub here : ts ≡ token ∷ us
  pub reads : token_expr token.kind token.text ≡ Some e
  pub operand : (token.kind ≡ k.Path) ⊎ ((token.kind ≡ k.Number) ⊎ (token.kind ≡ k.StringLit))

path_single : (ts us : List Token) (t : Token) (e : Expr) → ts ≡ t ∷ us → t.kind ≡ k.Path → path_expr (names_of t.text) ≡ Some e → IsSingle ts e us
unfolding token_expr
path_single ts us t e here kind h = record { token = t; here = here; reads = rw (is_same t.kind k.Path kind) h; operand = inl kind }

word_single : (w : Text) (e : Expr) → path_expr (names_of w) ≡ Some e → (ts us : List Token) (t : Token) → ts ≡ t ∷ us → t.kind ≡ k.Path → t.text ≡ w → IsSingle ts e us
word_single w e h ts us t here kind text = path_single ts us t e here kind (ap (λ x. path_expr (names_of x)) text ∙ h)

word_undefined : path_expr (names_of (codes "undefined")) ≡ Some (literal v.undefined)
unfolding path_expr constant_of
word_undefined = refl

word_null : path_expr (names_of (codes "null")) ≡ Some (literal v.null)
unfolding path_expr constant_of
word_null = refl

word_true : path_expr (names_of (codes "true")) ≡ Some (literal (v.boolean true))
unfolding path_expr constant_of
word_true = refl

word_false : path_expr (names_of (codes "false")) ≡ Some (literal (v.boolean false))
unfolding path_expr constant_of
word_false = refl

number_single : (ts us : List Token) (t : Token) (z : ℤ) → ts ≡ t ∷ us → t.kind ≡ k.Number → whole_of t.text ≡ Some z → IsSingle ts (literal (v.integer z)) us
unfolding token_expr
number_single ts us t z here kind h =
    let no : same_kind t.kind k.Path ≡ false = ap (λ x. same_kind x k.Path) kind in
    record { token = t; here = here; reads = rw (no, is_same t.kind k.Number kind, h) refl; operand = inr (inl kind) }

string_single : (ts us : List Token) (t : Token) (s : Text) → ts ≡ t ∷ us → t.kind ≡ k.StringLit → string_of t.text ≡ s → IsSingle ts (literal (v.text s)) us
unfolding token_expr
string_single ts us t s here kind h =
    let no : same_kind t.kind k.Path ≡ false = ap (λ x. same_kind x k.Path) kind in
    let nor : same_kind t.kind k.Number ≡ false = ap (λ x. same_kind x k.Number) kind in
    record { token = t; here = here; reads = rw (no, nor, is_same t.kind k.StringLit kind) (ap (λ x. Some (literal (v.text x))) h); operand = inr (inr kind) }

pub literal_single : (ts : List Token) (c : Plain) (us : List Token) → IsLiteral ts c us → IsSingle ts (literal c) us
literal_single ts v.undefined us h = word_single (codes "undefined") (literal v.undefined) word_undefined ts us h.0 h.1 h.2 h.3
literal_single ts v.null us h = word_single (codes "null") (literal v.null) word_null ts us h.0 h.1 h.2 h.3
literal_single ts (v.boolean true) us h = word_single (codes "true") (literal (v.boolean true)) word_true ts us h.0 h.1 h.2 h.3
literal_single ts (v.boolean false) us h = word_single (codes "false") (literal (v.boolean false)) word_false ts us h.0 h.1 h.2 h.3
literal_single ts (v.integer z) us h = number_single ts us h.0 z h.1 h.2 h.3
literal_single ts (v.text s) us h = string_single ts us h.0 s h.1 h.2 h.3
literal_single ts _ us h = absurd h

path_this : (n : Text) (ns : List Text) → path_expr (codes "this" ∷ n ∷ ns) ≡ Some (this n ns)
unfolding path_expr
path_this n ns = refl

path_argument : (n : Text) (ns : List Text) → path_expr ((64 ∷ n) ∷ ns) ≡ Some (argument n ns)
unfolding path_expr
path_argument n ns = refl

path_bare : (n : Text) (ns : List Text) → is_free n ≡ true → path_expr (n ∷ ns) ≡ Some (bare n ns)
unfolding path_expr
path_bare n ns h =
    let a = not_true (begins (64 ∷ []) n) (and_left (not (begins (64 ∷ []) n)) (not (has_text n reserved)) h) in
    let r = not_true (has_text n reserved) (and_right (not (begins (64 ∷ []) n)) (not (has_text n reserved)) h) in
    let w : bytes_eq n (codes "this") ≡ false = or_left (bytes_eq n (codes "this")) _ r in
    last (begins (64 ∷ []) n) (bytes_eq (codes "this") n) (has_text n reserved) _ _ _ _ a (bytes_eq-sym (codes "this") n ∙ w) r where
      last : (a b c : Bool) (x y z w : Option Expr) → a ≡ false → b ≡ false → c ≡ false → (if a then x else (if b then y else (if c then z else w))) ≡ w
      last a b c x y z w e f g = rw (e, f, g) refl

      or_left : (a b : Bool) → (a || b) ≡ false → a ≡ false
      or_left true b e = e
      or_left false b e = refl

pub this_single : (ts us : List Token) (n : Text) (ns : List Text) (t : Token) → ts ≡ t ∷ us → t.kind ≡ k.Path → names_of t.text ≡ codes "this" ∷ n ∷ ns → IsSingle ts (this n ns) us
this_single ts us n ns t here kind h = path_single ts us t (this n ns) here kind (ap path_expr h ∙ path_this n ns)

pub argument_single : (ts us : List Token) (n : Text) (ns : List Text) (t : Token) → ts ≡ t ∷ us → t.kind ≡ k.Path → names_of t.text ≡ (64 ∷ n) ∷ ns → IsSingle ts (argument n ns) us
argument_single ts us n ns t here kind h = path_single ts us t (argument n ns) here kind (ap path_expr h ∙ path_argument n ns)

pub bare_single : (ts us : List Token) (n : Text) (ns : List Text) (t : Token) → ts ≡ t ∷ us → t.kind ≡ k.Path → names_of t.text ≡ n ∷ ns → is_free n ≡ true → IsSingle ts (bare n ns) us
bare_single ts us n ns t here kind h free = path_single ts us t (bare n ns) here kind (ap path_expr h ∙ path_bare n ns free)

pub single_read : (ts : List Token) (e : Expr) (us : List Token) → IsSingle ts e us → read_token ts ≡ Some (e, us)
unfolding read_token
single_read ts e us s = ap read_token s.here ∙ ap (option_map (λ (f : Expr). (f, us))) s.reads
