-- Tokens that meet what is due are just those that a reader reads.
use Rattle.std.proofs.Common.{◌≡◌, ◌≤◌, ◌-◌, ℕ, zero, suc, List, [], ◌∷◌, ◌++◌, Bool, true, false, not, ◌&&◌, ◌||◌, Option, Some, None, length, refl, sym, ap, ◌∙◌, append_assoc, arith}
use Rattle.std.specs.Prelude.{if◌then◌else◌, option_map, unwrap_or, is_some, ◌==◌}
use Rattle.std.proofs.lemmas.Bool.Decides.{nat_tests}
use Rattle.gl_base.specs.Answers.{◌>>=◌}
use Rattle.gl_base.specs.Texts.{Text}
use Rattle.gl_ast.specs.Grammar.{deepest_calls}
use Rattle.gl_ast.specs.Template.{Expr, bare, exprs_of, named_of, call}
use Rattle.gl_ast.specs.declared.token.Token.{Token}
use Rattle.gl_ast.specs.declared.token.TokenKind.{TokenKind}
use Rattle.gl_ast.specs.declared.token.TokenKind.TheVariants as k
use Rattle.gl_exprs.specs.ReadExpr.{token_expr, read_token, read_name, read_pair, read_exprs, read_named, read_arguments, read_call, read_expr, starts_expr, stands_name, stands_named, is_lone}
use Rattle.gl_parse.specs.ReadStmt.{whole, nothing_left, read_lone}
use Rattle.gl_exprs.specs.Take.{Taken, same_kind, stands, take_kind, read_many}
use Rattle.gl_exprs.proofs.Firsts.{same_kind-is, is_other}
use Rattle.gl_exprs.proofs.ExprLaws.{reads_expr}
use Rattle.gl_exprs.proofs.NameLaws.{read_name_is}
use Rattle.gl_exprs.proofs.Shorter.{kind_shorter, expr_shorter}
use Rattle.gl_parse.specs.Due.{Due, Dues, kind, expr, called, arguments, after_name, named, and_then, step, is_done, due_after, starts_one, starts_arguments, starts_after_name, starts_called, starts_named, is_lone_path, after_paren, expression_due}

-- the tokens are all that is due, and nothing more
abbrev pub accepts : List Due → List Token → Bool
accepts ds [] = is_done ds
accepts ds (t ∷ ts) = unwrap_or (option_map (λ l. accepts l ts) (step ds t)) false

-- the same of what is left, if it is
abbrev pub goes : List Due → Option (List Token) → Bool
goes ds None = false
goes ds (Some us) = accepts ds us

-- what a reader leaves
abbrev pub rest : {A : Type 0} → Taken A → Option (List Token)
rest read = option_map (λ x. x.1) read

-- of what a token leaves due before these
abbrev pub fed : Dues → List Due → List Token → Bool
fed None ds ts = false
fed (Some l) ds ts = accepts (l ++ ds) ts

pub accepts_step : (d : Due) (ds : List Due) (t : Token) (ts : List Token) → accepts (d ∷ ds) (t ∷ ts) ≡ fed (due_after d t) ds ts
accepts_step d ds t ts = by_cases (due_after d t) where
  by_cases : (o : Dues) → unwrap_or (option_map (λ l. accepts l ts) (option_map (λ l. l ++ ds) o)) false ≡ fed o ds ts
  by_cases None = refl
  by_cases (Some l) = refl

pub fed_then : (x : Due) (o : Dues) (ds : List Due) (ts : List Token) → fed (and_then x o) ds ts ≡ fed o (x ∷ ds) ts
fed_then x None ds ts = refl
fed_then x (Some l) ds ts = ap (λ y. accepts y ts) (append_assoc l (x ∷ []) ds)

-- a due thing is what the reader reads
abbrev pub Eats : Due → (List Token → Option (List Token)) → Type 0
Eats d S = (ds : List Due) (ts : List Token) → accepts (d ∷ ds) ts ≡ goes ds (S ts)

pub then_eats : (d : Due) (S : List Token → Option (List Token)) → Eats d S → (ds : List Due) (o : Option (List Token)) → goes (d ∷ ds) o ≡ goes ds (o >>= S)
then_eats d S e ds None = refl
then_eats d S e ds (Some us) = e ds us

pub bind_rest : {A B : Type 0} (o : Taken A) (f : A × List Token → Taken B) (g : List Token → Option (List Token)) → ((x : A × List Token) → rest (f x) ≡ g x.1) → rest (o >>= f) ≡ (rest o >>= g)
bind_rest None f g h = refl
bind_rest (Some x) f g h = h x

pub test_fed : (b : Bool) (ds : List Due) (ts : List Token) → fed (if b then Some [] else None) ds ts ≡ goes ds (if b then Some ts else None)
test_fed true ds ts = refl
test_fed false ds ts = refl

take_rest : (b : Bool) (x : Text) (ts : List Token) → rest (if b then Some (x, ts) else None) ≡ (if b then Some ts else None)
take_rest true x ts = refl
take_rest false x ts = refl

pub eats_kind : (wanted : TokenKind) → Eats (kind wanted) (λ ts. rest (take_kind wanted ts))
unfolding due_after take_kind
eats_kind wanted ds [] = refl
eats_kind wanted ds (t ∷ ts) =
    accepts_step (kind wanted) ds t ts ∙ test_fed (same_kind t.kind wanted) ds ts
    ∙ ap (goes ds) (sym (take_rest (same_kind t.kind wanted) t.text ts))

-- one token of an expression
one_rest : (o : Option Expr) (ds : List Due) (ts : List Token) → fed (if is_some o then Some [] else None) ds ts ≡ goes ds (rest (option_map (λ (e : Expr). (e, ts)) o))
one_rest None ds ts = refl
one_rest (Some e) ds ts = refl

token_none : (t : Token) (ts : List Token) → same_kind t.kind k.Path ≡ false → same_kind t.kind k.Number ≡ false → same_kind t.kind k.StringLit ≡ false → rest (read_token (t ∷ ts)) ≡ None
unfolding read_token token_expr
token_none t ts e f g = rw (e, f, g) refl

paren_none : (t : Token) → same_kind t.kind k.OpenParen ≡ true → token_expr t.kind t.text ≡ None
unfolding token_expr
paren_none t e = ap (λ x. token_expr x t.text) (same_kind-is t.kind k.OpenParen e)

other_fed : (calls : ℕ) (t : Token) (ds : List Due) (ts : List Token) → same_kind t.kind k.OpenParen ≡ false → fed (starts_one calls t) ds ts ≡ goes ds (rest (read_token (t ∷ ts)))
unfolding starts_one read_token
other_fed calls t ds ts e = rw e (one_rest (token_expr t.kind t.text) ds ts)

-- after a name: arguments and the end
pub after_named : ℕ → TokenKind → ℕ → List Token → Option (List Token)
after_named calls end n ts = rest (read_many stands_name (read_pair (read_expr calls)) n ts) >>= λ us. rest (take_kind end us)

pub after_arguments : ℕ → TokenKind → ℕ → List Token → Option (List Token)
after_arguments calls end n ts = rest (read_many starts_expr (read_expr calls) n ts) >>= λ us. after_named calls end (length us) us

unfoldable pub read_to : ℕ → TokenKind → List Token → Option (List Token)
read_to calls end ts = rest (read_arguments (read_expr calls) ts) >>= λ us. rest (take_kind end us)

assoc : (o : Option (List Token)) (f g : List Token → Option (List Token)) → ((o >>= f) >>= g) ≡ (o >>= λ us. (f us >>= g))
assoc None f g = refl
assoc (Some us) f g = refl

read_to_is : (calls : ℕ) (end : TokenKind) (ts : List Token) → read_to calls end ts ≡ after_arguments calls end (length ts) ts
unfolding read_arguments read_to after_arguments after_named read_many
read_to_is calls end ts =
    ap (λ o. o >>= λ us. rest (take_kind end us)) (bind_rest (read_exprs (read_expr calls) (length ts) ts) _ (λ us. rest (read_named (read_expr calls) (length us) us))
    (λ given. by_more (read_named (read_expr calls) (length given.1) given.1) (λ more. (exprs_of given.0, named_of more))))
    ∙ assoc (rest (read_many starts_expr (read_expr calls) (length ts) ts)) (λ us. rest (read_named (read_expr calls) (length us) us)) (λ us. rest (take_kind end us)) where
      by_more : {A B : Type 0} (o : Taken A) (f : A → B) → rest (o >>= λ more. Some (f more.0, more.1)) ≡ rest o
      by_more None f = refl
      by_more (Some x) f = refl

-- a kind that ends arguments is no first token of one
pub record IsLast (end : TokenKind) : Type 0 where
  pub path : same_kind end k.Path ≡ false
  pub number : same_kind end k.Number ≡ false
  pub string : same_kind end k.StringLit ≡ false
  pub opening : same_kind end k.OpenParen ≡ false

pub paren_last : IsLast k.CloseParen
paren_last = record { path = refl; number = refl; string = refl; opening = refl }

pub mustache_last : IsLast k.CloseMustache
mustache_last = record { path = refl; number = refl; string = refl; opening = refl }

pub equals_last : IsLast k.Equals
equals_last = record { path = refl; number = refl; string = refl; opening = refl }

pub parameters_last : IsLast k.Parameters
parameters_last = record { path = refl; number = refl; string = refl; opening = refl }

-- named arguments
abbrev EatsNamed : ℕ → TokenKind → Type 0
EatsNamed calls end = (n : ℕ) (ds : List Due) (ts : List Token) → length ts ≤ n → accepts (named calls end ∷ ds) ts ≡ goes ds (after_named calls end n ts)

many_none : {A : Type 0} (starts : List Token → Bool) (one : List Token → Taken A) (n : ℕ) (ts : List Token) → starts ts ≡ false → read_many starts one n ts ≡ Some ([], ts)
unfolding read_many
many_none starts one zero ts e = rw e refl
many_none starts one (suc n) ts e = rw e refl

many_one : {A : Type 0} (starts : List Token → Bool) (one : List Token → Taken A) (n : ℕ) (ts : List Token) → starts ts ≡ true → rest (read_many starts one (suc n) ts) ≡ (rest (one ts) >>= λ us. rest (read_many starts one n us))
unfolding read_many
many_one starts one n ts e = rw e (bind_rest (one ts) _ (λ us. rest (read_many starts one n us)) (λ x. by_more x.0 (read_many starts one n x.1))) where
  by_more : {A : Type 0} (y : A) (o : Taken (List A)) → rest (o >>= λ more. Some (y ∷ more.0, more.1)) ≡ rest o
  by_more y None = refl
  by_more y (Some x) = refl

lone_both : (t : Token) → is_lone_path t ≡ true → (same_kind t.kind k.Path ≡ true) × (is_lone t.text ≡ true)
lone_both t e = by_kind (same_kind t.kind k.Path) (is_lone t.text) e where
  by_kind : (a b : Bool) → (a && b) ≡ true → (a ≡ true) × (b ≡ true)
  by_kind true b f = (refl, f)
  by_kind false b f = let r : ⊥ = cc in absurd r

pub name_rest : (t : Token) (ts : List Token) → is_lone_path t ≡ true → rest (read_name (t ∷ ts)) ≡ Some ts
unfolding read_name take_kind
name_rest t ts e = let b = lone_both t e in rw (b.0, b.1) refl

name_none : (t : Token) (ts : List Token) → is_lone_path t ≡ false → rest (read_name (t ∷ ts)) ≡ None
unfolding read_name take_kind
name_none t ts e = by_kind (same_kind t.kind k.Path) (is_lone t.text) refl refl e where
  by_kind : (a b : Bool) → same_kind t.kind k.Path ≡ a → is_lone t.text ≡ b → (a && b) ≡ false → rest (read_name (t ∷ ts)) ≡ None
  by_kind true true f g h = let r : ⊥ = cc in absurd r
  by_kind true false f g h = rw (f, g) refl
  by_kind false b f g h = rw f refl

pub stands_is : (t : Token) (ts : List Token) → stands_name (t ∷ ts) ≡ is_lone_path t
unfolding stands_name
stands_is t ts = refl

-- a name, `=` and an expression
pair_rest : (one : List Token → Taken Expr) (ts : List Token) → rest (read_pair one ts) ≡ (rest (read_name ts) >>= λ us. (rest (take_kind k.Equals us) >>= λ vs. rest (one vs)))
unfolding read_pair
pair_rest one ts = bind_rest (read_name ts) _ (λ us. (rest (take_kind k.Equals us) >>= λ vs. rest (one vs))) (λ name. bind_rest (take_kind k.Equals name.1) _ (λ vs. rest (one vs)) (λ mark. by_value name.0 (one mark.1))) where
  by_value : (n : Text) (o : Taken Expr) → rest {A = Text × Expr} (o >>= λ value. Some ((n, value.0), value.1)) ≡ rest o
  by_value n None = refl
  by_value n (Some x) = refl

end_rest : (end : TokenKind) (t : Token) (ts : List Token) → rest (take_kind end (t ∷ ts)) ≡ (if same_kind t.kind end then Some ts else None)
unfolding take_kind
end_rest end t ts = take_rest (same_kind t.kind end) t.text ts

-- a token of the kind that ends is no path
end_no_name : (end : TokenKind) (t : Token) → IsLast end → same_kind t.kind end ≡ true → is_lone_path t ≡ false
end_no_name end t last e = ap (λ b. b && is_lone t.text) (is_other t.kind end k.Path (same_kind-is t.kind end e) last.path)

left_here : (calls : ℕ) (end : TokenKind) (n : ℕ) (ts : List Token) → stands_name ts ≡ false → after_named calls end n ts ≡ rest (take_kind end ts)
unfolding after_named read_many
left_here calls end n ts e = ap (λ o. rest o >>= λ us. rest (take_kind end us)) (many_none stands_name (read_pair (read_expr calls)) n ts e)

one_named : (calls : ℕ) (end : TokenKind) (n : ℕ) (t : Token) (ts : List Token) → is_lone_path t ≡ true
    → after_named calls end (suc n) (t ∷ ts) ≡ (rest (take_kind k.Equals ts) >>= λ us. (rest (read_expr calls us) >>= λ vs. after_named calls end n vs))
unfolding after_named read_many
one_named calls end n t ts e =
    ap (λ o. o >>= λ us. rest (take_kind end us)) (many_one stands_name (read_pair (read_expr calls)) n (t ∷ ts) (stands_is t ts ∙ e)
    ∙ ap (λ o. o >>= λ us. rest (read_many stands_name (read_pair (read_expr calls)) n us)) (pair_rest (read_expr calls) (t ∷ ts) ∙ ap (λ o. o >>= λ us. (rest (take_kind k.Equals us) >>= λ vs. rest (read_expr calls vs))) (name_rest t ts e)))
    ∙ by_cases (rest (take_kind k.Equals ts)) where
      by_cases : (o : Option (List Token)) → (((o >>= λ vs. rest (read_expr calls vs)) >>= λ us. rest (read_many stands_name (read_pair (read_expr calls)) n us)) >>= λ us. rest (take_kind end us))
          ≡ (o >>= λ us. (rest (read_expr calls us) >>= λ vs. after_named calls end n vs))
      by_cases None = refl
      by_cases (Some us) = assoc (rest (read_expr calls us)) (λ vs. rest (read_many stands_name (read_pair (read_expr calls)) n vs)) (λ vs. rest (take_kind end vs))

rest_some : {A : Type 0} (o : Taken A) (us : List Token) → rest o ≡ Some us → (x : A × List Token) × (o ≡ Some x) × (x.1 ≡ us)
rest_some None us e = absurd cc
rest_some (Some x) us e = (x, refl, same_rest x.1 us e) where
  same_rest : (vs us : List Token) → ◌≡◌ {A = Option (List Token)} (Some vs) (Some us) → vs ≡ us
  same_rest vs us f = cc

-- for no more than so many tokens
then_within : (d : Due) (S : List Token → Option (List Token)) (n : ℕ) (ds : List Due) → ((us : List Token) → length us ≤ n → accepts (d ∷ ds) us ≡ goes ds (S us))
    → (o : Option (List Token)) → ((us : List Token) → o ≡ Some us → length us ≤ n) → goes (d ∷ ds) o ≡ goes ds (o >>= S)
then_within d S n ds h None short = refl
then_within d S n ds h (Some us) short = h us (short us refl)

stands_none : stands_name [] ≡ false
unfolding stands_name
stands_none = refl

end_none : (end : TokenKind) → rest (take_kind end []) ≡ None
unfolding take_kind
end_none end = refl

expr_within : (calls n : ℕ) (ts us : List Token) → length ts ≤ suc n → rest (read_expr calls ts) ≡ Some us → length us ≤ n
expr_within calls n ts us h e =
    let x = rest_some (read_expr calls ts) us e in
    let f = expr_shorter calls ts x.0 x.1 in
    let g : length x.0.1 ≡ length us = ap length x.2 in
    omega (arith, h, f, g)

pair_within : (calls n : ℕ) (ts us : List Token) → length ts ≤ n → (rest (take_kind k.Equals ts) >>= λ vs. rest (read_expr calls vs)) ≡ Some us → length us ≤ n
pair_within calls n ts us h e = by_mark (rest (take_kind k.Equals ts)) refl e where
  by_mark : (o : Option (List Token)) → rest (take_kind k.Equals ts) ≡ o → (o >>= λ vs. rest (read_expr calls vs)) ≡ Some us → length us ≤ n
  by_mark None f g = absurd cc
  by_mark (Some vs) f g =
      let x = rest_some (take_kind k.Equals ts) vs f in
      let i = kind_shorter k.Equals ts x.0 x.1 in
      let j : length x.0.1 ≡ length vs = ap length x.2 in
      let y = rest_some (read_expr calls vs) us g in
      let l = expr_shorter calls vs y.0 y.1 in
      let m : length y.0.1 ≡ length us = ap length y.2 in
      omega (arith, h, i, j, l, m)

abbrev EatsExpr : ℕ → Type 0
EatsExpr calls = Eats (expr calls) (λ ts. rest (read_expr calls ts))

eats_named : (calls : ℕ) (end : TokenKind) → IsLast end → EatsExpr calls → EatsNamed calls end
unfolding due_after starts_named
eats_named calls end last one n ds [] h = ap (goes ds) (sym (left_here calls end n [] stands_none ∙ end_none end))
eats_named calls end last one zero ds (t ∷ ts) h = absurd (omega (arith, h))
eats_named calls end last one (suc n) ds (t ∷ ts) h =
    accepts_step (named calls end) ds t ts ∙ by_end (same_kind t.kind end) (is_lone_path t) refl refl (eats_named calls end last one n) where
      short : length ts ≤ n
      short = omega (arith, h)

      by_end : (a b : Bool) → same_kind t.kind end ≡ a → is_lone_path t ≡ b → ((es : List Due) (us : List Token) → length us ≤ n → accepts (named calls end ∷ es) us ≡ goes es (after_named calls end n us))
          → fed (if a then Some [] else (if b then Some (kind k.Equals ∷ expr calls ∷ named calls end ∷ []) else None)) ds ts ≡ goes ds (after_named calls end (suc n) (t ∷ ts))
      by_end true b e f more = ap (goes ds) (sym (left_here calls end (suc n) (t ∷ ts) (stands_is t ts ∙ end_no_name end t last e) ∙ end_rest end t ts ∙ ap (λ x. if x then Some ts else None) e))
      by_end false true e f more =
          eats_kind k.Equals (expr calls ∷ named calls end ∷ ds) ts
          ∙ then_eats (expr calls) (λ us. rest (read_expr calls us)) one (named calls end ∷ ds) (rest (take_kind k.Equals ts))
          ∙ then_within (named calls end) (after_named calls end n) n ds (more ds) (rest (take_kind k.Equals ts) >>= λ us. rest (read_expr calls us)) (λ us g. pair_within calls n ts us short g)
          ∙ ap (goes ds) (assoc (rest (take_kind k.Equals ts)) (λ us. rest (read_expr calls us)) (after_named calls end n) ∙ sym (one_named calls end n t ts f))
      by_end false false e f more = ap (goes ds) (sym (left_here calls end (suc n) (t ∷ ts) (stands_is t ts ∙ f) ∙ end_rest end t ts ∙ ap (λ x. if x then Some ts else None) e))

-- which tokens begin an expression
starts_is : (t : Token) (ts : List Token) → starts_expr (t ∷ ts) ≡ ((same_kind t.kind k.Path || same_kind t.kind k.Number || same_kind t.kind k.StringLit || same_kind t.kind k.OpenParen) && not (is_lone_path t && stands k.Equals ts))
unfolding starts_expr stands_named stands_name stands
starts_is t ts = refl

none_starts : (calls : ℕ) (end : TokenKind) (n : ℕ) (ts : List Token) → starts_expr ts ≡ false → after_arguments calls end n ts ≡ after_named calls end (length ts) ts
unfolding after_arguments read_many
none_starts calls end n ts e = ap (λ o. rest o >>= λ us. after_named calls end (length us) us) (many_none starts_expr (read_expr calls) n ts e)

one_starts : (calls : ℕ) (end : TokenKind) (n : ℕ) (ts : List Token) → starts_expr ts ≡ true → after_arguments calls end (suc n) ts ≡ (rest (read_expr calls ts) >>= λ us. after_arguments calls end n us)
unfolding after_arguments read_many
one_starts calls end n ts e =
    ap (λ o. o >>= λ us. after_named calls end (length us) us) (many_one starts_expr (read_expr calls) n ts e)
    ∙ assoc (rest (read_expr calls ts)) (λ us. rest (read_many starts_expr (read_expr calls) n us)) (λ us. after_named calls end (length us) us)

-- a lone name is an expression
lone_read : (calls : ℕ) (t : Token) (ts : List Token) → is_lone_path t ≡ true → rest (read_expr calls (t ∷ ts)) ≡ Some ts
lone_read calls t ts e =
    let x = rest_some (read_name (t ∷ ts)) ts (name_rest t ts e) in
    ap rest (reads_expr calls (t ∷ ts) (bare x.0.0 []) x.0.1 (read_name_is (t ∷ ts) x.0 x.1)) ∙ ap Some x.2

starts_none : starts_expr [] ≡ false
unfolding starts_expr stands stands_named stands_name
starts_none = refl

stands_end : stands k.Equals [] ≡ false
unfolding stands
stands_end = refl

stands_first : (wanted : TokenKind) (t : Token) (ts : List Token) → stands wanted (t ∷ ts) ≡ same_kind t.kind wanted
unfolding stands
stands_first wanted t ts = refl

end_no_start : (end : TokenKind) (t : Token) (ts : List Token) → IsLast end → same_kind t.kind end ≡ true → starts_expr (t ∷ ts) ≡ false
end_no_start end t ts last e =
    let is = same_kind-is t.kind end e in
    starts_is t ts ∙ rw (is_other t.kind end k.Path is last.path, is_other t.kind end k.Number is last.number, is_other t.kind end k.StringLit is last.string, is_other t.kind end k.OpenParen is last.opening) refl

lone_starts : (t : Token) (ts : List Token) (b : Bool) → is_lone_path t ≡ true → stands k.Equals ts ≡ b → starts_expr (t ∷ ts) ≡ not b
lone_starts t ts b e f =
    starts_is t ts ∙ ap (λ x. x && not (is_lone_path t && stands k.Equals ts)) (first (same_kind t.kind k.Path) _ _ _ (lone_both t e).0) ∙ ap (λ x. not (x && stands k.Equals ts)) e ∙ ap not f where
      first : (a b c d : Bool) → a ≡ true → (a || b || c || d) ≡ true
      first true b c d g = refl
      first false b c d g = let r : ⊥ = cc in absurd r

as_token : (calls : ℕ) (t : Token) (ts : List Token) → stands k.OpenParen (t ∷ ts) ≡ false → read_expr calls (t ∷ ts) ≡ read_token (t ∷ ts)
unfolding read_expr
as_token zero t ts g = refl
as_token (suc calls) t ts g = rw g refl

-- no expression where none starts
no_start_none : (calls : ℕ) (t : Token) (ts : List Token) → is_lone_path t ≡ false → starts_expr (t ∷ ts) ≡ false → rest (read_expr calls (t ∷ ts)) ≡ None
no_start_none calls t ts e f = by_kinds (same_kind t.kind k.Path) (same_kind t.kind k.Number) (same_kind t.kind k.StringLit) (same_kind t.kind k.OpenParen) refl refl refl refl (sym (starts_is t ts ∙ ap (λ x. (same_kind t.kind k.Path || same_kind t.kind k.Number || same_kind t.kind k.StringLit || same_kind t.kind k.OpenParen) && not (x && stands k.Equals ts)) e) ∙ f) where
  by_kinds : (a b c d : Bool) → same_kind t.kind k.Path ≡ a → same_kind t.kind k.Number ≡ b → same_kind t.kind k.StringLit ≡ c → same_kind t.kind k.OpenParen ≡ d → ((a || b || c || d) && true) ≡ false → rest (read_expr calls (t ∷ ts)) ≡ None
  by_kinds true b c d g h i j m = let r : ⊥ = cc in absurd r
  by_kinds false true c d g h i j m = let r : ⊥ = cc in absurd r
  by_kinds false false true d g h i j m = let r : ⊥ = cc in absurd r
  by_kinds false false false true g h i j m = let r : ⊥ = cc in absurd r
  by_kinds false false false false g h i j m = ap rest (as_token calls t ts (stands_first k.OpenParen t ts ∙ j)) ∙ token_none t ts g h i

abbrev EatsArguments : ℕ → TokenKind → ℕ → Type 0
EatsArguments calls end n = (ds : List Due) (ts : List Token) → length ts ≤ n → accepts (arguments calls end ∷ ds) ts ≡ goes ds (after_arguments calls end n ts)

after_lone : (calls : ℕ) (end : TokenKind) → IsLast end → EatsExpr calls → (n : ℕ) → EatsArguments calls end n → (ds : List Due) (t : Token) (ts : List Token) → is_lone_path t ≡ true → length ts ≤ n
    → accepts (after_name calls end ∷ ds) ts ≡ goes ds (after_arguments calls end (suc n) (t ∷ ts))
unfolding due_after starts_after_name
after_lone calls end last one n more ds t [] e h =
    ap (goes ds) (sym (one_starts calls end n (t ∷ []) (lone_starts t [] false e stands_end) ∙ ap (λ o. o >>= λ us. after_arguments calls end n us) (lone_read calls t [] e)
    ∙ none_starts calls end n [] starts_none ∙ left_here calls end 0 [] stands_none ∙ end_none end))
after_lone calls end last one n more ds t (u ∷ us) e h = accepts_step (after_name calls end) ds u us ∙ by_equals (same_kind u.kind k.Equals) refl where
  by_equals : (b : Bool) → same_kind u.kind k.Equals ≡ b → fed (if b then Some (expr calls ∷ named calls end ∷ []) else starts_arguments calls end u) ds us ≡ goes ds (after_arguments calls end (suc n) (t ∷ u ∷ us))
  by_equals true f =
      let m = length (u ∷ us) in
      let short : length us ≤ suc m = omega arith in
      one (named calls end ∷ ds) us
      ∙ then_within (named calls end) (after_named calls end m) m ds (eats_named calls end last one m ds) (rest (read_expr calls us)) (λ vs g. expr_within calls m us vs short g)
      ∙ ap (goes ds) (sym (none_starts calls end (suc n) (t ∷ u ∷ us) (lone_starts t (u ∷ us) true e (stands_first k.Equals u us ∙ f))
      ∙ one_named calls end m t (u ∷ us) e ∙ ap (λ o. o >>= λ vs. (rest (read_expr calls vs) >>= λ ws. after_named calls end m ws)) (end_rest k.Equals u us ∙ ap (λ x. if x then Some us else None) f)))
  by_equals false f =
      sym (accepts_step (arguments calls end) ds u us) ∙ more ds (u ∷ us) h
      ∙ ap (goes ds) (sym (one_starts calls end n (t ∷ u ∷ us) (lone_starts t (u ∷ us) false e (stands_first k.Equals u us ∙ f)) ∙ ap (λ o. o >>= λ vs. after_arguments calls end n vs) (lone_read calls t (u ∷ us) e)))

eats_arguments : (calls : ℕ) (end : TokenKind) → IsLast end → EatsExpr calls → (n : ℕ) → EatsArguments calls end n
unfolding due_after starts_arguments
eats_arguments calls end last one n ds [] h = ap (goes ds) (sym (none_starts calls end n [] starts_none ∙ left_here calls end 0 [] stands_none ∙ end_none end))
eats_arguments calls end last one zero ds (t ∷ ts) h = absurd (omega (arith, h))
eats_arguments calls end last one (suc n) ds (t ∷ ts) h =
    accepts_step (arguments calls end) ds t ts ∙ by_end (same_kind t.kind end) (is_lone_path t) refl refl (eats_arguments calls end last one n) where
      short : length ts ≤ n
      short = omega (arith, h)

      by_start : (b : Bool) → same_kind t.kind end ≡ false → is_lone_path t ≡ false → starts_expr (t ∷ ts) ≡ b → EatsArguments calls end n → goes (arguments calls end ∷ ds) (rest (read_expr calls (t ∷ ts))) ≡ goes ds (after_arguments calls end (suc n) (t ∷ ts))
      by_start true e f g more =
          then_within (arguments calls end) (after_arguments calls end n) n ds (more ds) (rest (read_expr calls (t ∷ ts))) (λ us i. expr_within calls n (t ∷ ts) us h i)
          ∙ ap (goes ds) (sym (one_starts calls end n (t ∷ ts) g))
      by_start false e f g more =
          ap (goes (arguments calls end ∷ ds)) (no_start_none calls t ts f g)
          ∙ ap (goes ds) (sym (none_starts calls end (suc n) (t ∷ ts) g ∙ left_here calls end (length (t ∷ ts)) (t ∷ ts) (stands_is t ts ∙ f) ∙ end_rest end t ts ∙ ap (λ x. if x then Some ts else None) e))

      by_end : (a b : Bool) → same_kind t.kind end ≡ a → is_lone_path t ≡ b → EatsArguments calls end n
          → fed (if a then Some [] else (if b then Some (after_name calls end ∷ []) else and_then (arguments calls end) (starts_one calls t))) ds ts ≡ goes ds (after_arguments calls end (suc n) (t ∷ ts))
      by_end true b e f more =
          ap (goes ds) (sym (none_starts calls end (suc n) (t ∷ ts) (end_no_start end t ts last e) ∙ left_here calls end (length (t ∷ ts)) (t ∷ ts) (stands_is t ts ∙ end_no_name end t last e) ∙ end_rest end t ts ∙ ap (λ x. if x then Some ts else None) e))
      by_end false true e f more = after_lone calls end last one n more ds t ts f short
      by_end false false e f more =
          fed_then (arguments calls end) (starts_one calls t) ds ts ∙ sym (accepts_step (expr calls) (arguments calls end ∷ ds) t ts) ∙ one (arguments calls end ∷ ds) (t ∷ ts)
          ∙ by_start (starts_expr (t ∷ ts)) e f refl more

-- arguments up to a token that ends them
pub eats_to : (calls : ℕ) (end : TokenKind) → IsLast end → EatsExpr calls → Eats (arguments calls end) (read_to calls end)
eats_to calls end last one ds ts = let h : length ts ≤ length ts = omega arith in eats_arguments calls end last one (length ts) ds ts h ∙ ap (goes ds) (sym (read_to_is calls end ts))

-- a token that ends arguments begins no expression
pub no_expr_at : (calls : ℕ) (end : TokenKind) (t : Token) (ts : List Token) → IsLast end → same_kind t.kind end ≡ true → rest (read_expr calls (t ∷ ts)) ≡ None
no_expr_at calls end t ts last e = no_start_none calls t ts (end_no_name end t last e) (end_no_start end t ts last e)

name_nothing : rest (read_name []) ≡ None
unfolding read_name take_kind
name_nothing = refl

pub eats_called : (calls : ℕ) (end : TokenKind) → IsLast end → EatsExpr calls → Eats (called calls end) (λ ts. rest (read_name ts) >>= read_to calls end)
unfolding due_after starts_called
eats_called calls end last one ds [] = ap (λ o. goes ds (o >>= read_to calls end)) (sym name_nothing)
eats_called calls end last one ds (t ∷ ts) = accepts_step (called calls end) ds t ts ∙ by_name (is_lone_path t) refl where
  by_name : (b : Bool) → is_lone_path t ≡ b → fed (if b then Some (arguments calls end ∷ []) else None) ds ts ≡ goes ds (rest (read_name (t ∷ ts)) >>= read_to calls end)
  by_name true e = eats_to calls end last one ds ts ∙ ap (λ o. goes ds (o >>= read_to calls end)) (sym (name_rest t ts e))
  by_name false e = ap (λ o. goes ds (o >>= read_to calls end)) (sym (name_none t ts e))

call_rest : (calls : ℕ) (ts : List Token) → rest (read_call (read_expr calls) ts) ≡ (rest (take_kind k.OpenParen ts) >>= λ us. (rest (read_name us) >>= read_to calls k.CloseParen))
unfolding read_call read_to
call_rest calls ts = bind_rest (take_kind k.OpenParen ts) _ (λ us. (rest (read_name us) >>= read_to calls k.CloseParen)) (λ front.
    bind_rest (read_name front.1) _ (read_to calls k.CloseParen) (λ name.
    bind_rest (read_arguments (read_expr calls) name.1) _ (λ us. rest (take_kind k.CloseParen us)) (λ given. by_back (take_kind k.CloseParen given.1) (call name.0 given.0.0 given.0.1)))) where
      by_back : (o : Taken Text) (e : Expr) → rest (o >>= λ back. Some (e, back.1)) ≡ rest o
      by_back None e = refl
      by_back (Some x) e = refl

token_nothing : rest (read_token []) ≡ None
unfolding read_token
token_nothing = refl

paren_nothing : (calls : ℕ) → rest (if stands k.OpenParen [] then read_call (read_expr calls) [] else read_token []) ≡ None
unfolding stands read_token
paren_nothing calls = refl

zero_paren : (t : Token) (ds : List Due) (ts : List Token) → same_kind t.kind k.OpenParen ≡ true → fed (starts_one zero t) ds ts ≡ goes ds (rest (read_token (t ∷ ts)))
unfolding starts_one read_token
zero_paren t ds ts e = rw (e, paren_none t e) refl

zero_fed : (b : Bool) (t : Token) (ds : List Due) (ts : List Token) → same_kind t.kind k.OpenParen ≡ b → fed (starts_one zero t) ds ts ≡ goes ds (rest (read_token (t ∷ ts)))
zero_fed true t ds ts e = zero_paren t ds ts e
zero_fed false t ds ts e = other_fed zero t ds ts e

some_calls : (calls : ℕ) (ds : List Due) (ts : List Token) → fed (after_paren (suc calls)) ds ts ≡ accepts (called calls k.CloseParen ∷ ds) ts
some_calls calls ds ts =
    let z : (suc calls == 0) ≡ false = grind (arith, nat_tests) in
    let g : suc calls - 1 ≡ calls = omega arith in
    rw (z, g) refl

paren_starts : (calls : ℕ) (t : Token) → same_kind t.kind k.OpenParen ≡ true → starts_one calls t ≡ after_paren calls
unfolding starts_one
paren_starts calls t e = rw e refl

suc_fed : (b : Bool) (calls : ℕ) (t : Token) (ds : List Due) (ts : List Token) → same_kind t.kind k.OpenParen ≡ b → EatsExpr calls
    → fed (starts_one (suc calls) t) ds ts ≡ goes ds (rest (if stands k.OpenParen (t ∷ ts) then read_call (read_expr calls) (t ∷ ts) else read_token (t ∷ ts)))
suc_fed true calls t ds ts e one =
    rw (stands_first k.OpenParen t ts ∙ e) (ap (λ o. fed o ds ts) (paren_starts (suc calls) t e) ∙ some_calls calls ds ts ∙ eats_called calls k.CloseParen paren_last one ds ts
    ∙ ap (goes ds) (sym (call_rest calls (t ∷ ts) ∙ ap (λ o. o >>= λ us. (rest (read_name us) >>= read_to calls k.CloseParen)) (end_rest k.OpenParen t ts ∙ ap (λ x. if x then Some ts else None) e))))
suc_fed false calls t ds ts e one = rw (stands_first k.OpenParen t ts ∙ e) (other_fed (suc calls) t ds ts e)

-- no tokens are no expression
pub no_expr_left : (calls : ℕ) → rest (read_expr calls []) ≡ None
unfolding read_expr
no_expr_left zero = token_nothing
no_expr_left (suc calls) = paren_nothing calls

-- an expression
pub eats_expr : (calls : ℕ) → EatsExpr calls
unfolding due_after read_expr
eats_expr zero ds [] = ap (goes ds) (sym token_nothing)
eats_expr zero ds (t ∷ ts) = accepts_step (expr zero) ds t ts ∙ zero_fed (same_kind t.kind k.OpenParen) t ds ts refl
eats_expr (suc calls) ds [] = ap (goes ds) (sym (paren_nothing calls))
eats_expr (suc calls) ds (t ∷ ts) = accepts_step (expr (suc calls)) ds t ts ∙ suc_fed (same_kind t.kind k.OpenParen) calls t ds ts refl (eats_expr calls)

-- so tokens are accepted where they are an expression
pub accepts_expression : (ts : List Token) → accepts expression_due ts ≡ is_some (read_lone ts)
unfolding read_lone whole
accepts_expression ts = eats_expr deepest_calls [] ts ∙ by_cases (read_expr deepest_calls ts) where
  by_cases : (o : Taken Expr) → goes [] (rest o) ≡ is_some (o >>= λ p. (if nothing_left p.1 then Some p.0 else None))
  by_cases None = refl
  by_cases (Some (e, [])) = refl
  by_cases (Some (e, t ∷ us)) = refl
