-- Expressions and mustaches are read exactly where they stand.
use Rattle.std.proofs.Common.{◌≡◌, inl, inr, ◌≤◌, ℕ, zero, suc, List, [], ◌∷◌, Bool, true, false, Some, length, refl, sym, ap, ◌∙◌, subst, arith}
use Rattle.std.specs.Prelude.{if◌then◌else◌, not}
use Rattle.std.proofs.lemmas.Option.{option_and_then_some, same_Some}
use Rattle.gl_base.specs.Texts.{Text}
use Rattle.gl_ast.specs.Grammar.{Mark, IsName, IsExpr, AreExprs, AreNamed, IsCall, IsInner, IsMustache, deepest_calls, has_argument}
use Rattle.gl_ast.specs.Template.{Expr, literal, this, argument, bare, call, cat, Exprs, no_exprs, expr, NamedExprs, no_named, named_expr, exprs_of, named_of}
use Rattle.gl_ast.specs.TokenText.{has_char, is_free}
use Rattle.gl_ast.specs.declared.token.Token.{Token}
use Rattle.gl_ast.specs.declared.token.TokenKind.TheVariants as k
use Rattle.gl_exprs.specs.ReadExpr.{is_lone, read_token, stands_name, starts_expr, read_pair, read_exprs, read_named, read_arguments, read_call, read_expr, called, read_called, read_inner, read_mustache}
use Rattle.gl_exprs.specs.Take.{same_kind, stands}
use Rattle.gl_exprs.proofs.Chains.{Chain, many_chain, IsRead, chain_many}
use Rattle.gl_exprs.proofs.Firsts.{same_kind-is, kind_is, takes_kind, kind_stands, other_stands}
use Rattle.gl_exprs.proofs.NameLaws.{and_left, and_right, not_true, split_whole, read_name_is, reads_name, name_stands}
use Rattle.gl_exprs.proofs.Shorter.{expr_shorter, pair_shorter}
use Rattle.gl_exprs.proofs.Starts.{starts_single, single_other, starts_open, named_starts, no_name, IsEnd, end_paren, end_mustache}
use Rattle.gl_exprs.proofs.TokenLaws.{IsSingle, read_token_is, literal_single, this_single, argument_single, bare_single, single_read}

-- the trees of arguments as lists
abbrev pub list_of : Exprs → List Expr
list_of no_exprs = []
list_of (expr e es) = e ∷ list_of es

abbrev pub pairs_of : NamedExprs → List (Text × Expr)
pairs_of no_named = []
pairs_of (named_expr n e ns) = (n, e) ∷ pairs_of ns

pub exprs_of-list_of : (es : Exprs) → exprs_of (list_of es) ≡ es
exprs_of-list_of no_exprs = refl
exprs_of-list_of (expr e es) = ap (λ x. expr e x) (exprs_of-list_of es)

pub named_of-pairs_of : (ns : NamedExprs) → named_of (pairs_of ns) ≡ ns
named_of-pairs_of no_named = refl
named_of-pairs_of (named_expr n e ns) = ap (λ x. named_expr n e x) (named_of-pairs_of ns)

-- a name, `=` and an expression
abbrev pub IsPair : ℕ → List Token → Text × Expr → List Token → Type 0
IsPair calls ts p us = (vs ws : List Token) × IsName ts p.0 vs × Mark k.Equals vs ws × IsExpr calls ws p.1 us

pub exprs_chain : (calls : ℕ) (ts : List Token) (es : Exprs) (us : List Token) → AreExprs calls ts es us → Chain (IsExpr calls) ts (list_of es) us
exprs_chain calls ts no_exprs us h = h
exprs_chain calls ts (expr e es) us h = (h.0, h.1, exprs_chain calls h.0 es us h.2)

pub chain_exprs : (calls : ℕ) (ts : List Token) (es : List Expr) (us : List Token) → Chain (IsExpr calls) ts es us → AreExprs calls ts (exprs_of es) us
chain_exprs calls ts [] us h = h
chain_exprs calls ts (e ∷ es) us h = (h.0, h.1, chain_exprs calls h.0 es us h.2)

pub named_chain : (calls : ℕ) (ts : List Token) (ns : NamedExprs) (us : List Token) → AreNamed calls ts ns us → Chain (IsPair calls) ts (pairs_of ns) us
named_chain calls ts no_named us h = h
named_chain calls ts (named_expr n e ns) us h = (h.2, (h.0, h.1, h.3, h.4, h.5), named_chain calls h.2 ns us h.6)

pub chain_named : (calls : ℕ) (ts : List Token) (ps : List (Text × Expr)) (us : List Token) → Chain (IsPair calls) ts ps us → AreNamed calls ts (named_of ps) us
chain_named calls ts [] us h = h
chain_named calls ts (p ∷ ps) us h = (h.1.0, h.1.1, h.0, h.1.2, h.1.3, h.1.4, chain_named calls h.0 ps us h.2)

-- What is read stands there: with `one` as the reader of expressions and One as the relation that it keeps.

pair_is : (calls : ℕ) → ((ts : List Token) (x : Expr × List Token) → read_expr calls ts ≡ Some x → IsExpr calls ts x.0 x.1) → (ts : List Token) (x : (Text × Expr) × List Token) → read_pair (read_expr calls) ts ≡ Some x → IsPair calls ts x.0 x.1
unfolding read_pair
pair_is calls h ts x e = option_and_then_some _ _ x e (λ name p e1. option_and_then_some _ _ x e1 (λ mark q e2. option_and_then_some _ _ x e2 (λ value r last.
    let f = kind_is k.Equals name.1 mark q in
    subst (λ (y : (Text × Expr) × List Token). IsPair calls ts y.0 y.1) (same_Some {A = (Text × Expr) × List Token} ((name.0, value.0), value.1) x last)
    (name.1, mark.1, read_name_is ts name p, (f.token, f.here, f.is_kind), h mark.1 value r))))

-- positional arguments, then named ones
abbrev pub AreArguments : ℕ → List Token → Exprs → NamedExprs → List Token → Type 0
AreArguments calls ts es ns us = (vs : List Token) × AreExprs calls ts es vs × AreNamed calls vs ns us

arguments_are : (calls : ℕ) → ((ts : List Token) (x : Expr × List Token) → read_expr calls ts ≡ Some x → IsExpr calls ts x.0 x.1) → (ts : List Token) (x : (Exprs × NamedExprs) × List Token) → read_arguments (read_expr calls) ts ≡ Some x → AreArguments calls ts x.0.0 x.0.1 x.1
unfolding read_arguments
arguments_are calls h ts x e = option_and_then_some _ _ x e (λ given p e1. option_and_then_some _ _ x e1 (λ more q last.
    let f = chain_exprs calls ts given.0 given.1 (many_chain starts_expr (read_expr calls) (IsExpr calls) (length ts) ts given h p) in
    let g = chain_named calls given.1 more.0 more.1 (many_chain stands_name (read_pair (read_expr calls)) (IsPair calls) (length given.1) given.1 more (pair_is calls h) q) in
    subst (λ (y : (Exprs × NamedExprs) × List Token). AreArguments calls ts y.0.0 y.0.1 y.1) (same_Some {A = (Exprs × NamedExprs) × List Token} ((exprs_of given.0, named_of more.0), more.1) x last) (given.1, f, g)))

call_is : (calls : ℕ) → ((ts : List Token) (x : Expr × List Token) → read_expr calls ts ≡ Some x → IsExpr calls ts x.0 x.1) → (ts : List Token) (x : Expr × List Token) → read_call (read_expr calls) ts ≡ Some x → IsExpr (suc calls) ts x.0 x.1
unfolding read_call
call_is calls h ts x e = option_and_then_some _ _ x e (λ front p e1. option_and_then_some _ _ x e1 (λ name q e2. option_and_then_some _ _ x e2 (λ given r e3. option_and_then_some _ _ x e3 (λ back s last.
    let f = kind_is k.OpenParen ts front p in
    let g = arguments_are calls h name.1 given r in
    let i = kind_is k.CloseParen given.1 back s in
    subst (λ (y : Expr × List Token). IsExpr (suc calls) ts y.0 y.1) (same_Some {A = Expr × List Token} (call name.0 given.0.0 given.0.1, back.1) x last)
    (front.1, name.1, g.0, given.1, (f.token, f.here, f.is_kind), read_name_is front.1 name q, g.1, g.2, (i.token, i.here, i.is_kind))))))

expr_case : (b : Bool) (calls : ℕ) → ((ts : List Token) (x : Expr × List Token) → read_expr calls ts ≡ Some x → IsExpr calls ts x.0 x.1) → (ts : List Token) (x : Expr × List Token) → (if b then read_call (read_expr calls) ts else read_token ts) ≡ Some x → IsExpr (suc calls) ts x.0 x.1
expr_case true calls h ts x e = call_is calls h ts x e
expr_case false calls h ts x e = read_token_is (suc calls) ts x e

-- an expression that is read stands there
pub expr_is : (calls : ℕ) (ts : List Token) (x : Expr × List Token) → read_expr calls ts ≡ Some x → IsExpr calls ts x.0 x.1
unfolding read_expr
expr_is zero ts x e = read_token_is zero ts x e
expr_is (suc calls) ts x e = expr_case (stands k.OpenParen ts) calls (expr_is calls) ts x e

pub read_expr_is : (calls : ℕ) (ts : List Token) (e : Expr) (us : List Token) → read_expr calls ts ≡ Some (e, us) → IsExpr calls ts e us
read_expr_is calls ts e us h = expr_is calls ts (e, us) h

-- What stands there is read.

abbrev pub Follow : List Token → Type 0
Follow us = stands k.Equals us ≡ false

expr_starts : (calls : ℕ) (ts : List Token) (e : Expr) (vs : List Token) → IsExpr calls ts e vs → Follow vs → (starts_expr ts ≡ true) × Follow ts
expr_starts calls ts (literal c) vs h f = let s = literal_single ts c vs h in (starts_single ts (literal c) vs s f, single_other ts (literal c) vs k.Equals s refl refl refl)
expr_starts calls ts (this n ns) vs h f = let s = this_single ts vs n ns h.0 h.1 h.2 h.3 in (starts_single ts (this n ns) vs s f, single_other ts (this n ns) vs k.Equals s refl refl refl)
expr_starts calls ts (argument n ns) vs h f = let s = argument_single ts vs n ns h.0 h.1 h.2 h.3 in (starts_single ts (argument n ns) vs s f, single_other ts (argument n ns) vs k.Equals s refl refl refl)
expr_starts calls ts (bare n ns) vs h f = let s = bare_single ts vs n ns h.0 h.1 h.2 h.3.0 h.3.1 in (starts_single ts (bare n ns) vs s f, single_other ts (bare n ns) vs k.Equals s refl refl refl)
expr_starts zero ts (call n es ns) vs h f = absurd h
expr_starts (suc calls) ts (call n es ns) vs h f = (starts_open ts h.0 h.4, other_stands k.OpenParen k.Equals ts h.0 h.4.0 h.4.1 h.4.2 refl)
expr_starts calls ts (cat es) vs h f = absurd h

-- that expressions with so many calls are read
abbrev pub AreRead : ℕ → Type 0
AreRead calls = (ts : List Token) (e : Expr) (us : List Token) → IsExpr calls ts e us → read_expr calls ts ≡ Some (e, us)

expr_read : (calls : ℕ) → AreRead calls → (ts : List Token) (e : Expr) (vs : List Token) → IsExpr calls ts e vs → Follow vs → IsRead starts_expr (read_expr calls) Follow ts e vs
expr_read calls h ts e vs is f =
    let s = expr_starts calls ts e vs is f in
    record { going = s.0; reads = h ts e vs is; less = expr_shorter calls ts (e, vs) (h ts e vs is); follows = s.1 }

abbrev Any : List Token → Type 0
Any us = Unit {0}

pair_reads : (calls : ℕ) → AreRead calls → (ts : List Token) (p : Text × Expr) (vs : List Token) → IsPair calls ts p vs → read_pair (read_expr calls) ts ≡ Some (p, vs)
unfolding read_pair
pair_reads calls h ts p vs is = rw (reads_name ts p.0 is.0 is.2, takes_kind k.Equals is.0 is.1 is.3.0 is.3.1 is.3.2, h is.1 p.1 vs is.4) refl

pair_read : (calls : ℕ) → AreRead calls → (ts : List Token) (p : Text × Expr) (vs : List Token) → IsPair calls ts p vs → Any vs → IsRead stands_name (read_pair (read_expr calls)) Any ts p vs
pair_read calls h ts p vs is f = record {
  going = name_stands ts p.0 is.0 is.2;
  reads = pair_reads calls h ts p vs is;
  less = pair_shorter (read_expr calls) ts (p, vs) (expr_shorter calls) (pair_reads calls h ts p vs is);
  follows = tt;
}

exprs_read : (calls : ℕ) → AreRead calls → (n : ℕ) (ts : List Token) (es : Exprs) (us : List Token) → AreExprs calls ts es us → starts_expr us ≡ false → Follow us → length ts ≤ n → read_exprs (read_expr calls) n ts ≡ Some (list_of es, us)
exprs_read calls h n ts es us are ends f fits = chain_many starts_expr (read_expr calls) (IsExpr calls) Follow (expr_read calls h) n ts (list_of es) us (exprs_chain calls ts es us are) ends f fits

named_read : (calls : ℕ) → AreRead calls → (n : ℕ) (ts : List Token) (ns : NamedExprs) (us : List Token) → AreNamed calls ts ns us → stands_name us ≡ false → length ts ≤ n → read_named (read_expr calls) n ts ≡ Some (pairs_of ns, us)
named_read calls h n ts ns us are ends fits = chain_many stands_name (read_pair (read_expr calls)) (IsPair calls) Any (pair_read calls h) n ts (pairs_of ns) us (named_chain calls ts ns us are) ends tt fits

-- where named arguments begin, or none come, no expression begins and no `=` stands
named_ends : (calls : ℕ) (vs : List Token) (ns : NamedExprs) (us : List Token) → AreNamed calls vs ns us → IsEnd us → (starts_expr vs ≡ false) × Follow vs
named_ends calls vs no_named us h e = (ap starts_expr h ∙ e.no_expr, ap (stands k.Equals) h ∙ e.no_equals)
named_ends calls vs (named_expr n x ns) us h e = (named_starts vs n h.0 h.1 h.3 h.4, other_stands k.Path k.Equals vs h.0 h.3.0 h.3.1 h.3.2 refl)

arguments_read : (calls : ℕ) → AreRead calls → (ts : List Token) (es : Exprs) (ns : NamedExprs) (us : List Token) → AreArguments calls ts es ns us → IsEnd us → read_arguments (read_expr calls) ts ≡ Some ((es, ns), us)
unfolding read_arguments
arguments_read calls h ts es ns us are ends =
    let e = named_ends calls are.0 ns us are.2 ends in
    let f = exprs_read calls h (length ts) ts es are.0 are.1 e.0 e.1 (omega arith) in
    let g = named_read calls h (length are.0) are.0 ns us are.2 ends.no_pair (omega arith) in
    rw (f, g, exprs_of-list_of es, named_of-pairs_of ns) refl

call_read : (calls : ℕ) → AreRead calls → (ts : List Token) (n : Text) (es : Exprs) (ns : NamedExprs) (us : List Token) → IsExpr (suc calls) ts (call n es ns) us → read_call (read_expr calls) ts ≡ Some (call n es ns, us)
unfolding read_call
call_read calls h ts n es ns us is =
    let front = takes_kind k.OpenParen ts is.0 is.4.0 is.4.1 is.4.2 in
    let name = reads_name is.0 n is.1 is.5 in
    let given = arguments_read calls h is.1 es ns is.3 (is.2, is.6, is.7) (end_paren is.3 us is.8) in
    let close = takes_kind k.CloseParen is.3 us is.8.0 is.8.1 is.8.2 in
    rw (front, name, given, close) refl

single_reads : (calls : ℕ) (ts : List Token) (e : Expr) (us : List Token) → IsSingle ts e us → read_expr calls ts ≡ Some (e, us)
unfolding read_expr
single_reads zero ts e us s = single_read ts e us s
single_reads (suc calls) ts e us s = rw (single_other ts e us k.OpenParen s refl refl refl) (single_read ts e us s)

call_reads : (calls : ℕ) → AreRead calls → (ts : List Token) (n : Text) (es : Exprs) (ns : NamedExprs) (us : List Token) → IsExpr (suc calls) ts (call n es ns) us → read_expr (suc calls) ts ≡ Some (call n es ns, us)
unfolding read_expr
call_reads calls h ts n es ns us is = rw (kind_stands k.OpenParen ts is.0 is.4.0 is.4.1 is.4.2) (call_read calls h ts n es ns us is)

-- an expression that stands there is read
pub reads_expr : (calls : ℕ) (ts : List Token) (e : Expr) (us : List Token) → IsExpr calls ts e us → read_expr calls ts ≡ Some (e, us)
reads_expr calls ts (literal c) us h = single_reads calls ts (literal c) us (literal_single ts c us h)
reads_expr calls ts (this n ns) us h = single_reads calls ts (this n ns) us (this_single ts us n ns h.0 h.1 h.2 h.3)
reads_expr calls ts (argument n ns) us h = single_reads calls ts (argument n ns) us (argument_single ts us n ns h.0 h.1 h.2 h.3)
reads_expr calls ts (bare n ns) us h = single_reads calls ts (bare n ns) us (bare_single ts us n ns h.0 h.1 h.2 h.3.0 h.3.1)
reads_expr zero ts (call n es ns) us h = absurd h
reads_expr (suc calls) ts (call n es ns) us h = call_reads calls (reads_expr calls) ts n es ns us h
reads_expr calls ts (cat es) us h = absurd h

-- Expressions one after another, and arguments.

pub reads_exprs : (calls n : ℕ) (ts : List Token) (es : Exprs) (us : List Token) → AreExprs calls ts es us → starts_expr us ≡ false → stands k.Equals us ≡ false → length ts ≤ n → read_exprs (read_expr calls) n ts ≡ Some (list_of es, us)
reads_exprs calls n ts es us h ends f fits = exprs_read calls (reads_expr calls) n ts es us h ends f fits

pub read_exprs_are : (calls n : ℕ) (ts : List Token) (x : List Expr × List Token) → read_exprs (read_expr calls) n ts ≡ Some x → AreExprs calls ts (exprs_of x.0) x.1
read_exprs_are calls n ts x e = chain_exprs calls ts x.0 x.1 (many_chain starts_expr (read_expr calls) (IsExpr calls) n ts x (expr_is calls) e)

pub reads_arguments : (calls : ℕ) (ts : List Token) (es : Exprs) (ns : NamedExprs) (us : List Token) → AreArguments calls ts es ns us → IsEnd us → read_arguments (read_expr calls) ts ≡ Some ((es, ns), us)
reads_arguments calls ts es ns us h ends = arguments_read calls (reads_expr calls) ts es ns us h ends

pub read_arguments_are : (calls : ℕ) (ts : List Token) (x : (Exprs × NamedExprs) × List Token) → read_arguments (read_expr calls) ts ≡ Some x → AreArguments calls ts x.0.0 x.0.1 x.1
read_arguments_are calls ts x e = arguments_are calls (expr_is calls) ts x e

-- What stands in a mustache.

inner_expr : (ts : List Token) (e : Expr) (us : List Token) → IsExpr deepest_calls ts e us → IsInner ts e us
inner_expr ts (literal c) us h = h
inner_expr ts (this n ns) us h = h
inner_expr ts (argument n ns) us h = h
inner_expr ts (bare n ns) us h = h
inner_expr ts (call n es ns) us h = inl h
inner_expr ts (cat es) us h = h

-- a name with arguments is a call, a lone name is bare
called_inner : (ts : List Token) (n : Text) (es : Exprs) (ns : NamedExprs) (vs us : List Token) → IsName ts n vs → AreArguments deepest_calls vs es ns us → IsInner ts (called n es ns) us
called_inner ts n no_exprs no_named vs us h are = let same : vs ≡ us = are.1 ∙ are.2 in (h.0, h.1 ∙ ap (λ x. h.0 ∷ x) same, h.2, h.3)
called_inner ts n no_exprs (named_expr m e ns) vs us h are = inr ((vs, are.0, h, are.1, are.2), refl)
called_inner ts n (expr e es) ns vs us h are = inr ((vs, are.0, h, are.1, are.2), refl)

called_is : (ts : List Token) (x : Expr × List Token) → read_called ts ≡ Some x → IsInner ts x.0 x.1
unfolding read_called
called_is ts x e = option_and_then_some _ _ x e (λ name p e1. option_and_then_some _ _ x e1 (λ given q last.
    subst (λ (y : Expr × List Token). IsInner ts y.0 y.1) (same_Some {A = Expr × List Token} (called name.0 given.0.0 given.0.1, given.1) x last)
    (called_inner ts name.0 given.0.0 given.0.1 name.1 given.1 (read_name_is ts name p) (read_arguments_are deepest_calls name.1 given q))))

inner_case : (b : Bool) (ts : List Token) (x : Expr × List Token) → (if b then read_called ts else read_expr deepest_calls ts) ≡ Some x → IsInner ts x.0 x.1
inner_case true ts x e = called_is ts x e
inner_case false ts x e = inner_expr ts x.0 x.1 (expr_is deepest_calls ts x e)

pub read_inner_is : (ts : List Token) (x : Expr × List Token) → read_inner ts ≡ Some x → IsInner ts x.0 x.1
unfolding read_inner
read_inner_is ts x e = inner_case (stands_name ts) ts x e

called_read : (ts : List Token) (n : Text) (es : Exprs) (ns : NamedExprs) (us : List Token) → IsCall ts n es ns us → IsEnd us → read_called ts ≡ Some (called n es ns, us)
unfolding read_called
called_read ts n es ns us h ends =
    let given = reads_arguments deepest_calls h.0 es ns us (h.1, h.3, h.4) ends in
    rw (reads_name ts n h.0 h.2, given) refl

called_call : (n : Text) (es : Exprs) (ns : NamedExprs) → has_argument es ns ≡ true → called n es ns ≡ call n es ns
called_call n es ns h = choose (has_argument es ns) h where
  choose : (b : Bool) → b ≡ true → (if b then call n es ns else bare n []) ≡ call n es ns
  choose b e = rw e refl

-- where a name that stands alone is read as an expression, it is bare
lone_bare : (ts : List Token) (e : Expr) (us : List Token) → IsSingle ts e us → stands_name ts ≡ true → (n : Text) × IsName ts n us × (e ≡ bare n [])
unfolding stands_name
lone_bare ts e us s h =
    let t = s.token in
    let first = ap stands_name (sym s.here) ∙ h in
    let kind = same_kind-is t.kind k.Path (and_left (same_kind t.kind k.Path) (is_lone t.text) first) in
    let lone = and_right (same_kind t.kind k.Path) (is_lone t.text) first in
    let plain = not_true (has_char 46 t.text) (and_left (not (has_char 46 t.text)) (is_free t.text) lone) in
    let free = and_right (not (has_char 46 t.text)) (is_free t.text) lone in
    let names = split_whole 46 t.text plain in
    let b = bare_single ts us t.text [] t s.here kind names free in
    let same = same_Some {A = Expr × List Token} (e, us) (bare t.text [], us) (sym (single_read ts e us s) ∙ single_read ts (bare t.text []) us b) in
    (t.text, (t, s.here, kind, (names, free)), ap (λ (y : Expr × List Token). y.0) same)

-- an expression of one token is read in a mustache
single_inner : (ts : List Token) (e : Expr) (us : List Token) → IsSingle ts e us → IsEnd us → read_inner ts ≡ Some (e, us)
unfolding read_inner
single_inner ts e us s ends = by_name (stands_name ts) refl where
  by_name : (b : Bool) → stands_name ts ≡ b → (if b then read_called ts else read_expr deepest_calls ts) ≡ Some (e, us)
  by_name true f =
      let h = lone_bare ts e us s f in
      called_read ts h.0 no_exprs no_named us (us, us, h.1, refl, refl) ends ∙ ap (λ x. Some (x, us)) (sym h.2)
  by_name false f = single_reads deepest_calls ts e us s

-- what stands in a mustache is read, where the mustache ends then
pub reads_inner : (ts : List Token) (e : Expr) (us : List Token) → IsInner ts e us → IsEnd us → read_inner ts ≡ Some (e, us)
unfolding read_inner
reads_inner ts (literal c) us h ends = single_inner ts (literal c) us (literal_single ts c us h) ends
reads_inner ts (this n ns) us h ends = single_inner ts (this n ns) us (this_single ts us n ns h.0 h.1 h.2 h.3) ends
reads_inner ts (argument n ns) us h ends = single_inner ts (argument n ns) us (argument_single ts us n ns h.0 h.1 h.2 h.3) ends
reads_inner ts (bare n ns) us h ends = single_inner ts (bare n ns) us (bare_single ts us n ns h.0 h.1 h.2 h.3.0 h.3.1) ends
reads_inner ts (call n es ns) us (inl h) ends = rw (no_name k.OpenParen ts h.0 h.4.0 h.4.1 h.4.2 refl) (reads_expr deepest_calls ts (call n es ns) us h)
reads_inner ts (call n es ns) us (inr h) ends = rw (name_stands ts n h.0.0 h.0.2) (called_read ts n es ns us h.0 ends ∙ ap (λ x. Some (x, us)) (called_call n es ns h.1))
reads_inner ts (cat es) us h ends = absurd h

pub read_mustache_is : (ts : List Token) (x : Expr × List Token) → read_mustache ts ≡ Some x → IsMustache ts x.0 x.1
unfolding read_mustache
read_mustache_is ts x e = option_and_then_some _ _ x e (λ front p e1. option_and_then_some _ _ x e1 (λ inner q e2. option_and_then_some _ _ x e2 (λ back s last.
    let f = kind_is k.OpenMustache ts front p in
    let g = kind_is k.CloseMustache inner.1 back s in
    subst (λ (y : Expr × List Token). IsMustache ts y.0 y.1) (same_Some {A = Expr × List Token} (inner.0, back.1) x last)
    (front.1, inner.1, (f.token, f.here, f.is_kind), read_inner_is front.1 inner q, (g.token, g.here, g.is_kind)))))

pub reads_mustache : (ts : List Token) (e : Expr) (us : List Token) → IsMustache ts e us → read_mustache ts ≡ Some (e, us)
unfolding read_mustache
reads_mustache ts e us h =
    let front = takes_kind k.OpenMustache ts h.0 h.2.0 h.2.1 h.2.2 in
    let inner = reads_inner h.0 e h.1 h.3 (end_mustache h.1 us h.4) in
    let back = takes_kind k.CloseMustache h.1 us h.4.0 h.4.1 h.4.2 in
    rw (front, inner, back) refl
