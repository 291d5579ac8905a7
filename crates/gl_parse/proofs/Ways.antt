-- The two ways between the grammar and what is due: tokens that spell something meet what is due for it, and tokens that
-- meet what is due spell something.
use Rattle.std.proofs.Common.{◌≡◌, ◌⊎◌, ◌≤◌, ℕ, zero, suc, List, [], ◌∷◌, ◌++◌, Bool, true, false, inl, inr, Option, Some, None, length, refl, sym, ap, ◌∙◌, subst, arith}
use Rattle.std.specs.Prelude.{if◌then◌else◌, ◌&&◌, codes}
use Rattle.std.specs.Str.{bytes_eq}
use Rattle.gl_base.specs.Answers.{◌>>=◌}
use Rattle.gl_base.specs.Texts.{Text}
use Rattle.gl_ast.specs.Grammar.{deepest_calls, Mark, Stands, Word, IsExpr, AreExprs, IsTarget, IsCall, IsInner}
use Rattle.gl_ast.specs.TokenText.{names_of, string_of, is_block_name}
use Rattle.gl_ast.specs.Template.{Expr, bare, Exprs, no_exprs, expr, NamedExprs}
use Rattle.gl_ast.specs.declared.token.Token.{Token}
use Rattle.gl_ast.specs.declared.token.TokenKind.{TokenKind}
use Rattle.gl_ast.specs.declared.token.TokenKind.TheVariants as k
use Rattle.gl_exprs.specs.ReadExpr.{read_name, read_arguments, read_expr, read_called, read_inner, stands_name, token_expr, path_expr}
use Rattle.gl_exprs.specs.Take.{Taken, same_kind, stands, take_kind}
use Rattle.gl_exprs.proofs.Takings.{some_is}
use Rattle.gl_exprs.proofs.ExprLaws.{reads_arguments, read_arguments_are, read_inner_is, reads_inner}
use Rattle.gl_exprs.proofs.Firsts.{same_kind-is, same_kind-self}
use Rattle.gl_exprs.proofs.FirstTokens.{and_true, bytes_eq_is, is_bytes_eq, took_mark, takes_mark}
use Rattle.gl_exprs.proofs.NameLaws.{read_name_is, reads_name}
use Rattle.gl_exprs.proofs.Starts.{end_mustache}
use Rattle.gl_parse.specs.Due as d
use Rattle.gl_parse.specs.Due.{Due, Dues, and_then, due_after, is_path_word, is_lone_path, starts_one, starts_inner, starts_values, starts_after_to, starts_target}
use Rattle.gl_parse.proofs.Accepts.{accepts, goes, rest, fed, accepts_step, fed_then, Eats, then_eats, bind_rest, eats_kind, read_to, name_rest, stands_is, IsLast, mustache_last, equals_last, eats_to, eats_called, no_expr_at, no_expr_left, eats_expr}
use Rattle.gl_parse.proofs.FlatLaws.{never_true}
use Rattle.gl_parse.proofs.Lower.{read_expr_is, reads_expr, expr_falls}

-- what is spelled meets this
abbrev pub Passes : Due → (List Token → List Token → Type 0) → Type 0
Passes x Spelled = (ds : List Due) (ts us : List Token) → Spelled ts us → accepts (x ∷ ds) ts ≡ accepts ds us

-- what meets this is spelled, in front of what meets the rest
abbrev pub Found : (List Token → List Token → Type 0) → List Due → List Token → Type 0
Found Spelled ds ts = (us : List Token) × Spelled ts us × (accepts ds us ≡ true)

abbrev pub Finds : Due → (List Token → List Token → Type 0) → Type 0
Finds x Spelled = (ds : List Due) (ts : List Token) → accepts (x ∷ ds) ts ≡ true → Found Spelled ds ts

pub never : {A : Type 0} → false ≡ true → A
never e = let r : ⊥ = cc in absurd r

pub passes_token : (x : Due) (ds l : List Due) (t : Token) (ts us : List Token) → ts ≡ t ∷ us → due_after x t ≡ Some l → accepts (x ∷ ds) ts ≡ accepts (l ++ ds) us
passes_token x ds l t ts us here e = ap (accepts (x ∷ ds)) here ∙ accepts_step x ds t us ∙ ap (λ o. fed o ds us) e

pub came : (x : Due) (ds : List Due) (t : Token) (ts : List Token) → accepts (x ∷ ds) (t ∷ ts) ≡ true → fed (due_after x t) ds ts ≡ true
came x ds t ts h = sym (accepts_step x ds t ts) ∙ h

pub fed_if : (b : Bool) (x y : Dues) (ds : List Due) (ts : List Token) → fed (if b then x else y) ds ts ≡ true → ((b ≡ true) × (fed x ds ts ≡ true)) ⊎ ((b ≡ false) × (fed y ds ts ≡ true))
fed_if true x y ds ts h = inl (refl, h)
fed_if false x y ds ts h = inr (refl, h)

-- of two that are left due the first is to be met at once
pub fed_more : (x : Due) (o : Dues) (ds : List Due) (ts : List Token) → fed (and_then x o) ds ts ≡ true → fed o (x ∷ ds) ts ≡ true
fed_more x o ds ts h = sym (fed_then x o ds ts) ∙ h

pub mark_of : (wanted : TokenKind) (t : Token) (ts : List Token) → same_kind t.kind wanted ≡ true → Mark wanted (t ∷ ts) ts
mark_of wanted t ts e = (t, refl, same_kind-is t.kind wanted e)

pub gone : {A : Type 0} (ds : List Due) (o : Taken A) → goes ds (rest o) ≡ true → (x : A × List Token) × (o ≡ Some x) × (accepts ds x.1 ≡ true)
gone ds None h = never h
gone ds (Some x) h = (x, refl, h)

pub went : {A : Type 0} (ds : List Due) (o : Taken A) (more : List Token → Option (List Token)) → goes ds (rest o >>= more) ≡ true → (x : A × List Token) × (o ≡ Some x) × (goes ds (more x.1) ≡ true)
went ds None more h = never h
went ds (Some x) more h = (x, refl, h)

-- a token of a kind, and a word

pub passes_kind : (wanted : TokenKind) → Passes (d.kind wanted) (Mark wanted)
unfolding due_after
passes_kind wanted ds ts us m = passes_token (d.kind wanted) ds [] m.0 ts us m.1 (rw (m.2, same_kind-self wanted) refl)

pub finds_kind : (wanted : TokenKind) → Finds (d.kind wanted) (Mark wanted)
unfolding due_after
finds_kind wanted ds [] h = never h
finds_kind wanted ds (t ∷ ts) h = elim (fed_if (same_kind t.kind wanted) (Some []) None ds ts (came (d.kind wanted) ds t ts h)) [ inl p ↦ (ts, mark_of wanted t ts p.0, p.1) | inr q ↦ never q.1 ]

pub is_word : (w : Text) (t : Token) → t.kind ≡ k.Path → t.text ≡ w → is_path_word w t ≡ true
is_word w t e f = rw (e, is_bytes_eq w t.text (sym f)) refl

pub word_is : (w : Text) (t : Token) (ts : List Token) → is_path_word w t ≡ true → Word w (t ∷ ts) ts
word_is w t ts e = let both = and_true (same_kind t.kind k.Path) _ e in (t, refl, same_kind-is t.kind k.Path both.0, sym (bytes_eq_is w t.text both.1))

pub passes_word : (w : Text) → Passes (d.word w) (Word w)
unfolding due_after
passes_word w ds ts us m = passes_token (d.word w) ds [] m.0 ts us m.1 (rw (is_word w m.0 m.2 m.3) refl)

pub finds_word : (w : Text) → Finds (d.word w) (Word w)
unfolding due_after
finds_word w ds [] h = never h
finds_word w ds (t ∷ ts) h = elim (fed_if (is_path_word w t) (Some []) None ds ts (came (d.word w) ds t ts h)) [ inl p ↦ (ts, word_is w t ts p.0, p.1) | inr q ↦ never q.1 ]

-- an expression

abbrev pub SomeExpr : List Token → List Token → Type 0
SomeExpr ts us = (e : Expr) × IsExpr deepest_calls ts e us

pub passes_expr : Passes (d.expr deepest_calls) SomeExpr
passes_expr ds ts us (e, h) = eats_expr deepest_calls ds ts ∙ ap (λ o. goes ds (rest o)) (reads_expr deepest_calls ts e us h)

pub finds_expr : Finds (d.expr deepest_calls) SomeExpr
finds_expr ds ts h =
    let x = gone ds (read_expr deepest_calls ts) (sym (eats_expr deepest_calls ds ts) ∙ h) in
    (x.0.1, (x.0.0, read_expr_is deepest_calls ts x.0.0 x.0.1 x.1), x.2)

-- a name and its arguments, up to the end of a mustache

abbrev pub Called : List Token → List Token → Type 0
Called ts us = (n : Text) × (es : Exprs) × (ns : NamedExprs) × ((vs : List Token) × IsCall ts n es ns vs × Mark k.CloseMustache vs us)

pub passes_called : Passes (d.called deepest_calls k.CloseMustache) Called
unfolding read_to
passes_called ds ts us (n, es, ns, (vs, is, m)) =
    eats_called deepest_calls k.CloseMustache mustache_last (eats_expr deepest_calls) ds ts
    ∙ rw (reads_name ts n is.0 is.2, reads_arguments deepest_calls is.0 es ns vs (is.1, is.3, is.4) (end_mustache vs us m), takes_mark k.CloseMustache vs us m) refl

pub finds_called : Finds (d.called deepest_calls k.CloseMustache) Called
unfolding read_to
finds_called ds ts h =
    let name = went ds (read_name ts) (read_to deepest_calls k.CloseMustache) (sym (eats_called deepest_calls k.CloseMustache mustache_last (eats_expr deepest_calls) ds ts) ∙ h) in
    let given = went ds (read_arguments (read_expr deepest_calls) name.0.1) (λ us. rest (take_kind k.CloseMustache us)) name.2 in
    let back = gone ds (take_kind k.CloseMustache given.0.1) given.2 in
    let are = read_arguments_are deepest_calls name.0.1 given.0 given.1 in
    (back.0.1, (name.0.0, given.0.0.0, given.0.0.1, (given.0.1, (name.0.1, are.0, read_name_is ts name.0 name.1, are.1, are.2), took_mark k.CloseMustache given.0.1 back.0 back.1)), back.2)

-- what stands in a mustache, and its end

inner_read : List Token → Option (List Token)
inner_read ts = rest (read_inner ts) >>= λ us. rest (take_kind k.CloseMustache us)

called_rest : (ts : List Token) → rest (read_called ts) ≡ (rest (read_name ts) >>= λ us. rest (read_arguments (read_expr deepest_calls) us))
unfolding read_called
called_rest ts = bind_rest (read_name ts) _ (λ us. rest (read_arguments (read_expr deepest_calls) us)) (λ name. by_given (read_arguments (read_expr deepest_calls) name.1) (λ given. _)) where
  by_given : (o : Taken (Exprs × NamedExprs)) (f : Exprs × NamedExprs → Expr) → rest (o >>= λ given. Some (f given.0, given.1)) ≡ rest o
  by_given None f = refl
  by_given (Some x) f = refl

inner_nothing : inner_read [] ≡ None
unfolding inner_read read_inner stands_name
inner_nothing = ap (λ o. o >>= λ us. rest (take_kind k.CloseMustache us)) (no_expr_left deepest_calls)

inner_lone : (t : Token) (ts : List Token) → is_lone_path t ≡ true → inner_read (t ∷ ts) ≡ read_to deepest_calls k.CloseMustache ts
unfolding inner_read read_inner read_to
inner_lone t ts e =
    rw (stands_is t ts ∙ e) (ap (λ o. o >>= λ us. rest (take_kind k.CloseMustache us)) (called_rest (t ∷ ts)) ∙ rw (name_rest t ts e) refl)

inner_other : (t : Token) (ts : List Token) → is_lone_path t ≡ false → inner_read (t ∷ ts) ≡ (rest (read_expr deepest_calls (t ∷ ts)) >>= λ us. rest (take_kind k.CloseMustache us))
unfolding inner_read read_inner
inner_other t ts e = rw (stands_is t ts ∙ e) refl

eats_inner : Eats d.inner inner_read
unfolding due_after starts_inner
eats_inner ds [] = ap (goes ds) (sym inner_nothing)
eats_inner ds (t ∷ ts) = accepts_step d.inner ds t ts ∙ by_name (is_lone_path t) refl where
  by_name : (b : Bool) → is_lone_path t ≡ b → fed (if b then Some (d.arguments deepest_calls k.CloseMustache ∷ []) else and_then (d.kind k.CloseMustache) (starts_one deepest_calls t)) ds ts ≡ goes ds (inner_read (t ∷ ts))
  by_name true e = eats_to deepest_calls k.CloseMustache mustache_last (eats_expr deepest_calls) ds ts ∙ ap (goes ds) (sym (inner_lone t ts e))
  by_name false e =
      fed_then (d.kind k.CloseMustache) (starts_one deepest_calls t) ds ts ∙ sym (accepts_step (d.expr deepest_calls) (d.kind k.CloseMustache ∷ ds) t ts)
      ∙ eats_expr deepest_calls (d.kind k.CloseMustache ∷ ds) (t ∷ ts)
      ∙ then_eats (d.kind k.CloseMustache) (λ us. rest (take_kind k.CloseMustache us)) (eats_kind k.CloseMustache) ds (rest (read_expr deepest_calls (t ∷ ts)))
      ∙ ap (goes ds) (sym (inner_other t ts e))

abbrev pub Inner : List Token → List Token → Type 0
Inner ts us = (e : Expr) × ((vs : List Token) × IsInner ts e vs × Mark k.CloseMustache vs us)

pub passes_inner : Passes d.inner Inner
unfolding inner_read
passes_inner ds ts us (e, (vs, is, m)) = eats_inner ds ts ∙ rw (reads_inner ts e vs is (end_mustache vs us m), takes_mark k.CloseMustache vs us m) refl

pub finds_inner : Finds d.inner Inner
unfolding inner_read
finds_inner ds ts h =
    let inside = went ds (read_inner ts) (λ us. rest (take_kind k.CloseMustache us)) (sym (eats_inner ds ts) ∙ h) in
    let back = gone ds (take_kind k.CloseMustache inside.0.1) inside.2 in
    (back.0.1, (inside.0.0, (inside.0.1, read_inner_is ts inside.0 inside.1, took_mark k.CloseMustache inside.0.1 back.0 back.1)), back.2)

-- one expression after another

pub fed_expr : (x : Due) (ds : List Due) (t : Token) (ts : List Token) → fed (and_then x (starts_one deepest_calls t)) ds ts ≡ accepts (d.expr deepest_calls ∷ x ∷ ds) (t ∷ ts)
unfolding due_after
fed_expr x ds t ts = fed_then x (starts_one deepest_calls t) ds ts ∙ sym (accepts_step (d.expr deepest_calls) (x ∷ ds) t ts)

-- the first token of an expression ends nothing
pub record First (ts : List Token) : Type 0 where
  pub token : Token
  pub left : List Token
  pub here : ts ≡ token ∷ left
  pub is_no : (end : TokenKind) → IsLast end → same_kind token.kind end ≡ false

pub expr_first : (ts : List Token) (e : Expr) (us : List Token) → IsExpr deepest_calls ts e us → First ts
expr_first [] e us h = let a = no_expr_left deepest_calls in let b = ap rest (reads_expr deepest_calls [] e us h) in let r : ⊥ = cc in absurd r
expr_first (t ∷ ts) e us h = record {
  token = t;
  left = ts;
  here = refl;
  is_no = λ end last. never_true (same_kind t.kind end) (λ s. let a = no_expr_at deepest_calls end t ts last s in let b = ap rest (reads_expr deepest_calls (t ∷ ts) e us h) in let r : ⊥ = cc in r);
}

-- the name of a block in a string
abbrev Target : List Token → List Token → Type 0
Target ts us = Stands k.StringLit (λ x. is_block_name (string_of x) ≡ true) ts us

passes_target : Passes d.target Target
unfolding due_after starts_target
passes_target ds ts us m = passes_token d.target ds [] m.0 ts us m.1 (rw (m.2, m.3) refl)

finds_target : Finds d.target Target
unfolding due_after starts_target
finds_target ds [] h = never h
finds_target ds (t ∷ ts) h =
    elim (fed_if (same_kind t.kind k.StringLit && is_block_name (string_of t.text)) (Some []) None ds ts (came d.target ds t ts h)) [
      | inl p ↦ let both = and_true (same_kind t.kind k.StringLit) (is_block_name (string_of t.text)) p.0 in (ts, (t, refl, same_kind-is t.kind k.StringLit both.0, both.1), p.1)
      | inr q ↦ never q.1
    ]

abbrev pub Values : List Token → List Token → Type 0
Values ts us = (es : Exprs) × (to : Text) × ((vs ws : List Token) × AreExprs deepest_calls ts es vs × IsTarget vs to ws × Mark k.CloseMustache ws us)

-- no `=` comes first
abbrev NoEquals : List Token → Type 0
NoEquals ts = stands k.Equals ts ≡ false

mark_no_equals : (kind : TokenKind) (ts us : List Token) → Mark kind ts us → same_kind kind k.Equals ≡ false → NoEquals ts
unfolding stands
mark_no_equals kind ts us m e = rw (m.1, m.2, e) refl

-- after `to` everything but `=` is as before it
to_values : (ds : List Due) (ts : List Token) → NoEquals ts → accepts (d.after_to ∷ ds) ts ≡ accepts (d.values ∷ ds) ts
unfolding due_after starts_after_to stands
to_values ds [] e = refl
to_values ds (t ∷ ts) e = accepts_step d.after_to ds t ts ∙ rw e refl ∙ sym (accepts_step d.values ds t ts)

to_due : (t : Token) → t.kind ≡ k.Path → t.text ≡ codes "to" → due_after d.values t ≡ Some (d.after_to ∷ [])
unfolding due_after starts_values
to_due t e f = rw (e, f) refl

equals_due : (t : Token) → t.kind ≡ k.Equals → due_after d.after_to t ≡ Some (d.target ∷ d.kind k.CloseMustache ∷ [])
unfolding due_after starts_after_to
equals_due t e = rw e refl

close_due : (t : Token) → t.kind ≡ k.CloseMustache → due_after d.values t ≡ Some []
unfolding due_after starts_values
close_due t e = rw e refl

-- `to` is an expression
to_operand : (t : Token) → is_path_word (codes "to") t ≡ true → due_after (d.expr deepest_calls) t ≡ Some []
unfolding due_after starts_one token_expr path_expr
to_operand t e =
    let both = and_true (same_kind t.kind k.Path) (bytes_eq (codes "to") t.text) e in
    let text = sym (bytes_eq_is (codes "to") t.text both.1) in
    rw (same_kind-is t.kind k.Path both.0, text) refl

-- and takes one token
one_token : (t : Token) (ts us : List Token) (x : Expr) → t.kind ≡ k.Path → t.text ≡ codes "to" → IsExpr deepest_calls (t ∷ ts) x us → ts ≡ us
one_token t ts us x e f is =
    let first = reads_expr deepest_calls (t ∷ ts) x us is in
    let other = reads_expr deepest_calls (t ∷ ts) (bare (codes "to") []) ts (t, refl, e, (ap names_of f, refl)) in
    ap (λ p. p.1) (some_is (bare (codes "to") [], ts) (x, us) (sym other ∙ first))

-- an expression is the first of the values where no `=` follows it
values_expr : (ds : List Due) (ts : List Token) (x : Expr) (us : List Token) → IsExpr deepest_calls ts x us → NoEquals us → accepts (d.values ∷ ds) ts ≡ accepts (d.values ∷ ds) us
unfolding due_after starts_values
values_expr ds ts x us is e = by_word (is_path_word (codes "to") f.token) refl where
  f : First ts
  f = expr_first ts x us is

  read : accepts (d.expr deepest_calls ∷ d.values ∷ ds) ts ≡ accepts (d.values ∷ ds) us
  read = passes_expr (d.values ∷ ds) ts us (x, is)

  by_word : (b : Bool) → is_path_word (codes "to") f.token ≡ b → accepts (d.values ∷ ds) ts ≡ accepts (d.values ∷ ds) us
  by_word false g =
      ap (accepts (d.values ∷ ds)) f.here ∙ accepts_step d.values ds f.token f.left
      ∙ ap (λ b. fed (if b then Some [] else (if is_path_word (codes "to") f.token then Some (d.after_to ∷ []) else and_then d.values (starts_one deepest_calls f.token))) ds f.left) (f.is_no k.CloseMustache mustache_last)
      ∙ ap (λ b. fed (if b then Some (d.after_to ∷ []) else and_then d.values (starts_one deepest_calls f.token)) ds f.left) g
      ∙ fed_expr d.values ds f.token f.left ∙ ap (accepts (d.expr deepest_calls ∷ d.values ∷ ds)) (sym f.here) ∙ read
  by_word true g =
      let both = and_true (same_kind f.token.kind k.Path) (bytes_eq (codes "to") f.token.text) g in
      let kind = same_kind-is f.token.kind k.Path both.0 in
      let text = sym (bytes_eq_is (codes "to") f.token.text both.1) in
      let left : f.left ≡ us = one_token f.token f.left us x kind text (subst (λ l. IsExpr deepest_calls l x us) f.here is) in
      passes_token d.values ds (d.after_to ∷ []) f.token ts f.left f.here (to_due f.token kind text)
      ∙ ap (accepts (d.after_to ∷ ds)) left ∙ to_values ds us e

target_no_equals : (ts : List Token) (to : Text) (us vs : List Token) → IsTarget ts to us → Mark k.CloseMustache us vs → NoEquals ts
target_no_equals ts to us vs (inl (e, f)) m = subst NoEquals (sym e) (mark_no_equals k.CloseMustache us vs m refl)
target_no_equals ts to us vs (inr (xs, ys, w, m, s)) n = mark_no_equals k.Path ts xs (w.0, w.1, w.2) refl

expr_no_equals : (ts : List Token) (x : Expr) (us : List Token) → IsExpr deepest_calls ts x us → NoEquals ts
unfolding stands
expr_no_equals ts x us is = let f = expr_first ts x us is in rw (f.here) (f.is_no k.Equals equals_last)

values_no_equals : (es : Exprs) (to : Text) (ts vs ws us : List Token) → AreExprs deepest_calls ts es vs → IsTarget vs to ws → Mark k.CloseMustache ws us → NoEquals ts
values_no_equals no_exprs to ts vs ws us e t m = subst NoEquals (sym e) (target_no_equals vs to ws us t m)
values_no_equals (expr x es) to ts vs ws us (xs, is, are) t m = expr_no_equals ts x xs is

target_pass : (to : Text) (ds : List Due) (ts us vs : List Token) → IsTarget ts to us → Mark k.CloseMustache us vs → accepts (d.values ∷ ds) ts ≡ accepts ds vs
target_pass to ds ts us vs (inl (e, f)) m = ap (accepts (d.values ∷ ds)) e ∙ passes_token d.values ds [] m.0 us vs m.1 (close_due m.0 m.2)
target_pass to ds ts us vs (inr (xs, ys, w, m, s)) n =
    passes_token d.values ds (d.after_to ∷ []) w.0 ts xs w.1 (to_due w.0 w.2 w.3)
    ∙ passes_token d.after_to ds (d.target ∷ d.kind k.CloseMustache ∷ []) m.0 xs ys m.1 (equals_due m.0 m.2)
    ∙ passes_target (d.kind k.CloseMustache ∷ ds) ys us (s.0, s.1, s.2, ap is_block_name s.3.0 ∙ s.3.1)
    ∙ passes_kind k.CloseMustache ds us vs n

values_pass : (es : Exprs) (to : Text) (ds : List Due) (ts vs ws us : List Token) → AreExprs deepest_calls ts es vs → IsTarget vs to ws → Mark k.CloseMustache ws us → accepts (d.values ∷ ds) ts ≡ accepts ds us
values_pass no_exprs to ds ts vs ws us e t m = ap (accepts (d.values ∷ ds)) e ∙ target_pass to ds vs ws us t m
values_pass (expr x es) to ds ts vs ws us (xs, is, are) t m = values_expr ds ts x xs is (values_no_equals es to xs vs ws us are t m) ∙ values_pass es to ds xs vs ws us are t m

pub passes_values : Passes d.values Values
passes_values ds ts us (es, to, (vs, ws, are, t, m)) = values_pass es to ds ts vs ws us are t m

-- `to` as an expression
to_expr : (t : Token) (ts : List Token) → is_path_word (codes "to") t ≡ true → IsExpr deepest_calls (t ∷ ts) (bare (codes "to") []) ts
to_expr t ts e =
    let both = and_true (same_kind t.kind k.Path) (bytes_eq (codes "to") t.text) e in
    (t, refl, same_kind-is t.kind k.Path both.0, (ap names_of (sym (bytes_eq_is (codes "to") t.text both.1)), refl))

more_values : (ts : List Token) (x : Expr) (us : List Token) → IsExpr deepest_calls ts x us → (ds : List Due) → Found Values ds us → Found Values ds ts
more_values ts x us is ds (vs, (es, to, (ws, xs, are, t, m)), g) = (vs, (expr x es, to, (ws, xs, (us, is, are), t, m)), g)

-- after `to`: `=` and the name of a block, or further values
after_to_found : (n : ℕ) → ((es : List Due) (us : List Token) → length us ≤ n → accepts (d.values ∷ es) us ≡ true → Found Values es us) → (ds : List Due) (t : Token) (ts : List Token) → length ts ≤ n → is_path_word (codes "to") t ≡ true → accepts (d.after_to ∷ ds) ts ≡ true → Found Values ds (t ∷ ts)
unfolding due_after starts_after_to
after_to_found n next ds t [] l e h = never h
after_to_found n next ds t (u ∷ us) l e h =
    elim (fed_if (same_kind u.kind k.Equals) (Some (d.target ∷ d.kind k.CloseMustache ∷ [])) (starts_values u) ds us (came d.after_to ds u us h)) [
      | inl p ↦ let x = finds_target (d.kind k.CloseMustache ∷ ds) us p.1 in
          let y = finds_kind k.CloseMustache ds x.0 x.2 in
          (y.0, (no_exprs, string_of x.1.0.text, (t ∷ u ∷ us, x.0, refl, inr (u ∷ us, us, word_is (codes "to") t (u ∷ us) e, mark_of k.Equals u us p.0, (x.1.0, x.1.1, x.1.2, (refl, x.1.3))), y.1)), y.2)
      | inr q ↦ more_values (t ∷ u ∷ us) (bare (codes "to") []) (u ∷ us) (to_expr t (u ∷ us) e) ds (next ds (u ∷ us) l (accepts_step d.values ds u us ∙ q.1))
    ]

values_found : (n : ℕ) (ds : List Due) (ts : List Token) → length ts ≤ n → accepts (d.values ∷ ds) ts ≡ true → Found Values ds ts
unfolding due_after starts_values
values_found n ds [] l h = never h
values_found zero ds (t ∷ ts) l h = absurd (omega (arith, l))
values_found (suc n) ds (t ∷ ts) l h =
    elim (fed_if (same_kind t.kind k.CloseMustache) (Some []) _ ds ts (came d.values ds t ts h)) [
      | inl p ↦ (ts, (no_exprs, codes "default", (t ∷ ts, t ∷ ts, refl, inl (refl, refl), mark_of k.CloseMustache t ts p.0)), p.1)
      | inr p ↦ elim (fed_if (is_path_word (codes "to") t) (Some (d.after_to ∷ [])) (and_then d.values (starts_one deepest_calls t)) ds ts p.1) [
        | inl q ↦ after_to_found n (values_found n) ds t ts (omega (arith, l)) q.0 q.1
        | inr q ↦ more (values_found n) (finds_expr (d.values ∷ ds) (t ∷ ts) (sym (fed_expr d.values ds t ts) ∙ q.1))
      ]
    ] where
      more : ((es : List Due) (us : List Token) → length us ≤ n → accepts (d.values ∷ es) us ≡ true → Found Values es us) → Found SomeExpr (d.values ∷ ds) (t ∷ ts) → Found Values ds (t ∷ ts)
      more next (us, (e, is), g) =
          let f = expr_falls deepest_calls (t ∷ ts) e us is in
          more_values (t ∷ ts) e us is ds (next ds us (omega (arith, l, f)) g)

pub finds_values : Finds d.values Values
finds_values ds ts h = let l : length ts ≤ length ts = omega arith in values_found (length ts) ds ts l h
