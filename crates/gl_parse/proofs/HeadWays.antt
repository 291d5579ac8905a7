-- Both ways for what stands in the opening of a block, up to its content.
use Rattle.std.proofs.Common.{◌≡◌, ◌≤◌, ℕ, zero, suc, List, [], ◌∷◌, true, ◌&&◌, inl, inr, Some, None, length, refl, sym, ap, ◌∙◌, arith}
use Rattle.std.specs.Prelude.{codes, nat_le}
use Rattle.gl_base.specs.Texts.{Text}
use Rattle.gl_ast.specs.Grammar.{deepest_calls, Mark, AreExprs, IsKey, AreParameters}
use Rattle.gl_ast.specs.Template.{Expr, Exprs, no_exprs, expr}
use Rattle.gl_ast.specs.TokenText.{string_of, parameters_of}
use Rattle.gl_ast.specs.declared.token.Token.{Token}
use Rattle.gl_ast.specs.declared.token.TokenKind.TheVariants as k
use Rattle.gl_exprs.specs.Take.{same_kind}
use Rattle.gl_exprs.proofs.Firsts.{same_kind-is}
use Rattle.gl_exprs.proofs.FirstTokens.{and_true}
use Rattle.gl_parse.specs.Due as d
use Rattle.gl_parse.specs.Due.{Due, Dues, Stop, and_then, due_after, is_path_word, starts_one, starts_first, starts_more, starts_each_parameters, starts_key}
use Rattle.gl_parse.proofs.Accepts.{accepts, fed, accepts_step, mustache_last, parameters_last}
use Rattle.gl_parse.proofs.BlockLaws.{at_most, within}
use Rattle.gl_parse.proofs.Lower.{expr_falls}
use Rattle.gl_parse.proofs.Ways.{Found, never, passes_token, came, fed_if, mark_of, passes_kind, finds_kind, is_word, word_is, SomeExpr, passes_expr, finds_expr, fed_expr, expr_first}

-- The parameters of an each, and the end of its opening.

abbrev pub TwoTo : List Token → List Token → Type 0
TwoTo ts us = (ns : List Text) × ((vs : List Token) × AreParameters ts ns vs × (length ns ≤ 2) × Mark k.CloseMustache vs us)

end_due : (depth : ℕ) (stop : Stop) (t : Token) → t.kind ≡ k.CloseMustache → due_after (d.each_parameters depth stop) t ≡ Some (d.content depth stop ∷ [])
unfolding due_after starts_each_parameters
end_due depth stop t e = rw e refl

two_due : (depth : ℕ) (stop : Stop) (t : Token) (ns : List Text) → t.kind ≡ k.Parameters → parameters_of t.text ≡ ns → length ns ≤ 2 → due_after (d.each_parameters depth stop) t ≡ Some (d.kind k.CloseMustache ∷ d.content depth stop ∷ [])
unfolding due_after starts_each_parameters
two_due depth stop t ns e f l = rw (e, f, within (length ns) 2 l) refl

two_pass : (depth : ℕ) (stop : Stop) (ds : List Due) (ts us : List Token) → TwoTo ts us → accepts (d.each_parameters depth stop ∷ ds) ts ≡ accepts (d.content depth stop ∷ ds) us
two_pass depth stop ds ts us (ns, (vs, inl (e, f), l, m)) = ap (accepts (d.each_parameters depth stop ∷ ds)) e ∙ passes_token (d.each_parameters depth stop) ds (d.content depth stop ∷ []) m.0 vs us m.1 (end_due depth stop m.0 m.2)
two_pass depth stop ds ts us (ns, (vs, inr t, l, m)) =
    passes_token (d.each_parameters depth stop) ds (d.kind k.CloseMustache ∷ d.content depth stop ∷ []) t.0 ts vs t.1 (two_due depth stop t.0 ns t.2 t.3 l)
    ∙ passes_kind k.CloseMustache (d.content depth stop ∷ ds) vs us m

two_fed : (depth : ℕ) (stop : Stop) (ds : List Due) (t : Token) (ts : List Token) → fed (starts_each_parameters depth stop t) ds ts ≡ true → Found TwoTo (d.content depth stop ∷ ds) (t ∷ ts)
unfolding starts_each_parameters
two_fed depth stop ds t ts h =
    elim (fed_if (same_kind t.kind k.CloseMustache) (Some (d.content depth stop ∷ [])) _ ds ts h) [
      | inl p ↦ (ts, ([], (t ∷ ts, inl (refl, refl), omega arith, mark_of k.CloseMustache t ts p.0)), p.1)
      | inr p ↦ elim (fed_if (same_kind t.kind k.Parameters && nat_le (length (parameters_of t.text)) 2) (Some (d.kind k.CloseMustache ∷ d.content depth stop ∷ [])) None ds ts p.1) [ inl q ↦ by_names q.0 q.1 | inr q ↦ never q.1 ]
    ] where
      by_names : (same_kind t.kind k.Parameters && nat_le (length (parameters_of t.text)) 2) ≡ true → accepts (d.kind k.CloseMustache ∷ d.content depth stop ∷ ds) ts ≡ true → Found TwoTo (d.content depth stop ∷ ds) (t ∷ ts)
      by_names e g =
          let both = and_true (same_kind t.kind k.Parameters) (nat_le (length (parameters_of t.text)) 2) e in
          let fits = at_most (length (parameters_of t.text)) 2 both.1 in
          let x = finds_kind k.CloseMustache (d.content depth stop ∷ ds) ts g in
          (x.0, (parameters_of t.text, (ts, inr (t, refl, same_kind-is t.kind k.Parameters both.0, refl), fits, x.1)), x.2)

two_found : (depth : ℕ) (stop : Stop) (ds : List Due) (ts : List Token) → accepts (d.each_parameters depth stop ∷ ds) ts ≡ true → Found TwoTo (d.content depth stop ∷ ds) ts
unfolding due_after
two_found depth stop ds [] h = never h
two_found depth stop ds (t ∷ ts) h = two_fed depth stop ds t ts (came (d.each_parameters depth stop) ds t ts h)

-- The key of an each, and what follows it in the opening.

abbrev pub KeyTo : List Token → List Token → Type 0
KeyTo ts us = (key : Text) × ((vs : List Token) × IsKey ts key vs × TwoTo vs us)

-- no key is written
no_key : (depth : ℕ) (stop : Stop) (ds : List Due) (ts us : List Token) → TwoTo ts us → accepts (d.each_key depth stop ∷ ds) ts ≡ accepts (d.each_parameters depth stop ∷ ds) ts
unfolding due_after starts_key
no_key depth stop ds ts us (ns, (vs, inl (e, f), l, m)) =
    let here : ts ≡ m.0 ∷ us = e ∙ m.1 in
    rw here (accepts_step (d.each_key depth stop) ds m.0 us ∙ rw m.2 refl ∙ sym (accepts_step (d.each_parameters depth stop) ds m.0 us))
no_key depth stop ds ts us (ns, (vs, inr t, l, m)) =
    rw t.1 (accepts_step (d.each_key depth stop) ds t.0 vs ∙ rw t.2 refl ∙ sym (accepts_step (d.each_parameters depth stop) ds t.0 vs))

key_due : (depth : ℕ) (stop : Stop) (t : Token) → t.kind ≡ k.Path → t.text ≡ codes "key" → due_after (d.each_key depth stop) t ≡ Some (d.kind k.Equals ∷ d.kind k.StringLit ∷ d.each_parameters depth stop ∷ [])
unfolding due_after starts_key
key_due depth stop t e f = rw (is_word (codes "key") t e f) refl

pub passes_key : (depth : ℕ) (stop : Stop) (ds : List Due) (ts us : List Token) → KeyTo ts us → accepts (d.each_key depth stop ∷ ds) ts ≡ accepts (d.content depth stop ∷ ds) us
passes_key depth stop ds ts us (key, (vs, inl (e, f), two)) = ap (accepts (d.each_key depth stop ∷ ds)) e ∙ no_key depth stop ds vs us two ∙ two_pass depth stop ds vs us two
passes_key depth stop ds ts us (key, (vs, inr (xs, ys, w, m, s), two)) =
    passes_token (d.each_key depth stop) ds (d.kind k.Equals ∷ d.kind k.StringLit ∷ d.each_parameters depth stop ∷ []) w.0 ts xs w.1 (key_due depth stop w.0 w.2 w.3)
    ∙ passes_kind k.Equals (d.kind k.StringLit ∷ d.each_parameters depth stop ∷ ds) xs ys m
    ∙ passes_kind k.StringLit (d.each_parameters depth stop ∷ ds) ys vs (s.0, s.1, s.2)
    ∙ two_pass depth stop ds vs us two

pub finds_key : (depth : ℕ) (stop : Stop) (ds : List Due) (ts : List Token) → accepts (d.each_key depth stop ∷ ds) ts ≡ true → Found KeyTo (d.content depth stop ∷ ds) ts
unfolding due_after starts_key
finds_key depth stop ds [] h = never h
finds_key depth stop ds (t ∷ ts) h =
    elim (fed_if (is_path_word (codes "key") t) (Some (d.kind k.Equals ∷ d.kind k.StringLit ∷ d.each_parameters depth stop ∷ [])) (starts_each_parameters depth stop t) ds ts (came (d.each_key depth stop) ds t ts h)) [
      | inl p ↦ by_word p.0 p.1
      | inr p ↦ let x = two_fed depth stop ds t ts p.1 in (x.0, (codes "@identity", (t ∷ ts, inl (refl, refl), x.1)), x.2)
    ] where
      by_word : is_path_word (codes "key") t ≡ true → accepts (d.kind k.Equals ∷ d.kind k.StringLit ∷ d.each_parameters depth stop ∷ ds) ts ≡ true → Found KeyTo (d.content depth stop ∷ ds) (t ∷ ts)
      by_word e g =
          let x = finds_kind k.Equals (d.kind k.StringLit ∷ d.each_parameters depth stop ∷ ds) ts g in
          let y = finds_kind k.StringLit (d.each_parameters depth stop ∷ ds) x.0 x.2 in
          let z = two_found depth stop ds y.0 y.2 in
          (z.0, (string_of y.1.0.text, (y.0, inr (ts, x.0, word_is (codes "key") t ts e, x.1, (y.1.0, y.1.1, y.1.2, refl)), z.1)), z.2)

-- The values of a let, its parameters, and the end of its opening.

-- parameters or none, and the end of the opening
abbrev pub NamesTo : List Token → List Token → Type 0
NamesTo ts us = (ns : List Text) × ((vs : List Token) × AreParameters ts ns vs × Mark k.CloseMustache vs us)

abbrev pub MoreTo : List Token → List Token → Type 0
MoreTo ts us = (es : Exprs) × ((vs : List Token) × AreExprs deepest_calls ts es vs × NamesTo vs us)

abbrev pub ValuesTo : List Token → List Token → Type 0
ValuesTo ts us = (e : Expr) × (es : Exprs) × ((vs : List Token) × AreExprs deepest_calls ts (expr e es) vs × NamesTo vs us)

more_end : (depth : ℕ) (stop : Stop) (t : Token) → t.kind ≡ k.CloseMustache → due_after (d.more_values depth stop) t ≡ Some (d.content depth stop ∷ [])
unfolding due_after starts_more
more_end depth stop t e = rw e refl

more_names : (depth : ℕ) (stop : Stop) (t : Token) → t.kind ≡ k.Parameters → due_after (d.more_values depth stop) t ≡ Some (d.kind k.CloseMustache ∷ d.content depth stop ∷ [])
unfolding due_after starts_more
more_names depth stop t e = rw e refl

names_pass : (depth : ℕ) (stop : Stop) (ds : List Due) (ts us : List Token) → NamesTo ts us → accepts (d.more_values depth stop ∷ ds) ts ≡ accepts (d.content depth stop ∷ ds) us
names_pass depth stop ds ts us (ns, (vs, inl (e, f), m)) = ap (accepts (d.more_values depth stop ∷ ds)) e ∙ passes_token (d.more_values depth stop) ds (d.content depth stop ∷ []) m.0 vs us m.1 (more_end depth stop m.0 m.2)
names_pass depth stop ds ts us (ns, (vs, inr t, m)) =
    passes_token (d.more_values depth stop) ds (d.kind k.CloseMustache ∷ d.content depth stop ∷ []) t.0 ts vs t.1 (more_names depth stop t.0 t.2) ∙ passes_kind k.CloseMustache (d.content depth stop ∷ ds) vs us m

more_pass : (es : Exprs) (depth : ℕ) (stop : Stop) (ds : List Due) (ts vs us : List Token) → AreExprs deepest_calls ts es vs → NamesTo vs us → accepts (d.more_values depth stop ∷ ds) ts ≡ accepts (d.content depth stop ∷ ds) us
unfolding due_after starts_more
more_pass no_exprs depth stop ds ts vs us e names = ap (accepts (d.more_values depth stop ∷ ds)) e ∙ names_pass depth stop ds vs us names
more_pass (expr x es) depth stop ds ts vs us (ws, is, are) names =
    let f = expr_first ts x ws is in
    ap (accepts (d.more_values depth stop ∷ ds)) f.here ∙ accepts_step (d.more_values depth stop) ds f.token f.left
    ∙ rw (f.is_no k.CloseMustache mustache_last, f.is_no k.Parameters parameters_last) refl
    ∙ fed_expr (d.more_values depth stop) ds f.token f.left ∙ ap (accepts (d.expr deepest_calls ∷ d.more_values depth stop ∷ ds)) (sym f.here)
    ∙ passes_expr (d.more_values depth stop ∷ ds) ts ws (x, is) ∙ more_pass es depth stop ds ws vs us are names

pub passes_values_to : (depth : ℕ) (stop : Stop) (ds : List Due) (ts us : List Token) → ValuesTo ts us → accepts (d.first_value depth stop ∷ ds) ts ≡ accepts (d.content depth stop ∷ ds) us
unfolding due_after starts_first
passes_values_to depth stop ds ts us (e, es, (vs, (ws, is, are), names)) =
    let f = expr_first ts e ws is in
    ap (accepts (d.first_value depth stop ∷ ds)) f.here ∙ accepts_step (d.first_value depth stop) ds f.token f.left
    ∙ fed_expr (d.more_values depth stop) ds f.token f.left ∙ ap (accepts (d.expr deepest_calls ∷ d.more_values depth stop ∷ ds)) (sym f.here)
    ∙ passes_expr (d.more_values depth stop ∷ ds) ts ws (e, is) ∙ more_pass es depth stop ds ws vs us are names

abbrev FindsMore : ℕ → Type 0
FindsMore n = (depth : ℕ) (stop : Stop) (ds : List Due) (ts : List Token) → length ts ≤ n → accepts (d.more_values depth stop ∷ ds) ts ≡ true → Found MoreTo (d.content depth stop ∷ ds) ts

names_more : (t : Token) (ts us : List Token) → same_kind t.kind k.Parameters ≡ true → Mark k.CloseMustache ts us → MoreTo (t ∷ ts) us
names_more t ts us s m = (no_exprs, (t ∷ ts, refl, (parameters_of t.text, (ts, inr (t, refl, same_kind-is t.kind k.Parameters s, refl), m))))

more_found : (n : ℕ) → FindsMore n
unfolding due_after starts_more
more_found n depth stop ds [] l h = never h
more_found zero depth stop ds (t ∷ ts) l h = absurd (omega (arith, l))
more_found (suc n) depth stop ds (t ∷ ts) l h =
    elim (fed_if (same_kind t.kind k.CloseMustache) (Some (d.content depth stop ∷ [])) _ ds ts (came (d.more_values depth stop) ds t ts h)) [
      | inl p ↦ (ts, (no_exprs, (t ∷ ts, refl, ([], (t ∷ ts, inl (refl, refl), mark_of k.CloseMustache t ts p.0)))), p.1)
      | inr p ↦ elim (fed_if (same_kind t.kind k.Parameters) (Some (d.kind k.CloseMustache ∷ d.content depth stop ∷ [])) (and_then (d.more_values depth stop) (starts_one deepest_calls t)) ds ts p.1) [
        | inl q ↦ let x = finds_kind k.CloseMustache (d.content depth stop ∷ ds) ts q.1 in (x.0, names_more t ts x.0 q.0 x.1, x.2)
        | inr q ↦ by_expr (more_found n) (finds_expr (d.more_values depth stop ∷ ds) (t ∷ ts) (sym (fed_expr (d.more_values depth stop) ds t ts) ∙ q.1))
      ]
    ] where
      by_expr : FindsMore n → Found SomeExpr (d.more_values depth stop ∷ ds) (t ∷ ts) → Found MoreTo (d.content depth stop ∷ ds) (t ∷ ts)
      by_expr next (us, (e, is), g) =
          let f = expr_falls deepest_calls (t ∷ ts) e us is in
          let r = next depth stop ds us (omega (arith, l, f)) g in
          (r.0, (expr e r.1.0, (r.1.1.0, (us, is, r.1.1.1), r.1.1.2)), r.2)

pub finds_values_to : (depth : ℕ) (stop : Stop) (ds : List Due) (ts : List Token) → accepts (d.first_value depth stop ∷ ds) ts ≡ true → Found ValuesTo (d.content depth stop ∷ ds) ts
unfolding due_after starts_first
finds_values_to depth stop ds [] h = never h
finds_values_to depth stop ds (t ∷ ts) h =
    let x = finds_expr (d.more_values depth stop ∷ ds) (t ∷ ts) (sym (fed_expr (d.more_values depth stop) ds t ts) ∙ came (d.first_value depth stop) ds t ts h) in
    let l : length x.0 ≤ length x.0 = omega arith in
    let r = more_found (length x.0) depth stop ds x.0 l x.2 in
    (r.0, (x.1.0, r.1.0, (r.1.1.0, (x.0, x.1.1, r.1.1.1), r.1.1.2)), r.2)
