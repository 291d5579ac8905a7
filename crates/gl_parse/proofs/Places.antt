-- The places that are told of a template and of an expression are their places.
use Rattle.std.proofs.Common.{◌≡◌, ◌⊎◌, ℕ, List, [], ◌∷◌, ◌++◌, Bool, true, false, inl, inr, Some, None, length, refl, sym, ap, ◌∙◌, subst, append_assoc, append-nil}
use Rattle.std.specs.Prelude.{if◌then◌else◌, option_map, unwrap_or, is_some}
use Rattle.std.specs.Str.{is_utf8}
use Rattle.std.specs.Str.Lossy.{utf8_valid_len}
use Rattle.gl_base.specs.Answers.{◌>>=◌}
use Rattle.gl_ast.specs.Grammar.{deepest_calls, deepest_nesting, IsExpr, AreStmts}
use Rattle.gl_ast.specs.Settling.{settled}
use Rattle.gl_ast.specs.Template.{Expr}
use Rattle.gl_ast.specs.declared.mode.Mode.TheVariants as m
use Rattle.gl_ast.specs.declared.token.Token.{Token}
use Rattle.gl_lex.specs.Front.{front_from}
use Rattle.gl_lex.proofs.Continued.{some_of}
use Rattle.gl_exprs.specs.ReadExpr.{read_expr}
use Rattle.gl_parse.specs.Due.{Due, Dues, whole, step, run, refused, place_of, template_due, expression_due}
use Rattle.gl_parse.specs.FaultPlace.{stop_of, text_place, template_place, expression_place}
use Rattle.gl_parse.specs.Place.{BeginsTemplate, BeginsExpression, IsFaulty, IsPlaceAmong, IsTemplatePlace, IsExpressionPlace}
use Rattle.gl_parse.specs.ReadStmt.{read_lone}
use Rattle.gl_parse.proofs.Accepts.{accepts, accepts_expression}
use Rattle.gl_parse.proofs.ContentFinds.{Content, finds_body}
use Rattle.gl_parse.proofs.ContentWays.{passes_body}
use Rattle.gl_parse.proofs.Lower.{read_expr_is, reads_expr}
use Rattle.gl_parse.proofs.SpellsRead.{whole_is, is_whole}
use Rattle.gl_parse.proofs.Stays.{AreIn, InIf, run_in, all_met, WholeIf, run_whole, whole_met}
use Rattle.gl_parse.proofs.TagNames.{AreGood, front_good, settled_good}

-- The first token that is refused.

abbrev IsStuck : List Due → List Token → Type 0
IsStuck ds [] = Unit {0}
IsStuck ds (t ∷ ts) = step ds t ≡ None

-- tokens in front of the first that is refused
record Split (ds : List Due) (list : List Token) : Type 0 where
  front : List Token
  left : List Token
  due : List Due
  here : list ≡ front ++ left
  is_left : refused ds list ≡ left
  runs : run ds front ≡ Some due
  stuck : IsStuck due left

split : (ds : List Due) (list : List Token) → Split ds list
split ds [] = record { front = []; left = []; due = ds; here = refl; is_left = refl; runs = refl; stuck = tt }
split ds (t ∷ ts) = by_step (step ds t) refl (λ l. split l ts) where
  by_step : (o : Dues) → step ds t ≡ o → ((l : List Due) → Split l ts) → Split ds (t ∷ ts)
  by_step None e more = record { front = []; left = t ∷ ts; due = ds; here = refl; is_left = rw e refl; runs = refl; stuck = e }
  by_step (Some l) e more =
      let s = more l in
      record { front = t ∷ s.front; left = s.left; due = s.due; here = ap (λ us. t ∷ us) s.here; is_left = rw e s.is_left; runs = rw e s.runs; stuck = s.stuck }

accepts_run : (ds : List Due) (front : List Token) (l : List Due) (ts : List Token) → run ds front ≡ Some l → accepts ds (front ++ ts) ≡ accepts l ts
accepts_run ds [] l ts e = ap (λ x. accepts x ts) (same_dues ds l e) where
  same_dues : (xs ys : List Due) → ◌≡◌ {A = Dues} (Some xs) (Some ys) → xs ≡ ys
  same_dues xs ys f = cc
accepts_run ds (t ∷ front) l ts e = by_step (step ds t) e (λ x f. accepts_run x front l ts f) where
  by_step : (o : Dues) → (o >>= λ x. run x front) ≡ Some l → ((x : List Due) → run x front ≡ Some l → accepts x (front ++ ts) ≡ accepts l ts) → unwrap_or (option_map (λ x. accepts x (front ++ ts)) o) false ≡ accepts l ts
  by_step None f more = absurd cc
  by_step (Some x) f more = more x f

accepts_stuck : (ds : List Due) (t : Token) (ts : List Token) → step ds t ≡ None → accepts ds (t ∷ ts) ≡ false
accepts_stuck ds t ts e = rw e refl

-- tokens that were taken, then one that is refused, are not accepted
refused_next : (ds front_due : List Due) (front : List Token) (t : Token) (rest : List Token) → run ds front ≡ Some front_due → step front_due t ≡ None → accepts ds ((front ++ t ∷ []) ++ rest) ≡ true → ⊥
refused_next ds l front t rest runs stuck all =
    let differs : accepts ds (front ++ t ∷ rest) ≡ false = accepts_run ds front l (t ∷ rest) runs ∙ accepts_stuck l t rest stuck in
    let both : true ≡ false = sym all ∙ ap (accepts ds) (append_assoc front (t ∷ []) rest) ∙ differs in
    cc

good_front : (front left : List Token) → AreGood (front ++ left) → AreGood front
good_front [] left good = tt
good_front (t ∷ front) left good = (good.0, good_front front left good.1)

-- What begins so, with what is due at first, has this place.
record Begun (Begins : List Token → Type 0) (first : List Due) : Type 0 where
  begins : (front : List Token) (l : List Due) → AreGood front → run first front ≡ Some l → Begins front
  stops : (front : List Token) (l : List Due) (t : Token) → run first front ≡ Some l → step l t ≡ None → Begins (front ++ t ∷ []) → ⊥

place_among : (Begins : List Token → Type 0) (first : List Due) → Begun Begins first → (list : List Token) (end : ℕ) → AreGood list → IsPlaceAmong Begins list end (place_of end (refused first list))
place_among Begins first begun list end good = by_left (split first list) where
  by_left : (s : Split first list) → IsPlaceAmong Begins list end (place_of end (refused first list))
  by_left s = by_case s.left refl where
    good_here : AreGood s.front
    good_here = good_front s.front s.left (subst AreGood s.here good)

    by_case : (us : List Token) → s.left ≡ us → IsPlaceAmong Begins list end (place_of end (refused first list))
    by_case [] e =
        let all : s.front ≡ list = sym (append-nil s.front) ∙ ap (λ us. s.front ++ us) (sym e) ∙ sym s.here in
        inr (subst Begins all (begun.begins s.front s.due good_here s.runs), ap (place_of end) (s.is_left ∙ e))
    by_case (t ∷ us) e = inl (record {
      front = s.front;
      token = t;
      rest = us;
      here = s.here ∙ ap (λ vs. s.front ++ vs) e;
      begins = begun.begins s.front s.due good_here s.runs;
      stops = begun.stops s.front s.due t s.runs (subst (IsStuck s.due) e s.stuck);
      place = ap (place_of end) (s.is_left ∙ e);
    })

-- Expressions.

lone_is : (ts : List Token) (e : Expr) → read_lone ts ≡ Some e → IsExpr deepest_calls ts e []
unfolding read_lone
lone_is ts e h = read_expr_is deepest_calls ts e [] (whole_is (read_expr deepest_calls ts) e h)

lone_read : (ts : List Token) (e : Expr) → IsExpr deepest_calls ts e [] → read_lone ts ≡ Some e
unfolding read_lone
lone_read ts e h = is_whole (read_expr deepest_calls ts) e (reads_expr deepest_calls ts e [] h)

expression_begins : (front : List Token) (l : List Due) → AreGood front → run expression_due front ≡ Some l → BeginsExpression front
expression_begins front l good runs =
    let in_l : AreIn l = subst InIf runs (run_in expression_due front good (tt, tt)) in
    let w = all_met l in_l in
    let e = some_of (read_lone (front ++ w.0)) (sym (accepts_expression (front ++ w.0)) ∙ accepts_run expression_due front l w.0 runs ∙ w.1) in
    (w.0, e.0, lone_is (front ++ w.0) e.0 e.1)

expression_stops : (front : List Token) (l : List Due) (t : Token) → run expression_due front ≡ Some l → step l t ≡ None → BeginsExpression (front ++ t ∷ []) → ⊥
expression_stops front l t runs stuck (rest, e, is) =
    refused_next expression_due l front t rest runs stuck (accepts_expression ((front ++ t ∷ []) ++ rest) ∙ ap is_some (lone_read ((front ++ t ∷ []) ++ rest) e is))

expression_begun : Begun BeginsExpression expression_due
expression_begun = record { begins = expression_begins; stops = expression_stops }

pub expression_place_is : (text : List ℕ) → IsExpressionPlace text (expression_place text)
unfolding expression_place
expression_place_is text =
    place_among BeginsExpression expression_due expression_begun (front_from m.Expression 0 0 text).0 (stop_of (length text) (front_from m.Expression 0 0 text).1) (front_good m.Expression 0 0 text)

-- Templates.

template_begins : (front : List Token) (l : List Due) → AreGood front → run template_due front ≡ Some l → BeginsTemplate front
template_begins front l good runs = by_content (finds_body deepest_nesting whole [] (front ++ w.0) (accepts_run template_due front l w.0 runs ∙ w.1)) where
  w : (ws : List Token) × (accepts l ws ≡ true)
  w = whole_met l (subst WholeIf runs (run_whole template_due front good tt))

  by_content : Content deepest_nesting whole [] (front ++ w.0) → BeginsTemplate front
  by_content (tree, (us, are, e)) = (w.0, tree, subst (AreStmts deepest_nesting (front ++ w.0) tree) e are)

template_stops : (front : List Token) (l : List Due) (t : Token) → run template_due front ≡ Some l → step l t ≡ None → BeginsTemplate (front ++ t ∷ []) → ⊥
template_stops front l t runs stuck (rest, tree, are) = refused_next template_due l front t rest runs stuck (passes_body deepest_nesting whole [] ((front ++ t ∷ []) ++ rest) tree [] are)

template_begun : Begun BeginsTemplate template_due
template_begun = record { begins = template_begins; stops = template_stops }

text_place_is : (text : List ℕ) → IsPlaceAmong BeginsTemplate (settled text (front_from m.Content 0 0 text).0) (stop_of (length text) (front_from m.Content 0 0 text).1) (text_place text)
unfolding text_place
text_place_is text =
    place_among BeginsTemplate template_due template_begun (settled text (front_from m.Content 0 0 text).0) (stop_of (length text) (front_from m.Content 0 0 text).1)
    (settled_good text (front_from m.Content 0 0 text).0 (front_good m.Content 0 0 text))

pub template_place_is : (bytes : List ℕ) → IsTemplatePlace bytes (template_place bytes)
unfolding template_place
template_place_is bytes = by_text (is_utf8 bytes) refl where
  by_text : (b : Bool) → is_utf8 bytes ≡ b → IsTemplatePlace bytes (if b then text_place bytes else utf8_valid_len bytes)
  by_text false e = inl (e, refl)
  by_text true e = inr (e, text_place_is bytes)

-- There is one place.

-- what begins with more begins with less
abbrev IsFrontwise : (List Token → Type 0) → Type 0
IsFrontwise Begins = (front more : List Token) → Begins (front ++ more) → Begins front

template_front : IsFrontwise BeginsTemplate
template_front front more (rest, tree, are) = (more ++ rest, tree, subst (λ ts. AreStmts deepest_nesting ts tree []) (append_assoc front more rest) are)

expression_front : IsFrontwise BeginsExpression
expression_front front more (rest, e, is) = (more ++ rest, e, subst (λ ts. IsExpr deepest_calls ts e []) (append_assoc front more rest) is)

-- of two tokens of a list, one comes first, if they are not the same
abbrev Apart : List Token → Token → List Token → Token → Type 0
Apart xs x ys y = (x ≡ y) ⊎ (((more : List Token) × (ys ≡ (xs ++ x ∷ []) ++ more)) ⊎ ((more : List Token) × (xs ≡ (ys ++ y ∷ []) ++ more)))

apart : (xs : List Token) (x : Token) (us : List Token) (ys : List Token) (y : Token) (vs : List Token) → xs ++ x ∷ us ≡ ys ++ y ∷ vs → Apart xs x ys y
apart [] x us [] y vs e = inl cc
apart [] x us (z ∷ ys) y vs e = let same : z ≡ x = cc in inr (inl (ys, ap (λ t. t ∷ ys) same))
apart (z ∷ xs) x us [] y vs e = let same : z ≡ y = cc in inr (inr (xs, ap (λ t. t ∷ xs) same))
apart (z ∷ xs) x us (w ∷ ys) y vs e =
    let head : z ≡ w = cc in
    let tail : xs ++ x ∷ us ≡ ys ++ y ∷ vs = cc in
    elim (apart xs x us ys y vs tail) [
      | inl same ↦ inl same
      | inr (inl p) ↦ inr (inl (p.0, ap (λ t. t ∷ ys) (sym head) ∙ ap (λ l. z ∷ l) p.1))
      | inr (inr p) ↦ inr (inr (p.0, ap (λ t. t ∷ xs) head ∙ ap (λ l. w ∷ l) p.1))
    ]

one_faulty : (Begins : List Token → Type 0) → IsFrontwise Begins → (list : List Token) (n o : ℕ) → IsFaulty Begins list n → IsFaulty Begins list o → n ≡ o
one_faulty Begins frontwise list n o p q = elim (apart p.front p.token p.rest q.front q.token q.rest (sym p.here ∙ q.here)) [
  | inl same ↦ p.place ∙ ap (λ t. t.start) same ∙ sym q.place
  | inr (inl r) ↦ absurd (p.stops (frontwise (p.front ++ p.token ∷ []) r.0 (subst Begins r.1 q.begins)))
  | inr (inr r) ↦ absurd (q.stops (frontwise (q.front ++ q.token ∷ []) r.0 (subst Begins r.1 p.begins)))
]

-- all tokens begin something, or some is faulty
never_both : (Begins : List Token → Type 0) → IsFrontwise Begins → (list : List Token) (n : ℕ) → IsFaulty Begins list n → Begins list → ⊥
never_both Begins frontwise list n p all = p.stops (frontwise (p.front ++ p.token ∷ []) p.rest (subst Begins (p.here ∙ sym (append_assoc p.front (p.token ∷ []) p.rest)) all))

one_among : (Begins : List Token → Type 0) → IsFrontwise Begins → (list : List Token) (end n o : ℕ) → IsPlaceAmong Begins list end n → IsPlaceAmong Begins list end o → n ≡ o
one_among Begins frontwise list end n o (inl p) (inl q) = one_faulty Begins frontwise list n o p q
one_among Begins frontwise list end n o (inl p) (inr (all, e)) = absurd (never_both Begins frontwise list n p all)
one_among Begins frontwise list end n o (inr (all, e)) (inl q) = absurd (never_both Begins frontwise list o q all)
one_among Begins frontwise list end n o (inr (all, e)) (inr (also, f)) = e ∙ sym f

pub one_expression_place : (text : List ℕ) (n o : ℕ) → IsExpressionPlace text n → IsExpressionPlace text o → n ≡ o
one_expression_place text n o p q = one_among BeginsExpression expression_front (front_from m.Expression 0 0 text).0 (stop_of (length text) (front_from m.Expression 0 0 text).1) n o p q

pub one_template_place : (bytes : List ℕ) (n o : ℕ) → IsTemplatePlace bytes n → IsTemplatePlace bytes o → n ≡ o
one_template_place bytes n o (inl (e, p)) (inl (f, q)) = p ∙ sym q
one_template_place bytes n o (inl (e, p)) (inr (f, q)) = let r : true ≡ false = sym f ∙ e in absurd cc
one_template_place bytes n o (inr (e, p)) (inl (f, q)) = let r : true ≡ false = sym e ∙ f in absurd cc
one_template_place bytes n o (inr (e, p)) (inr (f, q)) = one_among BeginsTemplate template_front (settled bytes (front_from m.Content 0 0 bytes).0) (stop_of (length bytes) (front_from m.Content 0 0 bytes).1) n o p q
