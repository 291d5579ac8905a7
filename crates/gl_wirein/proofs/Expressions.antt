-- Expressions are read again from their JSON.
use Rattle.std.proofs.Common.{◌≡◌, ◌<◌, ◌-◌, ℕ, zero, suc, ℤ, pos, negsuc, ◌^◌, List, [], ◌∷◌, ◌++◌, Bool, true, false, ◌==◌, Option, Some, refl, ap, ◌∙◌, codes, arith, nat_le, nat_lt}
use Rattle.std.specs.List.{list_all}
use Rattle.std.proofs.lemmas.Bool.Decides.{nat_tests}
use Rattle.serde_json.specs.Data as json
use Rattle.serde_json.specs.Find.{as_i64, of_integer}
use Rattle.gl_base.specs.Answers.{◌>>=◌}
use Rattle.gl_base.specs.Names.{has_text}
use Rattle.gl_base.specs.Reading.{read_all}
use Rattle.gl_base.specs.Texts.{Text}
use Rattle.gl_value.specs.Value as v
use Rattle.gl_ast.specs.Grammar.{deepest_calls}
use Rattle.gl_ast.specs.Marks.{starts_name, in_name}
use Rattle.gl_ast.specs.Template.{Plain, Expr, literal, this, argument, bare, call, cat, Exprs, no_exprs, expr, NamedExprs, no_named, named_expr, exprs_of, named_of}
use Rattle.gl_ast.specs.Words.{greatest}
use Rattle.gl_ast.proofs.Forward.{both}
use Rattle.gl_show.specs.Spellable.{is_name, is_segment, is_within, IsTextual, IsFreeName, CanLiteral, CanExpr, CanExprs, CanNamed, CanCall, CanInner, CanQuotedPart}
use Rattle.gl_wire.specs.Json.{array_of, text_json, texts_json, place_json, literal_json, expr_json, exprs_json, named_json}
use Rattle.gl_wire.specs.Symbols.{place_of, expr_mentions, exprs_mentions, named_mentions}
use Rattle.gl_wire.specs.Wire as w
use Rattle.gl_wire.specs.WireOf.{followed, path_of, expr_wire, exprs_wire, named_wire}
use Rattle.gl_wirein.specs.Normal.{normal_name, normal_expr}
use Rattle.gl_wirein.specs.Pieces.{text_in, list_in, texts_in, symbol_in}
use Rattle.gl_wirein.specs.ReadExpr.{symbol_path, read_head, exprs_in, pair_in, pairs_in, read_call, read_with, read_expr, read_called}
use Rattle.gl_wirein.proofs.Placing.{AllIn, in_front, in_back, known_in, rounded, symbol_read}
use Rattle.gl_wirein.proofs.Texts.{Returns, textual_returns, name_returns, at_name_returns, segment_returns, first_no_at, list_read, text_read, texts_read}

-- what a first reading gave, the second reads
pub goes_on : {A B : Type 0} (o : Option A) (x : A) (f : A → Option B) (y : Option B) → o ≡ Some x → f x ≡ y → (o >>= f) ≡ y
goes_on o x f y e g = ap (λ p. p >>= f) e ∙ g

pub called_expr : (ss : List Text) (calls : ℕ) (d : json.Data) → read_expr ss calls d ≡ read_with ss (λ fields. read_called ss calls fields) d
called_expr ss zero d = refl
called_expr ss (suc calls) d = refl

-- literals
below : (n m k : ℕ) → nat_le n m ≡ true → nat_lt m k ≡ true → nat_lt n k ≡ true
below n m k a b = grind (arith, nat_tests)

integer_read : (z : ℤ) → is_within z ≡ true → as_i64 (of_integer z) ≡ Some z
integer_read (pos n) h = let k : nat_lt n (2 ^ 63) ≡ true = below n greatest (2 ^ 63) h refl in rw k refl
integer_read (negsuc n) h = refl

-- a literal of a text of characters or an integer within the bounds
abbrev pub ReturnsPlain : Plain → Type 0
ReturnsPlain (v.text s) = IsTextual s
ReturnsPlain x = CanLiteral x

pub plain_returns : (x : Plain) → CanLiteral x → ReturnsPlain x
plain_returns (v.text s) h = h.0
plain_returns v.undefined h = h
plain_returns v.null h = h
plain_returns (v.boolean b) h = h
plain_returns (v.integer z) h = h
plain_returns _ h = absurd h

literal_read : (ss : List Text) (called : List json.Data → Option Expr) (x : Plain) → ReturnsPlain x → read_with ss called (literal_json x) ≡ Some (literal x)
literal_read ss called v.undefined h = refl
literal_read ss called v.null h = refl
literal_read ss called (v.boolean b) h = refl
literal_read ss called (v.integer z) h = rw (integer_read z h) refl
literal_read ss called (v.text s) h = ap (λ (t : Text). Some (literal (v.text t))) (textual_returns s h)
literal_read ss called _ h = absurd h

-- paths
this_read : (ss : List Text) (called : List json.Data → Option Expr) (n : Text) (ns : List Text) → list_all is_segment (n ∷ ns) ≡ true → read_with ss called (expr_json (followed (w.this n) ns)) ≡ Some (this n ns)
this_read ss called n [] h = ap (λ (t : Text). Some (this t [])) (segment_returns n (both (is_segment n) true h).0)
this_read ss called n (m ∷ ms) h =
    let k = both (is_segment n) (list_all is_segment (m ∷ ms)) h in
    goes_on (texts_in (texts_json (m ∷ ms))) (m ∷ ms) (λ ns. read_head ss (json.string (codes "this") ∷ text_json n ∷ []) ns) (Some (this n (m ∷ ms))) (texts_read (m ∷ ms) k.1)
    (ap (λ (t : Text). Some (this t (m ∷ ms))) (segment_returns n k.0))

free_read : (ss : List Text) (called : List json.Data → Option Expr) (n : Text) (ns : List Text) → Returns n → list_all is_segment ns ≡ true → read_with ss called (expr_json (followed (w.free n) ns)) ≡ Some (bare n ns)
free_read ss called n [] r h = ap (λ (t : Text). Some (bare t [])) r
free_read ss called n (m ∷ ms) r h =
    goes_on (texts_in (texts_json (m ∷ ms))) (m ∷ ms) (λ ns. read_head ss (json.string (codes "free") ∷ text_json n ∷ []) ns) (Some (bare n (m ∷ ms))) (texts_read (m ∷ ms) h)
    (ap (λ (t : Text). Some (bare t (m ∷ ms))) r)

symbol_is : (ss : List Text) (called : List json.Data → Option Expr) (i : ℕ) (n : Text) (ns : List Text) → symbol_in ss (place_json i) ≡ Some n → list_all is_segment ns ≡ true → read_with ss called (expr_json (followed (w.symbol i) ns)) ≡ Some (symbol_path n ns)
symbol_is ss called i n [] e h = goes_on (symbol_in ss (place_json i)) n (λ t. Some (symbol_path t [])) (Some (symbol_path n [])) e refl
symbol_is ss called i n (m ∷ ms) e h =
    goes_on (texts_in (texts_json (m ∷ ms))) (m ∷ ms) (λ ns. read_head ss (json.string (codes "sym") ∷ place_json i ∷ []) ns) (Some (symbol_path n (m ∷ ms))) (texts_read (m ∷ ms) h)
    (goes_on (symbol_in ss (place_json i)) n (λ t. Some (symbol_path t (m ∷ ms))) (Some (symbol_path n (m ∷ ms))) e refl)

argument_read : (ss : List Text) (called : List json.Data → Option Expr) (n : Text) (ns : List Text) → is_name n ≡ true → list_all is_segment ns ≡ true → AllIn ss ((64 ∷ n) ∷ [])
    → read_with (rounded ss) called (expr_json (followed (w.symbol (place_of ss (64 ∷ n))) ns)) ≡ Some (argument n ns)
argument_read ss called n ns h s a = symbol_is (rounded ss) called (place_of ss (64 ∷ n)) (64 ∷ n) ns (symbol_read ss (64 ∷ n) a.0 (at_name_returns n h)) s

no_at : (n : Text) (ns : List Text) → is_name n ≡ true → symbol_path n ns ≡ bare n ns
no_at [] ns h = refl
no_at (c ∷ cs) ns h = let k : (c == 64) ≡ false = first_no_at c (both (starts_name c) (list_all in_name cs) h).0 in rw k refl

parameter_read : (ss : List Text) (called : List json.Data → Option Expr) (n : Text) (ns : List Text) → is_name n ≡ true → list_all is_segment ns ≡ true → has_text n ss ≡ true
    → read_with (rounded ss) called (expr_json (followed (w.symbol (place_of ss n)) ns)) ≡ Some (bare n ns)
parameter_read ss called n ns h s a = symbol_is (rounded ss) called (place_of ss n) n ns (symbol_read ss n a (name_returns n h)) s ∙ ap Some (no_at n ns h)

bare_read : (ss scope : List Text) (called : List json.Data → Option Expr) (n : Text) (ns : List Text) → is_name n ≡ true → list_all is_segment ns ≡ true → AllIn ss scope
    → read_with (rounded ss) called (expr_json (path_of (has_text n scope) false (place_of ss n) n ns)) ≡ Some (bare n ns)
bare_read ss scope called n ns h s a = scope_case (has_text n scope) refl
  where
    scope_case : (t : Bool) → has_text n scope ≡ t → read_with (rounded ss) called (expr_json (path_of t false (place_of ss n) n ns)) ≡ Some (bare n ns)
    scope_case true e = parameter_read ss called n ns h s (known_in ss scope n e a)
    scope_case false e = free_read (rounded ss) called n ns (name_returns n h) s

-- the arguments of a call as lists
abbrev pub exprs_list : Exprs → List Expr
exprs_list no_exprs = []
exprs_list (expr e es) = e ∷ exprs_list es

abbrev pub named_list : NamedExprs → List (Text × Expr)
named_list no_named = []
named_list (named_expr n e ns) = (n, e) ∷ named_list ns

pub exprs_of-list : (es : Exprs) → exprs_of (exprs_list es) ≡ es
exprs_of-list no_exprs = refl
exprs_of-list (expr e es) = ap (λ fs. expr e fs) (exprs_of-list es)

pub named_of-list : (ns : NamedExprs) → named_of (named_list ns) ≡ ns
named_of-list no_named = refl
named_of-list (named_expr n e ns) = ap (λ ms. named_expr n e ms) (named_of-list ns)

-- what `inner` reads of a list, it reads of an array
pub exprs_array : (inner : json.Data → Option Expr) (ds : List json.Data) (es : Exprs) → read_all inner ds ≡ Some (exprs_list es) → exprs_in inner (array_of ds) ≡ Some (exprs_list es)
exprs_array inner ds es e = goes_on (list_in (array_of ds)) ds (λ xs. read_all inner xs) (Some (exprs_list es)) (list_read ds) e

pub pairs_array : (inner : json.Data → Option Expr) (ds : List json.Data) (ns : NamedExprs) → read_all (pair_in inner) ds ≡ Some (named_list ns) → pairs_in inner (array_of ds) ≡ Some (named_list ns)
pairs_array inner ds ns e = goes_on (list_in (array_of ds)) ds (λ xs. read_all (pair_in inner) xs) (Some (named_list ns)) (list_read ds) e

-- a call, by what `inner` reads
call_is : (inner : json.Data → Option Expr) (n : Text) (es : Exprs) (ns : NamedExprs) (xs ys : List json.Data) → Returns n → read_all inner xs ≡ Some (exprs_list es) → read_all (pair_in inner) ys ≡ Some (named_list ns)
    → read_call inner (text_json n ∷ array_of xs ∷ array_of ys ∷ []) ≡ Some (call n es ns)
call_is inner n es ns xs ys r e f =
    goes_on (text_in (text_json n)) n (λ m. exprs_in inner (array_of xs) >>= λ es. (pairs_in inner (array_of ys) >>= λ ns. Some (call m (exprs_of es) (named_of ns)))) (Some (call n es ns)) (text_read n r)
    (goes_on (exprs_in inner (array_of xs)) (exprs_list es) (λ es. pairs_in inner (array_of ys) >>= λ ns. Some (call n (exprs_of es) (named_of ns))) (Some (call n es ns)) (exprs_array inner xs es e)
    (goes_on (pairs_in inner (array_of ys)) (named_list ns) (λ ns. Some (call n (exprs_of (exprs_list es)) (named_of ns))) (Some (call n es ns)) (pairs_array inner ys ns f)
    (rw (exprs_of-list es, named_of-list ns) refl)))

mutual
  pub expr_read : (ss scope : List Text) (calls : ℕ) (e : Expr) → CanExpr calls e → AllIn ss scope → AllIn ss (expr_mentions [] e) → read_expr (rounded ss) calls (expr_json (expr_wire ss scope false e)) ≡ Some e
  expr_read ss scope calls (literal x) can s a = called_expr (rounded ss) calls (literal_json x) ∙ literal_read (rounded ss) (λ fields. read_called (rounded ss) calls fields) x (plain_returns x can)
  expr_read ss scope calls (this n ns) can s a = called_expr (rounded ss) calls (expr_json (followed (w.this n) ns)) ∙ this_read (rounded ss) (λ fields. read_called (rounded ss) calls fields) n ns can
  expr_read ss scope calls (argument n ns) can s a =
      called_expr (rounded ss) calls (expr_json (followed (w.symbol (place_of ss (64 ∷ n))) ns)) ∙ argument_read ss (λ fields. read_called (rounded ss) calls fields) n ns can.0 can.1 a
  expr_read ss scope calls (bare n ns) can s a =
      called_expr (rounded ss) calls (expr_json (path_of (has_text n scope) false (place_of ss n) n ns)) ∙ bare_read ss scope (λ fields. read_called (rounded ss) calls fields) n ns can.0.0 can.1 s
  expr_read ss scope zero (call n es ns) can s a = absurd can
  expr_read ss scope (suc calls) (call n es ns) can s a =
      call_is (λ e. read_expr (rounded ss) calls e) n es ns (exprs_json (exprs_wire ss scope false es)) (named_json (named_wire ss scope ns)) (name_returns n can.0.0)
      (exprs_read ss scope calls es can.1 s (in_front ss (exprs_mentions [] es) (named_mentions [] ns) a)) (named_read ss scope calls ns can.2 s (in_back ss (exprs_mentions [] es) (named_mentions [] ns) a))
  expr_read ss scope zero (cat es) can s a = absurd can
  expr_read ss scope (suc calls) (cat es) can s a = absurd can

  pub exprs_read : (ss scope : List Text) (calls : ℕ) (es : Exprs) → CanExprs calls es → AllIn ss scope → AllIn ss (exprs_mentions [] es)
      → read_all (λ e. read_expr (rounded ss) calls e) (exprs_json (exprs_wire ss scope false es)) ≡ Some (exprs_list es)
  exprs_read ss scope calls no_exprs can s a = refl
  exprs_read ss scope calls (expr e es) can s a =
      rw (expr_read ss scope calls e can.0 s (in_front ss (expr_mentions [] e) (exprs_mentions [] es) a), exprs_read ss scope calls es can.1 s (in_back ss (expr_mentions [] e) (exprs_mentions [] es) a)) refl

  pub named_read : (ss scope : List Text) (calls : ℕ) (ns : NamedExprs) → CanNamed calls ns → AllIn ss scope → AllIn ss (named_mentions [] ns)
      → read_all (pair_in (λ e. read_expr (rounded ss) calls e)) (named_json (named_wire ss scope ns)) ≡ Some (named_list ns)
  named_read ss scope calls no_named can s a = refl
  named_read ss scope calls (named_expr n e ns) can s a =
      rw (name_returns n can.0.0, expr_read ss scope calls e can.1 s (in_front ss (expr_mentions [] e) (named_mentions [] ns) a), named_read ss scope calls ns can.2 s (in_back ss (expr_mentions [] e) (named_mentions [] ns) a)) refl

-- a call in a mustache
pub whole_call_read : (ss scope : List Text) (n : Text) (es : Exprs) (ns : NamedExprs) → CanCall n es ns → AllIn ss scope → AllIn ss (exprs_mentions [] es ++ named_mentions [] ns)
    → read_expr (rounded ss) (suc deepest_calls) (expr_json (expr_wire ss scope true (call n es ns))) ≡ Some (call n es ns)
whole_call_read ss scope n es ns can s a =
    call_is (λ e. read_expr (rounded ss) deepest_calls e) n es ns (exprs_json (exprs_wire ss scope false es)) (named_json (named_wire ss scope ns)) (name_returns n can.0.0)
    (exprs_read ss scope deepest_calls es can.1 s (in_front ss (exprs_mentions [] es) (named_mentions [] ns) a)) (named_read ss scope deepest_calls ns can.2 s (in_back ss (exprs_mentions [] es) (named_mentions [] ns) a))

abbrev reads_calls : List Text → List json.Data → Option Expr
reads_calls ss fields = read_called ss (suc deepest_calls) fields

lone_read : (ss scope : List Text) (n : Text) → IsFreeName n → AllIn ss scope → read_expr (rounded ss) (suc deepest_calls) (expr_json (path_of (has_text n scope) true (place_of ss n) n [])) ≡ Some (normal_name (has_text n scope) n)
lone_read ss scope n can s = scope_case (has_text n scope) refl
  where
    scope_case : (t : Bool) → has_text n scope ≡ t → read_expr (rounded ss) (suc deepest_calls) (expr_json (path_of t true (place_of ss n) n [])) ≡ Some (normal_name t n)
    scope_case true e = parameter_read ss (λ fields. reads_calls (rounded ss) fields) n [] can.0 refl (known_in ss scope n e s)
    scope_case false e = ap (λ (t : Text). Some (call t no_exprs no_named)) (name_returns n can.0)

path_read : (ss scope : List Text) (n m : Text) (ms : List Text) → IsFreeName n → list_all is_segment (m ∷ ms) ≡ true → AllIn ss scope
    → read_expr (rounded ss) (suc deepest_calls) (expr_json (path_of (has_text n scope) true (place_of ss n) n (m ∷ ms))) ≡ Some (bare n (m ∷ ms))
path_read ss scope n m ms can segments s = scope_case (has_text n scope) refl
  where
    scope_case : (t : Bool) → has_text n scope ≡ t → read_expr (rounded ss) (suc deepest_calls) (expr_json (path_of t true (place_of ss n) n (m ∷ ms))) ≡ Some (bare n (m ∷ ms))
    scope_case true e = parameter_read ss (λ fields. reads_calls (rounded ss) fields) n (m ∷ ms) can.0 segments (known_in ss scope n e s)
    scope_case false e = free_read (rounded ss) (λ fields. reads_calls (rounded ss) fields) n (m ∷ ms) (name_returns n can.0) segments

quoted_plain : (x : Plain) → CanQuotedPart (literal x) → ReturnsPlain x
quoted_plain (v.text s) h = h
quoted_plain v.undefined h = h
quoted_plain v.null h = h
quoted_plain (v.boolean b) h = h
quoted_plain (v.integer z) h = h
quoted_plain _ h = absurd h

plain_quoted : (x : Plain) → CanLiteral x → CanQuotedPart (literal x)
plain_quoted (v.text s) h = h.0
plain_quoted v.undefined h = h
plain_quoted v.null h = h
plain_quoted (v.boolean b) h = h
plain_quoted (v.integer z) h = h
plain_quoted _ h = absurd h

pub inner_quoted : (e : Expr) → CanInner e → CanQuotedPart e
inner_quoted (literal x) h = plain_quoted x h
inner_quoted (this n ns) h = h
inner_quoted (argument n ns) h = h
inner_quoted (bare n ns) h = h
inner_quoted (call n es ns) h = h
inner_quoted (cat es) h = h

-- a whole mustache, or a part of a joined text
pub whole_read : (ss scope : List Text) (e : Expr) → CanQuotedPart e → AllIn ss scope → AllIn ss (expr_mentions [] e) → read_expr (rounded ss) (suc deepest_calls) (expr_json (expr_wire ss scope true e)) ≡ Some (normal_expr scope e)
whole_read ss scope (literal x) can s a = literal_read (rounded ss) (λ fields. reads_calls (rounded ss) fields) x (quoted_plain x can)
whole_read ss scope (this n ns) can s a = this_read (rounded ss) (λ fields. reads_calls (rounded ss) fields) n ns can
whole_read ss scope (argument n ns) can s a = argument_read ss (λ fields. reads_calls (rounded ss) fields) n ns can.0 can.1 a
whole_read ss scope (bare n []) can s a = lone_read ss scope n can.0 s
whole_read ss scope (bare n (m ∷ ms)) can s a = path_read ss scope n m ms can.0 can.1 s
whole_read ss scope (call n es ns) can s a = whole_call_read ss scope n es ns can s a
whole_read ss scope (cat es) can s a = absurd can

-- a call, where one may stand
pub called_more : (ss : List Text) (calls : ℕ) (fields : List json.Data) → 0 < calls → read_called ss calls fields ≡ read_call (λ e. read_expr ss (calls - 1) e) fields
called_more ss zero fields h = absurd (omega (arith, h))
called_more ss (suc n) fields h = let e : suc n - 1 ≡ n = omega arith in rw e refl
