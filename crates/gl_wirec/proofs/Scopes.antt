-- An expression's wire depends on which names are in scope, and not on their order nor on how often they stand there.
use Rattle.std.proofs.Common.{◌≡◌, List, [], ◌∷◌, ◌++◌, Bool, true, false, ◌||◌, refl, sym, ap, ◌∙◌, subst}
use Rattle.std.specs.Prelude.{if◌then◌else◌}
use Rattle.std.specs.Str.{bytes_eq}
use Rattle.std.proofs.lemmas.Slice.Eq.{bytes_eq-Decides}
use Rattle.gl_base.specs.Names.{has_text}
use Rattle.gl_base.specs.Texts.{Text}
use Rattle.gl_ast.specs.Template as t
use Rattle.gl_wire.specs.Symbols.{with_name, with_names, place_of, expr_mentions, exprs_mentions, named_mentions, expr_symbols_of}
use Rattle.gl_wire.specs.Wire.{call, cat, expr, named_expr, ExprWire}
use Rattle.gl_wire.specs.WireOf.{path_of, expr_wire, exprs_wire, named_wire, expr_wire_of}

or_assoc : (a b c : Bool) → ((a || b) || c) ≡ (a || (b || c))
or_assoc true b c = refl
or_assoc false b c = refl

or_false : (a : Bool) → (a || false) ≡ a
or_false true = refl
or_false false = refl

or_same : (a b : Bool) → (b ≡ true → a ≡ true) → a ≡ (a || b)
or_same true b h = refl
or_same false true h = h refl
or_same false false h = refl

has_text-append : (n : Text) (xs ys : List Text) → has_text n (xs ++ ys) ≡ (has_text n xs || has_text n ys)
has_text-append n [] ys = refl
has_text-append n (x ∷ xs) ys = ap (λ b. bytes_eq n x || b) (has_text-append n xs ys) ∙ sym (or_assoc (bytes_eq n x) (has_text n xs) (has_text n ys))

added : (b : Bool) (n m : Text) (ns : List Text) → has_text m ns ≡ b → has_text n (if b then ns else ns ++ m ∷ []) ≡ (has_text n ns || bytes_eq n m)
added true n m ns e =
    or_same (has_text n ns) (bytes_eq n m) (λ h. let P : Text → Type 0 = λ x. has_text x ns ≡ true in subst P (sym ((bytes_eq-Decides n m).0 h)) e)
added false n m ns e = has_text-append n ns (m ∷ []) ∙ ap (λ b. has_text n ns || b) (or_false (bytes_eq n m))

has_text-with_names : (n : Text) (ns ms : List Text) → has_text n (with_names ns ms) ≡ (has_text n ns || has_text n ms)
has_text-with_names n ns [] = sym (or_false (has_text n ns))
has_text-with_names n ns (m ∷ ms) =
    has_text-with_names n (with_name ns m) ms ∙ ap (λ b. b || has_text n ms) (added (has_text m ns) n m ns refl) ∙ or_assoc (has_text n ns) (bytes_eq n m) (has_text n ms)

-- the same names are in both
abbrev Alike : List Text → List Text → Type 0
Alike a b = (n : Text) → has_text n a ≡ has_text n b

once : (ns : List Text) → Alike (with_names [] ns) ns
once ns n = has_text-with_names n [] ns

mutual
  mentions : (a b : List Text) → Alike a b → (e : t.Expr) → expr_mentions a e ≡ expr_mentions b e
  mentions a b same (t.literal v) = refl
  mentions a b same (t.this n ns) = refl
  mentions a b same (t.argument n ns) = refl
  mentions a b same (t.bare n ns) = ap (λ c. if c then n ∷ [] else []) (same n)
  mentions a b same (t.call n es ns) = ap (λ l. l ++ named_mentions a ns) (all_mentions a b same es) ∙ ap (λ l. exprs_mentions b es ++ l) (pairs_mentions a b same ns)
  mentions a b same (t.cat es) = all_mentions a b same es

  all_mentions : (a b : List Text) → Alike a b → (es : t.Exprs) → exprs_mentions a es ≡ exprs_mentions b es
  all_mentions a b same t.no_exprs = refl
  all_mentions a b same (t.expr e es) = ap (λ l. l ++ exprs_mentions a es) (mentions a b same e) ∙ ap (λ l. expr_mentions b e ++ l) (all_mentions a b same es)

  pairs_mentions : (a b : List Text) → Alike a b → (ns : t.NamedExprs) → named_mentions a ns ≡ named_mentions b ns
  pairs_mentions a b same t.no_named = refl
  pairs_mentions a b same (t.named_expr n e ns) = ap (λ l. l ++ named_mentions a ns) (mentions a b same e) ∙ ap (λ l. expr_mentions b e ++ l) (pairs_mentions a b same ns)

mutual
  wires : (ss a b : List Text) → Alike a b → (whole : Bool) (e : t.Expr) → expr_wire ss a whole e ≡ expr_wire ss b whole e
  wires ss a b same whole (t.literal v) = refl
  wires ss a b same whole (t.this n ns) = refl
  wires ss a b same whole (t.argument n ns) = refl
  wires ss a b same whole (t.bare n ns) = ap (λ c. path_of c whole (place_of ss n) n ns) (same n)
  wires ss a b same whole (t.call n es ns) =
      ap (λ l. call n l (named_wire ss a ns)) (all_wires ss a b same false es) ∙ ap (λ l. call n (exprs_wire ss b false es) l) (pairs_wires ss a b same ns)
  wires ss a b same whole (t.cat es) = ap cat (all_wires ss a b same true es)

  all_wires : (ss a b : List Text) → Alike a b → (whole : Bool) (es : t.Exprs) → exprs_wire ss a whole es ≡ exprs_wire ss b whole es
  all_wires ss a b same whole t.no_exprs = refl
  all_wires ss a b same whole (t.expr e es) =
      ap (λ l. expr l (exprs_wire ss a whole es)) (wires ss a b same whole e) ∙ ap (λ l. expr (expr_wire ss b whole e) l) (all_wires ss a b same whole es)

  pairs_wires : (ss a b : List Text) → Alike a b → (ns : t.NamedExprs) → named_wire ss a ns ≡ named_wire ss b ns
  pairs_wires ss a b same t.no_named = refl
  pairs_wires ss a b same (t.named_expr n e ns) =
      ap (λ l. named_expr n l (named_wire ss a ns)) (wires ss a b same false e) ∙ ap (λ l. named_expr n (expr_wire ss b false e) l) (pairs_wires ss a b same ns)

-- so it may be found with each name once
pub wire_once : (ns : List Text) (e : t.Expr) → expr_wire_of (with_names [] ns) e ≡ expr_wire_of ns e
unfolding expr_wire_of
wire_once ns e =
    let scope = with_names [] ns in
    let same : expr_symbols_of scope e ≡ expr_symbols_of ns e = ap (with_names []) (mentions scope ns (once ns) e) in
    let made : List Text → ExprWire = λ ss. record { symbols = ss; value = expr_wire ss scope false e } in
    ap made same ∙ ap (λ x. let w : ExprWire = record { symbols = expr_symbols_of ns e; value = x } in w) (wires (expr_symbols_of ns e) scope ns (once ns) false e)
