-- What expressions give with other names, where the paths in scope and their fields keep theirs.
use Rattle.std.proofs.Common.{◌≡◌, ℕ, zero, suc, List, [], ◌∷◌, ◌++◌, map, length, Bool, true, false, Option, Some, None, refl, sym, ap, ap₂, ◌∙◌}
use Rattle.std.specs.Prelude.{if◌then◌else◌, unwrap_or}
use Rattle.std.specs.Str.{bytes_eq}
use Rattle.gl_base.specs.Texts.{Text}
use Rattle.gl_base.specs.Names.{named, last_named, or_else}
use Rattle.gl_value.specs.Value.{action, no_values}
use Rattle.gl_value.specs.Helpers.{helper_table}
use Rattle.gl_ast.specs.Template as t
use Rattle.gl_ast.specs.Template.{Expr, Exprs, NamedExprs, AttrValue}
use Rattle.gl_meaning.specs.App.{App}
use Rattle.gl_meaning.specs.Path.{Path}
use Rattle.gl_meaning.specs.Scope.{Source, Pair, absent, NamedPairs, Scope, scope, Passed, nothing_passed, passed, passed_of, with_locals, bind}
use Rattle.gl_meaning.specs.Eval.{Store, class_at, Member, field_member, getter_member, action_member, member_of, with_properties, bare_pair, member_pair, eval_in, eval_all_in, eval_named_in, eval_deep, eval, eval_all, eval_named, eval_value, eval_given, call_pair, cat_pair}
use Rattle.gl_plain.specs.State.{writer}
use Rattle.gl_naming.specs.Renamed.{pair_with, StoresAgree}
use Rattle.gl_naming.specs.Moved.{PlaceStill}
use Rattle.gl_naming.proofs.Pairs.{many_on, names_to, helper_to, cat_to}
use Rattle.gl_naming.proofs.Bound.{plain_on}

module _ (h : Path → Path) (k : Source → Source) where
  abbrev to : Pair → Pair
  to p = pair_with h k p

  -- the scope with other names, but for its paths
  abbrev mutual
    pub scope_with : Scope → Scope
    scope_with (scope i a l w) = scope i (names_to h k a) (names_to h k l) (passed_with w)

    pub passed_with : Passed → Passed
    passed_with nothing_passed = nothing_passed
    passed_with (passed ps bs s) = passed ps bs (scope_with s)

  -- where the paths of the scopes keep their names
  abbrev mutual
    pub ScopeStill : App → Scope → Type 0
    ScopeStill app (scope i a l w) = PlaceStill app h k i × PassedStill app w

    pub PassedStill : App → Passed → Type 0
    PassedStill app nothing_passed = Unit {0}
    PassedStill app (passed ps bs s) = ScopeStill app s

  -- and all that is in scope does
  abbrev mutual
    pub ScopeIs : App → Scope → Type 0
    ScopeIs app (scope i a l w) = PlaceStill app h k i × (names_to h k a ≡ a) × (names_to h k l ≡ l) × PassedIs app w

    pub PassedIs : App → Passed → Type 0
    PassedIs app nothing_passed = Unit {0}
    PassedIs app (passed ps bs s) = ScopeIs app s

  pub passed_stays : (app : App) (s : Scope) → ScopeStill app s → PassedStill app (passed_of s)
  passed_stays app (scope i a l w) h = h.1

  pub passed_are : (app : App) (s : Scope) → ScopeIs app s → PassedIs app (passed_of s)
  passed_are app (scope i a l w) h = h.3

  mutual
    pub is_still : (app : App) (s : Scope) → ScopeIs app s → ScopeStill app s
    is_still app (scope i a l w) h = (h.0, passed_still app w h.3)

    passed_still : (app : App) (w : Passed) → PassedIs app w → PassedStill app w
    passed_still app nothing_passed h = tt
    passed_still app (passed ps bs s) h = is_still app s h

  mutual
    pub scope_is : (app : App) (s : Scope) → ScopeIs app s → scope_with s ≡ s
    scope_is app (scope i a l w) h = (λ j. scope i (h.1 j) (h.2 j) (passed_is app w h.3 j))

    passed_is : (app : App) (w : Passed) → PassedIs app w → passed_with w ≡ w
    passed_is app nothing_passed h = refl
    passed_is app (passed ps bs s) h = ap (passed ps bs) (scope_is app s h)

  -- Names

  abbrev maybe_to : Option Pair → Option Pair
  maybe_to None = None
  maybe_to (Some p) = Some (to p)

  last_to : (n : Text) (xs : NamedPairs) → last_named n (names_to h k xs) ≡ maybe_to (last_named n xs)
  last_to n [] = refl
  last_to n (x ∷ xs) = ap (λ o. or_else o (if bytes_eq n x.0 then Some (to x.1) else None)) (last_to n xs) ∙ by (last_named n xs) (bytes_eq n x.0) where
    by : (o : Option Pair) (b : Bool) → or_else (maybe_to o) (if b then Some (to x.1) else None) ≡ maybe_to (or_else o (if b then Some x.1 else None))
    by (Some p) b = refl
    by None true = refl
    by None false = refl

  props_to : (ks : List Text) (p : Pair) → with_properties ks (to p) ≡ to (with_properties ks p)
  props_to ks p = ap (λ v. record { value = v; sources = map k p.sources }) (many_on h k ks p.value)

  found_to : (o : Option Pair) → unwrap_or (maybe_to o) absent ≡ to (unwrap_or o absent)
  found_to None = refl
  found_to (Some p) = refl

  pub bind_to : (ns : List Text) (ps : List Pair) → bind ns (map to ps) ≡ names_to h k (bind ns ps)
  bind_to [] ps = refl
  bind_to (n ∷ ns) [] = ap (λ ys. (n, absent) ∷ ys) (bind_to ns [])
  bind_to (n ∷ ns) (p ∷ ps) = ap (λ ys. (n, to p) ∷ ys) (bind_to ns ps)

  module _ (once : (o p : Path) → h o ≡ h p → o ≡ p) where
    bare_to : (n : Text) (ks : List Text) (o : Option Pair) → bare_pair n ks (maybe_to o) ≡ to (bare_pair n ks o)
    bare_to n ks None = helper_to h k once (named n helper_table) [] []
    bare_to n ks (Some p) = props_to ks p

    -- the cells of the second store are those of the first with the other names
    module _ (app : App) (σ τ : Store) (agree : StoresAgree h k app σ τ) where
      module _ (g g' : Expr → Pair) (getters : (e : Expr) → g' e ≡ to (g e)) (i : Path) (still : PlaceStill app h k i) (a l : NamedPairs) (w w' : Passed) where
        abbrev here : Scope
        here = scope i a l w

        abbrev there : Scope
        there = scope i (names_to h k a) (names_to h k l) w'

        member_to : (x : Text) (m : Member) → member_of (class_at app i) x ≡ m → member_pair app τ g' there x m ≡ to (member_pair app σ g here x m)
        member_to x field_member e = ap₂ (λ v y. record { value = v; sources = y ∷ [] }) (agree i x) (sym (still.1 x e))
        member_to x (getter_member y) e = getters y
        member_to x action_member e = ap (λ o. record { value = action o x no_values; sources = [] }) (sym still.0)

        mutual
          expr_to : (e : Expr) → eval_in app τ g' there e ≡ to (eval_in app σ g here e)
          expr_to (t.literal v) = ap (λ u. record { value = u; sources = [] }) (sym (plain_on h v))
          expr_to (t.this x ks) = ap (with_properties ks) (member_to x (member_of (class_at app i) x) refl) ∙ props_to ks (member_pair app σ g here x (member_of (class_at app i) x))
          expr_to (t.argument n ks) = ap (λ o. with_properties ks (unwrap_or o absent)) (last_to n a) ∙ (ap (with_properties ks) (found_to (last_named n a)) ∙ props_to ks (unwrap_or (last_named n a) absent))
          expr_to (t.bare n ks) = ap (bare_pair n ks) (last_to n l) ∙ bare_to n ks (last_named n l)
          expr_to (t.call n es ns) =
              ap₂ (λ ps ms. call_pair n ps ms) (all_to es) (named_to ns) ∙ helper_to h k once (named n helper_table) (eval_all_in app σ g here es) (eval_named_in app σ g here ns)
          expr_to (t.cat es) = ap cat_pair (all_to es) ∙ cat_to h k (eval_all_in app σ g here es)

          all_to : (es : Exprs) → eval_all_in app τ g' there es ≡ map to (eval_all_in app σ g here es)
          all_to t.no_exprs = refl
          all_to (t.expr e es) = ap₂ (λ p ps. p ∷ ps) (expr_to e) (all_to es)

          named_to : (ns : NamedExprs) → eval_named_in app τ g' there ns ≡ names_to h k (eval_named_in app σ g here ns)
          named_to t.no_named = refl
          named_to (t.named_expr n e ns) = ap₂ (λ p ps. (n, p) ∷ ps) (expr_to e) (named_to ns)

      deep_to : (n : ℕ) (i : Path) → PlaceStill app h k i → (a l : NamedPairs) (w w' : Passed) (e : Expr)
          → eval_deep n app τ (scope i (names_to h k a) (names_to h k l) w') e ≡ to (eval_deep n app σ (scope i a l w) e)
      deep_to zero i still a l w w' e = refl
      deep_to (suc n) i still a l w w' e =
          expr_to (eval_deep n app σ (scope i a [] nothing_passed)) (eval_deep n app τ (scope i (names_to h k a) [] nothing_passed)) (λ y. deep_to n i still a [] nothing_passed nothing_passed y) i still a l w w' e

      pub eval_all_to : (s : Scope) → ScopeStill app s → (es : Exprs) → eval_all app τ (scope_with s) es ≡ map to (eval_all app σ s es)
      eval_all_to (scope i a l w) still es =
          let n = length (class_at app i).getters in
          all_to (eval_deep n app σ (scope i a [] nothing_passed)) (eval_deep n app τ (scope i (names_to h k a) [] nothing_passed)) (λ y. deep_to n i still.0 a [] nothing_passed nothing_passed y) i still.0 a l w (passed_with w) es

      pub eval_named_to : (s : Scope) → ScopeStill app s → (ns : NamedExprs) → eval_named app τ (scope_with s) ns ≡ names_to h k (eval_named app σ s ns)
      eval_named_to (scope i a l w) still ns =
          let n = length (class_at app i).getters in
          named_to (eval_deep n app σ (scope i a [] nothing_passed)) (eval_deep n app τ (scope i (names_to h k a) [] nothing_passed)) (λ y. deep_to n i still.0 a [] nothing_passed nothing_passed y) i still.0 a l w (passed_with w) ns

      pub eval_value_to : (s : Scope) → ScopeStill app s → (v : AttrValue) → eval_value app τ (scope_with s) v ≡ to (eval_value app σ s v)
      eval_value_to s still (t.fixed z) = refl
      eval_value_to (scope i a l w) still (t.live e) = deep_to (suc (length (class_at app i).getters)) i still.0 a l w (passed_with w) e

      pub eval_given_to : (s : Scope) → ScopeStill app s → (gs : List (Text × AttrValue)) → eval_given app τ (scope_with s) gs ≡ names_to h k (eval_given app σ s gs)
      eval_given_to s still [] = refl
      eval_given_to s still (v ∷ gs) = ap₂ (λ p ps. (v.0, p) ∷ ps) (eval_value_to s still v.1) (eval_given_to s still gs)

  -- Scopes

  pub names_join : (xs ys : NamedPairs) → names_to h k (xs ++ ys) ≡ names_to h k xs ++ names_to h k ys
  names_join [] ys = refl
  names_join (x ∷ xs) ys = ap (λ zs. (x.0, to x.1) ∷ zs) (names_join xs ys)

  pub locals_are : (app : App) (more : NamedPairs) (s : Scope) → names_to h k more ≡ more → ScopeIs app s → ScopeIs app (with_locals more s)
  locals_are app more (scope i a l w) e s = (s.0, s.1, names_join l more ∙ ap₂ (λ xs ys. xs ++ ys) s.2 e, s.3)

  -- nothing was passed to the root
  pub writer_is : (app : App) → PlaceStill app h k [] → (s : Scope) → ScopeIs app s → ScopeIs app (writer (passed_of s))
  writer_is app root (scope i a l nothing_passed) s = (root, refl, refl, tt)
  writer_is app root (scope i a l (passed ps bs v)) s = s.3
