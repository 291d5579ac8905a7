-- A reference that was bound for an expression means what the expression gives.
use Rattle.std.proofs.Common.{◌≡◌, ◌<◌, ℕ, false, List, map, Option, sym, ap, subst, arith}
use mathlib.Core.Path.{fun_ext}
use Rattle.gl_ast.specs.Template.{Expr, Exprs}
use Rattle.gl_meaning.specs.App.{App}
use Rattle.gl_meaning.specs.Path.{Path}
use Rattle.gl_meaning.specs.Scope.{Source}
use Rattle.gl_meaning.specs.Eval.{Store, eval, eval_all}
use Rattle.gl_plain.specs.Ids.{a_ref, Id, ref, occurs}
use Rattle.gl_plain.specs.State.{MScope, scope_by, Thing, pair_of}
use Rattle.gl_plain.specs.Naming.{by_number}
use Rattle.gl_plain.specs.Binding.{bind_expr_as, bind_exprs_as}
use Rattle.gl_plain.specs.Stands.{Obeys, CellsIn}
use Rattle.gl_plain.proofs.Pairs.{obeys_pairs, obeys_less}
use Rattle.gl_plain.proofs.Binding.{Binds, BindsAll}
use Rattle.gl_plain.proofs.Bound.{bound_is, bound_are}
use Rattle.gl_naming.specs.Renamed.{there_with, state_with}
use Rattle.gl_naming.specs.Laws.{IsOneToOne}
use Rattle.gl_naming.proofs.Pairs.{pair_to}
use Rattle.gl_naming.proofs.Bound.{live_bound, exprs_bound}
use Rattle.gl_means.specs.Means.{sees, Seen, Computes, ComputeAll}
use Rattle.gl_means.specs.Laws.{ExpressionMeans, ExpressionsMean}

module _ (f : Path → Path) (g : Source → Source) (once : IsOneToOne f) (look : Id → Option Thing) where
  abbrev named : Id → Option Thing
  named q = there_with f g (look q)

  pub sees_named : pair_of named ≡ sees f g look
  sees_named = fun_ext (λ r. pair_to f g once look r)

  -- what was made is there, with other names too
  obeyed : (old : Id → Option Thing) (made : List Id) → ((q : ℕ) → 0 < occurs (ref q) made → look (ref q) ≡ old (ref q)) → Obeys (λ q. there_with f g (old q)) made (pair_of named)
  obeyed old made there = obeys_less (λ q. there_with f g (old q)) named made made (pair_of named) (λ q w. (w, ap (there_with f g) (there q w))) (obeys_pairs named made)

  module _ (app : App) (τ : Store) (ms : MScope) where
    cells : (n : ℕ) → Seen f g app τ n ms look → CellsIn app τ (pair_of named) ms
    cells n s = subst (λ h. CellsIn app τ h ms) (sym sees_named) s.cells

    pub one_means : (e : Expr) (r : ℕ) → Computes f g app τ ms e look r → sees f g look r ≡ eval app τ (scope_by (sees f g look) ms) e
    one_means e r c =
        let st = c.before in
        let b = bind_expr_as by_number app ms e st in
        let made = subst (λ y. Binds app (st.next a_ref) ms (state_with f g (λ x. false) st) y (λ τ h. eval app τ (scope_by h ms) e)) (live_bound f g (λ x. false) app ms c.scope.owner e st)
        (bound_is app (st.next a_ref) ms c.scope.low e (state_with f g (λ x. false) st) (omega arith)) in
        subst (λ k. sees f g look k ≡ eval app τ (scope_by (sees f g look) ms) e) c.is
        (subst (λ h. h b.id ≡ eval app τ (scope_by h ms) e) sees_named
        (made.gives (pair_of named) τ (obeyed b.state.look b.made c.there) (cells (st.next a_ref) c.scope)))

    pub all_mean : (es : Exprs) (rs : List ℕ) → ComputeAll f g app τ ms es look rs → map (sees f g look) rs ≡ eval_all app τ (scope_by (sees f g look) ms) es
    all_mean es rs c =
        let st = c.before in
        let b = bind_exprs_as by_number app ms es st in
        let made = subst (λ y. BindsAll app (st.next a_ref) ms (state_with f g (λ x. false) st) y (λ τ h. eval_all app τ (scope_by h ms) es)) (exprs_bound f g (λ x. false) app ms c.scope.owner es st)
        (bound_are app (st.next a_ref) ms c.scope.low es (state_with f g (λ x. false) st) (omega arith)) in
        subst (λ ks. map (sees f g look) ks ≡ eval_all app τ (scope_by (sees f g look) ms) es) c.is
        (subst (λ h. map h b.ids ≡ eval_all app τ (scope_by h ms) es) sees_named
        (made.gives (pair_of named) τ (obeyed b.state.look b.made c.there) (cells (st.next a_ref) c.scope)))

pub expression_means : ExpressionMeans
expression_means f g once app τ ms e look r c = one_means f g once look app τ ms e r c

pub expressions_mean : ExpressionsMean
expressions_mean f g once app τ ms es look rs c = all_mean f g once look app τ ms es rs c
