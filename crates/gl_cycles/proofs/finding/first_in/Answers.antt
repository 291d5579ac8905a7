use Rattle.std.proofs.Common.{◌≡◌, ◌∙◌, sym, ap, subst, arith, List, length, slice_get, Some}
use Rattle.std.proofs.lemmas.List.{length-map}
use Rattle.gl_base.specs.Texts.{Text}
use Rattle.gl_ast.specs.Template.{Expr}
use Rattle.gl_ast.specs.View.{seen_pairs, named_view}
use Rattle.gl_cycles.specs.Marks.{AreMentions}
use Rattle.gl_cycles.proofs.Firsts.{first_marked}
use Rattle.gl_cycles.proofs.Reaching.{none_reaches}
use Rattle.gl_cycles.proofs.Rows.{seen_at}
use Rattle.gl_cycles.proofs.finding.first_in.Goals as goal

pub returns-then-has_mark : goal.returns-then-has_mark
returns-then-has_mark c = λ d is.
    let gs = c.as_slice-list.result.now in
    let e : seen_pairs gs ≡ d.getters = c.as_slice-list.ensures ∙ sym is in
    let at = seen_at gs c.loop-place.place c.index-list-place.result c.loop-place-test.true c.index-list-place.is in
    first_marked d c.rows_of-rows.result c.close.new.rows
    (subst (λ (x : List (Text × Expr)). AreMentions c.rows_of-rows.result x) e c.rows_of-rows.ensures) c.close.ensures
    c.loop-place.place (named_view c.index-list-place.result) (subst (λ (x : List (Text × Expr)). slice_get x c.loop-place.place ≡ Some (named_view c.index-list-place.result)) e at)
    (sym c.has_mark.ensures ∙ c.if-has_mark.true) c.loop-place.invariant

pub returns : goal.returns
returns c = λ d is.
    let gs = c.as_slice-list.result.now in
    let e : seen_pairs gs ≡ d.getters = c.as_slice-list.ensures ∙ sym is in
    none_reaches d c.rows_of-rows.result (subst (λ (x : List (Text × Expr)). AreMentions c.rows_of-rows.result x) e c.rows_of-rows.ensures) c.close.new.rows c.close.ensures
    (λ k below. c.loop-place.invariant k (omega (arith, below, c.loop-place-test.false, ap length e, length-map gs named_view)))
