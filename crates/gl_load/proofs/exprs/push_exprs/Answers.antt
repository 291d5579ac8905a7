use Rattle.std.proofs.Common.{◌+◌, ◌∷◌, [], ap, drop, map}
use Rattle.gl_base.proofs.Lists.{drop_item}
use Rattle.gl_ast.specs.Template.{expr, exprs_of}
use Rattle.gl_ast.specs.View.{expr_view, seen_exprs}
use Rattle.gl_meaning.specs.View.{manifest_view, class_view}
use Rattle.gl_opc.specs.Programs.{listed}
use Rattle.gl_load.specs.Spelled.{AreExpressions}
use Rattle.gl_load.proofs.Adding.{goes_step}
use Rattle.gl_load.proofs.Faults.{passes}
use Rattle.gl_load.proofs.exprs.push_exprs.Goals as goal

pub loop-expr-preserved : goal.loop-expr-preserved
loop-expr-preserved c =
    let items = c.as_slice-expr-items.result.now in
    let params = c.args.params.now in
    let one = expr_view c.expr-item.result in
    let left = exprs_of (seen_exprs (drop (c.loop-expr.expr-index + 1) items)) in
    let here = ap seen_exprs (drop_item items c.loop-expr.expr-index c.expr-item.result c.loop-expr-test.true c.expr-item.is) in
    let spelled : AreExpressions (expr one left) = rw here at c.loop-expr.invariant.spelled in
    record {
      told = passes _ _ _ c.in_ok-push_expr.ensures.told (rw here at c.loop-expr.invariant.told);
      spelled = spelled.1;
      goes = goes_step (manifest_view c.args.manifest.now) (class_view c.args.class.now) ((params, one) ∷ []) (map (λ e. (params, e)) (listed left)) _ _ _ _ (rw here at c.loop-expr.invariant.goes) c.in_ok-push_expr.ensures.adds;
    }
