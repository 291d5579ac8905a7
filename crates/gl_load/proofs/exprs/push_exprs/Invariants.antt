use Rattle.std.proofs.Common.{◌≡◌, drop, map}
use Rattle.gl_ast.specs.Template.{exprs_of}
use Rattle.gl_ast.specs.View.{seen_exprs}
use Rattle.gl_meaning.specs.View.{manifest_view, class_view}
use Rattle.gl_opc.specs.Programs.{listed}
use Rattle.gl_load.specs.Names.{exprs_known}
use Rattle.gl_load.specs.Spelled.{AreExpressions}
use Rattle.gl_load.proofs.Adding.{Goes}
use Rattle.gl_load.proofs.exprs.push_exprs.Given as goal

abbrev pub invariant-loop-expr : goal.invariant-loop-expr
invariant-loop-expr l =
    let left = exprs_of (seen_exprs (drop l.expr-index l.expr-items)) in
    let m = manifest_view l.manifest in
    let c = class_view l.class in
    record {
      told : exprs_known m c l.params left ≡ exprs_known m c l.params (exprs_of l.exprs);
      spelled : AreExpressions left;
      goes : Goes m c (map (λ e. (l.params, e)) (listed left)) (map (λ e. (l.params, e)) (listed (exprs_of l.exprs))) l.fn.programs l.programs;
    }
