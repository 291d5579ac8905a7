use Rattle.std.proofs.Common.{◌≡◌, [], drop, map}
use Rattle.gl_ast.specs.View.{seen_pairs}
use Rattle.gl_meaning.specs.ManifestRules.{Each}
use Rattle.gl_meaning.specs.View.{manifest_view, class_view}
use Rattle.gl_opc.specs.Programs.{getters_exprs}
use Rattle.gl_load.specs.Names.{each_known, expr_known, getters_known}
use Rattle.gl_load.specs.Spelled.{IsSpelledGetter}
use Rattle.gl_load.proofs.Adding.{Goes}
use Rattle.gl_load.proofs.entries.getter_programs.Given as goal

abbrev pub invariant-loop-getter : goal.invariant-loop-getter
invariant-loop-getter l =
    let left = seen_pairs (drop l.getter-index l.getter-items) in
    let m = manifest_view l.manifest in
    let c = class_view l.class in
    record {
      told : each_known (λ g. expr_known m c [] g.1) left ≡ getters_known m c;
      spelled : Each IsSpelledGetter left;
      goes : Goes m c (map (λ g. ([], g.1)) left) (getters_exprs c) [] l.programs;
    }
