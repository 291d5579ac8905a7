use Rattle.std.proofs.Common.{◌+◌, ◌∷◌, [], ap, drop, map}
use Rattle.gl_base.proofs.Lists.{drop_item}
use Rattle.gl_ast.specs.View.{named_view, seen_pairs}
use Rattle.gl_meaning.specs.ManifestRules.{Each}
use Rattle.gl_meaning.specs.View.{manifest_view, class_view}
use Rattle.gl_opc.specs.Programs.{getters_exprs}
use Rattle.gl_load.specs.Spelled.{IsSpelledGetter}
use Rattle.gl_load.proofs.Adding.{goes_step}
use Rattle.gl_load.proofs.Faults.{passes}
use Rattle.gl_load.proofs.entries.getter_programs.Goals as goal

pub loop-getter-preserved : goal.loop-getter-preserved
loop-getter-preserved c =
    let items = c.as_slice-getter-items.result.now in
    let one = named_view c.getter-item.result in
    let left = seen_pairs (drop (c.loop-getter.getter-index + 1) items) in
    let here = ap seen_pairs (drop_item items c.loop-getter.getter-index c.getter-item.result c.loop-getter-test.true c.getter-item.is) in
    let spelled : Each IsSpelledGetter (one ∷ left) = rw here at c.loop-getter.invariant.spelled in
    record {
      told = passes _ _ _ c.in_ok-push_getter.ensures.told (rw here at c.loop-getter.invariant.told);
      spelled = spelled.1;
      goes = goes_step (manifest_view c.args.manifest.now) (class_view c.args.class.now) (([], one.1) ∷ []) (map (λ g. ([], g.1)) left) (getters_exprs (class_view c.args.class.now)) [] _ _ (rw here at c.loop-getter.invariant.goes) c.in_ok-push_getter.ensures.adds;
    }
