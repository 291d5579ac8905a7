use Rattle.std.proofs.Common.{◌≡◌, ◌≤◌, ◌+◌, ◌++◌, ◌∷◌, [], ap, drop, length, arith, rules}
use Rattle.std.specs.Str.{chars}
use Rattle.std.proofs.lemmas.List.{drop_all, length-map}
use Rattle.std.proofs.lemmas.Result.{err_from_is_err_and}
use Rattle.gl_base.proofs.Lists.{drop_item}
use Rattle.gl_meaning.specs.ManifestRules.{Each}
use Rattle.gl_meaning.specs.View.{manifest_view, class_view, seen_classes}
use Rattle.gl_program.specs.View.{class_program_view}
use Rattle.gl_load.specs.Names.{class_known, classes_known}
use Rattle.gl_load.specs.Spelled.{IsSpelledClass}
use Rattle.gl_load.specs.Trees.{tree_of}
use Rattle.gl_load.proofs.Adding.{Leaves, leaves_step, leaves_end}
use Rattle.gl_load.proofs.Faults.{passes, stays_told_in}
use Rattle.gl_load.proofs.Trees.{got_tree}
use Rattle.gl_load.proofs.programs.programs_of_classes.Goals as goal

pub returns-in_err-program-clause-told : goal.returns-in_err-program-clause-told
returns-in_err-program-clause-told c =
    let items = c.as_slice-class-items.result.now in
    let i = c.loop-place.place in
    let name = chars c.args.name.now in
    let m = manifest_view c.args.manifest.now in
    let tree = tree_of c.in-Some.template.now in
    let here = ap seen_classes (drop_item items i c.class-item.result c.loop-place-test.true c.class-item.is) in
    let there = got_tree c.args.templates.now i tree c.in-Some.ensures in
    let p = err_from_is_err_and c.from_residual.result c.from_residual.ensures.1 in
    let told = rw (here, there) at c.loop-place.invariant.told in
    rw (p.1, p.2, ← told)
    (stays_told_in _ _ (class_known m (class_view c.class-item.result) name tree) (classes_known name m (seen_classes (drop (i + 1) items)) (drop (i + 1) c.args.templates.now)) c.in_err-program.ensures.told)

pub loop-place-preserved : goal.loop-place-preserved
loop-place-preserved c =
    let items = c.as_slice-class-items.result.now in
    let i = c.loop-place.place in
    let m = manifest_view c.args.manifest.now in
    let class = class_view c.class-item.result in
    let tree = tree_of c.in-Some.template.now in
    let left = seen_classes (drop (i + 1) items) in
    let trees = drop (i + 1) c.args.templates.now in
    let here = ap seen_classes (drop_item items i c.class-item.result c.loop-place-test.true c.class-item.is) in
    let there = got_tree c.args.templates.now i tree c.in-Some.ensures in
    let pushed : c.push.new.self ≡ c.loop-place.programs ++ class_program_view c.in_ok-program.program ∷ [] = search rules in
    let spelled : Each IsSpelledClass (class ∷ left) = rw here at c.loop-place.invariant.spelled in
    let lowers : Leaves m (class ∷ left) (tree ∷ trees) c.loop-place.programs c.args.manifest.now.classes c.args.templates.now = rw (here, there) at c.loop-place.invariant.lowers in
    record {
      spelled = spelled.1;
      told = passes _ _ _ c.in_ok-program.ensures.told (rw (here, there) at c.loop-place.invariant.told);
      lowers = rw pushed (leaves_step m class left tree trees (class_program_view c.in_ok-program.program) c.loop-place.programs c.args.manifest.now.classes c.args.templates.now lowers c.in_ok-program.ensures.lowers);
    }

pub returns-clause-lowers : goal.returns-clause-lowers
returns-clause-lowers c =
    let items = c.as_slice-class-items.result.now in
    let few : length c.args.templates.now ≤ c.loop-place.place = omega (arith, c.requires.many, ap length c.as_slice-class-items.ensures, length-map items class_view, c.loop-place-test.false) in
    let past = ap seen_classes (drop_all c.loop-place.place items c.loop-place-test.false) in
    let none = drop_all c.loop-place.place c.args.templates.now few in
    leaves_end (manifest_view c.args.manifest.now) c.loop-place.programs c.args.manifest.now.classes c.args.templates.now (rw (past, none) at c.loop-place.invariant.lowers)
