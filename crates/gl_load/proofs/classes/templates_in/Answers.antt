use Rattle.std.proofs.Common.{◌≡◌, ◌++◌, ◌∷◌, [], ◌∙◌, ◌+◌, ap, drop, length, length-append, arith, rules}
use Rattle.std.proofs.lemmas.List.{drop_all}
use Rattle.std.proofs.lemmas.Result.{err_from_is_err_and}
use Rattle.gl_base.proofs.Lists.{drop_item}
use Rattle.gl_meaning.specs.View.{class_view, seen_classes}
use Rattle.gl_load.specs.Trees.{tree_of}
use Rattle.gl_load.proofs.Faults.{among_more}
use Rattle.gl_load.proofs.Trees.{templates_step, templates_stop, templates_end, fetched_step, fetched_here}
use Rattle.gl_load.proofs.classes.templates_in.Goals as goal

pub returns-in_err-tree-clause-told : goal.returns-in_err-tree-clause-told
returns-in_err-tree-clause-told g c = λ files e.
    let items = c.as_slice-class-items.result.now in
    let here = ap seen_classes (drop_item items c.loop-class.class-index c.class-item.result c.loop-class-test.true c.class-item.is) in
    let p = err_from_is_err_and c.from_residual.result c.from_residual.ensures.1 in
    let h = rw c.as_str.ensures.value at (c.in_err-tree.ensures.told files (c.loop-class.invariant.keeps ∙ e)) in
    let left = rw here at c.loop-class.invariant.told files e in
    rw (p.1, p.2, left) (templates_stop files c.loop-class.templates (class_view c.class-item.result) (seen_classes (drop (c.loop-class.class-index + 1) items)) c.in_err-tree.field-0.0 h)

pub returns-in_err-tree-clause-named : goal.returns-in_err-tree-clause-named
returns-in_err-tree-clause-named g c = λ files e.
    let items = c.as_slice-class-items.result.now in
    let here = ap seen_classes (drop_item items c.loop-class.class-index c.class-item.result c.loop-class-test.true c.class-item.is) in
    let p = err_from_is_err_and c.from_residual.result c.from_residual.ensures.1 in
    let among = rw here at c.loop-class.invariant.among files e in
    let named = rw c.as_str.ensures.value at c.in_err-tree.ensures.named in
    rw (p.1, p.2) (among_more _ _ _ _ (λ n h. among n (fetched_here files (class_view c.class-item.result) (seen_classes (drop (c.loop-class.class-index + 1) items)) n h)) named)

pub loop-class-preserved : goal.loop-class-preserved
loop-class-preserved g c =
    let items = c.as_slice-class-items.result.now in
    let rest = seen_classes (drop (c.loop-class.class-index + 1) items) in
    let class = class_view c.class-item.result in
    let tree = tree_of c.in_ok-tree.tree in
    let here = ap seen_classes (drop_item items c.loop-class.class-index c.class-item.result c.loop-class-test.true c.class-item.is) in
    let pushed : c.push.new.self ≡ c.loop-class.templates ++ tree_of c.in_ok-tree.tree ∷ [] = search rules in
    record {
      keeps = c.in_ok-tree.ensures.keeps ∙ c.loop-class.invariant.keeps;
      told = λ files e.
          let is = rw c.as_str.ensures.value at (c.in_ok-tree.ensures.told files (c.loop-class.invariant.keeps ∙ e)) in
          rw pushed ((rw here at c.loop-class.invariant.told files e) ∙ templates_step files c.loop-class.templates class rest tree is);
      among = λ files e n h.
          let is = rw c.as_str.ensures.value at (c.in_ok-tree.ensures.told files (c.loop-class.invariant.keeps ∙ e)) in
          (rw here at c.loop-class.invariant.among files e) n (fetched_step files class rest tree n is h);
      many = omega (arith, rw here at c.loop-class.invariant.many, ap length pushed, length-append c.loop-class.templates (tree ∷ []));
      misses_stay = omega (arith, c.loop-class.invariant.misses_stay, c.in_ok-tree.ensures.misses_stay);
      faults_stay = omega (arith, c.loop-class.invariant.faults_stay, c.in_ok-tree.ensures.faults_stay);
    }

pub returns-clause-told : goal.returns-clause-told
returns-clause-told g c = λ files e.
    let past = ap seen_classes (drop_all c.loop-class.class-index c.as_slice-class-items.result.now c.loop-class-test.false) in
    (rw past at c.loop-class.invariant.told files e) ∙ templates_end files c.loop-class.templates

pub returns-clause-many : goal.returns-clause-many
returns-clause-many g c =
    let past = ap seen_classes (drop_all c.loop-class.class-index c.as_slice-class-items.result.now c.loop-class-test.false) in
    omega (arith, rw past at c.loop-class.invariant.many)
