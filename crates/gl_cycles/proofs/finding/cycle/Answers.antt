use Rattle.std.proofs.Common.{◌≡◌, ◌+◌, subst, List, drop, Option, Some, None}
use Rattle.std.proofs.lemmas.List.{drop_all}
use Rattle.gl_base.specs.Texts.{Text}
use Rattle.gl_base.proofs.Lists.{drop_item}
use Rattle.gl_ast.specs.Template.{Body}
use Rattle.gl_meaning.specs.App as a
use Rattle.gl_meaning.specs.Manifest.{ClassEntry}
use Rattle.gl_meaning.specs.ManifestRules.{Each, ClassKeeps}
use Rattle.gl_meaning.specs.View.{class_view, seen_classes}
use Rattle.gl_cycles.specs.Cycles.{IsFirstIn}
use Rattle.gl_cycles.proofs.Firsts.{IsLeft, passed, found}
use Rattle.gl_cycles.proofs.finding.cycle.Goals as goal

-- the answer for these classes, whatever their templates are
abbrev Answer : Option (Text × Text) → List ClassEntry → Type 0
Answer o cs = (bs : List Body) → IsLeft cs bs o

pub returns-in-Some : goal.returns-in-Some
returns-in-Some c =
    let items = c.as_slice-class-items.result.now in
    let i = c.loop-class.class-index in
    let k = c.class-item.result in
    let n = c.in-Some.getter.now in
    let here = drop_item items i k c.loop-class-test.true c.class-item.is in
    let first : (d : a.Class) → d.getters ≡ k.getters → IsFirstIn d (Some n) = rw c.in-Some.is at c.first_in.ensures in
    let at : Answer (Some (k.name, n)) (seen_classes (drop i items)) = rw here (found (class_view k) (seen_classes (drop (i + 1) items)) n first) in
    subst (Answer (Some (k.name, n))) c.as_slice-class-items.ensures (c.loop-class.invariant.decides (Some (k.name, n)) at)

pub loop-class-preserved : goal.loop-class-preserved
loop-class-preserved c =
    let items = c.as_slice-class-items.result.now in
    let i = c.loop-class.class-index in
    let k = c.class-item.result in
    let here = drop_item items i k c.loop-class-test.true c.class-item.is in
    let keep : Each ClassKeeps (seen_classes (drop i items)) = c.loop-class.invariant.keep in
    let none : (d : a.Class) → d.getters ≡ k.getters → IsFirstIn d None = rw c.in_default.is at c.first_in.ensures in
    record {
      keep = (rw here at keep).1;
      decides = λ o rest. c.loop-class.invariant.decides o (rw here (passed (class_view k) (seen_classes (drop (i + 1) items)) o none rest));
    }

pub returns : goal.returns
returns c =
    let items = c.as_slice-class-items.result.now in
    let past = drop_all c.loop-class.class-index items c.loop-class-test.false in
    let at : Answer None (seen_classes (drop c.loop-class.class-index items)) = rw past (λ bs d among. absurd among) in
    subst (Answer None) c.as_slice-class-items.ensures (c.loop-class.invariant.decides None at)
