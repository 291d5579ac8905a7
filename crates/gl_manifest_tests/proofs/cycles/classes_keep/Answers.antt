use Rattle.std.proofs.Common.{◌≡◌, ◌≤◌, ℕ, List, [], arith, length, sym, subst}
use Rattle.std.proofs.lemmas.List.{length-map}
use Rattle.gl_base.specs.Texts.{Text}
use Rattle.gl_base.proofs.Lists.{drop_item}
use Rattle.gl_value.specs.Plain.{plain_pair}
use Rattle.gl_value.specs.Value.{Value}
use Rattle.gl_meaning.specs.App as a
use Rattle.gl_meaning.specs.ManifestLimits as most
use Rattle.gl_meaning.specs.ManifestRules.{Each, ClassKeeps, ActionKeeps}
use Rattle.gl_meaning.specs.View.{class_view}
use Rattle.gl_manifest_tests.proofs.cycles.classes_keep.Goals as goal

-- no actions keep the limits
abbrev ActionsKeep : List (Text × a.Action) → Type 0
ActionsKeep xs = (length xs ≤ most.actions) × Each ActionKeeps xs

pub loop-class-preserved : goal.loop-class-preserved
loop-class-preserved c = λ rest.
    let k = c.class-item.result in
    let here = drop_item c.args.classes.now c.loop-class.class-index k c.loop-class-test.true c.class-item.is in
    let none : k.actions ≡ [] = c.is_empty.ensures.0 c.if-not-is_empty.false in
    let actions = subst ActionsKeep (sym none) (omega arith, tt) in
    let long = length-map k.fields (λ (f : Text × Value ℕ). plain_pair {P = ⊥} f) in
    let keeps : ClassKeeps (class_view k) = record {
      fields = omega (arith, long, c.len.ensures, c.if-len-gt256.false);
      getters = omega (arith, c.len-else-len-gt256.ensures, c.if-len-gt32.false);
      actions = actions.0;
      each = actions.1;
    } in
    c.loop-class.invariant (rw here (keeps, rest))
