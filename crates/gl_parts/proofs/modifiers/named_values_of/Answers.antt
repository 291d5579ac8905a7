use Rattle.std.proofs.Common.{◌+◌, List, ◌∷◌, ◌++◌, map, drop, ◌∙◌, ap, sym, append-nil}
use Rattle.std.proofs.lemmas.List.{drop_all}
use Rattle.gl_arena.specs.Id.{Id}
use Rattle.gl_base.specs.Texts.{Text}
use Rattle.gl_value.specs.View.{view}
use Rattle.gl_meaning.specs.Path.{V}
use Rattle.gl_plain.specs.State.{pair_of}
use Rattle.gl_vm.specs.Labels.{labelled, names_labelled}
use Rattle.gl_vm.specs.View.{name_stamps, state_of}
use Rattle.gl_code.proofs.ListLaws.{item_next, listed_on}
use Rattle.gl_parts.proofs.modifiers.named_values_of.Goals as goal

pub loop-entry-preserved : goal.loop-entry-preserved
loop-entry-preserved c n u =
    let values : List (Text × Id) → List (Text × V) = λ is. map (λ y. (y.0, (pair_of (state_of n c.args.vm.now u).look y.1).value)) (name_stamps is) in
    let more = values (drop (c.loop-entry.entry-index + 1) c.args.named.now) in
    let at = item_next c.args.named.now c.loop-entry.entry-index c.entry-item.result c.loop-entry-test.true c.entry-item.is in
    listed_on (λ y. (y.0, labelled y.1)) c.loop-entry.values c.push.new.self (c.in_ok-copy.field-0, view c.in_ok-value_of.field-0) more c.in_ok-push.ensures.ok
    ∙ (ap (λ t. names_labelled c.loop-entry.values ++ (t, labelled (view c.in_ok-value_of.field-0)) ∷ more) c.in_ok-copy.ensures
    ∙ (ap (λ v. names_labelled c.loop-entry.values ++ (c.entry-item.result.0, v) ∷ more) (sym (c.in_ok-value_of.ensures n u))
    ∙ (ap (λ is. names_labelled c.loop-entry.values ++ values is) (sym at) ∙ c.loop-entry.invariant n u)))

pub returns : goal.returns
returns c n u =
    let values : List (Text × Id) → List (Text × V) = λ is. map (λ y. (y.0, (pair_of (state_of n c.args.vm.now u).look y.1).value)) (name_stamps is) in
    sym (append-nil (names_labelled c.loop-entry.values)) ∙ (ap (λ is. names_labelled c.loop-entry.values ++ values is) (sym (drop_all c.loop-entry.entry-index c.args.named.now c.loop-entry-test.false)) ∙ c.loop-entry.invariant n u)
