use Rattle.std.proofs.Common.{◌+◌, List, ◌∷◌, ◌++◌, map, drop, ◌∙◌, ap, sym, append-nil}
use Rattle.std.proofs.lemmas.List.{drop_all}
use Rattle.gl_arena.specs.Id.{Id}
use Rattle.gl_value.specs.View.{view}
use Rattle.gl_meaning.specs.Path.{V}
use Rattle.gl_plain.specs.State.{pair_of}
use Rattle.gl_vm.specs.Labels.{labelled, all_labelled}
use Rattle.gl_vm.specs.View.{stamps, state_of}
use Rattle.gl_code.proofs.ListLaws.{item_next, listed_on}
use Rattle.gl_parts.proofs.modifiers.values_got.Goals as goal

pub loop-id-preserved : goal.loop-id-preserved
loop-id-preserved c n u =
    let values : List Id → List V = λ is. map (λ r. (pair_of (state_of n c.args.vm.now u).look r).value) (stamps is) in
    let more = values (drop (c.loop-id.id-index + 1) c.args.ids.now) in
    let at = item_next c.args.ids.now c.loop-id.id-index c.id-item.result c.loop-id-test.true c.id-item.is in
    listed_on labelled c.loop-id.values c.push.new.self (view c.in_ok-value_of.field-0) more c.in_ok-push.ensures.ok
    ∙ (ap (λ v. all_labelled c.loop-id.values ++ v ∷ more) (sym (c.in_ok-value_of.ensures n u))
    ∙ (ap (λ is. all_labelled c.loop-id.values ++ values is) (sym at) ∙ c.loop-id.invariant n u))

pub returns : goal.returns
returns c n u =
    let values : List Id → List V = λ is. map (λ r. (pair_of (state_of n c.args.vm.now u).look r).value) (stamps is) in
    sym (append-nil (all_labelled c.loop-id.values)) ∙ (ap (λ is. all_labelled c.loop-id.values ++ values is) (sym (drop_all c.loop-id.id-index c.args.ids.now c.loop-id-test.false)) ∙ c.loop-id.invariant n u)
