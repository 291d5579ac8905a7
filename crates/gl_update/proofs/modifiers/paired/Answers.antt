use Rattle.std.proofs.Common.{◌∷◌, ◌++◌, ◌+◌, ◌<◌, ◌≤◌, length, arith, drop, ◌∙◌, ap, sym, append-nil}
use Rattle.gl_value.specs.View.{view}
use Rattle.gl_plain.specs.State.{pair_of}
use Rattle.gl_plain.specs.Tags.{named_with}
use Rattle.gl_vm.specs.Labels.{labelled, names_labelled}
use Rattle.gl_vm.specs.View.{state_of}
use Rattle.gl_code.proofs.ListLaws.{listed_on}
use Rattle.gl_update.proofs.Arguments.{given, pair_next, names_end, ids_end}
use Rattle.gl_update.proofs.modifiers.paired.Goals as goal

pub loop-place-preserved : goal.loop-place-preserved
loop-place-preserved c n u =
    let look = pair_of (state_of n c.args.vm.now u).look in
    let k = c.loop-place.place in
    let names = c.args.names.now in
    let ids = c.args.ids.now in
    let before = names_labelled c.loop-place.values in
    let more = named_with (drop (k + 1) names) (given look (drop (k + 1) ids)) in
    let lt : k < length ids = omega arith in
    listed_on (λ y. (y.0, labelled y.1)) c.loop-place.values c.push.new.self (c.in_ok-copy.field-0, view c.in_ok-value_of.field-0) more c.in_ok-push.ensures.ok
    ∙ (ap (λ t. before ++ (t, labelled (view c.in_ok-value_of.field-0)) ∷ more) c.in_ok-copy.ensures
    ∙ (ap (λ w. before ++ (c.index-names-place.result, w) ∷ more) (sym (c.in_ok-value_of.ensures n u))
    ∙ (ap (λ zs. before ++ zs) (sym (pair_next look names ids k c.index-names-place.result c.index-ids-place.result c.loop-place-test.true c.index-names-place.is lt c.index-ids-place.is)) ∙ c.loop-place.invariant n u)))

pub returns-then-place-count : goal.returns-then-place-count
returns-then-place-count c n u =
    let look = pair_of (state_of n c.args.vm.now u).look in
    let le : length c.args.ids.now ≤ c.loop-place.place = omega arith in
    sym (c.loop-place.invariant n u) ∙ (ap (λ zs. names_labelled c.loop-place.values ++ zs) (ids_end look c.args.names.now c.args.ids.now c.loop-place.place le) ∙ append-nil (names_labelled c.loop-place.values))

pub returns : goal.returns
returns c n u =
    let look = pair_of (state_of n c.args.vm.now u).look in
    sym (c.loop-place.invariant n u) ∙ (ap (λ zs. names_labelled c.loop-place.values ++ zs) (names_end look c.args.names.now c.args.ids.now c.loop-place.place c.loop-place-test.false) ∙ append-nil (names_labelled c.loop-place.values))
