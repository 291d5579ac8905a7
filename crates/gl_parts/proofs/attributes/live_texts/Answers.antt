use Rattle.std.proofs.Common.{◌+◌, List, ◌++◌, map, drop, sym, ◌∙◌, ap, append-nil}
use Rattle.std.proofs.lemmas.List.{drop_all}
use Rattle.std.specs.List.{cons_option}
use Rattle.gl_arena.specs.Id.{Id}
use Rattle.gl_base.specs.Texts.{Text}
use Rattle.gl_plain.specs.State.{pair_of}
use Rattle.gl_vm.specs.View.{stamps, state_of}
use Rattle.gl_parts.specs.Parts.{texts_given}
use Rattle.gl_code.proofs.ListLaws.{item_next}
use Rattle.gl_parts.proofs.attributes.live_texts.Goals as goal

pub loop-id-preserved : goal.loop-id-preserved
loop-id-preserved c n u =
    let k = c.loop-id.id-index in
    let at = item_next c.args.ids.now c.loop-id.id-index c.id-item.result c.loop-id-test.true c.id-item.is in
    let texts : List Id → List Text = λ is. texts_given (map (pair_of (state_of n c.args.vm.now u).look) (stamps is)) in
    let more = texts (drop (k + 1) c.args.ids.now) in
    c.in_ok-add_text.ensures more
    ∙ (ap (λ o. c.loop-id.texts ++ cons_option o more) (c.in_ok-text.ensures n u)
    ∙ (ap (λ is. c.loop-id.texts ++ texts is) (sym at) ∙ c.loop-id.invariant n u))

pub returns : goal.returns
returns c n u =
    let texts : List Id → List Text = λ is. texts_given (map (pair_of (state_of n c.args.vm.now u).look) (stamps is)) in
    sym (append-nil c.loop-id.texts) ∙ (ap (λ is. c.loop-id.texts ++ texts is) (sym (drop_all c.loop-id.id-index c.args.ids.now c.loop-id-test.false)) ∙ c.loop-id.invariant n u)
