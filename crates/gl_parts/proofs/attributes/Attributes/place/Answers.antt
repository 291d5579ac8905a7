use Rattle.std.proofs.Common.{map, ◌∙◌, ap}
use Rattle.std.proofs.lemmas.Result.{on_ok_weaker}
use Rattle.gl_meaning.specs.Parts.{joined_texts}
use Rattle.gl_plain.specs.State.{State, pair_of}
use Rattle.gl_vm.specs.View.{stamps, state_of}
use Rattle.gl_code.specs.CodeView.{seen_attr_spot}
use Rattle.gl_parts.specs.Parts.{seen_attributes, texts_given}
use Rattle.gl_parts.proofs.AttrLaws.{spot_placed}
use Rattle.gl_code.proofs.Preparing.{prepared_does, prepared_numbers}
use Rattle.gl_parts.proofs.Leading.{placed_in}
use Rattle.gl_parts.proofs.attributes.Attributes.place.Goals as goal

pub returns-clause-step : goal.returns-clause-step
returns-clause-step c =
    let kept = c.in_ok-prepare.ensures.step in
    on_ok_weaker c.push_live.result
    (spot_placed c.args.name.now c.in_ok-value.value (seen_attributes c.args.taken.now) c.in_ok-ids.field-0.ids c.in_ok-ids.field-0.made c.in_ok-id.id c.in_ok-texts.texts
    c.args.self.now.attrs.items c.push_live.new.self.attrs.items (map seen_attr_spot c.args.self.now.spots.items) (map seen_attr_spot c.push_live.new.self.spots.items)
    c.args.vm.now c.references.new.vm c.position.new.vm c.in_ok-ids.ensures.step
    (λ n u. c.in_ok-texts.ensures n u ∙ (ap (λ is. texts_given (map (pair_of (state_of n c.prepare.new.vm u).look) (stamps is))) c.as_slice-2.ensures ∙ ap (λ (st : State). texts_given (map (pair_of st.look) (stamps c.in_ok-ids.field-0.ids))) (kept.same n u)))
    (c.in_ok-value.ensures ∙ ap joined_texts c.as_slice-3.ensures) (prepared_does (λ n. placed_in (stamps c.in_ok-ids.field-0.ids)) c.references.new.vm c.prepare.new.vm c.position.new.vm kept c.in_ok-id.ensures.step)
    (prepared_numbers c.references.new.vm c.prepare.new.vm c.position.new.vm c.in_ok-id.id kept c.in_ok-id.ensures.id)) c.push_live.ensures
