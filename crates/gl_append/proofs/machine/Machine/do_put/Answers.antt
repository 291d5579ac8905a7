use Rattle.std.proofs.Common.{◌∙◌, ap, sym, subst, [], ◌∷◌, ◌++◌}
use Rattle.std.proofs.lemmas.Result.{on_ok_weaker}
use Rattle.gl_value.specs.Value.{text_of}
use Rattle.gl_value.specs.View.{view}
use Rattle.gl_value.proofs.Owners.{rules_leave_owners}
use Rattle.gl_plain.specs.State.{text_content}
use Rattle.gl_plain.specs.Grow.{made_node}
use Rattle.gl_plain.specs.Ids.{ref}
use Rattle.gl_machine.specs.Code.{put_code}
use Rattle.gl_code.specs.View.{refs_made}
use Rattle.gl_vm.specs.Labels.{owner_path}
use Rattle.gl_vm.specs.View.{Calm, stamps}
use Rattle.gl_vm.specs.Steps.{Does}
use Rattle.gl_append.proofs.Taking.{put_shown}
use Rattle.gl_parts.proofs.Leading.{placed_in}
use Rattle.gl_code.proofs.Preparing.{prepared_does, prepared_numbers, prepared_value, still_there}
use Rattle.gl_refs.specs.Refs.{forms_of}
use Rattle.gl_append.proofs.machine.Machine.do_put.Goals as goal

pub returns-clause-step : goal.returns-clause-step
returns-clause-step c =
    let kept = c.in_ok-prepare.ensures.step in
    on_ok_weaker c.show.result
    (put_shown c.args.vm.now c.position.new.vm c.text-2.new.self c.args.self.now c.show.new.self c.args.top c.in_ok-id.id c.in_ok-node.node c.in_ok-text.text c.put-code.result
    (λ n. c.put-code.ensures n ∙ ap (λ x. put_code c.in_ok-node.node.1 (record { ref = c.in_ok-id.id.1; made = refs_made x ++ ref c.in_ok-id.id.1 ∷ [] })) c.replace-made.ensures.value)
    (prepared_does (λ n. placed_in (c.args.top.id.1 ∷ [])) c.args.vm.now c.prepare.new.self c.position.new.vm kept (subst (λ rs. Does (λ n. placed_in (stamps rs)) c.prepare.new.self c.position.new.vm) (c.in_ok-push.ensures.ok ∙ ap (λ x. x ++ c.args.top.id ∷ []) c.in_ok-ids.ensures) c.in_ok-id.ensures.step))
    (prepared_numbers c.args.vm.now c.prepare.new.self c.position.new.vm c.in_ok-id.id kept c.in_ok-id.ensures.id)
    (subst (λ x. Does (λ n. made_node (text_content x)) c.position.new.vm c.text-2.new.self) c.as_str.ensures.value c.in_ok-node.ensures.step) c.in_ok-node.ensures.id
    (λ n u. ap text_of (prepared_value c.args.vm.now c.prepare.new.self c.args.top.id.1 kept n u ∙ c.in_ok-value.ensures n u) ∙ ((rules_leave_owners owner_path (view c.in_ok-value.value)).1 ∙ sym c.in_ok-text.ensures))) c.show.ensures

pub returns-clause-calm : goal.returns-clause-calm
returns-clause-calm c = subst Calm (sym c.in_ok-node.ensures.rest) (record { unread = c.in_ok-id.ensures.calm.unread; led = c.in_ok-id.ensures.calm.led })

pub value-requires : goal.value-requires
value-requires c = still_there (forms_of c.args.vm.now.refs) (forms_of c.prepare.new.self.refs) c.args.top.id c.in_ok-prepare.ensures.forms (sym c.readable.ensures ∙ c.if-not-readable.false)
