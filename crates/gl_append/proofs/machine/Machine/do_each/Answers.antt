use Rattle.std.proofs.Common.{ℕ, suc, ◌∙◌, sym, ap, ap₂, subst, [], ◌∷◌, ◌++◌}
use Rattle.std.proofs.lemmas.Result.{on_ok_weaker}
use Rattle.gl_base.specs.Texts.{Text}
use Rattle.gl_machine.specs.Code as k
use Rattle.gl_machine.specs.Sight.{Sight}
use Rattle.gl_vm.specs.View.{stamps}
use Rattle.gl_vm.specs.Steps.{Does}
use Rattle.gl_code.specs.View.{seen_sight}
use Rattle.gl_parts.proofs.Leading.{placed_in}
use Rattle.gl_code.proofs.Preparing.{prepared_does, prepared_numbers, prepared_value, still_there}
use Rattle.gl_refs.specs.Refs.{forms_of}
use Rattle.gl_append.proofs.ListEnds.{list_begun}
use Rattle.gl_append.proofs.machine.Machine.do_each.Goals as goal

pub returns-clause-step : goal.returns-clause-step
returns-clause-step c =
    let z : Text → ℕ → Sight → k.Listing = λ t b w. record { key = t; value = c.args.operands.0; index = c.args.operands.1; body = b; other = c.args.other; sight = w } in
    let kept = c.in_ok-prepare.ensures.step in
    on_ok_weaker c.enter_list.result
    (list_begun c.args.key.now c.args.other c.args.operands c.args.vm.now c.position.new.vm c.args.self.now c.enter_list.new.self c.args.top c.in_ok-value.value c.in_ok-id.id
    (record { key = c.in_ok-key.key; value = c.args.operands.0; index = c.args.operands.1; body = c.in_ok-body.body; other = c.args.other; sight = c.in_ok-sight.sight }) c.in_ok-start.start c.in_ok-left.left.items
    (prepared_does (λ n. placed_in (c.args.top.id.1 ∷ [])) c.args.vm.now c.prepare.new.self c.position.new.vm kept (subst (λ rs. Does (λ n. placed_in (stamps rs)) c.prepare.new.self c.position.new.vm) (c.in_ok-push.ensures.ok ∙ ap (λ x. x ++ c.args.top.id ∷ []) c.in_ok-ids.ensures) c.in_ok-id.ensures.step))
    (prepared_numbers c.args.vm.now c.prepare.new.self c.position.new.vm c.in_ok-id.id kept c.in_ok-id.ensures.id) (λ n t. prepared_value c.args.vm.now c.prepare.new.self c.args.top.id.1 kept n t ∙ c.in_ok-value.ensures n t)
    (λ n. ap₂ (λ t b. z t b (seen_sight n c.in_ok-sight.sight.value)) c.in_ok-key.ensures (c.in_ok-body.ensures ∙ ap suc c.in_ok-start.ensures) ∙ ap (λ w. z c.args.key.now (suc (suc c.args.self.now.pc)) w) (c.in_ok-sight.ensures n)) c.in_ok-start.ensures
    c.in_ok-left.ensures) c.enter_list.ensures

pub value-requires : goal.value-requires
value-requires c = still_there (forms_of c.args.vm.now.refs) (forms_of c.prepare.new.self.refs) c.args.top.id c.in_ok-prepare.ensures.forms (sym c.readable.ensures ∙ c.if-not-readable.false)
