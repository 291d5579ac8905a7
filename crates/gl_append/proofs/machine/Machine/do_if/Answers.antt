use Rattle.std.proofs.Common.{ℕ, not, ◌∙◌, ap, ap₂, sym, subst, [], ◌∷◌, ◌++◌}
use Rattle.std.specs.Prelude.{if◌then◌else◌}
use Rattle.std.proofs.lemmas.Result.{on_ok_weaker}
use Rattle.gl_value.specs.View.{view}
use Rattle.gl_value.proofs.Owners.{rules_leave_owners}
use Rattle.gl_meaning.specs.Eval.{takes_first}
use Rattle.gl_machine.specs.Code as k
use Rattle.gl_machine.specs.Sight.{Sight}
use Rattle.gl_vm.specs.Labels.{owner_path}
use Rattle.gl_vm.specs.View.{stamps}
use Rattle.gl_vm.specs.Steps.{Does}
use Rattle.gl_parts.proofs.Leading.{placed_in}
use Rattle.gl_code.proofs.Preparing.{prepared_does, prepared_numbers, prepared_value, still_there}
use Rattle.gl_refs.specs.Refs.{forms_of}
use Rattle.gl_append.proofs.BranchBegins.{if_begun}
use Rattle.gl_append.proofs.machine.Machine.do_if.Goals as goal

pub returns-clause-step : goal.returns-clause-step
returns-clause-step c =
    let z : ℕ → Sight → k.Choice = λ first w. record { unless = c.args.unless; first = first; second = c.args.other; sight = w } in
    let kept = c.in_ok-prepare.ensures.step in
    on_ok_weaker c.enter_branch.result
    (if_begun c.args.unless c.takes-main.result c.args.other c.args.vm.now c.position.new.vm c.args.self.now c.enter_branch.new.self c.args.top c.in_ok-id.id
    (record { unless = c.args.unless; first = c.in_ok-first.first; second = c.args.other; sight = c.in_ok-sight.sight }) c.in_ok-path-2.path
    (prepared_does (λ n. placed_in (c.args.top.id.1 ∷ [])) c.args.vm.now c.prepare.new.self c.position.new.vm kept (subst (λ rs. Does (λ n. placed_in (stamps rs)) c.prepare.new.self c.position.new.vm) (c.in_ok-push.ensures.ok ∙ ap (λ x. x ++ c.args.top.id ∷ []) c.in_ok-ids.ensures) c.in_ok-id.ensures.step))
    (prepared_numbers c.args.vm.now c.prepare.new.self c.position.new.vm c.in_ok-id.id kept c.in_ok-id.ensures.id)
    (λ n t. ap (λ v. takes_first c.args.unless v) (prepared_value c.args.vm.now c.prepare.new.self c.args.top.id.1 kept n t ∙ c.in_ok-value.ensures n t) ∙ (ap (λ b. if c.args.unless then not b else b) (rules_leave_owners owner_path (view c.in_ok-value.value)).0 ∙ sym c.takes-main.ensures))
    (λ n. ap₂ z c.in_ok-first.ensures (c.in_ok-sight.ensures n)) (λ n. c.in_ok-path-2.ensures ∙ ap₂ (λ x y. x ∷ y) c.side.ensures (c.in_ok-path.ensures n))) c.enter_branch.ensures

pub value-requires : goal.value-requires
value-requires c = still_there (forms_of c.args.vm.now.refs) (forms_of c.prepare.new.self.refs) c.args.top.id c.in_ok-prepare.ensures.forms (sym c.readable.ensures ∙ c.if-not-readable.false)
