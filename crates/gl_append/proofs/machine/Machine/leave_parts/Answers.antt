use Rattle.std.proofs.Common.{Some, refl, ◌∙◌, ap, subst}
use Rattle.gl_append.specs.Steps.{PopsCall}
use Rattle.gl_append.proofs.PartsEnd.{parts_left}
use Rattle.gl_append.proofs.machine.Machine.leave_parts.Goals as goal

pub returns-in-Some-Parts : goal.returns-in-Some-Parts
returns-in-Some-Parts c =
    (refl, parts_left c.args.self.now c.pop_call.new.self c.go_back.new.self c.in-Some-Parts.back (subst (λ o. PopsCall c.args.self.now c.pop_call.new.self o) (c.in-Some-Parts.is ∙ ap Some c.in-Some-Parts.field-0-is) c.pop_call.ensures) c.go_back.ensures)
