use Rattle.std.proofs.lemmas.Result.{on_ok_weaker}
use Rattle.gl_append.proofs.BlockEnds.{component_ended}
use Rattle.gl_append.proofs.machine.Machine.end_component.Goals as goal

pub returns-in_ok-self-in-Component : goal.returns-in_ok-self-in-Component
returns-in_ok-self-in-Component c =
    on_ok_weaker c.return_with.result
    (component_ended c.args.self.now c.end-body.new.self c.return_with.new.self c.args.frame c.in-Component.back c.in-Component.owner c.in-Component.block c.in-Component.made c.in-Component.args c.in_ok-self-in-Component.field-0
    c.end-body.result c.component-code.result c.in-Component.is (c.is_calling.ensures c.if-is_calling.false) c.in_ok-self-in-Component.ensures c.component-code.ensures c.end-body.ensures) c.return_with.ensures
