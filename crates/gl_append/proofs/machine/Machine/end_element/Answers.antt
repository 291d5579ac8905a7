use Rattle.std.proofs.Common.{map}
use Rattle.std.proofs.lemmas.Result.{on_ok_weaker}
use Rattle.gl_code.specs.CodeView.{seen_mod_spot}
use Rattle.gl_append.proofs.ElementSteps.{element_ended}
use Rattle.gl_append.proofs.machine.Machine.end_element.Goals as goal

pub returns-in_ok-mods-in-Element-clause-step : goal.returns-in_ok-mods-in-Element-clause-step
returns-in_ok-mods-in-Element-clause-step c =
    on_ok_weaker c.show.result
    (element_ended c.args.vm.now c.install_all.new.vm c.args.self.now c.end-body.new.self c.show.new.self c.args.frame c.in-Element.node c.in-Element.made c.in-Element.attrs c.in-Element.parts c.as_slice.result.now
    (map seen_mod_spot c.in_ok-mods-in-Element.mods.items) c.end-body.result c.element-code.result (c.is_calling.ensures c.if-is_calling.false) c.in-Element.is c.as_slice.ensures.value c.in_ok-mods-in-Element.ensures.step c.element-code.ensures c.end-body.ensures)
    c.show.ensures
