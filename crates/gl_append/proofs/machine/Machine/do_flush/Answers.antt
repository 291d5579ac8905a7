use Rattle.std.proofs.Common.{map}
use Rattle.std.proofs.lemmas.Result.{on_ok_weaker}
use Rattle.gl_code.specs.CodeView.{seen_attr_spot}
use Rattle.gl_append.proofs.ElementSteps.{flushed}
use Rattle.gl_append.proofs.machine.Machine.do_flush.Goals as goal

pub returns-clause-step : goal.returns-clause-step
returns-clause-step c =
    on_ok_weaker c.begin_element.result
    (flushed c.as_slice.result.now c.in_ok-given.given.attrs.items (map seen_attr_spot c.in_ok-given.given.spots.items) c.args.vm.now c.flush.new.vm c.begin_element.new.vm c.args.self.now c.begin_element.new.self c.as_slice.ensures.value c.in_ok-given.ensures.step)
    c.begin_element.ensures.step
