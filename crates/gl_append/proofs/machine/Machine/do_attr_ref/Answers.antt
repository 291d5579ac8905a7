use Rattle.std.proofs.Common.{subst}
use Rattle.std.proofs.lemmas.Result.{on_ok_weaker}
use Rattle.gl_machine.specs.Step as s
use Rattle.gl_append.specs.MachineView.{seen_pushed}
use Rattle.gl_append.specs.Steps.{Moves}
use Rattle.gl_append.proofs.machine.Machine.do_attr_ref.Goals as goal

pub returns : goal.returns
returns c =
    let f : Moves (λ n m. s.do_attr_ref c.in_ok-name.name m (m.stack, seen_pushed c.args.top)) c.args.self.now c.add_part.new.self → Moves (λ n m. s.do_attr_ref c.args.name.now m (m.stack, seen_pushed c.args.top)) c.args.self.now c.add_part.new.self
    = subst (λ x. Moves (λ n m. s.do_attr_ref x m (m.stack, seen_pushed c.args.top)) c.args.self.now c.add_part.new.self) c.in_ok-name.ensures in
    on_ok_weaker c.add_part.result f c.add_part.ensures
