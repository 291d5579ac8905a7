use Rattle.std.proofs.Common.{subst}
use Rattle.std.proofs.lemmas.Result.{on_ok_weaker}
use Rattle.gl_machine.specs.Step as s
use Rattle.gl_append.specs.Steps.{Moves}
use Rattle.gl_append.proofs.machine.Machine.do_attr.Goals as goal

pub returns : goal.returns
returns c =
    let f : Moves (λ n. s.do_attr c.in_ok-name.name c.in_ok-text.text) c.args.self.now c.add_part.new.self → Moves (λ n. s.do_attr c.args.name.now c.args.text.now) c.args.self.now c.add_part.new.self
    = λ m. subst (λ x. Moves (λ n. s.do_attr x c.args.text.now) c.args.self.now c.add_part.new.self) c.in_ok-name.ensures
    (subst (λ x. Moves (λ n. s.do_attr c.in_ok-name.name x) c.args.self.now c.add_part.new.self) c.in_ok-text.ensures m) in
    on_ok_weaker c.add_part.result f c.add_part.ensures
