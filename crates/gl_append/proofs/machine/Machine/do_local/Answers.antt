use Rattle.std.proofs.Common.{option_map, ◌∙◌, ap, sym}
use Rattle.std.proofs.lemmas.Result.{on_ok_weaker}
use Rattle.gl_machine.specs.Sight.{locals_in}
use Rattle.gl_machine.specs.Step as s
use Rattle.gl_append.specs.MachineView.{mach_by}
use Rattle.gl_append.specs.Steps.{Moves}
use Rattle.gl_append.proofs.Scopes.{symbol_of}
use Rattle.gl_append.proofs.machine.Machine.do_local.Goals as goal

pub returns-in-Some : goal.returns-in-Some
returns-in-Some c =
    let f : Moves (λ n. s.push_old c.in-Some.id.1) c.args.self.now c.push_old.new.self
    → Moves (λ n m. s.given (s.last_symbol c.args.symbol (locals_in m.rest.sight)) (λ r. s.push_old r m)) c.args.self.now c.push_old.new.self
    = λ m n st. ap (λ o. s.given o (λ r. s.push_old r (mach_by n st c.args.self.now))) (symbol_of c.args.symbol c.args.self.now.sight.level.locals ∙ ap (option_map (λ i. i.1)) (sym c.get.ensures ∙ c.in-Some.is)) ∙ m n st in
    on_ok_weaker c.push_old.result f c.push_old.ensures
