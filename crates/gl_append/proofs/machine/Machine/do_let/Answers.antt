use Rattle.std.proofs.Common.{◌∷◌, ◌∙◌, ap}
use Rattle.std.proofs.lemmas.Result.{on_ok_weaker}
use Rattle.gl_meaning.specs.Path.{main}
use Rattle.gl_meaning.specs.View.{path_view}
use Rattle.gl_machine.specs.Step as s
use Rattle.gl_vm.specs.View.{stamps}
use Rattle.gl_code.specs.View.{seen_sight}
use Rattle.gl_append.specs.MachineView.{seen_stack}
use Rattle.gl_append.proofs.LetBegins.{let_begun}
use Rattle.gl_append.proofs.machine.Machine.do_let.Goals as goal

pub returns : goal.returns
returns c =
    on_ok_weaker c.begin_let.result
    (let_begun c.args.count c.args.self.now c.begin_let.new.self c.take_last.new.stack (stamps c.in_ok-pending.pending) (λ n. seen_sight n c.in_ok-sight.sight) (λ n. path_view c.in_ok-path-2.path)
    c.in_ok-taken.ensures.rest (c.in_ok-pending.ensures ∙ ap s.positional (ap seen_stack c.as_slice.ensures.value ∙ c.in_ok-taken.ensures.taken)) c.in_ok-sight.ensures
    (λ n. c.in_ok-path-2.ensures ∙ ap (λ p. main ∷ p) (c.in_ok-path.ensures n))) c.begin_let.ensures
