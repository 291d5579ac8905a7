use Rattle.std.proofs.Common.{◌∙◌, subst}
use Rattle.std.proofs.lemmas.Result.{on_ok_weaker}
use Rattle.gl_meaning.specs.View.{path_view}
use Rattle.gl_vm.specs.View.{stamps}
use Rattle.gl_code.specs.View.{seen_sight}
use Rattle.gl_append.specs.Steps.{Changes, let_entered}
use Rattle.gl_append.proofs.LetBegins.{entered_after}
use Rattle.gl_append.proofs.machine.Machine.begin_let.Goals as goal

pub returns : goal.returns
returns c =
    on_ok_weaker c.begin.result
    (λ b. subst (λ ps. Changes (λ n. let_entered (stamps ps) (seen_sight n c.args.sight) (path_view c.args.path)) c.args.self.now c.begin.new.self) c.replace-pending.ensures.after
    (entered_after c.args.self.now c.advance.new.self c.begin.new.self c.replace-pending.new.dest c.replace-made.new.dest c.replace-pending.result c.replace-made.result c.args.sight c.args.path
    c.in_ok-advance.ensures (c.replace-made.ensures.after ∙ c.new.ensures) c.replace-pending.ensures.value c.replace-made.ensures.value b)) c.begin.ensures
