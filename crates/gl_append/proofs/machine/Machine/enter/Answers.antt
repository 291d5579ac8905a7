use Rattle.std.proofs.Common.{◌∷◌, ◌∙◌, ap, ap₂}
use Rattle.std.proofs.lemmas.Result.{on_ok_weaker}
use Rattle.gl_meaning.specs.Path.{slot}
use Rattle.gl_append.proofs.Yields.{entered_at}
use Rattle.gl_append.proofs.machine.Machine.enter.Goals as goal

pub returns : goal.returns
returns c =
    on_ok_weaker c.begin_block.result
    (entered_at c.args.name.now c.in_ok-name.name c.args.self.now c.begin_block.new.self c.args.pending c.args.written c.in_ok-path-2.path c.in_ok-name.ensures
    (λ n. c.in_ok-path-2.ensures ∙ ap₂ (λ x p. x ∷ p) (ap slot c.in_ok-copy.ensures) (c.in_ok-path.ensures n))) c.begin_block.ensures
