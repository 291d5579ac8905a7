use Rattle.std.proofs.Common.{◌∷◌, ◌∙◌, ap}
use Rattle.gl_meaning.specs.Path.{otherwise}
use Rattle.gl_append.proofs.machine.Machine.other_path.Goals as goal

pub returns : goal.returns
returns c n = c.in_ok-path-2.ensures ∙ ap (λ q. otherwise ∷ q) (c.in_ok-path.ensures n)
