use Rattle.std.proofs.Common.{◌∙◌, ap}
use Rattle.gl_code.specs.View.{seen_level, seen_links, shared}
use Rattle.gl_code.proofs.sight.Sight.copy.Goals as goal

pub returns : goal.returns
returns c n = c.in_ok-copy.ensures n _ ∙ ap (λ ls. seen_level n c.args.self.now.level (seen_links n ls)) (c.in_ok-copied.ensures ∙ ap shared c.as_slice.ensures.value)
