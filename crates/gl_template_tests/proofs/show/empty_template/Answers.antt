use Rattle.gl_show.proofs.SpelledCanon.{empty_template}
use Rattle.gl_template_tests.proofs.show.empty_template.Goals as goal

pub new-template-requires : goal.new-template-requires
new-template-requires g c = rw c.new-body.ensures empty_template
