use Rattle.std.proofs.Common.{◌++◌, ap, ◌∙◌}
use Rattle.std.specs.Str.{chars}
use Rattle.gl_machine.specs.Code.{live_of}
use Rattle.gl_code.specs.CodeView.{seen_code}
use Rattle.gl_actions.specs.Heard.{spots_in, called_of}
use Rattle.gl_actions.proofs.hearing.heard_on.Goals as goal

pub returns : goal.returns
returns c = λ n. c.in_ok-hear_code.ensures n ∙ ap (λ a. a ++ called_of c.args.heard.now.vm.now.mods (chars c.args.heard.now.event.now) (spots_in c.args.heard.now.number (live_of (seen_code n c.args.code.now)))) c.new-acts.ensures
