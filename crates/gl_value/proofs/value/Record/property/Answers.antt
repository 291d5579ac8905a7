use Rattle.std.proofs.Common.{◌∙◌, sym, ap}
use Rattle.std.specs.Str.{chars}
use Rattle.gl_value.specs.Found.{or_undefined}
use Rattle.gl_value.proofs.Properties.{member_at-named}
use Rattle.gl_value.proofs.value.Record.property.Goals as goal

pub returns-in-Some : goal.returns-in-Some
returns-in-Some c = ap or_undefined c.in-Some.ensures ∙ sym (member_at-named (chars c.args.name.now) c.args.self.now)

pub returns-in-None : goal.returns-in-None
returns-in-None c = ap or_undefined c.in-None.ensures ∙ sym (member_at-named (chars c.args.name.now) c.args.self.now)
