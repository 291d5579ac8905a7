use Rattle.std.proofs.Common.{Some, None, sym, ap, ◌∙◌, ◌&&◌, ◌==◌}
use Rattle.std.proofs.lemmas.Result.{IfOk-weaker}
use Rattle.std.specs.Str.{bytes_eq, chars}
use Rattle.gl_value.specs.Value.{text_of}
use Rattle.gl_value.specs.View.{view}
use Rattle.gl_mods.specs.Mods.{on_number, argument}
use Rattle.gl_mods.specs.View.{seen_installed}
use Rattle.gl_mods.proofs.Arguments.{argument-is}
use Rattle.gl_actions.proofs.hearing.listens.Goals as goal

pub returns-in-Some : goal.returns-in-Some
returns-in-Some c = IfOk-weaker c.is_event.result _ _
    (λ b e.
    e
    ∙ (ap (λ v. bytes_eq (text_of v) (chars c.args.heard.now.event.now)) (sym (argument-is 0 (seen_installed c.args.installed.now) (Some (view c.in-Some.first.now)) c.in-Some.ensures))
    ∙ ap (λ n. (n == on_number) && bytes_eq (text_of (argument 0 (seen_installed c.args.installed.now))) (chars c.args.heard.now.event.now)) (sym c.if-installed-ne-ON.false))) c.is_event.ensures

pub returns-in-None : goal.returns-in-None
returns-in-None c = IfOk-weaker c.is_event-in-None.result _ _
    (λ b e.
    e
    ∙ (ap (λ v. bytes_eq (text_of v) (chars c.args.heard.now.event.now)) (sym (argument-is 0 (seen_installed c.args.installed.now) None c.in-None.ensures))
    ∙ ap (λ n. (n == on_number) && bytes_eq (text_of (argument 0 (seen_installed c.args.installed.now))) (chars c.args.heard.now.event.now)) (sym c.if-installed-ne-ON.false))) c.is_event-in-None.ensures
