use Rattle.std.proofs.Common.{Some, None, sym, ap, ◌∙◌, ◌&&◌, ◌==◌}
use Rattle.gl_mods.specs.Mods.{on_number, argument}
use Rattle.std.specs.Str.{bytes_eq, chars}
use Rattle.gl_value.specs.Value.{text_of}
use Rattle.gl_value.specs.View.{view}
use Rattle.gl_mods.specs.View.{seen_installed}
use Rattle.gl_mods.proofs.Arguments.{argument-is, bytes_eq-sym}
use Rattle.gl_mods.proofs.installed.Installed.listens.Goals as goal

pub returns-in_ok-text_of-in-Some : goal.returns-in_ok-text_of-in-Some
returns-in_ok-text_of-in-Some c =
    c.is-in-Some.ensures
    ∙ (bytes_eq-sym (chars c.args.event.now) c.in_ok-text_of-in-Some.field-0
    ∙ (ap (λ t. bytes_eq t (chars c.args.event.now)) (c.in_ok-text_of-in-Some.ensures ∙ ap text_of (sym (argument-is 0 (seen_installed c.args.self.now) (Some (view c.in-Some.first.now)) c.in-Some.ensures)))
    ∙ ap (λ n. (n == on_number) && bytes_eq (text_of (argument 0 (seen_installed c.args.self.now))) (chars c.args.event.now)) (sym c.if-self-ne-ON.false)))

pub returns-in_ok-text_of-in-None : goal.returns-in_ok-text_of-in-None
returns-in_ok-text_of-in-None c =
    c.is-in-None-2.ensures
    ∙ (bytes_eq-sym (chars c.args.event.now) c.in_ok-text_of-in-None.field-0
    ∙ (ap (λ t. bytes_eq t (chars c.args.event.now)) (c.in_ok-text_of-in-None.ensures ∙ ap text_of (sym (argument-is 0 (seen_installed c.args.self.now) None c.in-None.ensures)))
    ∙ ap (λ n. (n == on_number) && bytes_eq (text_of (argument 0 (seen_installed c.args.self.now))) (chars c.args.event.now)) (sym c.if-self-ne-ON.false)))
