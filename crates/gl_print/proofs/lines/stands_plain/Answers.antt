use Rattle.std.proofs.Common.{sym, ap, ◌∙◌}
use Rattle.std.specs.List.{list_all}
use Rattle.gl_print.specs.Lines.{is_plain}
use Rattle.gl_print.proofs.Plains.{escaped-text}
use Rattle.gl_print.proofs.lines.stands_plain.Goals as goal

pub returns : goal.returns
returns c = λ h. escaped-text c.args.text.now (ap (list_all is_plain) (sym c.as_str.ensures.bytes ∙ sym c.as_bytes.ensures.value) ∙ (sym c.all_plain.ensures ∙ h))
