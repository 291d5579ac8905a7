use Rattle.std.proofs.Common.{◌∙◌, ap, sym}
use Rattle.std.proofs.lemmas.Result.{on_ok_weaker}
use Rattle.gl_plain.specs.Tags.{fixed_given}
use Rattle.gl_parts.specs.Parts.{seen_given}
use Rattle.gl_parts.proofs.AttrLaws.{text_bound, live_bound}
use Rattle.gl_parts.proofs.attributes.Taken.add.Goals as goal

pub returns-in_ok-push-in-Fixed-clause-step : goal.returns-in_ok-push-in-Fixed-clause-step
returns-in_ok-push-in-Fixed-clause-step c =
    on_ok_weaker c.push-in-Fixed.result
    (text_bound c.args.attribute.now.name c.in_ok-copy-in-Fixed.field-0 (seen_given c.args.attribute.now.given) c.args.self.now.ids c.args.self.now.made c.push.new.self c.push-in-Fixed.new.self c.in_ok-id-in-Fixed.id c.args.vm.now c.constant.new.self
    (ap seen_given c.in-Fixed.is ∙ ap fixed_given (sym c.in_ok-copy-in-Fixed.ensures)) c.in_ok-id-in-Fixed.ensures.step c.in_ok-id-in-Fixed.ensures.id c.in_ok-push-in-Fixed.ensures.ok) c.push-in-Fixed.ensures.ok

pub returns-in-Live-clause-step : goal.returns-in-Live-clause-step
returns-in-Live-clause-step c =
    on_ok_weaker c.push-in-Live.result
    (live_bound c.args.attribute.now.name (seen_given c.args.attribute.now.given) c.args.self.now.ids c.args.self.now.made c.push-in-Live.new.self c.in-Live.id c.args.vm.now (ap seen_given c.in-Live.is)) c.push-in-Live.ensures.ok
